-- The callees' promises, put into one law (`control_cells_are`).
use Rattle.std.proofs.Common.{arith}
use Rattle.sheetwriter.proofs.Cells.{control_cells_are}
use Rattle.sheetwriter.proofs.control_cells.Goals as goal

pub returns : goal.returns
returns c =
    let a = c.args in
    rw (c.from-3.ensures, c.from-4.ensures, c.from-5.ensures)
    (control_cells_are a.p a.node.0 a.start.0 a.stop.0 c.requires c.from.ensures (omega arith) c.from-2.ensures c.on_bus-sent.ensures.0)
