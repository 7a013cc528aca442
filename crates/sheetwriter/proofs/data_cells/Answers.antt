-- The callees' promises, put into one law (`data_cells_are`).
use Rattle.sheetwriter.proofs.Cells.{data_cells_are}
use Rattle.sheetwriter.proofs.data_cells.Goals as goal

pub returns : goal.returns
returns c =
    let a = c.args in
    rw (c.from.ensures, c.from-2.ensures, c.from-3.ensures, c.from-4.ensures, c.from-5.ensures, c.from-6.ensures)
    (data_cells_are a.p a.task.0 a.release.0 a.deadline.0 a.start.0 a.stop.0 c.place.ensures c.task_at-sender.ensures c.place-2.ensures
    c.module_at-home.ensures c.on_bus-sent.ensures.0 c.difference.ensures c.difference-2.ensures)
