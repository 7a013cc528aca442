-- Invariant: the lines of the first k data rows are put (`Putting`), at most 246 bytes each; a turn is `putting_turn`.
use Rattle.text.proofs.Putting.{Putting}
use Rattle.plan.specs.Memory.{seen}
use Rattle.sheetwriter.specs.Memory.{data_text_in}
use Rattle.std.proofs.Common.{◌+◌, ◌*◌, ◌≤◌}
use Rattle.sheetwriter.proofs.put_datas.Given as goal

abbrev pub invariant-loop-k : goal.invariant-loop-k
invariant-loop-k l =
    record { few : l.next ≤ l.at + 246 * l.k; put : Putting l.initial.buf l.at (data_text_in (seen l.p) l.first l.tasks l.deadlines l.starts l.stops l.releases l.frames) l.k l.buf l.next }
