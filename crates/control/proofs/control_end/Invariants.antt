-- Invariant: `next` and `stop` are those behind the first n nodes, each at most n * 2 ^ 48; a node that sends moves both.
use mathlib.Core.Path.{◌≡◌}
use Prim.Native.Nat.{◌*◌, ◌^◌, ◌≤◌}
use Rattle.plan.specs.Memory.{seen}
use Rattle.control.proofs.Turns.{next_at, stop_at}
use Rattle.control.proofs.control_end.Given as goal

abbrev pub invariant-loop-n : goal.invariant-loop-n
invariant-loop-n l =
    (l.n ≤ l.nodes) × (l.nodes ≤ 8) × (l.next ≡ next_at (seen l.p) l.n) × (l.stop ≡ stop_at (seen l.p) l.n) × (l.next ≤ l.n * 2 ^ 54) ×
    (l.stop ≤ l.n * 2 ^ 54)
