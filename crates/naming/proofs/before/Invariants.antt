-- Invariant: the two ends bracket the place (`Bracket`); the middle key settles one side (`bracket_up`, `bracket_down`).
use Prim.Native.Nat.{◌-◌}
use Rattle.naming.proofs.Names.{Bracket}
use Rattle.naming.proofs.before.Given as goal

abbrev pub invariant-loop-low : goal.invariant-loop-low
invariant-loop-low l = Bracket l.tasks l.deadlines l.frames l.wanted l.low l.high

abbrev pub decreases-loop-low : goal.decreases-loop-low
decreases-loop-low l = l.high - l.low
