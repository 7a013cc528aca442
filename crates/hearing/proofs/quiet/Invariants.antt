-- Invariant: the ticks left lead to the same last station (`Going`); behind a refusal they change nothing (`going_refused`).
use mathlib.Core.Path.{◌≡◌}
use lib.ListN.{length}
use Rattle.hearing.proofs.Ticking.{Going}
use Rattle.hearing.proofs.quiet.Given as goal

abbrev pub invariant-loop-k : goal.invariant-loop-k
invariant-loop-k l = Going l.initial.station l.ticks l.station l.k × (16384 ≡ length l.out)
