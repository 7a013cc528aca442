-- Invariant: the first k starts are laid out (`spread`); a turn lays one (`spread_more`), or none (`spread-past`).
use Rattle.std.proofs.Common.{◌≡◌}
use Rattle.naming.specs.Places.{spread}
use Rattle.naming.proofs.starts_by_frame.Given as goal

abbrev pub invariant-loop-k : goal.invariant-loop-k
invariant-loop-k l = l.out ≡ spread l.numbers l.starts l.k
