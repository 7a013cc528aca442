-- Invariant: the three arrays are filled below m (`Filled`), each turn by `mode_at`; at the end each is whole (`filled-all`).
use lib.ListN.{replicate}
use Rattle.laws.proofs.Turns.{Filled}
use Rattle.plan.specs.Memory.{seen}
use Rattle.keeping.specs.Keeping.{home_of, period_of, switch_of}
use Rattle.keeping.proofs.modes.Given as goal

abbrev pub invariant-loop-m : goal.invariant-loop-m
invariant-loop-m l =
    Filled (replicate 32 0) (home_of (seen l.p)) l.m l.homes
    × Filled (replicate 32 0) (period_of (seen l.p)) l.m l.periods
    × Filled (replicate 32 0) (switch_of (seen l.p)) l.m l.switches
