use mathlib.Core.Path.{refl}
use native.Mathlib.Omega.{arith}
use Rattle.laws.proofs.Turns.{filled_none, filled_turn, filled-end}
use Rattle.history.proofs.modes_of.Goals as goal

pub loop-m-init : goal.loop-m-init
loop-m-init c = filled_none

pub loop-m-preserved : goal.loop-m-preserved
loop-m-preserved c = filled_turn c.loop-m.invariant refl

pub returns : goal.returns
returns c = filled-end c.loop-m.invariant c.loop-m.auto.m-end (omega arith)
