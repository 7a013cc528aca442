use mathlib.Core.Path.{ap}
use Rattle.laws.proofs.Turns.{filled_none, filled_turn}
use Rattle.plan.specs.Memory.{mode_laid}
use Rattle.plan.specs.declared.Mode.{Mode}
use Rattle.keeping.specs.Keeping.{modes_of, home_of, period_of, switch_of}
use Rattle.keeping.proofs.Filling.{filled-all}
use Rattle.keeping.proofs.modes.Goals as goal

pub loop-m-init : goal.loop-m-init
loop-m-init c = (filled_none, filled_none, filled_none)

pub loop-m-preserved : goal.loop-m-preserved
unfolding mode_laid home_of period_of switch_of
loop-m-preserved c =
    let l = c.loop-m in
    let e = c.mode_at-mode.ensures in (
      filled_turn l.invariant.0 (ap (λ (x : Mode). x.home.0) e),
      filled_turn l.invariant.1 (ap (λ (x : Mode). x.period.0) e),
      filled_turn l.invariant.2 (ap (λ (x : Mode). x.switch.0) e),
    )

pub returns : goal.returns
unfolding modes_of
returns c =
    let l = c.loop-m in
    rw (
      c.mode_count.ensures.0,
      filled-all 32 0 l.invariant.0 l.auto.m-end c.loop-m-test.false,
      filled-all 32 0 l.invariant.1 l.auto.m-end c.loop-m-test.false,
      filled-all 32 0 l.invariant.2 l.auto.m-end c.loop-m-test.false,
    )
