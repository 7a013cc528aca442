use mathlib.Core.Path.{◌≡◌, refl, sym, ◌∙◌}
use native.Mathlib.Omega.{arith}
use Prim.Native.Nat.{ℕ, ◌+◌, ◌<◌}
use lib.ListN.{length, get_or, take}
use Rattle.std.proofs.lemmas.List.{length-take-le, get_or-take}
use Rattle.laws.specs.Lists.{tab}
use Rattle.laws.specs.Numbers.{lcm}
use Rattle.rules.specs.Traffic.{period_of_runs}
use Rattle.bus.specs.Runs.{run_at, runs_seen}
use Rattle.bus.specs.declared.runs.Runs.{Runs}
use Rattle.bus.proofs.Multiples.{period_more, period-below}
use Rattle.bus.proofs.period.bus_period.Goals as goal

-- one run more, of those that are lent
made : (r : Runs) (i v period : ℕ) → i < r.count → v ≡ lcm (get_or (take r.count r.periods) i 0) period → period ≡ period_of_runs (tab (run_at r) 0 i) → v ≡ period_of_runs (tab (run_at r) 0 (i + 1))
unfolding run_at
made r i v period w e h = e ∙ rw (h, get_or-take r.count r.periods i 0 w) (sym (period_more (run_at r) i))

pub loop-each-init : goal.loop-each-init
unfolding period_of_runs
loop-each-init c = refl

pub overflow_cast-period : goal.overflow_cast-period
unfolding runs_seen
overflow_cast-period c =
    let r = c.args.runs in
    let long : length (take r.count r.periods) ≡ r.count = length-take-le r.count r.periods (omega arith) in
    omega (
      arith,
      made r c.loop-each.each-index _ _ (omega arith) c.lcm-period.ensures c.loop-each.invariant,
      period-below (run_at r) c.args.grid.0 r.count (c.loop-each.each-index + 1) (omega arith) c.requires.grid_nonzero c.requires.grid_value,
    )

pub loop-each-preserved : goal.loop-each-preserved
loop-each-preserved c =
    let r = c.args.runs in
    let long : length (take r.count r.periods) ≡ r.count = length-take-le r.count r.periods (omega arith) in
    made r c.loop-each.each-index _ _ (omega arith) c.lcm-period.ensures c.loop-each.invariant

pub returns : goal.returns
unfolding runs_seen
returns c =
    let r = c.args.runs in
    let long : length (take r.count r.periods) ≡ r.count = length-take-le r.count r.periods (omega arith) in
    let e : c.loop-each.each-index ≡ r.count = omega arith in
    let h = rw e at c.loop-each.invariant in
    (h, rw h (period-below (run_at r) c.args.grid.0 r.count r.count (omega arith) c.requires.grid_nonzero c.requires.grid_value))
