-- A place that the scan finds is below 16 (`first_bad-up_to-within`).
use mathlib.Core.Path.{sym, ap, ◌∙◌}
use native.Mathlib.Omega.{arith}
use Prim.Native.Nat.{◌<◌}
use Rattle.laws.proofs.Loops.{first_bad-up_to-within}
use Rattle.places.specs.Spot.{spot_in}
use Rattle.stationjudge.specs.Judging.{allowed_test}
use Rattle.stationjudge.proofs.judged_changes.Goals as goal

pub overflow_cast-result : goal.overflow_cast-result
overflow_cast-result c =
    let a = c.args in
    let w : _ < 16 = first_bad-up_to-within (allowed_test a.modes.now a.changed.now a.module_count a.mode_count a.homes.now a.switches.now
    a.running.now a.ages.now) 16 _ (sym c.not_allowed.ensures ∙ ap spot_in c.in-Some.is) in
    omega arith
