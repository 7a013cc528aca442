-- A place that a scan finds is below 32 (`first_bad-up_to-within`).
use mathlib.Core.Path.{sym, ap, ◌∙◌}
use native.Mathlib.Omega.{arith}
use Prim.Native.Nat.{◌<◌}
use Rattle.laws.proofs.Loops.{first_bad-up_to-within}
use Rattle.places.specs.Spot.{spot_in}
use Rattle.stationjudge.specs.Judging.{awaited_test, fits_test, in_time_test}
use Rattle.stationjudge.proofs.judged_results.Goals as goal

pub overflow_cast-result : goal.overflow_cast-result
overflow_cast-result c =
    let a = c.args in
    let w : _ < 32 = first_bad-up_to-within (awaited_test a.given.now a.tasks a.runs.now a.modes.now a.ages.now
    a.homes.now a.had.now a.worsts.now) 32 _
    (sym c.not_awaited.ensures ∙ ap spot_in c.in-Some.is) in
    omega arith

pub overflow_cast-result-in-Some-too_large : goal.overflow_cast-result-in-Some-too_large
overflow_cast-result-in-Some-too_large c =
    let a = c.args in
    let w : _ < 32 = first_bad-up_to-within (fits_test a.results.now a.given.now a.sizes.now) 32 _
    (sym c.too_large.ensures ∙ ap spot_in c.in-Some-too_large.is) in
    omega arith

pub overflow_cast-result-in-Some-overdue : goal.overflow_cast-result-in-Some-overdue
overflow_cast-result-in-Some-overdue c =
    let a = c.args in
    let w : _ < 32 = first_bad-up_to-within (in_time_test a.given.now a.tasks a.runs.now a.modes.now a.ages.now
    a.homes.now a.had.now a.worsts.now) 32 _
    (sym c.overdue.ensures ∙ ap spot_in c.in-Some-overdue.is) in
    omega arith
