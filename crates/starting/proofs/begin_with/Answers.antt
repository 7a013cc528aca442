-- Two cases of `wrong_start`: a place, below 16 (`first_bad-up_to-within`), is refused; none is what `started` promises.
use mathlib.Core.Path.{sym, ap, ◌∙◌}
use native.Mathlib.Omega.{arith}
use Prim.Native.Nat.{◌<◌}
use Rattle.laws.proofs.Loops.{first_bad-up_to-within}
use Rattle.places.specs.Spot.{spot_in}
use Rattle.starting.specs.Starting.{start_test, wrong_start, started_by, begun_at, begun_by}
use Rattle.starting.proofs.begin_with.Goals as goal

pub overflow_cast-m : goal.overflow_cast-m
overflow_cast-m c =
    let a = c.args in
    let kept = a.kept.fixed in
    let w : _ < 16 = first_bad-up_to-within (start_test a.starting kept.modules.count kept.modes.count kept.modes.homes) 16 _
    (sym c.wrong_start.ensures ∙ ap spot_in c.in-Some.is) in
    omega arith

pub returns-in-Some : goal.returns-in-Some
unfolding begun_by wrong_start
returns-in-Some c =
    let a = c.args in
    c.refused.ensures ∙ ap (begun_at a.kept a.starting) (sym (ap spot_in c.in-Some.is) ∙ c.wrong_start.ensures)

pub returns-in-None : goal.returns-in-None
unfolding begun_by wrong_start started_by
returns-in-None c =
    let a = c.args in
    rw c.started-kept.ensures (ap (begun_at a.kept a.starting) (sym (ap spot_in c.in-None.is) ∙ c.wrong_start.ensures))
