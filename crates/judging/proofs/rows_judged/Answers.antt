-- Six exits: each scan's finding decides the definition's next rule; a row found is among the first 1,024, so no place wraps.
use native.Mathlib.Omega.{arith}
use Rattle.rules.specs.Limits.{most_frames}
use Rattle.judging.proofs.Verdicts.{among-at}
use Rattle.judging.proofs.rows_judged.Goals as goal

pub overflow_add-result : goal.overflow_add-result
overflow_add-result c =
    omega (arith, c.requires.first_bound, among-at most_frames _ c.requires.among.0 c.in-Some.is)

pub returns-in-Some : goal.returns-in-Some
returns-in-Some c = rw c.in-Some.is

pub overflow_add-result-in-Some-mistimed : goal.overflow_add-result-in-Some-mistimed
overflow_add-result-in-Some-mistimed c =
    omega (arith, c.requires.first_bound, among-at most_frames _ c.requires.among.1.0 c.in-Some-mistimed.is)

pub returns-in-Some-mistimed : goal.returns-in-Some-mistimed
returns-in-Some-mistimed c =
    rw (c.in_default.is, c.in-Some-mistimed.is)

pub overflow_add-result-in-Some-early : goal.overflow_add-result-in-Some-early
overflow_add-result-in-Some-early c =
    omega (arith, c.requires.first_bound, among-at most_frames _ c.requires.among.1.1.0 c.in-Some-early.is)

pub returns-in-Some-early : goal.returns-in-Some-early
returns-in-Some-early c =
    rw (c.in_default.is, c.in_default-mistimed.is, c.in-Some-early.is)

pub overflow_add-result-in-Some-late : goal.overflow_add-result-in-Some-late
overflow_add-result-in-Some-late c =
    omega (arith, c.requires.first_bound, among-at most_frames _ c.requires.among.1.1.1.0 c.in-Some-late.is)

pub returns-in-Some-late : goal.returns-in-Some-late
returns-in-Some-late c =
    rw (c.in_default.is, c.in_default-mistimed.is, c.in_default-early.is, c.in-Some-late.is)

pub overflow_add-result-in-Some-crowded : goal.overflow_add-result-in-Some-crowded
overflow_add-result-in-Some-crowded c =
    omega (arith, c.requires.first_bound, among-at most_frames _ c.requires.among.1.1.1.1 c.in-Some-crowded.is)

pub returns-in-Some-crowded : goal.returns-in-Some-crowded
returns-in-Some-crowded c =
    rw (c.in_default.is, c.in_default-mistimed.is, c.in_default-early.is, c.in_default-late.is, c.in-Some-crowded.is)

pub returns : goal.returns
returns c =
    rw (c.in_default.is, c.in_default-mistimed.is, c.in_default-early.is, c.in_default-late.is, c.in_default-crowded.is)
