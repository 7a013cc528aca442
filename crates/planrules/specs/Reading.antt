-- What the reading of a file answers: the plan, or the refusal.
use Rattle.std.specs.Prelude.{◌≡◌, Result, Ok, Err}
use Rattle.laws.specs.Res.{Res, ok, refuse}
use Rattle.rules.specs.Plan as rules
use Rattle.answers.specs.declared.Refusal.{Refusal}
use Rattle.answers.specs.Refusals.{said}
use Rattle.plan.specs.declared.Plan.{Plan}
use Rattle.plan.specs.Memory.{lay_out, empty_plan}

abbrev pub verdict : Res rules.Plan → Res (Unit {0})
verdict (ok p) = ok tt
verdict (refuse n place) = refuse n place

-- the plan that is left: the one that was read, or the one with nothing in it
abbrev pub plan_left : Res rules.Plan → Plan
plan_left (ok p) = lay_out p
plan_left (refuse n place) = empty_plan

-- an answer in the rules' words, and the plan with it: the one with nothing in it where the file is refused
abbrev pub heard_reading : Result Plan Refusal → Res (Unit {0})
heard_reading (Ok p) = ok tt
heard_reading (Err x) = said x

abbrev pub plan_beside : Result Plan Refusal → Plan
plan_beside (Ok p) = p
plan_beside (Err x) = empty_plan

-- The reading of a file says what the rules say of it: the same number and place, or the plan.
pub record Reads (r : Result Plan Refusal) (rule : Res rules.Plan) : Type 0 where
  pub answered : heard_reading r ≡ verdict rule
  pub left : plan_beside r ≡ plan_left rule
