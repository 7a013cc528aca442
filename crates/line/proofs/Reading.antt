-- A plan that was read is laid out as the rules lay it out.
use mathlib.Core.Path.{◌≡◌, refl, ap, ◌∙◌}
use mathlib.Core.List.{List}
use lib.ListN.{replicate}
use Prim.Native.Nat.{ℕ}
use Rattle.laws.specs.Res.{Res, ok, refuse}
use Rattle.laws.proofs.Res.{refuse≢ok}
use Rattle.rules.specs.Limits.{most_frames}
use Rattle.rules.specs.Plan.{Plan, read_plan}
use Rattle.rules.proofs.PlanKept.{PlanKept}
use Rattle.plan.specs.declared.Plan as plans
use Rattle.plan.specs.Memory.{seen, lay_out}
use Rattle.plan.proofs.Laid.{seen-laid, read-seen, Placed}
use Rattle.answers.specs.declared.Refusal.{Refusal}
use Rattle.answers.specs.Refusals.{said, number_of, place_of}
use Rattle.planrules.specs.Reading.{Reads, verdict}
use Rattle.std.specs.Prelude.{Result, Ok, Err}
use Rattle.line.specs.declared.Line.{Line}
use Rattle.line.specs.Laying.{Lays, laid, file_laid}
use Rattle.line.proofs.Ways.{verdict-refused, lays_as}
use Rattle.rules.specs.Traffic.{read_in, plan_in}
use Rattle.rules.proofs.Editions.{readable_kept_in}
use Rattle.rules.proofs.ReadersGo.{InEdition, edition-kept}
use mathlib.Core.Bool.{Bool}

-- a plan that keeps its counts has a place for each thing
kept-placed : (p : Plan) → PlanKept p → Placed p
kept-placed p k =
    record {
      modules = k.module_count.most;
      modes = k.mode_count.most;
      tasks = k.task_count.most;
      invocations = k.invocation_count.most;
      connections = k.connection_count.most;
    }

-- a plan read in an edition is seen again as it was laid out
pub read_in_seen : (consumers : Bool) (file : List ℕ) (p : Plan) → read_in consumers file ≡ ok p → seen (lay_out p) ≡ p
read_in_seen consumers file p e = seen-laid p (kept-placed p (readable_kept_in consumers file p e))

verdict-ok : {C : Type 0} (rule : Res Plan) → verdict rule ≡ ok tt → ((p : Plan) → rule ≡ ok p → C) → C
verdict-ok (ok p) e go = go p refl
verdict-ok (refuse n k) e go = refuse≢ok e

-- ---- a plan that was read, in its edition

module _ (file : List ℕ) (r : Result plans.Plan Refusal) (h : Reads r (read_plan file)) where
  pub read_ready : {plan : plans.Plan} → r ≡ Ok plan → plan ≡ lay_out (seen plan)
  read_ready {plan} e =
      verdict-ok (read_plan file) (rw (← h.answered, e)) λ p q.
      let held : plan ≡ lay_out p = rw (e, q) at h.left in
      rw (held, read-seen file p q)

module _ (consumers : Bool) (file : List ℕ) (r : Result plans.Plan Refusal) (h : Reads r (read_plan file)) where
  pub sound-read : {plan : plans.Plan} → r ≡ Ok plan → {given : plans.Plan} → given ≡ lay_out (plan_in consumers (seen plan))
      → (x : Result plans.Plan Refusal) → x ≡ Ok given → Reads x (read_in consumers file)
  unfolding read_in
  sound-read {plan} e {given} is x f =
      verdict-ok (read_plan file) (rw (← h.answered, e)) λ p q.
      let held : plan ≡ lay_out p = rw (e, q) at h.left in
      let same : seen plan ≡ p = rw held (read-seen file p q) in
      rw (q, f) (record { answered = refl; left = is ∙ ap (λ (x : Plan). lay_out (plan_in consumers x)) same })

  pub refused-read : (why : Refusal) → r ≡ Err why → (x : Result plans.Plan Refusal) → x ≡ Err why → Reads x (read_in consumers file)
  unfolding read_in
  refused-read why e x f =
      let n : read_plan file ≡ said why = verdict-refused (number_of why) (place_of why) (read_plan file) (rw (← h.answered, e)) in
      rw (n, f) (record { answered = refl; left = refl })

module _ (consumers : Bool) (file : List ℕ) (r : Result plans.Plan Refusal) (h : Reads r (read_in consumers file)) where
  -- the plan that is left is the one that was read
  plan-read : {C : Type 0} {plan : plans.Plan} → r ≡ Ok plan
      → ((p : Plan) → read_in consumers file ≡ ok p → plan ≡ lay_out p → seen plan ≡ p → C) → C
  plan-read {plan = plan} e go =
      verdict-ok (read_in consumers file) (rw (← h.answered, e)) λ p q.
      let held : plan ≡ lay_out p = rw (e, q) at h.left in
      go p q held (rw held (read_in_seen consumers file p q))

  pub sound-kept : {plan : plans.Plan} → r ≡ Ok plan → PlanKept (seen plan) × InEdition (seen plan)
  sound-kept e = plan-read e λ p q held same. rw same (readable_kept_in consumers file p q, edition-kept consumers file p q)

  pub sound-laid : (x : Result Line Refusal) {tasks releases deadlines : List ℕ} {plan : plans.Plan} → r ≡ Ok plan
      → Lays x tasks releases deadlines (laid (seen plan)) → Lays x tasks releases deadlines (file_laid consumers file)
  unfolding file_laid
  sound-laid x e l = plan-read e λ p q held same. rw q (rw same at l)

  -- the arrays of frames are left as they were lent
  pub refused-laid : (x : Result Line Refusal) (why : Refusal) {tasks releases deadlines : List ℕ} → r ≡ Err why → x ≡ Err why
      → (tasks ≡ replicate most_frames 0) × (releases ≡ replicate most_frames 0) × (deadlines ≡ replicate most_frames 0) → Lays x tasks releases deadlines (file_laid consumers file)
  unfolding file_laid
  refused-laid x why e q z =
      lays_as why x q z (file_laid consumers file)
      (let n : read_in consumers file ≡ said why = verdict-refused (number_of why) (place_of why) (read_in consumers file) (rw (← h.answered, e)) in rw n)
