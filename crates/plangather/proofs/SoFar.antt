-- The loop that gathers a plan: the plan so far and the rest of the walk over the file come to the whole answer.
use mathlib.Core.Path.{◌≡◌, refl, sym, ap, ◌∙◌}
use mathlib.Core.Bool.{Bool}
use mathlib.Core.List.{List, [], ◌∷◌}
use native.Mathlib.Omega.{arith}
use lib.Dec.{eqb}
use lib.ListN.{length, get_or, set, take, drop, replicate}
use lib.Seq.{get_or-set_other}
use Rattle.std.specs.Prelude.{Ok, Err}
use Prim.Native.Nat.{ℕ, zero, suc, ◌+◌, ◌-◌, ◌≤◌, ◌<◌}
use Rattle.laws.specs.Res.{Res, ok, refuse}
use Rattle.laws.proofs.Res.{refuse≢ok, ok_injective, refuse-place}
use Rattle.rules.specs.Records.{Rec, body_length, record_of, plan_follows, before, records}
use Rattle.rules.specs.Plan as rules
use Rattle.records.specs.Reader.{next_at}
use Rattle.records.specs.declared.Sort.TheVariants.{Plan}
use Rattle.records.specs.declared.Step.{Step}
use Rattle.records.specs.declared.Step.TheVariants.{Record, End, Wrong}
use Rattle.records.proofs.Bodies.{record_cut}
use Rattle.records.proofs.Steps.{from, onward, one-step, found}
use Rattle.units.specs.declared.Offset.{Offset}
use Rattle.plan.specs.declared.Plan as memory
use Rattle.plan.specs.Memory.{empty_plan, lay_out, no_plan, count_seen}
use Rattle.plangather.specs.Gather.{one_more, with_bus, with_nodes, with_module, with_mode, with_task, with_invocation, with_connection, with_record, with_records, number_of, gathered_of}
use Rattle.plangather.proofs.Gathering.{gathered-whole, file_planned}
use Rattle.plangather.proofs.Stored.{picked, number-least}

-- ---- a count grows by one at most

one_at_most : (counts : List ℕ) (j k : ℕ) → get_or (set counts j (get_or counts j 0 + 1)) k 0 ≤ get_or counts k 0 + 1
one_at_most [] j k = omega arith
one_at_most (x ∷ l) zero zero = omega arith
one_at_most (x ∷ l) zero (suc k) = omega arith
one_at_most (x ∷ l) (suc j) zero = omega arith
one_at_most (x ∷ l) (suc j) (suc k) = one_at_most l j k

module _ (p : memory.Plan) (r : Rec) (k : ℕ) (h : 3 ≤ k) where
  abbrev Grown : memory.Plan → Type 0
  Grown q = count_seen q k ≤ count_seen p k + 1

  counted-more : Grown (with_record p r)
  unfolding with_record with_bus with_nodes with_module with_mode with_task with_invocation with_connection one_more count_seen
  counted-more =
      let one : (j : ℕ) → get_or (set p.counts j (get_or p.counts j 0 + 1)) k 0 ≤ get_or p.counts k 0 + 1
      = λ j. one_at_most p.counts j k in
      let same : get_or p.counts k 0 ≤ get_or p.counts k 0 + 1 = omega arith in
      let nodes : (n : ℕ) → get_or (set p.counts 2 n) k 0 ≤ get_or p.counts k 0 + 1
      = λ n. rw (get_or-set_other p.counts 2 k n 0 (λ e. omega arith)) same in
      picked Grown (rules.is_bus_record r) same
      (picked Grown (eqb r.kind 2) (nodes _)
      (picked Grown (eqb r.kind 3) (one 3)
      (picked Grown (eqb r.kind 4) (one 4)
      (picked Grown (eqb r.kind 5) (one 5)
      (picked Grown (eqb r.kind 6) (one 6)
      (picked Grown (eqb r.kind 7) (one 7) same))))))

zeros : (n k : ℕ) → ◌≡◌ {A = ℕ} (get_or (replicate n 0) k 0) 0
zeros zero k = refl
zeros (suc n) zero = refl
zeros (suc n) (suc k) = zeros n k

-- ---- the loop

-- a plan, and the records that are still to come
abbrev pub gather_on : memory.Plan → Res (List Rec) → Res memory.Plan
gather_on p (ok rs) = ok (with_records p rs)
gather_on p (refuse n place) = refuse n place

pub record SoFar (s : List ℕ) (p : memory.Plan) (previous at : ℕ) : Type 0 where
  pub inside : at ≤ length s
  pub whole : gather_on empty_plan (records plan_follows 1 s) ≡ gather_on p (from Plan 1 s previous at)
  pub counted : (k : ℕ) → 3 ≤ k → count_seen p k ≤ at

gather_before : (order : ℕ → ℕ → Bool) (n : ℕ) (p : memory.Plan) (r : Rec) (w : Res (List Rec))
    → gather_on p (before order n r w) ≡ gather_on (with_record p r) w
gather_before order n p r (ok rs) = refl
gather_before order n p r (refuse m place) = refl

module _ (s : List ℕ) where
  pub so_far_none : SoFar s empty_plan 0 0
  unfolding records from empty_plan lay_out no_plan count_seen
  so_far_none = record { inside = omega arith; whole = refl; counted = λ k h. omega (arith, zeros 8 k) }

  finished : (p : memory.Plan) (m : Res (List Rec)) → records plan_follows 1 s ≡ m → gather_on empty_plan m ≡ ok p
      → Ok p ≡ gathered_of m
  finished p (ok rs) e g = rw (← ok_injective g, gathered-whole (file_planned s rs e))
  finished p (refuse n place) e g = refuse≢ok g

  broken : (place : ℕ) (m : Res (List Rec)) → gather_on empty_plan m ≡ refuse 1 place
      → Err (record { 0 = place }) ≡ gathered_of m
  broken place (ok rs) g = refuse≢ok (sym g)
  broken place (refuse n q) g = rw (refuse-place g)

-- the step that the reader takes from here is given as a value, with what it is
module _ {s : List ℕ} {p : memory.Plan} {previous at : ℕ} (h : SoFar s p previous at) {step : Step}
    (next-is : step ≡ next_at Plan s previous at) where
  onwards : {told : Step} → step ≡ told → gather_on empty_plan (records plan_follows 1 s) ≡ gather_on p (onward Plan 1 s told)
  onwards q = h.whole ∙ ap (gather_on p) (one-step Plan 1 s previous at h.inside ∙ ap (onward Plan 1 s) (sym next-is ∙ q))

  pub so_far_more : {kind body next : ℕ} {q : memory.Plan} {lent : List ℕ} → step ≡ Record kind body next
      → lent ≡ take (next - body) (drop body s) → q ≡ with_record p (record_of kind lent) → SoFar s q kind next
  so_far_more {kind} {body} {next} {q} {lent} e l w =
      let f = found Plan s previous at kind body next (sym next-is ∙ e) in
      let n : next - body ≡ body_length kind = omega (arith, f.body_place, f.next_place) in
      let r : q ≡ with_record p (record_of kind (drop body s)) = rw (l, n, record_cut kind (drop body s)) at w in
      record {
        inside = f.fits;
        whole =
            onwards e
            ∙ gather_before plan_follows 1 p (record_of kind (drop body s)) (from Plan 1 s kind next)
            ∙ rw r;
        counted = λ k t. rw r (omega (arith, counted-more p (record_of kind (drop body s)) k t, h.counted k t, f.further));
      }

  -- a record is counted at a place inside of the file, and what stands behind it is less
  pub so_far_number : {kind body next : ℕ} → step ≡ Record kind body next → number_of p.counts kind < length s
  so_far_number {kind} {body} {next} e =
      let f = found Plan s previous at kind body next (sym next-is ∙ e) in
      omega (arith, f.further, f.fits, number-least p kind at h.counted)

  pub so_far_less : {kind body next : ℕ} → step ≡ Record kind body next → length s - next < length s - at
  so_far_less {kind} {body} {next} e =
      let f = found Plan s previous at kind body next (sym next-is ∙ e) in
      omega (arith, f.further, f.fits)

  pub so_far_end : step ≡ End → Ok p ≡ gathered_of (records plan_follows 1 s)
  so_far_end e = finished s p (records plan_follows 1 s) refl (onwards e)

  pub so_far_wrong : {place : Offset} → step ≡ Wrong place → Err place ≡ gathered_of (records plan_follows 1 s)
  so_far_wrong {place} e = broken s place.0 (records plan_follows 1 s) (onwards e)
