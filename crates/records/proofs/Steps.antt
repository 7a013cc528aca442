-- The definition's walk over a file, from an offset on, is the reader's answer there followed by the walk from the next offset.
use mathlib.Core.Path.{◌≡◌, refl, sym, ap, ◌∙◌}
use mathlib.Core.Bool.{Bool, true, false, ◌&&◌}
use mathlib.Core.List.{List, [], ◌∷◌}
use Prim.Native.Nat.{ℕ, zero, suc, ◌+◌, ◌-◌, ◌≤◌, ◌<◌}
use native.Mathlib.Nat.{add-zero, add-suc, suc-add}
use native.Mathlib.Numerals.{add-one}
use native.Mathlib.Omega.{arith}
use lib.Dec.{eqb, leb, ltb}
use lib.ListN.{length, get_or, drop, length-drop, drop_of_length-le}
use lib.Seq.{drop-cons, drop-drop}
use borrow.Author.Tests.{ltb-true, ltb-false, leb-true, leb-false, eqb-true, eqb-false}
use Rattle.laws.proofs.Lists.{both_left, both_right}
use Rattle.laws.specs.Res.{Res, ok, refuse}
use Rattle.rules.specs.Records.{Rec, known, body_length, record_of, ended, before, walk}
use Rattle.records.specs.Reader.{follows, either, wrong_at, end_at, record_at, kind_at, next_at}
use Rattle.records.specs.declared.Sort.{Sort}
use Rattle.records.specs.declared.Step.{Step}
use Rattle.records.specs.declared.Step.TheVariants.{Record, End, Wrong}

module _ (order : ℕ → ℕ → Bool) (refusal previous : ℕ) where
  -- over a body that is whole, to what stands behind it
  over : (n at : ℕ) (bs : List ℕ) → n ≤ length bs → walk order refusal previous n at bs ≡ walk order refusal previous 0 (at + n) (drop n bs)
  unfolding walk
  over zero at bs h = rw (add-zero at)
  over (suc n) at [] h = absurd (omega arith)
  over (suc n) at (b ∷ bs) h = over n (suc at) bs (omega arith) ∙ rw (suc-add at n, ← add-suc at n)

  -- into a body that is cut, to the end of the file
  cut : (n at : ℕ) (bs : List ℕ) → length bs < n → walk order refusal previous n at bs ≡ refuse refusal (at + length bs)
  unfolding walk
  cut zero at bs h = absurd (omega arith)
  cut (suc n) at [] h = rw (add-zero at)
  cut (suc n) at (b ∷ bs) h = cut n (suc at) bs (omega arith) ∙ rw (suc-add at (length bs), ← add-suc at (length bs))

  module _ (at kind : ℕ) (bs : List ℕ) where
    wrong : (known kind && order previous kind) ≡ false → walk order refusal previous 0 at (kind ∷ bs) ≡ refuse refusal at
    unfolding walk
    wrong e = rw (e, walk)

    last : (known kind && order previous kind) ≡ true → eqb kind 0 ≡ true
        → walk order refusal previous 0 at (kind ∷ bs) ≡ ended order refusal (suc at) bs
    unfolding walk
    last e z = rw (e, z, walk)

    more : (known kind && order previous kind) ≡ true → eqb kind 0 ≡ false
        → walk order refusal previous 0 at (kind ∷ bs)
        ≡ before order refusal (record_of kind bs) (walk order refusal kind (body_length kind) (suc at) bs)
    unfolding walk
    more e z = rw (e, z, walk)

module _ (sort : Sort) (refusal : ℕ) (s : List ℕ) where
  -- the records of the file from an offset on, where one begins, behind one of the kind `previous`
  unfoldable pub from : ℕ → ℕ → Res (List Rec)
  from previous at = walk (follows sort) refusal previous 0 at (drop at s)

  -- what a step and the walk behind it come to
  abbrev pub onward : Step → Res (List Rec)
  onward (Record kind body next) = before (follows sort) refusal (record_of kind (drop body s)) (from kind next)
  onward End = ok []
  onward (Wrong place) = refuse refusal place.0

  module _ (at : ℕ) (inside : at < length s) where
    ended_if : (b : Bool) → eqb (at + 1) (length s) ≡ b
        → ended (follows sort) refusal (suc at) (drop (suc at) s) ≡ onward (either b End (wrong_at (at + 1)))
    ended_if true e =
        let h : length s ≤ suc at = omega (arith, eqb-true (at + 1) (length s) e) in
        rw (drop_of_length-le s h)
    ended_if false e =
        let h : suc at < length s = omega (arith, eqb-false (at + 1) (length s) e) in
        rw (drop-cons s (suc at) 0 h, add-one at)

    record_if : (kind : ℕ) (b : Bool) → leb (body_length kind) (length s - (at + 1)) ≡ b
        → before (follows sort) refusal (record_of kind (drop (suc at) s))
        (walk (follows sort) refusal kind (body_length kind) (suc at) (drop (suc at) s))
        ≡ onward (either b (Record kind (at + 1) (at + 1 + body_length kind)) (wrong_at (length s)))
    unfolding from
    record_if kind true e =
        let h : body_length kind ≤ length (drop (suc at) s)
        = rw (length-drop (suc at) s) (omega (arith, leb-true (body_length kind) (length s - (at + 1)) e)) in
        rw (over (follows sort) refusal kind (body_length kind) (suc at) (drop (suc at) s) h, drop-drop (body_length kind) (suc at) s, add-one at)
    record_if kind false e =
        let h : length (drop (suc at) s) < body_length kind
        = rw (length-drop (suc at) s) (omega (arith, leb-false (body_length kind) (length s - (at + 1)) e)) in
        let n : suc at + length (drop (suc at) s) ≡ length s = rw (length-drop (suc at) s) (omega arith) in
        rw (cut (follows sort) refusal kind (body_length kind) (suc at) (drop (suc at) s) h, n)

    module _ (previous kind : ℕ) where
      body_if : (b : Bool) → (known kind && follows sort previous kind) ≡ true → eqb kind 0 ≡ b
          → walk (follows sort) refusal previous 0 at (kind ∷ drop (suc at) s)
          ≡ onward (either b (end_at s (at + 1)) (record_at s kind (at + 1)))
      body_if true e z =
          last (follows sort) refusal previous at kind (drop (suc at) s) e z ∙ ended_if (eqb (at + 1) (length s)) refl
      body_if false e z =
          more (follows sort) refusal previous at kind (drop (suc at) s) e z
          ∙ record_if kind (leb (body_length kind) (length s - (at + 1))) refl

      kind_if : (b : Bool) → (known kind && follows sort previous kind) ≡ b
          → walk (follows sort) refusal previous 0 at (kind ∷ drop (suc at) s)
          ≡ onward (either b (either (eqb kind 0) (end_at s (at + 1)) (record_at s kind (at + 1))) (wrong_at at))
      kind_if true e = body_if (eqb kind 0) e refl
      kind_if false e = wrong (follows sort) refusal previous at kind (drop (suc at) s) e

  step_if : (previous at : ℕ) (b : Bool) → ltb at (length s) ≡ b → at ≤ length s
      → from previous at ≡ onward (either b (kind_at sort s previous at (get_or s at 0)) (wrong_at (length s)))
  unfolding from walk
  step_if previous at true e h =
      let inside : at < length s = ltb-true at (length s) e in
      ap (walk (follows sort) refusal previous 0 at) (drop-cons s at 0 inside)
      ∙ kind_if at inside previous (get_or s at 0) (known (get_or s at 0) && follows sort previous (get_or s at 0)) refl
  step_if previous at false e h =
      let end : length s ≤ at = ltb-false at (length s) e in
      let same : at ≡ length s = omega arith in
      ap (walk (follows sort) refusal previous 0 at) (drop_of_length-le s end) ∙ ap (refuse refusal) same

  -- The walk from an offset is the reader's answer there, followed by the walk from the next offset.
  pub one-step : (previous at : ℕ) → at ≤ length s → from previous at ≡ onward (next_at sort s previous at)
  unfolding next_at
  one-step previous at h = step_if previous at (ltb at (length s)) refl h

-- what is known of a record that the reader gives
pub record Found (sort : Sort) (s : List ℕ) (previous at kind body next : ℕ) : Type 0 where
  pub kind_there : kind ≡ get_or s at 0
  pub body_place : body ≡ at + 1
  pub next_place : next ≡ at + 1 + body_length kind
  pub fits : next ≤ length s
  pub further : at < next
  pub is_known : known kind ≡ true
  pub in_order : follows sort previous kind ≡ true
  pub no_end : eqb kind 0 ≡ false

module _ (sort : Sort) (s : List ℕ) (previous at kind body next : ℕ) where
  -- the tests of the reader, one after the other: only if all pass does it give a record
  found_if : (inside allowed : Bool) (is_end last whole : Bool)
      → ltb at (length s) ≡ inside → (known (get_or s at 0) && follows sort previous (get_or s at 0)) ≡ allowed
      → eqb (get_or s at 0) 0 ≡ is_end → leb (body_length (get_or s at 0)) (length s - (at + 1)) ≡ whole
      → either inside
      (either allowed
      (either is_end (either last End (wrong_at (at + 1)))
      (either whole (Record (get_or s at 0) (at + 1) (at + 1 + body_length (get_or s at 0))) (wrong_at (length s))))
      (wrong_at at))
      (wrong_at (length s))
      ≡ Record kind body next
      → Found sort s previous at kind body next
  found_if true true false last true h a z w e =
      let k : kind ≡ get_or s at 0 = cc in
      let b : body ≡ at + 1 = cc in
      let n : next ≡ at + 1 + body_length (get_or s at 0) = cc in
      record {
        kind_there = k;
        body_place = b;
        next_place = rw k n;
        fits = omega (arith, ltb-true at (length s) h, leb-true (body_length (get_or s at 0)) (length s - (at + 1)) w);
        further = omega arith;
        is_known = rw k (both_left (known (get_or s at 0)) (follows sort previous (get_or s at 0)) a);
        in_order = rw k (both_right (known (get_or s at 0)) (follows sort previous (get_or s at 0)) a);
        no_end = rw k z;
      }
  found_if true true false last false h a z w e = let n : ◌≡◌ {A = ℕ} 0 1 = cc in absurd (omega arith)
  found_if true true true true whole h a z w e = let n : ◌≡◌ {A = ℕ} 0 1 = cc in absurd (omega arith)
  found_if true true true false whole h a z w e = let n : ◌≡◌ {A = ℕ} 0 1 = cc in absurd (omega arith)
  found_if true false is_end last whole h a z w e = let n : ◌≡◌ {A = ℕ} 0 1 = cc in absurd (omega arith)
  found_if false allowed is_end last whole h a z w e = let n : ◌≡◌ {A = ℕ} 0 1 = cc in absurd (omega arith)

  pub found : next_at sort s previous at ≡ Record kind body next → Found sort s previous at kind body next
  unfolding next_at
  found e =
      found_if (ltb at (length s)) (known (get_or s at 0) && follows sort previous (get_or s at 0)) (eqb (get_or s at 0) 0)
      (eqb (at + 1) (length s)) (leb (body_length (get_or s at 0)) (length s - (at + 1)))
      refl refl refl refl e

-- the body of a record that the reader gives lies in the file
pub body_within : (sort : Sort) (s : List ℕ) (previous at : ℕ) {kind body next : ℕ} {step : Step}
    → step ≡ next_at sort s previous at → step ≡ Record kind body next → (body ≤ next) × (next ≤ length s)
body_within sort s previous at {kind} {body} {next} is r =
    let f = found sort s previous at kind body next (sym is ∙ r) in
    (omega (arith, f.body_place, f.next_place), f.fits)
