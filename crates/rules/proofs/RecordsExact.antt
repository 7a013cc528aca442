-- RecordsExact: a file reads as records exactly where it is these records, the end record and nothing more; else the place given is the
-- offset at which it first breaks the record rules. So 1 and 20 are exact.
use mathlib.Core.Path.{◌≡◌, refl, sym, ap, ◌∙◌, subst}
use mathlib.Core.Bool.{Bool, true, false, ◌&&◌}
use mathlib.Core.List.{List, [], ◌∷◌, ◌++◌}
use mathlib.Core.Logic.{◌⊎◌, inl, inr, ◌↔◌}
use native.Mathlib.Nat.{not-suc-le-zero, le_of_suc-le-suc, add-zero}
use native.Mathlib.Omega.{arith}
use borrow.Author.Tests.{eqb-true, eqb-false, ne_eqb}
use lib.Dec.{eqb}
use lib.ListN.{length, take, drop, take-append-drop, length-drop}
use lib.Seq.{length-take-le, take-append-le, drop-append-le}
use Prim.Native.Nat.{ℕ, zero, suc, ◌+◌, ◌≤◌, ◌<◌}
use Rattle.laws.specs.Res.{Res, ok, refuse}
use Rattle.laws.proofs.Lists.{tested, both_left, both_right}
use Rattle.laws.proofs.Res.{refuse≢ok, ok_injective, refuse-number, refuse-place}
use Rattle.laws.proofs.Orders.{le-or-lt}
use Rattle.laws.proofs.Tests.{Tests}
use Rattle.laws.proofs.Faults.{by_failed, by_fails}
use Rattle.rules.specs.Records.{Field, width, widths, known, fields, body_length, Rec, decoded, record_of, before, ended, walk, records}
use Rattle.rules.specs.Obeys.{
  MayStand,
  AreRecords,
  the_end,
  one_more,
  BreakRecords,
  no_record,
  wrong_kind,
  behind_end,
  cut_body,
  good_record,
}

-- a body's numbers are read from the body alone
pub decoded-front : (fs : List Field) (body rest : List ℕ) → widths fs ≤ length body → decoded fs (body ++ rest) ≡ decoded fs body
decoded-front [] body rest h = refl
decoded-front (f ∷ fs) body rest h =
    let w : width f ≤ length body = omega arith in
    let left : widths fs ≤ length (drop (width f) body) = omega (arith, length-drop (width f) body) in
    rw (take-append-le (width f) body rest w, drop-append-le (width f) body rest w, decoded-front fs (drop (width f) body) rest left)

record_front : (kind : ℕ) (body rest : List ℕ) → length body ≡ body_length kind → record_of kind (body ++ rest) ≡ record_of kind body
unfolding record_of body_length
record_front kind body rest h = rw (decoded-front (fields kind) body rest (omega arith))

module _ (follows : ℕ → ℕ → Bool) (refusal : ℕ) where
  abbrev reading : ℕ → ℕ → ℕ → List ℕ → Res (List Rec)
  reading = walk follows refusal

  stand_means : (previous kind : ℕ) → Tests (known kind && follows previous kind) (MayStand follows previous kind)
  stand_means previous kind =
      record {
        says = λ e. record { is_known = both_left (known kind) (follows previous kind) e; is_next = both_right (known kind) (follows previous kind) e };
        passes = λ h. rw (h.is_known, h.is_next);
      }

  -- ---- one record of the definition

  walk_body : (kind at : ℕ) (body rest : List ℕ) → reading kind (length body) at (body ++ rest) ≡ reading kind 0 (at + length body) rest
  unfolding walk
  walk_body kind at [] rest = rw (add-zero at)
  walk_body kind at (b ∷ body) rest =
      let e : suc at + length body ≡ at + suc (length body) = omega arith in
      walk_body kind (suc at) body rest ∙ rw e

  walk_cut : (kind n at : ℕ) (body : List ℕ) → length body < n → reading kind n at body ≡ refuse refusal (at + length body)
  unfolding walk
  walk_cut kind zero at body h = absurd (not-suc-le-zero h)
  walk_cut kind (suc n) at [] h = rw (add-zero at)
  walk_cut kind (suc n) at (b ∷ body) h =
      let e : suc at + length body ≡ at + suc (length body) = omega arith in
      walk_cut kind n (suc at) body (le_of_suc-le-suc h) ∙ rw e

  walk_step : (previous kind at : ℕ) (bs : List ℕ) → (known kind && follows previous kind) ≡ true → eqb kind 0 ≡ false
      → reading previous 0 at (kind ∷ bs) ≡ before follows refusal (record_of kind bs) (reading kind (body_length kind) (suc at) bs)
  unfolding walk
  walk_step previous kind at bs h z = rw (h, z, walk)

  walk-wrong : (previous kind at : ℕ) (bs : List ℕ) → (known kind && follows previous kind) ≡ false
      → reading previous 0 at (kind ∷ bs) ≡ refuse refusal at
  unfolding walk
  walk-wrong previous kind at bs e = rw (e, walk)

  walk_end : (previous at : ℕ) (bs : List ℕ) → (known 0 && follows previous 0) ≡ true
      → reading previous 0 at (0 ∷ bs) ≡ ended follows refusal (suc at) bs
  unfolding walk
  walk_end previous at bs e = rw (e, walk)

  pub walk-good : (previous kind at : ℕ) (body rest : List ℕ) → MayStand follows previous kind → (kind ≡ 0 → ⊥) → length body ≡ body_length kind
      → reading previous 0 at (kind ∷ body ++ rest) ≡ before follows refusal (record_of kind body) (reading kind 0 (suc at + length body) rest)
  walk-good previous kind at body rest s z b =
      walk_step previous kind at (body ++ rest) ((stand_means previous kind).passes s) (ne_eqb kind 0 z)
      ∙ rw (record_front kind body rest b, ← b, walk_body kind (suc at) body rest)

  walk-short : (previous kind at : ℕ) (body : List ℕ) → MayStand follows previous kind → (kind ≡ 0 → ⊥) → length body < body_length kind
      → reading previous 0 at (kind ∷ body) ≡ refuse refusal (suc at + length body)
  walk-short previous kind at body s z b =
      walk_step previous kind at body ((stand_means previous kind).passes s) (ne_eqb kind 0 z)
      ∙ rw (walk_cut kind (body_length kind) (suc at) body b)

  -- ---- from what the bytes are to what is read

  are-read : {previous : ℕ} {file : List ℕ} {rs : List Rec} → AreRecords follows previous file rs → (at : ℕ)
      → reading previous 0 at file ≡ ok rs
  are-read (the_end {previous} s e) at = rw e (walk_end previous at [] ((stand_means previous 0).passes s))
  are-read (one_more {previous} {kind} {rest = rest} body s z b e r) at =
      rw e (walk-good previous kind at body rest s z b ∙ rw (are-read r (suc at + length body)))

  break_read : {previous at p : ℕ} {file : List ℕ} → BreakRecords follows previous at file p → reading previous 0 at file ≡ refuse refusal p
  unfolding walk
  break_read (no_record e q) = rw e (ap (refuse refusal) q)
  break_read (wrong_kind {previous} {at} {kind = kind} {rest = rest} e w q) =
      rw e (walk-wrong previous kind at rest (by_fails (stand_means previous kind) w) ∙ ap (refuse refusal) q)
  break_read (behind_end {previous} {at} {b = b} {rest = rest} e s q) =
      rw e (walk_end previous at (b ∷ rest) ((stand_means previous 0).passes s) ∙ ap (refuse refusal) q)
  break_read (cut_body {previous} {at} {kind = kind} {body = body} e s z b q) =
      rw e (walk-short previous kind at body s z b ∙ ap (refuse refusal) q)
  break_read (good_record {previous} {at} {kind = kind} {rest = rest} body e s z b r) =
      rw e (walk-good previous kind at body rest s z b ∙ rw (break_read r))

  -- ---- the bytes are one or the other

  abbrev Sorted : ℕ → ℕ → List ℕ → Type 0
  Sorted previous at file = ((rs : List Rec) × AreRecords follows previous file rs) ⊎ ((p : ℕ) × BreakRecords follows previous at file p)

  sort_end : (previous at : ℕ) (bs : List ℕ) → MayStand follows previous 0 → Sorted previous at (0 ∷ bs)
  sort_end previous at [] s = inl ([], the_end s refl)
  sort_end previous at (b ∷ bs) s = inr (suc at, behind_end refl s refl)

  sort_rest : (previous kind at : ℕ) (body rest : List ℕ) → MayStand follows previous kind → (kind ≡ 0 → ⊥) → length body ≡ body_length kind
      → Sorted kind (suc at + length body) rest → Sorted previous at (kind ∷ body ++ rest)
  sort_rest previous kind at body rest s z b (inl r) = inl (record_of kind body ∷ r.0, one_more body s z b refl r.1)
  sort_rest previous kind at body rest s z b (inr r) = inr (r.0, good_record body refl s z b r.1)

  sort_body : (previous kind at : ℕ) (bs : List ℕ) → MayStand follows previous kind → (kind ≡ 0 → ⊥)
      → ((rest : List ℕ) → length rest ≤ length bs → (at : ℕ) → Sorted kind at rest)
      → (body_length kind ≤ length bs) ⊎ (length bs < body_length kind) → Sorted previous at (kind ∷ bs)
  sort_body previous kind at bs s z onward (inl w) =
      let body = take (body_length kind) bs in
      let rest = drop (body_length kind) bs in
      let fewer : length rest ≤ length bs = omega (arith, length-drop (body_length kind) bs) in
      subst (λ (l : List ℕ). Sorted previous at (kind ∷ l)) (take-append-drop (body_length kind) bs)
      (sort_rest previous kind at body rest s z (length-take-le (body_length kind) bs w) (onward rest fewer (suc at + length body)))
  sort_body previous kind at bs s z onward (inr w) = inr (suc at + length bs, cut_body refl s z w refl)

  sort_kind : (previous kind at : ℕ) (bs : List ℕ) → MayStand follows previous kind
      → ((rest : List ℕ) → length rest ≤ length bs → (at : ℕ) → Sorted kind at rest)
      → (eqb kind 0 ≡ true) ⊎ (eqb kind 0 ≡ false) → Sorted previous at (kind ∷ bs)
  sort_kind previous kind at bs s onward (inl e) =
      let z : kind ≡ 0 = eqb-true kind 0 e in
      subst (λ (k : ℕ). Sorted previous at (k ∷ bs)) (sym z) (sort_end previous at bs (subst (MayStand follows previous) z s))
  sort_kind previous kind at bs s onward (inr e) =
      sort_body previous kind at bs s (eqb-false kind 0 e) onward (le-or-lt (body_length kind) (length bs))

  sort_first : (previous kind at : ℕ) (bs : List ℕ)
      → ((rest : List ℕ) → length rest ≤ length bs → (at : ℕ) → Sorted kind at rest)
      → ((known kind && follows previous kind) ≡ true) ⊎ ((known kind && follows previous kind) ≡ false) → Sorted previous at (kind ∷ bs)
  sort_first previous kind at bs onward (inl e) =
      sort_kind previous kind at bs ((stand_means previous kind).says e) onward (tested (eqb kind 0))
  sort_first previous kind at bs onward (inr e) = inr (at, wrong_kind refl (by_failed (stand_means previous kind) e) refl)

  sort_file : (n previous at : ℕ) (file : List ℕ) → length file ≤ n → Sorted previous at file
  sort_file zero previous at [] h = inr (at, no_record refl refl)
  sort_file (suc n) previous at [] h = inr (at, no_record refl refl)
  sort_file zero previous at (kind ∷ bs) h = absurd (not-suc-le-zero h)
  sort_file (suc n) previous at (kind ∷ bs) h =
      sort_first previous kind at bs
      (λ rest w next. sort_file n kind next rest (omega arith))
      (tested (known kind && follows previous kind))

  -- ---- so what is read says what the bytes are

  read_are : (file : List ℕ) (rs : List Rec) → Sorted 0 0 file → reading 0 0 0 file ≡ ok rs → AreRecords follows 0 file rs
  read_are file rs (inl r) e = subst (AreRecords follows 0 file) (ok_injective (sym (are-read r.1 0) ∙ e)) r.1
  read_are file rs (inr r) e = refuse≢ok (sym (break_read r.1) ∙ e)

  read_breaks : (file : List ℕ) (n p : ℕ) → Sorted 0 0 file → reading 0 0 0 file ≡ refuse n p
      → (n ≡ refusal) × BreakRecords follows 0 0 file p
  read_breaks file n p (inl r) e = refuse≢ok (sym e ∙ are-read r.1 0)
  read_breaks file n p (inr r) e =
      let same = sym (break_read r.1) ∙ e in
      (sym (refuse-number same), subst (BreakRecords follows 0 0 file) (refuse-place same) r.1)

  -- a file reads as these records exactly where it is these records
  pub records_exact : (file : List ℕ) (rs : List Rec) → (records follows refusal file ≡ ok rs) ↔ AreRecords follows 0 file rs
  unfolding records
  records_exact file rs = (read_are file rs (sort_file (length file) 0 0 file (omega arith)), λ r. are-read r 0)

  -- it is refused exactly at the offset where it first breaks the record rules
  pub records-refused : (file : List ℕ) (n p : ℕ)
      → (records follows refusal file ≡ refuse n p) ↔ ((n ≡ refusal) × BreakRecords follows 0 0 file p)
  unfolding records
  records-refused file n p = (
    read_breaks file n p (sort_file (length file) 0 0 file (omega arith)),
    λ h. break_read h.1 ∙ ap (λ (m : ℕ). refuse m p) (sym h.0),
  )
