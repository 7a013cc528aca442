-- The answers, each with its status: the text, the line of refusal 1, the line for a long plan; that more room is needed never comes.
use mathlib.Core.Path.{◌≡◌, refl, sym, ap, ◌∙◌}
use mathlib.Core.Bool.{Bool, true, false}
use mathlib.Core.List.{List}
use native.Mathlib.Omega.{arith}
use lib.Dec.{leb}
use lib.ListN.{length}
use lib.Seq.{sets}
use borrow.Author.Tests.{le-leb, leb-true}
use Prim.Native.Nat.{ℕ, ◌≤◌}
use Rattle.laws.specs.Res.{Res, ok, refuse}
use Rattle.laws.proofs.Res.{refuse≢ok, refuse-number}
use Rattle.laws.proofs.Little.{Bytes}
use Rattle.rules.specs.Records.{Rec, plan_follows, records}
use Rattle.rules.proofs.RecordsExact.{records-refused}
use Rattle.io.specs.Counts.{IsPrefixLen}
use Rattle.text.specs.Text.{is_short, refused_line, too_long_line}
use Rattle.text.proofs.Fronts.{Front, front-counts}
use Rattle.planwords.specs.PlanText.{plan_text, printed}
use Rattle.planwords.proofs.Longest.{text_short}
use Rattle.std.specs.Prelude.{Result, Ok, Err}
use Rattle.units.specs.declared.Offset.{Offset}
use Rattle.planwriter.specs.declared.Unprinted.{Unprinted}
use Rattle.planwriter.specs.declared.Unprinted.TheVariants.{Needs, Refused, TooLong}
use Rattle.planwriter.specs.Printing.{left_by, offset, printing_for}
use Rattle.plantext.specs.Answer.{answer_for, longest_text, status_for}

-- only 1 refuses a plan's text
refused-one : (file : List ℕ) (n p : ℕ) → plan_text file ≡ refuse n p → n ≡ 1
unfolding plan_text
refused-one file n p e = go (records plan_follows 1 file) refl e
  where
    go : (m : Res (List Rec)) → records plan_follows 1 file ≡ m → printed m ≡ refuse n p → n ≡ 1
    go (ok rs) q w = refuse≢ok (sym w)
    go (refuse k at) q w = sym (refuse-number w) ∙ ((records-refused plan_follows 1 file k at).0 q).0

-- what `respond` says of its result
abbrev Responds : List ℕ → List ℕ → List ℕ → ℕ → ℕ → Type 0
Responds plan old out n s = Front (answer_for plan) old out n × ((s ≡ status_for plan) × IsPrefixLen n out)

-- what `done` and `refused` say of the response: its length and its status
abbrev Says : ℕ → ℕ → ℕ → ℕ → Type 0
Says l t n s = (l ≡ n) × (t ≡ s)

module _ (plan old : List ℕ) (room : longest_text ≤ length old) (bytes : Bytes plan) (back : Result ℕ Unprinted) (mid : List ℕ) (is : back ≡ printing_for plan old)
    (left : mid ≡ left_by plan old) where
  -- By what the plan comes to: a text, which has room; refusal 1; or too long, as it is.
  by-plan : (C : Type 0)
      → ((text : List ℕ) → back ≡ Ok (length text) → mid ≡ sets old 0 text → length text ≤ length old → answer_for plan ≡ text → status_for plan ≡ 0 → C)
      → ((p : ℕ) → back ≡ Err (Refused (offset p)) → mid ≡ old → answer_for plan ≡ refused_line 1 p → status_for plan ≡ 1 → C)
      → (back ≡ Err TooLong → mid ≡ old → answer_for plan ≡ too_long_line → status_for plan ≡ 1 → C) → C
  unfolding printing_for left_by answer_for status_for is_short
  by-plan C whole broken long = go (leb (length plan) 65536) refl
    where
      short : leb (length plan) 65536 ≡ true → (m : Res (List ℕ)) → plan_text plan ≡ m → C
      short s (ok text) e =
          let few : length plan ≤ 65536 = leb-true (length plan) 65536 s in
          let fits : length text ≤ length old = omega (arith, text_short plan text bytes few e) in
          let yes : leb (length text) (length old) ≡ true = le-leb (length text) (length old) fits in
          whole text (is ∙ rw (s, e, yes)) (left ∙ rw (s, e, yes)) fits (rw (s, e)) (rw (s, e))
      short s (refuse n p) e =
          let one : n ≡ 1 = refused-one plan n p e in
          broken p (is ∙ rw (s, e)) (left ∙ rw (s, e)) (rw (s, e, one)) (rw (s, e))

      go : (b : Bool) → leb (length plan) 65536 ≡ b → C
      go true s = short s (plan_text plan) refl
      go false s = long (is ∙ rw s) (left ∙ rw s) (rw s) (rw s)

  pub text_response : {n l t : ℕ} → back ≡ Ok n → Says l t n 0 → Responds plan old mid l t
  text_response {n} {l} {t} q says =
      rw (says.0, says.1)
      (by-plan (Responds plan old mid n 0)
      (λ text b put fits answer status.
      let same : ◌≡◌ {A = Result ℕ Unprinted} (Ok n) (Ok (length text)) = sym q ∙ b in
      let long : n ≡ length text = cc in
      let a : Front text old mid n = (put, long) in
      (rw answer a, (sym status, front-counts text old mid n a fits)))
      (λ p b put answer status. let same : ◌≡◌ {A = Result ℕ Unprinted} (Ok n) (Err (Refused (offset p))) = sym q ∙ b in let z : ◌≡◌ {A = ℕ} 0 1 = cc in absurd (omega arith))
      (λ b put answer status. let same : ◌≡◌ {A = Result ℕ Unprinted} (Ok n) (Err TooLong) = sym q ∙ b in let z : ◌≡◌ {A = ℕ} 0 1 = cc in absurd (omega arith)))

  pub line_response : {place : Offset} {n l t : ℕ} {out : List ℕ} → back ≡ Err (Refused place) → Front (refused_line 1 place.0) mid out n
      → length (refused_line 1 place.0) ≤ 53 → Says l t n 1 → Responds plan old out l t
  line_response {place} {n} {l} {t} {out} q a few says =
      rw (says.0, says.1)
      (by-plan (Responds plan old out n 1)
      (λ text b put fits answer status.
      let same : ◌≡◌ {A = Result ℕ Unprinted} (Err (Refused place)) (Ok (length text)) = sym q ∙ b in let z : ◌≡◌ {A = ℕ} 0 1 = cc in absurd (omega arith))
      (λ p b put answer status.
      let same : ◌≡◌ {A = Result ℕ Unprinted} (Err (Refused place)) (Err (Refused (offset p))) = sym q ∙ b in
      let place-is : place ≡ offset p = cc in
      let words : refused_line 1 place.0 ≡ refused_line 1 p = ap (λ (o : Offset). refused_line 1 o.0) place-is in
      let line-put : Front (refused_line 1 p) old out n = rw (put, words) at a in
      let short : length (refused_line 1 p) ≤ 53 = rw words at few in
      (rw answer line-put, (sym status, front-counts (refused_line 1 p) old out n line-put (omega arith))))
      (λ b put answer status.
      let same : ◌≡◌ {A = Result ℕ Unprinted} (Err (Refused place)) (Err TooLong) = sym q ∙ b in let z : ◌≡◌ {A = ℕ} 0 1 = cc in absurd (omega arith)))

  pub long_response : {n l t : ℕ} {out : List ℕ} → back ≡ Err TooLong → Front too_long_line mid out n → Says l t n 1 → Responds plan old out l t
  unfolding too_long_line
  long_response {n} {l} {t} {out} q a says =
      rw (says.0, says.1)
      (by-plan (Responds plan old out n 1)
      (λ text b put fits answer status.
      let same : ◌≡◌ {A = Result ℕ Unprinted} (Err TooLong) (Ok (length text)) = sym q ∙ b in let z : ◌≡◌ {A = ℕ} 0 1 = cc in absurd (omega arith))
      (λ p b put answer status. let same : ◌≡◌ {A = Result ℕ Unprinted} (Err TooLong) (Err (Refused (offset p))) = sym q ∙ b in let z : ◌≡◌ {A = ℕ} 0 1 = cc in absurd (omega arith))
      (λ b put answer status.
      let line-put : Front too_long_line old out n = rw put at a in
      (rw answer line-put, (sym status, front-counts too_long_line old out n line-put (omega arith)))))

  pub never_needs : {C : Type 0} {bytes : ℕ} → back ≡ Err (Needs bytes) → C
  never_needs {C} {bytes} q =
      by-plan C
      (λ text b put fits answer status. let same : ◌≡◌ {A = Result ℕ Unprinted} (Err (Needs bytes)) (Ok (length text)) = sym q ∙ b in let z : ◌≡◌ {A = ℕ} 0 1 = cc in absurd (omega arith))
      (λ p b put answer status. let same : ◌≡◌ {A = Result ℕ Unprinted} (Err (Needs bytes)) (Err (Refused (offset p))) = sym q ∙ b in let z : ◌≡◌ {A = ℕ} 0 1 = cc in absurd (omega arith))
      (λ b put answer status. let same : ◌≡◌ {A = Result ℕ Unprinted} (Err (Needs bytes)) (Err TooLong) = sym q ∙ b in let z : ◌≡◌ {A = ℕ} 0 1 = cc in absurd (omega arith))
