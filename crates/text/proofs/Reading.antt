-- A run of digits read from the front, with the value so far and the run that is left.
use mathlib.Core.Bool.{Bool, true, false, cond}
use mathlib.Core.List.{List, [], ◌∷◌, ◌++◌}
use mathlib.Core.Path.{◌≡◌, refl, sym, ap, ◌∙◌}
use native.Mathlib.Nat.{add-zero}
use native.Mathlib.Omega.{arith}
use lib.ListN.{length, get_or, drop}
use lib.Seq.{drop-append_seam}
use Rattle.std.proofs.lemmas.List.{drop_more}
use borrow.Author.Tests.{lt-ltb, le-ltb, eq-eqb, ne_eqb}
use lib.Dec.{eqb, ltb}
use Rattle.text.proofs.Runs.{drop_all}
use Prim.Native.Nat.{ℕ, ◌+◌, ◌-◌, ◌*◌, ◌^◌, ◌≤◌, ◌<◌}
use Rattle.std.specs.Prelude.{Option, Some, None}
use Rattle.text.specs.declared.Digits.{Digits}
use Rattle.text.specs.Text.{decimal, is_digit, digit_run, run_on, value_from, within64, front_number, number_at, read_decimal}
use Rattle.text.proofs.Decimals.{decimal-long, value-decimal, run-decimal}

-- digits behind a number make it no less
value_grows : (v : ℕ) (l : List ℕ) → v ≤ value_from v l
value_grows v [] = omega arith
value_grows v (b ∷ l) = let h : 10 * v + (b - 48) ≤ value_from (10 * v + (b - 48)) l = value_grows (10 * v + (b - 48)) l in omega arith

abbrev found : ℕ → ℕ → Option Digits
found value next = Some (record { value = value; next = next })

-- ---- digits one by one, as far as 64 bits hold the value: behind so many of them, the value so far and the run left give the whole number

module _ (s : List ℕ) (i : ℕ) where
  run-here : i < length s → digit_run (drop i s) ≡ run_on (is_digit (get_or s i 0)) (get_or s i 0) (digit_run (drop (i + 1) s))
  run-here h = ap digit_run (drop_more s i 0 h)

  pub run_more : i < length s → is_digit (get_or s i 0) ≡ true → digit_run (drop i s) ≡ get_or s i 0 ∷ digit_run (drop (i + 1) s)
  run_more h e = run-here h ∙ rw e

  pub run_ends : i < length s → is_digit (get_or s i 0) ≡ false → digit_run (drop i s) ≡ []
  run_ends h e = run-here h ∙ rw e

  pub run_over : length s ≤ i → digit_run (drop i s) ≡ []
  run_over h = ap digit_run (drop_all i s h)

  module _ (v : ℕ) (whole : value_from v (digit_run (drop i s)) ≡ value_from 0 (digit_run s)) where
    pub value-more : i < length s → is_digit (get_or s i 0) ≡ true
        → value_from (10 * v + (get_or s i 0 - 48)) (digit_run (drop (i + 1) s)) ≡ value_from 0 (digit_run s)
    value-more h e = sym (ap (value_from v) (run_more h e)) ∙ whole

    pub value-large : i < length s → is_digit (get_or s i 0) ≡ true → 2 ^ 64 ≤ 10 * v + (get_or s i 0 - 48) → None ≡ front_number (digit_run s)
    value-large h e large =
        let over : 2 ^ 64 ≤ value_from 0 (digit_run s) = rw (← value-more h e)
        (omega (arith, value_grows (10 * v + (get_or s i 0 - 48)) (digit_run (drop (i + 1) s)), large)) in
        rw (le-ltb (value_from 0 (digit_run s)) (2 ^ 64) over)

    pub value-read : (n : ℕ) → digit_run (drop i s) ≡ [] → n + length (digit_run (drop i s)) ≡ length (digit_run s) → v < 2 ^ 64
        → found v n ≡ front_number (digit_run s)
    value-read n z e fits =
        let all : v ≡ value_from 0 (digit_run s) = sym (ap (value_from v) z) ∙ whole in
        let long : n ≡ length (digit_run s) = sym (add-zero n) ∙ sym (ap (λ (l : List ℕ). n + length l) z) ∙ e in
        rw (← all, lt-ltb v (2 ^ 64) fits, ← long)

-- ---- what stands at the front, at a place

abbrev pub at_place : ℕ → Option Digits → Option Digits
at_place at None = None
at_place at (Some digits) = cond (eqb digits.next 0) None (found digits.value (at + digits.next))

module _ (at : ℕ) (digits : Digits) where
  pub none_at : digits.next ≡ 0 → None ≡ at_place at (Some digits)
  none_at e = rw (eq-eqb digits.next 0 e)

  pub some_at : (digits.next ≡ 0 → ⊥) → found digits.value (at + digits.next) ≡ at_place at (Some digits)
  some_at f = rw (ne_eqb digits.next 0 f)

placed : (run : List ℕ) (at : ℕ) → at_place at (front_number run) ≡ number_at run at
placed [] at = refl
placed (b ∷ l) at = go (ltb (value_from 0 (b ∷ l)) (2 ^ 64))
  where
    go : (t : Bool) → at_place at (within64 t (value_from 0 (b ∷ l)) (length (b ∷ l))) ≡ within64 t (value_from 0 (b ∷ l)) (at + length (b ∷ l))
    go true = rw (ne_eqb (length (b ∷ l)) 0 (λ e. omega (arith, e)))
    go false = refl

abbrev next_or : ℕ → Option Digits → ℕ
next_or n None = n
next_or n (Some digits) = digits.next

counted : (run : List ℕ) {digits : Digits} → Some digits ≡ front_number run → digits.next ≡ length run
counted run e = ap (next_or (length run)) e ∙ go (ltb (value_from 0 run) (2 ^ 64))
  where
    go : (t : Bool) → next_or (length run) (within64 t (value_from 0 run) (length run)) ≡ length run
    go true = refl
    go false = refl

run-short : (s : List ℕ) → length (digit_run s) ≤ length s
run-short [] = omega arith
run-short (b ∷ s) = go (is_digit b) (run-short s)
  where
    go : (t : Bool) → length (digit_run s) ≤ length s → length (run_on t b (digit_run s)) ≤ length (b ∷ s)
    go true h = omega (arith, h)
    go false h = omega (arith, h)

-- as many digits as were read stand in the part
pub within_part : (part : List ℕ) {digits : Digits} → Some digits ≡ front_number (digit_run part) → digits.next ≤ length part
within_part part e = rw (counted (digit_run part) e) (run-short part)

pub reads : (s : List ℕ) (at : ℕ) {part : List ℕ} {read : Option Digits} → part ≡ drop at s → read ≡ front_number (digit_run part)
    → at_place at read ≡ read_decimal s at
unfolding read_decimal
reads s at e q = ap (at_place at) (q ∙ ap (λ (l : List ℕ). front_number (digit_run l)) e) ∙ placed (digit_run (drop at s)) at

-- ---- the ways out, with the run R that stands at `at`

module _ (R : List ℕ) (at : ℕ) where
  pub no_digit : at ≡ at + length R → None ≡ number_at R at
  no_digit = go R
    where
      go : (l : List ℕ) → at ≡ at + length l → None ≡ number_at l at
      go [] e = refl
      go (b ∷ l) e = absurd (omega arith)

  pub too_large : (v : ℕ) (l : List ℕ) → 2 ^ 64 ≤ v → value_from v l ≡ value_from 0 R → None ≡ number_at R at
  too_large v l h e = go R e
    where
      go : (r : List ℕ) → value_from v l ≡ value_from 0 r → None ≡ number_at r at
      go [] q = refl
      go (b ∷ r) q =
          let large : 2 ^ 64 ≤ value_from 0 (b ∷ r) = rw (← q) (omega (arith, value_grows v l)) in
          rw (le-ltb (value_from 0 (b ∷ r)) (2 ^ 64) large)

  pub all_read : (v next : ℕ) → v < 2 ^ 64 → (next ≡ at → ⊥) → next ≡ at + length R → v ≡ value_from 0 R → found v next ≡ number_at R at
  all_read v next h f e q = go R e q
    where
      go : (r : List ℕ) → next ≡ at + length r → v ≡ value_from 0 r → found v next ≡ number_at r at
      go [] e q = absurd (f (e ∙ add-zero at))
      go (b ∷ r) e q =
          let fits : value_from 0 (b ∷ r) < 2 ^ 64 = rw (← q) h in
          rw (lt-ltb (value_from 0 (b ∷ r)) (2 ^ 64) fits, q, e)

-- ---- what was written is read back

decimal-some : (n at : ℕ) → at + length (decimal n) ≡ at → ⊥
decimal-some n at e = absurd (omega (arith, decimal-long n))

-- a number behind any text and in front of what is no digit
pub read_back : (before : List ℕ) (n b : ℕ) (l : List ℕ) → n < 2 ^ 64 → is_digit b ≡ false
    → read_decimal (before ++ (decimal n ++ b ∷ l)) (length before) ≡ found n (length before + length (decimal n))
unfolding read_decimal
read_back before n b l h p =
    ap (λ (s : List ℕ). number_at (digit_run s) (length before)) (drop-append_seam before (decimal n ++ b ∷ l))
    ∙ ap (λ (r : List ℕ). number_at r (length before)) (run-decimal n b l p)
    ∙ sym
    (all_read (decimal n) (length before) n (length before + length (decimal n)) h (decimal-some n (length before)) refl (sym (value-decimal n)))
