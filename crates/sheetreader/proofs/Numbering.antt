-- The numbers of a line's words, taken one after the other.
use mathlib.Core.Path.{◌≡◌, refl, sym, ap, ◌∙◌}
use mathlib.Core.Bool.{Bool, true, false, cond, true≢false}
use mathlib.Core.List.{List, [], ◌∷◌, ◌++◌, append-nil, append_assoc}
use mathlib.Core.Option.{Option, none, some}
use native.Mathlib.Numerals.{add-one}
use native.Mathlib.Omega.{arith}
use lib.ListN.{length, drop, take, get_or, set, replicate, length-drop}
use lib.Seq.{drop-cons}
use Prim.Native.Nat.{ℕ, zero, suc, ◌+◌, ◌-◌, ◌≤◌, ◌<◌}
use Rattle.laws.specs.Loops.{pad_to}
use Rattle.laws.proofs.Lists.{length_snoc, pad_to-none, pad_to_snoc}
use Rattle.text.specs.Lines.{behind_word, next_word, starts_with, words}
use Rattle.std.specs.Prelude as code
use Rattle.std.specs.Prelude.{None, Some}
use Rattle.text.specs.declared.lines.Word.{Word}
use Rattle.text.proofs.Words.{WordsFrom, words-from}
use Rattle.sheet.specs.declared.Form.{Form}
use Rattle.sheet.specs.declared.Form.TheVariants as form
use Rattle.sheet.specs.Sheet.{dash}
use Rattle.sheet.specs.Back.{number_first, number_in, number_missing, numbers_in}
use Rattle.sheetreader.specs.declared.Taken.{Taken}
use Rattle.sheetreader.specs.Memory.{ended_with, numbers_laid, taken_at, taken_from, taken_with}

-- ---- a sign in front

module _ (s : List ℕ) {found : code.Option ℕ} (read : found ≡ behind_word s 0 dash) where
  signed_by : (b : Bool) → starts_with dash s ≡ b → found ≡ cond b (Some 1) None
  unfolding behind_word
  signed_by b e = read ∙ rw e

  pub signed : {n : ℕ} → found ≡ Some n → starts_with dash s ≡ true
  signed {n} e = go (starts_with dash s) refl
    where
      go : (b : Bool) → starts_with dash s ≡ b → b ≡ true
      go true q = refl
      go false q = let p : found ≡ None = signed_by false q in let z : ◌≡◌ {A = ℕ} 0 1 = cc in absurd (omega arith)

  pub unsigned : found ≡ None → starts_with dash s ≡ false
  unsigned e = go (starts_with dash s) refl
    where
      go : (b : Bool) → starts_with dash s ≡ b → b ≡ false
      go true q = let p : found ≡ Some 1 = signed_by true q in let z : ◌≡◌ {A = ℕ} 0 1 = cc in absurd (omega arith)
      go false q = refl

pub sign_long : (s : List ℕ) → starts_with dash s ≡ true → 1 ≤ length s
sign_long [] e = absurd (true≢false (sym e))
sign_long (b ∷ s) e = omega arith

-- what stands behind a place is all of a part that ends with the text
pub part_rest : (s : List ℕ) (n : ℕ) → take (length s - n) (drop n s) ≡ drop n s
part_rest s n = go (drop n s) (length s - n) (length-drop n s)
  where
    go : (l : List ℕ) (k : ℕ) → length l ≡ k → take k l ≡ l
    go [] zero e = refl
    go [] (suc k) e = refl
    go (x ∷ l) zero e = absurd (omega arith)
    go (x ∷ l) (suc k) e = ap (λ (r : List ℕ). x ∷ r) (go l k (omega arith))

-- ---- word by word

-- what the words come to whose first was taken
abbrev taken_then : List Form → List ℕ → code.Option Taken → Option (List ℕ)
taken_then fs s None = none
taken_then fs s (Some t) = number_first (some t.value) (numbers_in fs (words (drop t.next s)))

one-step : (s : List ℕ) (at : ℕ) (f : Form) (fs : List Form) → numbers_in (f ∷ fs) (words (drop at s)) ≡ taken_then fs s (taken_at s at f)
unfolding taken_at numbers_in
one-step s at f fs = go (next_word s at) (words-from s at)
  where
    taken : (n : Option ℕ) (to : ℕ) → number_first n (numbers_in fs (words (drop to s))) ≡ taken_then fs s (taken_with n to)
    taken none to = refl
    taken (some n) to = refl

    go : (w : code.Option Word) → WordsFrom s at w → numbers_in (f ∷ fs) (words (drop at s)) ≡ taken_then fs s (taken_from s at f w)
    go None e = let t = taken (number_missing f) at in rw e (rw e at t)
    go (Some w) e = rw e.0 (taken (number_in f (take (w.to - w.from) (drop w.from s))) w.to)

-- numbers in front of others
abbrev behind_these : List ℕ → Option (List ℕ) → Option (List ℕ)
behind_these vs none = none
behind_these vs (some ns) = some (vs ++ ns)

-- the numbers that were taken, and what is left of the forms and of the words, are all of them
pub record Numbering (s : List ℕ) (at : ℕ) (fs : List Form) (values : List ℕ) (next k : ℕ) : Type 0 where
  pub taken : List ℕ
  pub long : length taken ≡ k
  pub laid_out : values ≡ pad_to 10 0 taken
  pub few : k ≤ length fs
  pub run : behind_these taken (numbers_in (drop k fs) (words (drop next s))) ≡ numbers_in fs (words (drop at s))

pub numbering_none : {s : List ℕ} {at : ℕ} {fs : List Form} → Numbering s at fs (replicate 10 0) at 0
numbering_none {s} {at} {fs} =
    record { taken = []; long = refl; laid_out = sym (pad_to-none 10 0); few = omega arith; run = go (numbers_in fs (words (drop at s))) }
  where
    go : (r : Option (List ℕ)) → behind_these [] r ≡ r
    go none = refl
    go (some ns) = refl

module _ {s : List ℕ} {at : ℕ} {fs : List Form} {values : List ℕ} {next k : ℕ} (g : Numbering s at fs values next k) where
  module _ {f : Form} {t : code.Option Taken} (w : k < length fs) (here : f ≡ get_or fs k form.End) (read : t ≡ taken_at s next f) where
    onward : (told : code.Option Taken) → t ≡ told → behind_these g.taken (taken_then (drop (k + 1) fs) s told) ≡ numbers_in fs (words (drop at s))
    onward told q =
        let left : drop k fs ≡ f ∷ drop (k + 1) fs = rw (add-one k, here) (drop-cons fs k form.End w) in
        ap (λ (t : code.Option Taken). behind_these g.taken (taken_then (drop (k + 1) fs) s t)) (sym q ∙ read)
        ∙ ap (behind_these g.taken) (sym (one-step s next f (drop (k + 1) fs)))
        ∙ ap (λ (l : List Form). behind_these g.taken (numbers_in l (words (drop next s)))) (sym left)
        ∙ g.run

    pub numbering_wrong : t ≡ None → None ≡ numbers_laid (numbers_in fs (words (drop at s)))
    numbering_wrong q = ap numbers_laid (onward None q)

    pub numbering_turn : {taken : Taken} → t ≡ Some taken → Numbering s at fs (set values k taken.value) taken.next (k + 1)
    numbering_turn {taken} q =
        let v = taken.value in
        record {
          taken = g.taken ++ (v ∷ []);
          long = length_snoc g.taken v ∙ ap (λ (n : ℕ). n + 1) g.long;
          laid_out = rw (g.laid_out, ← g.long) (sym (pad_to_snoc 10 0 g.taken v));
          few = omega arith;
          run = go v (numbers_in (drop (k + 1) fs) (words (drop taken.next s))) ∙ onward (Some taken) q;
        }
      where
        go : (v : ℕ) (r : Option (List ℕ)) → behind_these (g.taken ++ (v ∷ [])) r ≡ behind_these g.taken (number_first (some v) r)
        go v none = refl
        go v (some ns) = ap some (append_assoc g.taken (v ∷ []) ns)

  pub numbering_end : {r : code.Option (List ℕ)} → length fs ≤ k → r ≡ ended_with (words (drop next s)) values
      → r ≡ numbers_laid (numbers_in fs (words (drop at s)))
  unfolding numbers_in
  numbering_end w e =
      e ∙ go (words (drop next s)) refl ∙ ap numbers_laid g.run
    where
      over : (l : List Form) (n : ℕ) → length l ≤ n → drop n l ≡ []
      over [] zero h = refl
      over [] (suc n) h = refl
      over (x ∷ l) zero h = absurd (omega arith)
      over (x ∷ l) (suc n) h = over l n (omega arith)

      go : (ws : List (List ℕ)) → words (drop next s) ≡ ws
          → ended_with ws values ≡ numbers_laid (behind_these g.taken (numbers_in (drop k fs) (words (drop next s))))
      go [] q = rw (q, over fs k w, append-nil g.taken, g.laid_out)
      go (x ∷ ws) q = rw (q, over fs k w)

-- whatever else would stand behind the end
pub form_here : (d e : Form) (fs : List Form) (k : ℕ) → k < length fs → get_or fs k d ≡ get_or fs k e
form_here d e [] k h = absurd (omega arith)
form_here d e (x ∷ l) zero h = refl
form_here d e (x ∷ l) (suc k) h = form_here d e l k (omega arith)
