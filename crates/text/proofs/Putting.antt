-- Text stored byte by byte, or piece by piece, is the text stored at once.
use mathlib.Core.List.{List, [], ◌∷◌, ◌++◌}
use mathlib.Core.Path.{◌≡◌, refl, sym, ap, ap₂, ◌∙◌}
use native.Mathlib.Nat.{add-zero, zero-add, le_antisymm}
use native.Mathlib.Numerals.{add-one}
use native.Mathlib.Omega.{arith}
use lib.ListN.{length, get_or, take, set, length-append}
use lib.Seq.{sets, take-suc, length-take-le, length-sets}
use Prim.Native.Nat.{ℕ, zero, suc, ◌+◌, ◌/◌, ◌%◌, ◌≤◌, ◌<◌}
use Rattle.laws.proofs.Laid.{sets_append}
use Rattle.text.specs.Text.{digits, decimal, refused_word, at_word, line_feed, refused_line, texts, marked, numbered_line, spaces}
use Rattle.text.proofs.Decimals.{digits-none, digits_more, decimal-zero, decimal-digits, decimal-most}

-- what a function that puts text leaves: the bytes, and the place behind them
abbrev pub Put : List ℕ → ℕ → List ℕ → List ℕ → ℕ → Type 0
Put old at l buf end = (buf ≡ sets old at l) × (end ≡ at + length l)

-- two pieces one behind the other
pub both_put : (old mid buf l m : List ℕ) (at k end : ℕ) → Put old at l mid k → Put mid k m buf end → Put old at (l ++ m) buf end
both_put old mid buf l m at k end p q = (
  q.0 ∙ ap₂ (λ (b : List ℕ) (j : ℕ). sets b j m) p.0 p.1 ∙ sym (sets_append old at l m),
  let both : length (l ++ m) ≡ length l + length m = length-append l m in
      omega arith,
)

-- bytes of a string, one after the other
pub put_byte : (old buf s : List ℕ) (at i : ℕ) → buf ≡ sets old at (take i s) → i < length s
    → set buf (at + i) (get_or s i 0) ≡ sets old at (take (i + 1) s)
put_byte old buf s at i e h =
    let count : length (take i s) ≡ i = length-take-le i s (omega arith) in
    (both_put old buf _ (take i s) (get_or s i 0 ∷ []) at (at + i) (at + i + 1) (e, omega arith) (refl, refl)).0
    ∙ ap (sets old at) (sym (ap (λ (k : ℕ). take k s) (add-one i) ∙ take-suc s i 0 h))

pub no_digit_put : (old : List ℕ) (at x : ℕ) → x ≡ 0 → Put old at (digits x) old at
no_digit_put old at x e = rw (e, digits-none) (refl, sym (add-zero at))

-- the last digit behind those of the number without it
pub put_digit : (old buf : List ℕ) (at k x : ℕ) → 0 < x → Put old at (digits (x / 10)) buf k → Put old at (digits x) (set buf k (48 + x % 10)) (k + 1)
put_digit old buf at k x h p =
    rw (digits_more x h) (both_put old buf _ (digits (x / 10)) ((48 + x % 10) ∷ []) at k (k + 1) p (refl, refl))

pub zero-put : (old : List ℕ) (at x : ℕ) → x ≡ 0 → Put old at (decimal x) (set old at 48) (at + 1)
zero-put old at x e = rw (e, decimal-zero) (refl, refl)

pub digits-put : (old buf : List ℕ) (at end x : ℕ) → 0 < x → Put old at (digits x) buf end → Put old at (decimal x) buf end
digits-put old buf at end x h p = rw (decimal-digits x h) p

-- ---- a number behind a mark, and a line of them

pub marked-few : (mark : List ℕ) (x : ℕ) → x < 18446744073709551616 → length (marked mark x) ≤ length mark + 20
marked-few mark x h =
    let few : length (decimal x) ≤ 20 = decimal-most x h in
    rw (length-append mark (decimal x)) (omega arith)

-- at the front of the buffer the place behind a line is its length
pub at_front : (old : List ℕ) (l buf : List ℕ) (end : ℕ) → Put old 0 l buf end → (buf ≡ sets old 0 l) × (end ≡ length l)
at_front old l buf end p = (p.0, p.1 ∙ zero-add (length l))

pub numbered_put : (b b₁ b₂ word : List ℕ) (k₁ k₂ n : ℕ) → Put b 0 (marked word n) b₁ k₁ → Put b₁ k₁ line_feed b₂ k₂
    → (b₂ ≡ sets b 0 (numbered_line word n)) × (k₂ ≡ length (numbered_line word n))
unfolding numbered_line
numbered_put b b₁ b₂ word k₁ k₂ n p q = at_front b (marked word n ++ line_feed) b₂ k₂ (both_put b b₁ b₂ (marked word n) line_feed 0 k₁ k₂ p q)

-- ---- what a loop has put so far

pub record Putting (old : List ℕ) (at : ℕ) (f : ℕ → List ℕ) (n : ℕ) (buf : List ℕ) (end : ℕ) : Type 0 where
  pub put : Put old at (texts f n) buf end

module _ {old : List ℕ} {at : ℕ} {f : ℕ → List ℕ} where
  pub putting_none : Putting old at f 0 old at
  unfolding texts
  putting_none = record { put = (refl, sym (add-zero at)) }

  pub putting_turn : {n : ℕ} {mid buf : List ℕ} {k end : ℕ} → Putting old at f n mid k → Put mid k (f n) buf end → Putting old at f (n + 1) buf end
  unfolding texts
  putting_turn {n} {mid} {buf} {k} {end} p q =
      record { put = rw (add-one n) (both_put old mid buf (texts f n) (f n) at k end p.put q) }

  pub putting_end : {n i : ℕ} {buf : List ℕ} {end : ℕ} → Putting old at f i buf end → i ≤ n → n ≤ i → Put old at (texts f n) buf end
  putting_end {n} {i} {buf} {end} p h w = let e : i ≡ n = le_antisymm h w in rw e at p.put

  -- the buffer keeps its length
  pub putting_length : {n : ℕ} {buf : List ℕ} {end : ℕ} → Putting old at f n buf end → length buf ≡ length old
  putting_length {n} p = ap length p.put.0 ∙ length-sets old at (texts f n)

-- spaces are a loop of the same text
abbrev pub one_space : ℕ → List ℕ
one_space k = 32 ∷ []

pub spaces-texts : (n : ℕ) → texts one_space n ≡ spaces n
unfolding texts
spaces-texts zero = refl
spaces-texts (suc n) = ap (λ (l : List ℕ). l ++ (32 ∷ [])) (spaces-texts n) ∙ snoc n
  where
    snoc : (n : ℕ) → spaces n ++ (32 ∷ []) ≡ 32 ∷ spaces n
    snoc zero = refl
    snoc (suc n) = ap (λ (l : List ℕ). 32 ∷ l) (snoc n)

-- ---- a line of five pieces
pub refused-put : (b b₁ b₂ b₃ b₄ b₅ : List ℕ) (k₁ k₂ k₃ k₄ k₅ number place : ℕ) → Put b 0 refused_word b₁ k₁ → Put b₁ k₁ (decimal number) b₂ k₂
    → Put b₂ k₂ at_word b₃ k₃ → Put b₃ k₃ (decimal place) b₄ k₄ → Put b₄ k₄ line_feed b₅ k₅ → Put b 0 (refused_line number place) b₅ k₅
unfolding refused_line
refused-put b b₁ b₂ b₃ b₄ b₅ k₁ k₂ k₃ k₄ k₅ number place p₁ p₂ p₃ p₄ p₅ =
    let placed : Put b₃ k₃ (decimal place ++ line_feed) b₅ k₅ = both_put b₃ b₄ b₅ (decimal place) line_feed k₃ k₄ k₅ p₄ p₅ in
    let from_at : Put b₂ k₂ (at_word ++ (decimal place ++ line_feed)) b₅ k₅ = both_put b₂ b₃ b₅ at_word (decimal place ++ line_feed) k₂ k₃ k₅ p₃ placed in
    let numbered : Put b₁ k₁ (decimal number ++ (at_word ++ (decimal place ++ line_feed))) b₅ k₅ =
    both_put b₁ b₂ b₅ (decimal number) (at_word ++ (decimal place ++ line_feed)) k₁ k₂ k₅ p₂ from_at
    in
    both_put b b₁ b₅ refused_word (decimal number ++ (at_word ++ (decimal place ++ line_feed))) 0 k₁ k₅ p₁ numbered
