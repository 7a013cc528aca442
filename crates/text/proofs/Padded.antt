-- Of every byte of a line that is put together from words and spaces: a test that spaces pass, and each word, passes all of it. And how long
-- such a line is.
use mathlib.Core.Path.{◌≡◌, refl, ◌∙◌}
use mathlib.Core.Bool.{Bool, true, false}
use mathlib.Core.List.{List, [], ◌∷◌, ◌++◌}
use mathlib.Core.Logic.{◌⊎◌, inl, inr}
use native.Mathlib.Nat.{pow-zero, pow-succ', suc-mul}
use native.Mathlib.Omega.{arith}
use borrow.Author.Tests.{not-true}
use lib.Dec.{eqb}
use lib.ListN.{length, length-append, length-replicate}
use Prim.Native.Nat.{ℕ, zero, suc, ◌-◌, ◌*◌, ◌/◌, ◌^◌, ◌≤◌, ◌<◌}
use Rattle.laws.specs.Lists.{all}
use Rattle.laws.proofs.Lists.{all_append, both, both_left}
use Rattle.laws.proofs.Orders.{le-or-lt}
use Rattle.text.specs.Text.{decimal, is_digit, pad_left, pad_right, spaces, texts}
use Rattle.text.specs.Lines.{is_other, starts_with}
use Rattle.text.proofs.Decimals.{all-decimal, decimal-long, decimal-one, decimal_more}
use Rattle.text.proofs.Words.{all_also, digit_other}

-- ---- a test of every byte

module _ (p : ℕ → Bool) where
  pub all_both : (l m : List ℕ) → all p l ≡ true → all p m ≡ true → all p (l ++ m) ≡ true
  all_both l m a b = all_append p l m ∙ both a b

  module _ (space : p 32 ≡ true) where
    pub all-spaces : (n : ℕ) → all p (spaces n) ≡ true
    all-spaces zero = refl
    all-spaces (suc n) = both space (all-spaces n)

    pub all_left : (n : ℕ) (w : List ℕ) → all p w ≡ true → all p (pad_left n w) ≡ true
    unfolding pad_left
    all_left n w h = all_both (spaces (n - length w)) w (all-spaces (n - length w)) h

    pub all_right : (n : ℕ) (w : List ℕ) → all p w ≡ true → all p (pad_right n w) ≡ true
    unfolding pad_right
    all_right n w h = all_both w (spaces (n - length w)) h (all-spaces (n - length w))

  pub all-texts : (f : ℕ → List ℕ) → ((k : ℕ) → all p (f k) ≡ true) → (n : ℕ) → all p (texts f n) ≡ true
  unfolding texts
  all-texts f h zero = refl
  all-texts f h (suc n) = all_both (texts f n) (f n) (all-texts f h n) (h n)

-- a number's text has no byte below the digits
pub decimal-other : (stop n : ℕ) → stop < 48 → all (is_other stop) (decimal n) ≡ true
decimal-other stop n h = all_also is_digit (is_other stop) (λ b e. digit_other stop b h e) (decimal n) (all-decimal n)

-- so it does not begin with a word that does
pub decimal_unlike : (stop n : ℕ) → stop < 48 → starts_with (stop ∷ []) (decimal n) ≡ false
decimal_unlike stop n h = first (decimal n) (decimal-long n) (all-decimal n)
  where
    first : (l : List ℕ) → 0 < length l → all is_digit l ≡ true → starts_with (stop ∷ []) l ≡ false
    first [] w e = absurd (omega arith)
    first (b ∷ l) w e = rw (not-true (eqb b stop) (digit_other stop b h (both_left (is_digit b) (all is_digit l) e)))

-- ---- how long

-- a number below a power of ten has no more digits
pub decimal-few : (k n : ℕ) → n < 10 ^ suc k → length (decimal n) ≤ suc k
decimal-few zero n h = rw (decimal-one n (omega (arith, pow-succ' 10 0, pow-zero 10))) (omega arith)
decimal-few (suc k) n h = which (λ w. decimal-few k (n / 10) w) (le-or-lt 10 n)
  where
    which : (n / 10 < 10 ^ suc k → length (decimal (n / 10)) ≤ suc k) → (10 ≤ n) ⊎ (n < 10) → length (decimal n) ≤ suc (suc k)
    which fewer (inl w) = rw (decimal_more n w) (omega (arith, fewer (omega (arith, pow-succ' 10 (suc k)))))
    which fewer (inr w) = rw (decimal-one n w) (omega arith)

ten-some : (k : ℕ) → 0 < 10 ^ k
ten-some zero = omega (arith, pow-zero 10)
ten-some (suc k) = omega (arith, pow-succ' 10 k, ten-some k)

-- one from a power of ten on has more
pub decimal-many : (k n : ℕ) → 10 ^ k ≤ n → suc k ≤ length (decimal n)
decimal-many zero n h = omega (arith, decimal-long n)
decimal-many (suc k) n h =
    let some : 0 < 10 ^ k = ten-some k in
    let long : 10 ≤ n = omega (arith, pow-succ' 10 k) in
    let more : suc k ≤ length (decimal (n / 10)) = decimal-many k (n / 10) (omega (arith, pow-succ' 10 k)) in
    rw (decimal_more n long) (omega (arith, more))

pub left-few : (n m : ℕ) (w : List ℕ) → n ≤ m → length w ≤ m → length (pad_left n w) ≤ m
unfolding pad_left
left-few n m w a b =
    rw (length-append (spaces (n - length w)) w, length-replicate {A = ℕ} (n - length w) 32) (omega arith)

pub right_few : (n m : ℕ) (w : List ℕ) → n ≤ m → length w ≤ m → length (pad_right n w) ≤ m
unfolding pad_right
right_few n m w a b =
    rw (length-append w (spaces (n - length w)), length-replicate {A = ℕ} (n - length w) 32) (omega arith)

pub texts-few : (f : ℕ → List ℕ) (most : ℕ) → ((k : ℕ) → length (f k) ≤ most) → (n : ℕ) → length (texts f n) ≤ n * most
unfolding texts
texts-few f most h zero = omega arith
texts-few f most h (suc n) =
    rw (length-append (texts f n) (f n), suc-mul n most) (omega (arith, texts-few f most h n, h n))
