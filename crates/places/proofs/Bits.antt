-- A word has no bit from its width on; a word made of tests has the bits that were tested; words with the same bits are the same, and
-- the bits of two words joined are those of either.
use mathlib.Core.Path.{◌≡◌, refl, sym, ap, ◌∙◌}
use mathlib.Core.Bool.{Bool, true, false, cond, ◌||◌}
use native.Mathlib.Nat.{div-eq_of_lt, lt_of_lt_of_le, div-one, pow-zero, pow-suc, mul_comm, div-div-eq-div-mul, zero-add, add-zero, add-suc, suc-add}
use native.Mathlib.Omega.{arith}
use borrow.Author.Tests.{eqb-true, eqb-false}
use lib.Bits.{bit_or, or_lt, or_shr, or_step}
use lib.Dec.{eqb}
use lib.Pow.{pow_mono}
use Prim.Native.Nat.{ℕ, zero, suc, ◌+◌, ◌*◌, ◌/◌, ◌%◌, ◌^◌, ◌≤◌, ◌<◌, max}
use Rattle.places.specs.Bits.{bit_at, bits_from, bits_of}

pub no_bit : (bits width k : ℕ) → bits < 2 ^ width → width ≤ k → bit_at bits k ≡ false
unfolding bit_at
no_bit bits width k b w = rw (div-eq_of_lt (lt_of_lt_of_le b (pow_mono w)))

bit_small : (b : Bool) → cond b 1 0 < 2
bit_small true = omega arith
bit_small false = omega arith

bit_is : (b : Bool) (n : ℕ) → eqb ((cond b 1 0 + 2 * n) % 2) 1 ≡ b
bit_is true n = let e : (1 + 2 * n) % 2 ≡ 1 = omega arith in rw e
bit_is false n = let e : (0 + 2 * n) % 2 ≡ 0 = omega arith in rw e

halved : (b : Bool) (n : ℕ) → (cond b 1 0 + 2 * n) / 2 ≡ n
halved true n = omega arith
halved false n = omega arith

next_bit : (bits k : ℕ) → bits / 2 ^ suc k ≡ bits / 2 / 2 ^ k
next_bit bits k = rw (pow-suc 2 k, mul_comm (2 ^ k) 2, ← div-div-eq-div-mul bits 2 (2 ^ k))

module _ (test : ℕ → Bool) where
  bits-from : (lo n k : ℕ) → k < n → bit_at (bits_from test lo n) k ≡ test (lo + k)
  unfolding bit_at
  bits-from lo zero k h = absurd (omega arith)
  bits-from lo (suc n) zero h =
      rw (pow-zero 2, div-one (cond (test lo) 1 0 + 2 * bits_from test (suc lo) n), add-zero lo) (bit_is (test lo) (bits_from test (suc lo) n))
  bits-from lo (suc n) (suc k) h =
      rw (next_bit (cond (test lo) 1 0 + 2 * bits_from test (suc lo) n) k, halved (test lo) (bits_from test (suc lo) n), add-suc lo k, ← suc-add lo k)
      (bits-from (suc lo) n k (omega arith))

  pub bits_are : (n k : ℕ) → k < n → bit_at (bits_of test n) k ≡ test k
  unfolding bits_of
  bits_are n k h = bits-from 0 n k h ∙ ap test (zero-add k)

  bits-under : (lo n : ℕ) → bits_from test lo n < 2 ^ n
  bits-under lo zero = rw (pow-zero 2) (omega arith)
  bits-under lo (suc n) = rw (pow-suc 2 n) (omega (arith, bits-under (suc lo) n, bit_small (test lo)))

  -- so no bit is set behind the places
  pub bits_small : (n : ℕ) → bits_of test n < 2 ^ n
  unfolding bits_of
  bits_small n = bits-under 0 n

-- ---- words by their bits

-- a digit, and the test of it
digit_is : (x : ℕ) → x < 2 → x ≡ cond (eqb x 1) 1 0
digit_is x h = go (eqb x 1) refl
  where
    go : (b : Bool) → eqb x 1 ≡ b → x ≡ cond b 1 0
    go true e = eqb-true x 1 e
    go false e = let other : x ≡ 1 → ⊥ = eqb-false x 1 e in omega arith

last-same : (a b : ℕ) → eqb (a % 2) 1 ≡ eqb (b % 2) 1 → a % 2 ≡ b % 2
last-same a b e =
    digit_is (a % 2) (omega arith) ∙ ap (λ (x : Bool). cond x 1 0) e ∙ sym (digit_is (b % 2) (omega arith))

-- words of one width with the same bits
pub bits-same : (n a b : ℕ) → a < 2 ^ n → b < 2 ^ n → ((k : ℕ) → k < n → bit_at a k ≡ bit_at b k) → a ≡ b
unfolding bit_at
bits-same zero a b h w same = omega arith
bits-same (suc n) a b h w same =
    let halves : a / 2 ≡ b / 2 = bits-same n (a / 2) (b / 2) (half a h) (half b w) (λ k v. rw (next_bit a k, next_bit b k) at (same (suc k) (omega arith))) in
    let last : a % 2 ≡ b % 2 = last-same a b (rw (pow-zero 2, div-one a, div-one b) at (same zero (omega arith))) in
    omega arith
  where
    half : (x : ℕ) → x < 2 ^ suc n → x / 2 < 2 ^ n
    half x q = let e : x < 2 ^ n * 2 = rw (pow-suc 2 n) at q in omega arith

max_digit : (x y : ℕ) → x < 2 → y < 2 → eqb (max x y) 1 ≡ (eqb x 1 || eqb y 1)
max_digit x y h w = rw (digit_is x h, digit_is y w) (go (eqb x 1) (eqb y 1))
  where
    go : (a b : Bool) → eqb (max (cond a 1 0) (cond b 1 0)) 1 ≡ (eqb (cond a 1 0) 1 || eqb (cond b 1 0) 1)
    go true true = refl
    go true false = refl
    go false true = refl
    go false false = refl

last_or : (x y : ℕ) → eqb (bit_or x y % 2) 1 ≡ (eqb (x % 2) 1 || eqb (y % 2) 1)
last_or x y =
    let e : bit_or x y % 2 ≡ max (x % 2) (y % 2) = rw (or_step x y) (omega arith) in
    rw e (max_digit (x % 2) (y % 2) (omega arith) (omega arith))

-- a bit of two words joined is a bit of either
pub bit-or : (a b k : ℕ) → bit_at (bit_or a b) k ≡ (bit_at a k || bit_at b k)
unfolding bit_at
bit-or a b k = rw (or_shr a b k) (last_or (a / 2 ^ k) (b / 2 ^ k))

-- a word made of tests, with one more word joined to it
pub or-bits : (test : ℕ → Bool) (n word : ℕ) → word < 2 ^ n → bit_or (bits_of test n) word ≡ bits_of (λ k. test k || bit_at word k) n
or-bits test n word h =
    bits-same n (bit_or (bits_of test n) word) (bits_of (λ k. test k || bit_at word k) n)
    (or_lt n (bits_of test n) word (bits_small test n) h) (bits_small (λ k. test k || bit_at word k) n)
    (λ k w. bit-or (bits_of test n) word k ∙ rw (bits_are test n k w, bits_are (λ k. test k || bit_at word k) n k w))

-- words of tests that agree
pub bits_agree : (p q : ℕ → Bool) (n : ℕ) → ((k : ℕ) → k < n → p k ≡ q k) → bits_of p n ≡ bits_of q n
bits_agree p q n same =
    bits-same n (bits_of p n) (bits_of q n) (bits_small p n) (bits_small q n) (λ k w. rw (bits_are p n k w, bits_are q n k w) (same k w))
