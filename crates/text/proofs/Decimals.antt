-- A number and its digits: the digits of a number stand for it again, and a line `refused N at P` tells N and P.
use mathlib.Core.Bool.{true, false}
use mathlib.Core.List.{List, [], ◌∷◌, ◌++◌, append-nil}
use mathlib.Core.Path.{◌≡◌, refl, sym, ap, ◌∙◌}
use native.Mathlib.Nat.{pow-zero, pow-succ'}
use native.Mathlib.Omega.{arith}
use lib.ListN.{length, drop, length-append}
use lib.Seq.{drop-append_seam}
use borrow.Author.Tests.{le-leb}
use Prim.Native.Nat.{ℕ, zero, suc, ◌+◌, ◌-◌, ◌*◌, ◌/◌, ◌%◌, ◌^◌, ◌≤◌, ◌<◌}
use Rattle.laws.specs.Lists.{all}
use Rattle.laws.proofs.Lists.{all_snoc}
use Rattle.text.specs.Text.{digits_within, digits, decimal, at_word, line_feed, numbered_line, refused_line, unreadable_line, is_digit, digit_run, value_from}
use Rattle.text.proofs.Runs.{front_over}

-- any bound that is large enough gives the same digits
enough : (m k n : ℕ) → n ≤ m → n ≤ k → digits_within m n ≡ digits_within k n
enough zero zero n p q = refl
enough zero (suc k) zero p q = refl
enough zero (suc k) (suc n) p q = absurd (omega arith)
enough (suc m) zero zero p q = refl
enough (suc m) zero (suc n) p q = absurd (omega arith)
enough (suc m) (suc k) zero p q = refl
enough (suc m) (suc k) (suc n) p q =
    ap (λ (l : List ℕ). l ++ ((48 + suc n % 10) ∷ [])) (enough m k (suc n / 10) (omega arith) (omega arith))

pub digits-none : digits 0 ≡ []
unfolding digits
digits-none = refl

-- the last digit stands behind the digits of what is left without it
pub digits_more : (n : ℕ) → 0 < n → digits n ≡ digits (n / 10) ++ ((48 + n % 10) ∷ [])
unfolding digits
digits_more zero h = absurd (omega arith)
digits_more (suc n) h =
    ap (λ (l : List ℕ). l ++ ((48 + suc n % 10) ∷ [])) (enough n (suc n / 10) (suc n / 10) (omega arith) (omega arith))

pub decimal-digits : (n : ℕ) → 0 < n → decimal n ≡ digits n
unfolding decimal
decimal-digits zero h = absurd (omega arith)
decimal-digits (suc n) h = refl

pub decimal-zero : decimal 0 ≡ 48 ∷ []
unfolding decimal
decimal-zero = refl

-- ---- how many

pub digits-count : (n : ℕ) → 0 < n → length (digits n) ≡ suc (length (digits (n / 10)))
digits-count n h = ap length (digits_more n h) ∙ length-append (digits (n / 10)) ((48 + n % 10) ∷ []) ∙ omega arith

few-digits : (k n : ℕ) → n < 10 ^ k → length (digits n) ≤ k
few-digits zero zero h = rw digits-none (omega arith)
few-digits zero (suc n) h = absurd (omega (arith, pow-zero 10))
few-digits (suc k) zero h = rw digits-none (omega arith)
few-digits (suc k) (suc n) h =
    let less : suc n / 10 < 10 ^ k = omega (arith, pow-succ' 10 k) in
    let fewer : length (digits (suc n / 10)) ≤ k = few-digits k (suc n / 10) less in
    rw (digits-count (suc n) (omega arith)) (omega arith)

-- a 64-bit number has at most 20 digits
pub digits-most : (n : ℕ) → n < 18446744073709551616 → length (digits n) ≤ 20
digits-most n h = few-digits 20 n (omega arith)

pub decimal-most : (n : ℕ) → n < 18446744073709551616 → length (decimal n) ≤ 20
decimal-most zero h = rw decimal-zero (omega arith)
decimal-most (suc n) h = rw (decimal-digits (suc n) (omega arith)) (digits-most (suc n) h)

pub decimal-long : (n : ℕ) → 0 < length (decimal n)
decimal-long zero = rw decimal-zero (omega arith)
decimal-long (suc n) = rw (decimal-digits (suc n) (omega arith), digits-count (suc n) (omega arith)) (omega arith)

-- one digit, or one more than without the last
pub decimal-one : (n : ℕ) → n < 10 → length (decimal n) ≡ 1
decimal-one zero h = rw decimal-zero
decimal-one (suc n) h =
    let none : suc n / 10 ≡ 0 = omega arith in
    rw (decimal-digits (suc n) (omega arith), digits-count (suc n) (omega arith), none, digits-none)

pub decimal_more : (n : ℕ) → 10 ≤ n → length (decimal n) ≡ suc (length (decimal (n / 10)))
decimal_more n h = rw (decimal-digits n (omega arith), digits-count n (omega arith), decimal-digits (n / 10) (omega arith))

-- so the line has at most 53 bytes
pub refused-line-most : (n p : ℕ) → n < 18446744073709551616 → p < 18446744073709551616 → length (refused_line n p) ≤ 53
unfolding refused_line
refused-line-most n p h k =
    let number-few : length (decimal n) ≤ 20 = decimal-most n h in
    let place-few : length (decimal p) ≤ 20 = decimal-most p k in
    let place-long : length (decimal p ++ line_feed) ≡ length (decimal p) + 1 = length-append (decimal p) line_feed in
    let long : length (decimal n ++ (at_word ++ (decimal p ++ line_feed))) ≡ length (decimal n) + length (at_word ++ (decimal p ++ line_feed)) =
    length-append (decimal n) (at_word ++ (decimal p ++ line_feed))
    in
    omega arith

-- ---- the digits of a number stand for it again

pub value_snoc : (v : ℕ) (l : List ℕ) (b : ℕ) → value_from v (l ++ (b ∷ [])) ≡ 10 * value_from v l + (b - 48)
value_snoc v [] b = refl
value_snoc v (x ∷ l) b = value_snoc (10 * v + (x - 48)) l b

value-digits-within : (most n : ℕ) → n ≤ most → value_from 0 (digits_within most n) ≡ n
value-digits-within zero n h = omega arith
value-digits-within (suc most) zero h = refl
value-digits-within (suc most) (suc n) h =
    value_snoc 0 (digits_within most (suc n / 10)) (48 + suc n % 10)
    ∙ rw (value-digits-within most (suc n / 10) (omega arith)) (omega arith)

pub value-decimal : (n : ℕ) → value_from 0 (decimal n) ≡ n
unfolding decimal digits
value-decimal zero = refl
value-decimal (suc n) = value-digits-within (suc n) (suc n) (omega arith)

-- two numbers with the same text are one
pub decimal_tells : (m n : ℕ) → decimal m ≡ decimal n → m ≡ n
decimal_tells m n e = sym (value-decimal m) ∙ ap (value_from 0) e ∙ value-decimal n

-- ---- where a number's text ends

digit_is : (n : ℕ) → is_digit (48 + n % 10) ≡ true
digit_is n = rw (le-leb 48 (48 + n % 10) (omega arith), le-leb (48 + n % 10) 57 (omega arith))

all_digits : (most n : ℕ) → all is_digit (digits_within most n) ≡ true
all_digits zero n = refl
all_digits (suc most) zero = refl
all_digits (suc most) (suc n) =
    all_snoc is_digit (digits_within most (suc n / 10)) (48 + suc n % 10)
    ∙ rw (all_digits most (suc n / 10), digit_is (suc n))

pub all-decimal : (n : ℕ) → all is_digit (decimal n) ≡ true
unfolding decimal digits
all-decimal zero = refl
all-decimal (suc n) = all_digits (suc n) (suc n)

-- a number's text is the longest run of digits where no digit stands behind it
pub run-decimal : (n b : ℕ) (l : List ℕ) → is_digit b ≡ false → digit_run (decimal n ++ b ∷ l) ≡ decimal n
run-decimal n b l h = front_over is_digit (decimal n) (b ∷ l) (all-decimal n) ∙ rw h (append-nil (decimal n))

-- so what stands behind two texts that go on alike goes on alike too
decimal_then : (m n b c : ℕ) (l k : List ℕ) → is_digit b ≡ false → is_digit c ≡ false → decimal m ++ b ∷ l ≡ decimal n ++ c ∷ k
    → (m ≡ n) × (b ∷ l ≡ c ∷ k)
decimal_then m n b c l k p q e =
    let same : m ≡ n = decimal_tells m n (sym (run-decimal m b l p) ∙ ap digit_run e ∙ run-decimal n c k q) in
    let rest : b ∷ l ≡ drop (length (decimal m)) (decimal n ++ c ∷ k) =
    sym (drop-append_seam (decimal m) (b ∷ l)) ∙ ap (drop (length (decimal m))) e
    in
    (same, rest ∙ ap (λ (x : ℕ). drop (length (decimal x)) (decimal n ++ c ∷ k)) same ∙ drop-append_seam (decimal n) (c ∷ k))

-- the line tells number and place
pub refused-line_tells : (m p n q : ℕ) → refused_line m p ≡ refused_line n q → (m ≡ n) × (p ≡ q)
unfolding refused_line
refused-line_tells m p n q e =
    let both = decimal_then m n 32 32 _ _ refl refl (ap (drop 8) e) in
    (both.0, (decimal_then p q 10 10 [] [] refl refl (ap (drop 4) both.1)).0)

-- ---- the lines by their letters

pub refused_twelve_at_three : refused_line 12 3 ≡ 114 ∷ 101 ∷ 102 ∷ 117 ∷ 115 ∷ 101 ∷ 100 ∷ 32 ∷ 49 ∷ 50 ∷ 32 ∷ 97 ∷ 116 ∷ 32 ∷ 51 ∷ 10 ∷ []
unfolding refused_line decimal digits
refused_twelve_at_three = refl

pub refused-one-at-end : refused_line 1 65536 ≡ 114 ∷ 101 ∷ 102 ∷ 117 ∷ 115 ∷ 101 ∷ 100 ∷ 32 ∷ 49 ∷ 32 ∷ 97 ∷ 116 ∷ 32 ∷ 54 ∷ 53 ∷ 53 ∷ 51 ∷ 54 ∷ 10 ∷ []
unfolding refused_line decimal digits
refused-one-at-end = refl

pub decimal_of_zero : refused_line 6 0 ≡ 114 ∷ 101 ∷ 102 ∷ 117 ∷ 115 ∷ 101 ∷ 100 ∷ 32 ∷ 54 ∷ 32 ∷ 97 ∷ 116 ∷ 32 ∷ 48 ∷ 10 ∷ []
unfolding refused_line decimal digits
decimal_of_zero = refl

pub unreadable_third : unreadable_line 3 ≡ 117 ∷ 110 ∷ 114 ∷ 101 ∷ 97 ∷ 100 ∷ 97 ∷ 98 ∷ 108 ∷ 101 ∷ 32 ∷ 108 ∷ 105 ∷ 110 ∷ 101 ∷ 32 ∷ 51 ∷ 10 ∷ []
unfolding unreadable_line numbered_line decimal digits
unreadable_third = refl
