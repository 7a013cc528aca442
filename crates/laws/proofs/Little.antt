-- Little-endian numbers: a window of a list read as a number, a number stored as a window, and the way there and back.
use mathlib.Core.Path.{◌≡◌, refl, sym, ap, ◌∙◌}
use mathlib.Core.List.{List, [], ◌∷◌, ◌++◌}
use Prim.Native.Nat.{ℕ, zero, suc, ◌+◌, ◌*◌, ◌/◌, ◌%◌, ◌^◌, ◌<◌}
use native.Mathlib.Nat.{add-zero, add-suc, pow-zero, pow-succ'}
use native.Mathlib.Omega.{arith}
use lib.ListN.{length, get_or, take, drop, set, take-append-drop}
use lib.Seq.{take-nil, sets, get_or-drop}
use Rattle.laws.specs.Numbers.{number, bytes}

-- each element is a byte
abbrev pub Bytes : List ℕ → Type 0
Bytes l = (i : ℕ) → get_or l i 0 < 256

-- parts of bytes are bytes
pub bytes_left : (l m : List ℕ) → Bytes (l ++ m) → Bytes l
bytes_left [] m h i = omega arith
bytes_left (b ∷ l) m h zero = h zero
bytes_left (b ∷ l) m h (suc i) = bytes_left l m (λ j. h (suc j)) i

pub bytes_right : (l m : List ℕ) → Bytes (l ++ m) → Bytes m
bytes_right [] m h = h
bytes_right (b ∷ l) m h = bytes_right l m (λ i. h (suc i))

pub bytes_take : (n : ℕ) (l : List ℕ) → Bytes l → Bytes (take n l)
bytes_take n l h = bytes_left (take n l) (drop n l) (rw (take-append-drop n l) h)

pub bytes_drop : (n : ℕ) (l : List ℕ) → Bytes l → Bytes (drop n l)
bytes_drop n l h i = rw (get_or-drop n l i 0) (h (n + i))

-- one byte read, whether it stands in the list or behind its end
pub number_step : (w : ℕ) (s : List ℕ) (at : ℕ)
    → number (take (suc w) (drop at s)) ≡ get_or s at 0 + 256 * number (take w (drop (suc at) s))
number_step w [] zero = rw (take-nil {A = ℕ} w)
number_step w [] (suc at) = rw (take-nil {A = ℕ} w)
number_step w (x ∷ s) zero = refl
number_step w (x ∷ s) (suc at) = number_step w s at

-- the number that w bytes stand for, from k places behind `at`, as code adds them up
abbrev pub added : List ℕ → ℕ → ℕ → ℕ → ℕ
added s at k zero = 0
added s at k (suc w) = get_or s (at + k) 0 + 256 * added s at (suc k) w

number_added_from : (w : ℕ) (s : List ℕ) (at k : ℕ) → number (take w (drop (at + k) s)) ≡ added s at k w
number_added_from zero s at k = refl
number_added_from (suc w) s at k =
    number_step w s (at + k) ∙ rw (← add-suc at k, number_added_from w s at (suc k))

pub number_added : (w : ℕ) (s : List ℕ) (at : ℕ) → number (take w (drop at s)) ≡ added s at 0 w
number_added w s at = ap (λ (k : ℕ). number (take w (drop k s))) (sym (add-zero at)) ∙ number_added_from w s at 0

-- bytes stored one by one, from k places behind `at`, as code stores them
abbrev pub stored : List ℕ → ℕ → ℕ → List ℕ → List ℕ
stored l at k [] = l
stored l at k (b ∷ bs) = stored (set l (at + k) b) at (suc k) bs

stored_sets_from : (l : List ℕ) (at k : ℕ) (bs : List ℕ) → stored l at k bs ≡ sets l (at + k) bs
stored_sets_from l at k [] = refl
stored_sets_from l at k (b ∷ bs) = stored_sets_from (set l (at + k) b) at (suc k) bs ∙ rw (add-suc at k)

pub stored_sets : (l : List ℕ) (at : ℕ) (bs : List ℕ) → stored l at 0 bs ≡ sets l at bs
stored_sets l at bs = stored_sets_from l at 0 bs ∙ rw (add-zero at)

pub length-bytes : (w x : ℕ) → length (bytes w x) ≡ w
length-bytes zero x = refl
length-bytes (suc w) x = ap suc (length-bytes w (x / 256))

pub number-bytes : (w x : ℕ) → x < 256 ^ w → number (bytes w x) ≡ x
number-bytes zero x h = omega (arith, pow-zero 256)
number-bytes (suc w) x h =
    let fits : x / 256 < 256 ^ w = omega (arith, pow-succ' 256 w) in
    rw (number-bytes w (x / 256) fits) (omega arith)

pub bytes-number : (l : List ℕ) → Bytes l → bytes (length l) (number l) ≡ l
bytes-number [] h = refl
bytes-number (b ∷ bs) h =
    let small : b < 256 = h 0 in
    let low : (b + 256 * number bs) % 256 ≡ b = omega arith in
    let high : (b + 256 * number bs) / 256 ≡ number bs = omega arith in
    rw (low, high, bytes-number bs (λ i. h (suc i)))

pub number_bound : (l : List ℕ) → Bytes l → number l < 256 ^ length l
number_bound [] h = omega (arith, pow-zero 256)
number_bound (b ∷ bs) h =
    let rest : number bs < 256 ^ length bs = number_bound bs (λ i. h (suc i)) in
    let small : b < 256 = h 0 in
    omega (arith, pow-succ' 256 (length bs))
