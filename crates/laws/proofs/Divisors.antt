-- Divisors and multiples: gcd is a common divisor that every other divides, lcm a common multiple that divides every other; ceil,
-- up and down round to the nearest multiple on their side.
use mathlib.Core.Path.{◌≡◌, refl, sym, ap, ◌∙◌}
use mathlib.Core.Bool.{true, ◌&&◌}
use mathlib.Core.Logic.{◌⊎◌, inl, inr}
use native.Mathlib.Nat.{not-suc-le-zero, le_of_suc-le-suc, zero-lt-suc, mul-zero, zero-mul, mul_comm, mul_assoc, mul-sub, suc-mul, mul-pos, mul-le-mul_right}
use native.Mathlib.Nat.{mod-lt, mod_def, div-mul-le_self, div-lt_iff_lt-mul, le-div_iff_mul-le, lt-div-mul-add, mul-div-mul_left, eq-zero-or-pos, div-zero}
use native.Mathlib.Nat.{dvd_refl, dvd-zero, dvd-mul_left, dvd-mul_right, dvd_trans, dvd-mod_iff, dvd_antisymm, eq-zero_of_zero-dvd, mul-div_cancel', div-mul_cancel, mul-dvd-mul_left, mul-dvd-mul_right, dvd_of_mul-dvd-mul_right}
use native.Mathlib.Omega.{arith}
use Prim.Native.Nat.{ℕ, zero, suc, ◌+◌, ◌*◌, ◌-◌, ◌/◌, ◌%◌, ◌≤◌, ◌<◌, ◌∣◌}
use Rattle.laws.specs.Numbers.{divides, euclid, gcd, lcm, ceil, up, down}
use Rattle.laws.proofs.Tests.{by_divides, by_and, by_same}

pub divides-true : (a b : ℕ) → divides a b ≡ true → a ∣ b
divides-true a b = (by_divides a b).says

pub divides-is : (a b : ℕ) → a ∣ b → divides a b ≡ true
divides-is a b = (by_divides a b).passes

-- a number is settled by its multiples, and by its divisors
pub same_multiples : (a b : ℕ) → ((m : ℕ) → divides a m ≡ divides b m) → a ≡ b
same_multiples a b h =
    dvd_antisymm (divides-true a b (h b ∙ divides-is b b (dvd_refl b)))
    (divides-true b a (sym (h a) ∙ divides-is a a (dvd_refl a)))

pub same_divisors : (a b : ℕ) → ((d : ℕ) → divides d a ≡ divides d b) → a ≡ b
same_divisors a b h =
    dvd_antisymm (divides-true a b (sym (h a) ∙ divides-is a a (dvd_refl a)))
    (divides-true b a (h b ∙ divides-is b b (dvd_refl b)))

-- ---- gcd

-- more turns than b change nothing
euclid-enough : (n m a b : ℕ) → b < n → b < m → euclid n a b ≡ euclid m a b
unfolding euclid
euclid-enough zero m a b h k = absurd (not-suc-le-zero h)
euclid-enough (suc n) zero a b h k = absurd (not-suc-le-zero k)
euclid-enough (suc n) (suc m) a zero h k = refl
euclid-enough (suc n) (suc m) a (suc b) h k =
    let w : a % suc b < suc b = mod-lt a (zero-lt-suc b) in
    euclid-enough n m (suc b) (a % suc b) (omega arith) (omega arith)

pub gcd-zero : (a : ℕ) → gcd a 0 ≡ a
unfolding gcd euclid
gcd-zero a = refl

gcd-suc : (a b : ℕ) → gcd a (suc b) ≡ gcd (suc b) (a % suc b)
unfolding gcd euclid
gcd-suc a b =
    let w : a % suc b < suc b = mod-lt a (zero-lt-suc b) in
    euclid-enough (suc b) (suc (a % suc b)) (suc b) (a % suc b) w (omega arith)

-- one turn of Euclid's rule
pub gcd-step : (a b : ℕ) → 0 < b → gcd a b ≡ gcd b (a % b)
gcd-step a zero h = absurd (not-suc-le-zero h)
gcd-step a (suc b) h = gcd-suc a b

euclid-divides : (n a b : ℕ) → b < n → (euclid n a b ∣ a) × (euclid n a b ∣ b)
unfolding euclid
euclid-divides zero a b h = absurd (not-suc-le-zero h)
euclid-divides (suc n) a zero h = (dvd_refl a, dvd-zero a)
euclid-divides (suc n) a (suc b) h =
    let w : a % suc b < suc b = mod-lt a (zero-lt-suc b) in
    let r = euclid-divides n (suc b) (a % suc b) (omega arith) in
    ((dvd-mod_iff (euclid n (suc b) (a % suc b)) {m = a} {n = suc b} r.0).0 r.1, r.0)

euclid-greatest : (n a b d : ℕ) → d ∣ a → d ∣ b → d ∣ euclid n a b
unfolding euclid
euclid-greatest zero a b d p q = p
euclid-greatest (suc n) a zero d p q = p
euclid-greatest (suc n) a (suc b) d p q = euclid-greatest n (suc b) (a % suc b) d q ((dvd-mod_iff d {m = a} {n = suc b} q).1 p)

pub gcd-left : (a b : ℕ) → gcd a b ∣ a
unfolding gcd
gcd-left a b = (euclid-divides (suc b) a b (omega arith)).0

pub gcd_right : (a b : ℕ) → gcd a b ∣ b
unfolding gcd
gcd_right a b = (euclid-divides (suc b) a b (omega arith)).1

pub gcd-greatest : (a b d : ℕ) → d ∣ a → d ∣ b → d ∣ gcd a b
unfolding gcd
gcd-greatest a b d p q = euclid-greatest (suc b) a b d p q

mul-mod-mul : (k a b : ℕ) → 0 < k → k * a % (k * b) ≡ k * (a % b)
mul-mod-mul k a b h =
    mod_def (k * a) (k * b) ∙ ap (λ (q : ℕ). k * a - k * b * q) (mul-div-mul_left a b h) ∙ ap (λ (q : ℕ). k * a - q) (mul_assoc k b (a / b))
    ∙ sym (mul-sub k a (b * (a / b))) ∙ ap (λ (r : ℕ). k * r) (sym (mod_def a b))

-- a common factor may be taken out
pub gcd-mul : (k a b : ℕ) → gcd (k * a) (k * b) ≡ k * gcd a b
gcd-mul zero a b = rw (zero-mul a, zero-mul b, zero-mul (gcd a b)) (gcd-zero 0)
gcd-mul (suc k) a b = go (suc b) a b (omega arith)
  where
    go : (n a b : ℕ) → b < n → gcd (suc k * a) (suc k * b) ≡ suc k * gcd a b
    go zero a b h = absurd (not-suc-le-zero h)
    go (suc n) a zero h = rw (mul-zero (suc k), gcd-zero (suc k * a), gcd-zero a)
    go (suc n) a (suc b) h =
        let w : a % suc b < suc b = mod-lt a (zero-lt-suc b) in
        gcd-step (suc k * a) (suc k * suc b) (mul-pos (zero-lt-suc k) (zero-lt-suc b))
        ∙ ap (gcd (suc k * suc b)) (mul-mod-mul (suc k) a (suc b) (zero-lt-suc k))
        ∙ go n (suc b) (a % suc b) (omega arith) ∙ ap (λ (g : ℕ). suc k * g) (sym (gcd-suc a b))

-- ---- lcm

pub lcm_right : (a b : ℕ) → b ∣ lcm a b
unfolding lcm
lcm_right a b = dvd-mul_left b (a / gcd a b)

lcm-other : (a b : ℕ) → lcm a b ≡ a * (b / gcd a b)
unfolding lcm
lcm-other a b =
    ap (λ (c : ℕ). a / gcd a b * c) (sym (mul-div_cancel' (gcd a b) (gcd_right a b)))
    ∙ sym (mul_assoc (a / gcd a b) (gcd a b) (b / gcd a b))
    ∙ ap (λ (c : ℕ). c * (b / gcd a b)) (div-mul_cancel (gcd a b) (gcd-left a b))

pub lcm-left : (a b : ℕ) → a ∣ lcm a b
lcm-left a b = rw (lcm-other a b) (dvd-mul_right a (b / gcd a b))

pub lcm-mul-gcd : (a b : ℕ) → lcm a b * gcd a b ≡ a * b
lcm-mul-gcd a b =
    rw (lcm-other a b) (mul_assoc a (b / gcd a b) (gcd a b) ∙ ap (λ (c : ℕ). a * c) (div-mul_cancel (gcd a b) (gcd_right a b)))

pub lcm-least : (a b m : ℕ) → a ∣ m → b ∣ m → lcm a b ∣ m
lcm-least a b m p q = by_case (eq-zero-or-pos (gcd a b))
  where
    product : lcm a b * gcd a b ∣ m * gcd a b
    product =
        let ba : a * b ∣ m * a = rw (mul_comm m a) (mul-dvd-mul_left b a q) in
        rw (lcm-mul-gcd a b, ← gcd-mul m a b) (gcd-greatest (m * a) (m * b) (a * b) ba (mul-dvd-mul_right a p b))

    by_case : (gcd a b ≡ 0) ⊎ (0 < gcd a b) → lcm a b ∣ m
    by_case (inl z) =
        let a₀ : a ≡ 0 = eq-zero_of_zero-dvd (rw z at (gcd-left a b)) in
        let m₀ : m ≡ 0 = eq-zero_of_zero-dvd (rw a₀ at p) in
        rw m₀ (dvd-zero (lcm a b))
    by_case (inr h) = dvd_of_mul-dvd-mul_right (lcm a b) h product

pub lcm_unique : (a b l : ℕ) → a ∣ l → b ∣ l → ((m : ℕ) → a ∣ m → b ∣ m → l ∣ m) → l ≡ lcm a b
lcm_unique a b l p q h = dvd_antisymm (h (lcm a b) (lcm-left a b) (lcm_right a b)) (lcm-least a b l p q)

-- a number is a multiple of the lcm exactly when it is one of both
pub lcm-divides : (a b m : ℕ) → divides (lcm a b) m ≡ (divides a m && divides b m)
lcm-divides a b m =
    by_same (by_divides (lcm a b) m) (by_and (by_divides a m) (by_divides b m))
    (λ h. (dvd_trans a (lcm-left a b) h, dvd_trans b (lcm_right a b) h))
    (λ h. lcm-least a b m h.0 h.1)

-- a number divides the gcd exactly when it divides both
pub divides-gcd : (d a b : ℕ) → divides d (gcd a b) ≡ (divides d a && divides d b)
divides-gcd d a b =
    by_same (by_divides d (gcd a b)) (by_and (by_divides d a) (by_divides d b))
    (λ h. (dvd_trans d h (gcd-left a b), dvd_trans d h (gcd_right a b)))
    (λ h. gcd-greatest a b d h.0 h.1)

-- ---- rounding up

pub ceil-enough : (a b : ℕ) → 0 < b → a ≤ ceil a b * b
unfolding ceil
ceil-enough a b h =
    let l : a + (b - 1) < (a + (b - 1)) / b * b + b = lt-div-mul-add h in
    omega arith

pub ceil_tight : (a b : ℕ) → 0 < b → ceil a b * b < a + b
unfolding ceil
ceil_tight a b h =
    let l : (a + (b - 1)) / b * b ≤ a + (b - 1) = div-mul-le_self (a + (b - 1)) b in
    omega arith

pub ceil-least : (a b k : ℕ) → a ≤ k * b → ceil a b ≤ k
unfolding ceil
ceil-least a b k h = by_case (eq-zero-or-pos b)
  where
    by_case : (b ≡ 0) ⊎ (0 < b) → (a + (b - 1)) / b ≤ k
    by_case (inl z) = rw (z, div-zero) (omega arith)
    by_case (inr w) =
        let e : suc k * b ≡ k * b + b = suc-mul k b in
        le_of_suc-le-suc ((div-lt_iff_lt-mul w).1 (rw e (omega arith)))

pub up-enough : (r x : ℕ) → 0 < r → x ≤ up r x
unfolding up
up-enough r x h = ceil-enough x r h

pub up_tight : (r x : ℕ) → 0 < r → up r x < x + r
unfolding up
up_tight r x h = ceil_tight x r h

-- ---- rounding down

pub down-multiple : (r x : ℕ) → r ∣ down r x
unfolding down
down-multiple r x = dvd-mul_left r (x / r)

pub down-below : (r x : ℕ) → down r x ≤ x
unfolding down
down-below r x = div-mul-le_self x r

pub down-greatest : (r x m : ℕ) → r ∣ m → m ≤ x → m ≤ down r x
unfolding down
down-greatest r x m d h = by_case (eq-zero-or-pos r)
  where
    by_case : (r ≡ 0) ⊎ (0 < r) → m ≤ x / r * r
    by_case (inl z) =
        let m₀ : m ≡ 0 = eq-zero_of_zero-dvd (rw z at d) in
        omega arith
    by_case (inr w) =
        let e : m / r * r ≡ m = div-mul_cancel r d in
        let q : m / r ≤ x / r = (le-div_iff_mul-le w).1 (omega arith) in
        let l : m / r * r ≤ x / r * r = mul-le-mul_right r q in
        omega arith
