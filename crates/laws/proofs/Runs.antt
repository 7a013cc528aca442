-- Runs: an age counted in runs of one length T. The run's age is 1 to T; a run ends where T divides the age; ages that differ by a
-- multiple of T have the same run's age.
use mathlib.Core.Path.{◌≡◌, sym, ap, ◌∙◌}
use mathlib.Core.Logic.{◌⊎◌, inl, inr}
use native.Mathlib.Nat.{mod-lt, mod-eq_of_lt, mod_self, mod-add-div, suc-mod, zero-mod, eq-or-lt_of_le, mod-eq-zero_of_dvd, dvd_of_mod-eq-zero, mul-div_cancel', add-mul-mod_self_left, lt_of_mul-lt-mul_left, mul-suc, dvd-mul_right}
use native.Mathlib.Omega.{arith}
use Prim.Native.Nat.{ℕ, suc, ◌+◌, ◌*◌, ◌-◌, ◌/◌, ◌%◌, ◌≤◌, ◌<◌, ◌∣◌}

-- the age within the run, of an age from 1 on
abbrev pub within_run : ℕ → ℕ → ℕ
within_run age T = (age - 1) % T + 1

module _ (T a : ℕ) (pos : 0 < T) where
  pub run-most : within_run a T ≤ T
  run-most = omega (arith, mod-lt (a - 1) pos)

  -- the age's remainder is the run's age, but for the last tick of a run
  next_case : {C : Type 0} → 0 < a → (within_run a T < T → a % T ≡ within_run a T → C) → (within_run a T ≡ T → a % T ≡ 0 → C) → C
  next_case {C} h inside last = which (eq-or-lt_of_le run-most)
    where
      next : a % T ≡ suc ((a - 1) % T) % T
      next = let e : suc (a - 1) ≡ a = omega arith in rw e at (suc-mod (a - 1) T)

      which : (within_run a T ≡ T) ⊎ (within_run a T < T) → C
      which (inl e) =
          let f : suc ((a - 1) % T) ≡ T = omega arith in
          last e (next ∙ ap (λ (x : ℕ). x % T) f ∙ mod_self T)
      which (inr l) =
          let f : suc ((a - 1) % T) < T = omega arith in
          let g : suc ((a - 1) % T) % T ≡ suc ((a - 1) % T) = mod-eq_of_lt f in
          inside l (omega (arith, next))

  -- a run ends where its length divides the age
  pub run_ends_lem : 0 < a → T ∣ a → within_run a T ≡ T
  run_ends_lem h d =
      let z : a % T ≡ 0 = mod-eq-zero_of_dvd T d in
      next_case h (λ l e. absurd (omega arith)) (λ e f. e)

  -- one tick on: a run goes on, or the next begins
  pub run_goes : 0 < a → (T ∣ a → ⊥) → within_run (a + 1) T ≡ within_run a T + 1
  run_goes h d =
      let e : a + 1 - 1 ≡ a = omega arith in
      rw e (next_case h (λ l f. omega arith) (λ f g. absurd (d (dvd_of_mod-eq-zero T g))))

  pub run_anew : T ∣ a → within_run (a + 1) T ≡ 1
  run_anew d =
      let e : a + 1 - 1 ≡ a = omega arith in
      let z : a % T ≡ 0 = mod-eq-zero_of_dvd T d in
      rw e (omega arith)

pub run-first : (T : ℕ) → within_run 1 T ≡ 1
run-first T = omega (arith, zero-mod T)

-- ---- two ages that differ by a multiple

pub same_remainder : (T a c : ℕ) → c ≤ a → T ∣ a - c → a % T ≡ c % T
same_remainder T a c h d =
    let e : T * ((a - c) / T) ≡ a - c = mul-div_cancel' T d in
    let f : c + T * ((a - c) / T) ≡ a = omega arith in
    rw f at (add-mul-mod_self_left c T ((a - c) / T))

pub same-multiple : (T a c : ℕ) → c ≤ a → T ∣ a - c → T ∣ a → T ∣ c
same-multiple T a c h d k = dvd_of_mod-eq-zero T (sym (same_remainder T a c h d) ∙ mod-eq-zero_of_dvd T k)

pub multiple-same : (T a c : ℕ) → c ≤ a → T ∣ a - c → T ∣ c → T ∣ a
multiple-same T a c h d k = dvd_of_mod-eq-zero T (same_remainder T a c h d ∙ mod-eq-zero_of_dvd T k)

pub same-run : (T a c : ℕ) → 0 < c → c ≤ a → T ∣ a - c → within_run a T ≡ within_run c T
same-run T a c p h d =
    let e : a - 1 - (c - 1) ≡ a - c = omega arith in
    ap (λ (x : ℕ). x + 1) (same_remainder T (a - 1) (c - 1) (omega arith) (rw e d))

-- ---- the multiple at which the run under way ends

pub run-deadline : (T c d : ℕ) → 0 < T → 0 < c → T ∣ d → c ≤ d → d < c + T → within_run c T + d ≡ c + T
run-deadline T c d pos h k l u =
    let q = (c - 1) / T in
    let e = d / T in
    let f : (c - 1) % T + T * q ≡ c - 1 = mod-add-div (c - 1) T in
    let g : T * e ≡ d = mul-div_cancel' T k in
    let m : (c - 1) % T < T = mod-lt (c - 1) pos in
    let s : T * suc q ≡ T * q + T = mul-suc T q in
    let s₂ : T * suc (suc q) ≡ T * suc q + T = mul-suc T (suc q) in
    let low : q < e = lt_of_mul-lt-mul_left T (omega arith) in
    let high : e < suc (suc q) = lt_of_mul-lt-mul_left T (omega arith) in
    let same : e ≡ suc q = omega arith in
    let z : T * e ≡ T * suc q = ap (λ (x : ℕ). T * x) same in
    omega arith

-- ---- where the run under way began

-- an age r ticks behind a whole number of runs, r from 1 to T
pub run-behind : (T q r : ℕ) → 0 < r → r ≤ T → T ∣ q → within_run (q + r) T ≡ r
run-behind T q r pos most d =
    let e : q + r - 1 - (r - 1) ≡ q = omega arith in
    let f : (q + r - 1) % T ≡ (r - 1) % T = same_remainder T (q + r - 1) (r - 1) (omega arith) (rw e d) in
    let g : (r - 1) % T ≡ r - 1 = mod-eq_of_lt (omega arith) in
    omega arith

-- the run began a whole number of runs after the age did
pub run-began : (T a : ℕ) → 0 < a → (within_run a T ≤ a) × (T ∣ a - within_run a T)
run-began T a pos =
    let f : (a - 1) % T + T * ((a - 1) / T) ≡ a - 1 = mod-add-div (a - 1) T in
    let e : a - within_run a T ≡ T * ((a - 1) / T) = omega arith in
    (omega arith, rw e (dvd-mul_right T ((a - 1) / T)))
