-- What stands in an array that was just filled, and the values that were taken as the rules say it.
use mathlib.Core.Path.{◌≡◌, refl, ap, ◌∙◌}
use mathlib.Core.Bool.{Bool, true, false, cond}
use mathlib.Core.List.{List}
use lib.ListN.{length, get_or, get_or-eq_default}
use Prim.Native.Nat.{ℕ, ◌≤◌}
use native.Mathlib.Omega.{arith}
use Rattle.laws.specs.Loops.{stores}
use Rattle.laws.proofs.Stores.{stores_same, stores-read}
use Rattle.places.specs.Flags.{flag_at}
use Rattle.std.proofs.Math.Option
use Rattle.stationruns.specs.Inputs.{given_if}
use Rattle.stationsteps.specs.Steps.{out_rule, mode_rule, taken_rule}

taken : (flag : Bool) (value old : ℕ) → cond flag value old ≡ Option.get_or (given_if flag value) old
taken true value old = refl
taken false value old = refl

pub all-taken : (values given old : List ℕ) (n : ℕ) {now : List ℕ} → length old ≡ n → now ≡ stores old (taken_rule values given old 0) (length old)
    → now ≡ stores old (out_rule values given old) n
all-taken values given old n size e =
    rw size at e
    ∙ stores_same old (taken_rule values given old 0) (out_rule values given old) n
    (λ k w. taken (flag_at given k) (get_or values k 0) (get_or old k 0))

-- An array that was just filled, read at any place: behind it nothing is given.
pub mode-read : (modes changed running : List ℕ) {now : List ℕ} → length changed ≡ 16 → length running ≡ 16
    → now ≡ stores running (mode_rule modes changed running) 16 → (m : ℕ) → get_or now m 0 ≡ mode_rule modes changed running m
mode-read modes changed running sized size e m =
    ap (λ l. get_or l m 0) e ∙ stores-read running (mode_rule modes changed running) 16 m 0 size beyond
  where
    beyond : 16 ≤ m → mode_rule modes changed running m ≡ 0
    beyond w =
        let u : length changed ≤ m = omega arith in
        let v : length running ≤ m = omega arith in
        rw (get_or-eq_default changed 0 u) (get_or-eq_default running 0 v)

pub out-read : (results given out : List ℕ) {now : List ℕ} → length given ≡ 32 → length out ≡ 32
    → now ≡ stores out (out_rule results given out) 32 → (t : ℕ) → get_or now t 0 ≡ out_rule results given out t
out-read results given out sized size e t =
    ap (λ l. get_or l t 0) e ∙ stores-read out (out_rule results given out) 32 t 0 size beyond
  where
    beyond : 32 ≤ t → out_rule results given out t ≡ 0
    beyond w =
        let u : length given ≤ t = omega arith in
        let v : length out ≤ t = omega arith in
        rw (get_or-eq_default given 0 u) (get_or-eq_default out 0 v)
