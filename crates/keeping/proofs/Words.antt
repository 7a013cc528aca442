-- The word of a pair's modes, built from its last bit down to its first.
use mathlib.Core.Path.{◌≡◌, refl}
use mathlib.Core.Bool.{Bool, true, false, cond}
use native.Mathlib.Nat.{pow-suc, lt_of_lt_of_le}
use native.Mathlib.Omega.{arith}
use lib.Dec.{lit<}
use lib.Pow.{pow_mono}
use Prim.Native.Nat.{ℕ, suc, ◌+◌, ◌*◌, ◌-◌, ◌^◌, ◌≤◌, ◌<◌}
use Rattle.places.specs.Bits.{bits_from, bits_of}

-- the bits of the places from `left` on
pub record Built (test : ℕ → Bool) (left bits : ℕ) : Type 0 where
  pub few : left ≤ 32
  pub is : bits ≡ bits_from test left (32 - left)
  pub small : bits < 2 ^ (32 - left)

bit_small : (b : Bool) → cond b 1 0 < 2
bit_small true = lit< tt
bit_small false = lit< tt

module _ {test : ℕ → Bool} where
  pub built_none : Built test 32 0
  built_none = record { few = omega arith; is = refl; small = lit< tt }

  -- there is room for one more
  pub built_room : {left bits : ℕ} → Built test left bits → 0 < left → bits < 2 ^ 31
  built_room {left} b w =
      let few : 32 - left ≤ 31 = omega arith in
      lt_of_lt_of_le b.small (pow_mono few)

  pub built_turn : {left bits r : ℕ} {set : Bool} → Built test left bits → 0 < left → set ≡ test (left - 1) → r ≡ cond set 1 0 + 2 * bits
      → Built test (left - 1) r
  built_turn {left} {bits} {r} {set} b w h e =
      let next : 32 - (left - 1) ≡ suc (32 - left) = omega (arith, b.few) in
      let same : suc (left - 1) ≡ left = omega arith in
      record {
        few = omega (arith, b.few);
        is = rw (next, same, e, h, b.is);
        small = rw (next, pow-suc 2 (32 - left), e) (omega (arith, b.small, bit_small set));
      }

  pub built_all : {left bits : ℕ} → Built test left bits → left ≤ 0 → bits ≡ bits_of test 32
  unfolding bits_of
  built_all {left} b w =
      let none : left ≡ 0 = omega arith in
      rw none at b.is
