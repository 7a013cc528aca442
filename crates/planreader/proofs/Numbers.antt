-- The bytes of a number, one after the other.
use mathlib.Core.Path.{◌≡◌, refl, ap, ◌∙◌}
use mathlib.Core.List.{List}
use native.Mathlib.Numerals.{add-one}
use native.Mathlib.Omega.{arith}
use lib.ListN.{length}
use lib.Seq.{sets, length-sets}
use Prim.Native.Nat.{ℕ, zero, suc, ◌+◌, ◌-◌, ◌/◌, ◌%◌, ◌≤◌, ◌<◌}
use Rattle.laws.specs.Numbers.{bytes}
use Rattle.laws.proofs.Little.{length-bytes}
use Rattle.text.proofs.Putting.{Put}

-- what is stored, and the bytes left of the number, are all its bytes
pub record Laying (old : List ℕ) (at wide n : ℕ) (out : List ℕ) (rest left end : ℕ) : Type 0 where
  pub run : sets out end (bytes left rest) ≡ sets old at (bytes wide n)
  pub place : end + left ≡ at + wide
  pub few : wide ≤ 255
  pub long : length out ≡ length old

module _ {old : List ℕ} {at wide n : ℕ} {out : List ℕ} {rest left end : ℕ} (l : Laying old at wide n out rest left end) where
  pub laying_turn : {out' : List ℕ} → 0 < left → out' ≡ sets out end (bytes 1 (rest % 256)) → Laying old at wide n out' (rest / 256) (left - 1) (end + 1)
  laying_turn {out'} h e = go left refl
    where
      go : (k : ℕ) → left ≡ k → Laying old at wide n out' (rest / 256) (k - 1) (end + 1)
      go zero q = absurd (omega arith)
      go (suc k) q =
          let same : rest % 256 % 256 ≡ rest % 256 = omega arith in
          let less : suc k - 1 ≡ k = omega arith in
          let whole = l.run in
          record {
            run = rw (less, e, same, add-one end) (rw q at whole);
            place = let p = l.place in omega arith;
            few = l.few;
            long = ap length e ∙ length-sets out end (bytes 1 (rest % 256)) ∙ l.long;
          }

  pub laying_end : left ≤ 0 → Put old at (bytes wide n) out end × (end ≤ at + 255)
  laying_end h = go left refl
    where
      go : (k : ℕ) → left ≡ k → Put old at (bytes wide n) out end × (end ≤ at + 255)
      go zero q =
          let whole = l.run in
          let none : left ≡ 0 = q in
          ((rw q at whole, omega (arith, l.place, length-bytes wide n)), omega (arith, l.place, l.few))
      go (suc k) q = absurd (omega arith)
