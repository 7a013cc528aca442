-- The ways out of printing a plan, by what measuring its lines said.
use mathlib.Core.Path.{◌≡◌, refl}
use mathlib.Core.List.{List, []}
use native.Mathlib.Omega.{arith}
use borrow.Author.Tests.{le-leb, lt-leb}
use lib.ListN.{length}
use Prim.Native.Nat.{ℕ, ◌≤◌, ◌<◌}
use Rattle.laws.specs.Res.{Res, ok, refuse}
use Rattle.text.specs.Text.{is_short}
use Rattle.units.specs.declared.Offset.{Offset}
use Rattle.planwords.specs.PlanText.{plan_text}
use Rattle.std.specs.Prelude.{Result, Ok, Err}
use Rattle.planwriter.specs.declared.Unprinted.{Unprinted}
use Rattle.planwriter.specs.declared.Unprinted.TheVariants.{Refused, Needs, TooLong}
use Rattle.planwriter.specs.Printing.{MayPut, left_by, left_of, lines_for, lines_left, offset, printing_for, printing_of}

-- what printing says and leaves
abbrev pub Prints : List ℕ → List ℕ → Result ℕ Unprinted → List ℕ → Type 0
Prints plan old said left = (said ≡ printing_for plan old) × (left ≡ left_by plan old)

pub may_none : (m : Res (List ℕ)) → MayPut m []
may_none (ok text) = tt
may_none (refuse n place) = refl

pub may-whole : (m : Res (List ℕ)) (lent : List ℕ) {lines : Result ℕ Offset} {n : ℕ} → lines ≡ lines_for m → lines ≡ Ok n → MayPut m lent
may-whole (ok text) lent e w = tt
may-whole (refuse k place) lent e w = let z : ◌≡◌ {A = ℕ} 0 1 = cc in absurd (omega arith)

-- a whole plan's lines are not those of a refused one, nor the other way round
module _ {A : Type 0} where
  whole-not : {n place : ℕ} {lines : Result ℕ Offset} → lines ≡ Err (offset place) → lines ≡ Ok n → A
  whole-not e w = let z : ◌≡◌ {A = ℕ} 0 1 = cc in absurd (omega arith)

module _ (old : List ℕ) where
  fits : (m : Res (List ℕ)) {lines : Result ℕ Offset} {n : ℕ} {left : List ℕ} → lines ≡ lines_for m → lines ≡ Ok n → n ≤ length old → left ≡ lines_left m old
      → (Ok n ≡ printing_of m old) × (left ≡ left_of m old)
  fits (ok text) {lines} {n} e w h l =
      let same : n ≡ length text = cc in
      rw (same, le-leb (length text) (length old) (rw same at h)) (refl, l)
  fits (refuse k place) e w h l = whole-not e w

  lacks : (m : Res (List ℕ)) {lines : Result ℕ Offset} {n : ℕ} → lines ≡ lines_for m → lines ≡ Ok n → length old < n
      → (Err (Needs n) ≡ printing_of m old) × (old ≡ left_of m old)
  lacks (ok text) {lines} {n} e w h =
      let same : n ≡ length text = cc in
      rw (same, lt-leb (length text) (length old) (rw same at h)) (refl, refl)
  lacks (refuse k place) e w h = whole-not e w

  refused : (m : Res (List ℕ)) {lines : Result ℕ Offset} {place : Offset} → lines ≡ lines_for m → lines ≡ Err place
      → (Err (Refused place) ≡ printing_of m old) × (old ≡ left_of m old)
  refused (ok text) e w = whole-not w e
  refused (refuse k at) {lines} {place} e w = let same : place ≡ offset at = cc in rw same (refl, refl)

module _ (plan old : List ℕ) where
  pub way_long : 65536 < length plan → Prints plan old (Err TooLong) old
  unfolding printing_for left_by is_short
  way_long h = rw (lt-leb (length plan) 65536 h) (refl, refl)

  module _ (short : length plan ≤ 65536) {lines : Result ℕ Offset} (measured : lines ≡ lines_for (plan_text plan)) where
    pub way_broken : {place : Offset} → lines ≡ Err place → Prints plan old (Err (Refused place)) old
    unfolding printing_for left_by is_short
    way_broken e = rw (le-leb (length plan) 65536 short) (refused old (plan_text plan) measured e)

    pub way_lacks : {n : ℕ} → lines ≡ Ok n → length old < n → Prints plan old (Err (Needs n)) old
    unfolding printing_for left_by is_short
    way_lacks e h = rw (le-leb (length plan) 65536 short) (lacks old (plan_text plan) measured e h)

    pub way_fits : {n : ℕ} {left : List ℕ} → lines ≡ Ok n → n ≤ length old → left ≡ lines_left (plan_text plan) old → Prints plan old (Ok n) left
    unfolding printing_for left_by is_short
    way_fits e h l = rw (le-leb (length plan) 65536 short) (fits old (plan_text plan) measured e h l)
