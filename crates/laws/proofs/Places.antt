-- Places: where a member of a list stands, and members of lists that are joined or made by tab.
use mathlib.Core.Path.{◌≡◌, sym, subst}
use mathlib.Core.List.Memᴰ
use mathlib.Core.List.{List, ◌∷◌, Memᴰ}
use native.Mathlib.Omega.{arith}
use lib.ListN.{length, get_or}
use Prim.Native.Nat.{ℕ, zero, suc, ◌+◌, ◌≤◌, ◌<◌, zero-le, suc-le-suc}
use Rattle.laws.specs.Lists.{joined, tab}
use Rattle.laws.proofs.Members.{Pairs, alone, before, all-tab}

module _ {A : Type 0} where
  pub record Place (l : List A) (d x : A) : Type 0 where
    pub at : ℕ
    pub within : at < length l
    pub is : get_or l at d ≡ x

  pub member_place : {x : A} {l : List A} (d : A) → Memᴰ x l → Place l d x
  member_place d (Memᴰ.head e) = record { at = 0; within = suc-le-suc zero-le; is = sym e }
  member_place d (Memᴰ.tail m) =
      let r = member_place d m in
      record { at = suc r.at; within = suc-le-suc r.within; is = r.is }

  pub member_some : {x : A} {l : List A} → Memᴰ x l → 0 < length l
  member_some (Memᴰ.head e) = suc-le-suc zero-le
  member_some (Memᴰ.tail m) = suc-le-suc zero-le

  pub member_joined : {x : A} {l : List A} (ls : List (List A)) → Memᴰ x l → Memᴰ l ls → Memᴰ x (joined ls)
  member_joined {x} (m ∷ ls) i (Memᴰ.head e) = Memᴰ.append_left (joined ls) (subst (Memᴰ x) e i)
  member_joined (m ∷ ls) i (Memᴰ.tail j) = Memᴰ.append_right m (member_joined ls i j)
  member_joined {x = x} {l = l} mathlib.Core.List.[] i x3 = elim x3 [ ]

  pub pairs-tab : {R : A → A → Type 0} (f : ℕ → A) (lo n : ℕ) → ((j k : ℕ) → lo ≤ j → j < k → k < lo + n → R (f j) (f k)) → Pairs R (tab f lo n)
  pairs-tab f lo zero h = alone
  pairs-tab f lo (suc n) h =
      before (all-tab f (suc lo) n (λ k a b. h lo k (omega arith) (omega arith) (omega arith)))
      (pairs-tab f (suc lo) n (λ j k a b c. h j k (omega arith) b (omega arith)))
