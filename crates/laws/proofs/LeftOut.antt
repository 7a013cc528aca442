-- An element that is like an earlier one; a list without some of its elements (`keep_at`): where each comes from, and what leaving them
-- out does not change.
use mathlib.Core.Path.{◌≡◌, refl, sym, ap, ◌∙◌}
use mathlib.Core.Bool.{Bool, true, false}
use mathlib.Core.List.{List, map}
use native.Mathlib.Nat.{not-suc-le-zero}
use borrow.Author.Tests.{not-false}
use native.Mathlib.Omega.{arith}
use lib.ListN.{length, get_or, take, length-map}
use lib.Seq.{length-take-le, get_or-take}
use Prim.Native.Nat.{ℕ, zero, suc, ◌≤◌, ◌<◌}
use Rattle.laws.specs.Lists.{keep, any, is_fresh, up_to, keep_at}
use Rattle.laws.proofs.Arrays.{tab_list}
use Rattle.laws.proofs.Lists.{any_hit, any-true, map-tab}
use Rattle.laws.proofs.Members.{all_weaker, all-up_to, all_keep, all_get_d, all_member, keep_all, keep-passes, keep_member, keep-from, member_map, member_tab, source, any_member, any-among, map-get_or, pairs-keep, pairs-get_or, pairs-up_to}
use Rattle.laws.proofs.Tests.{by_itself, by_same}

-- one that is not fresh: which earlier one it is like
pub not-fresh : {A : Type 0} (like : A → A → Bool) (d : A) (l : List A) (k : ℕ) → k ≤ length l → is_fresh like d l k ≡ false
    → (j : ℕ) × (j < k) × (like (get_or l k d) (get_or l j d) ≡ true)
not-fresh like d l k w e =
    let test = like (get_or l k d) in
    let f = any-true test (take k l) d (not-false (any test (take k l)) e) in
    let below : f.0 < k = rw (length-take-le k l w) at f.1 in
    (f.0, below, sym (ap test (get_or-take k l f.0 d below)) ∙ f.2)

module _ {A : Type 0} (p : ℕ → Bool) (d : A) (l : List A) where
  -- where the k-th that is kept stands in the whole list
  abbrev pub place_of : ℕ → ℕ
  place_of k = get_or (keep p (up_to (length l))) k 0

  -- all are kept
  pub keep_at-all : ((k : ℕ) → k < length l → p k ≡ true) → keep_at p d l ≡ l
  keep_at-all h =
      ap (map (λ (k : ℕ). get_or l k d)) (keep_all p (all_weaker h (all-up_to (length l))))
      ∙ map-tab (λ (k : ℕ). k) (λ (k : ℕ). get_or l k d) 0 (length l)
      ∙ tab_list (λ (k : ℕ). get_or l k d) l d (length l) refl (λ k w. refl)

  module _ (k : ℕ) (w : k < length (keep_at p d l)) where
    among : k < length (keep p (up_to (length l)))
    among = rw (length-map (keep p (up_to (length l))) (λ (i : ℕ). get_or l i d)) at w

    pub keep_at-from : get_or (keep_at p d l) k d ≡ get_or l (place_of k) d
    keep_at-from = map-get_or (λ (i : ℕ). get_or l i d) (keep p (up_to (length l))) 0 d k among

    pub place-within : place_of k < length l
    place-within = all_get_d 0 (all_keep p (all-up_to (length l))) k among

    pub place-passes : p (place_of k) ≡ true
    place-passes = all_get_d 0 (keep-passes p (up_to (length l))) k among

    pub places_rise : (j : ℕ) → j < k → place_of j < place_of k
    places_rise j v = pairs-get_or 0 (pairs-keep p (pairs-up_to (length l))) j k v among

  -- where each element that is left out, if it passes a test, stands behind another that passes it
  module _
      (q : A → Bool)
      (earlier : (k : ℕ) → k < length l → p k ≡ false → q (get_or l k d) ≡ true → (j : ℕ) × (j < k) × (q (get_or l j d) ≡ true)) where
    -- of an element that passes: it is kept, or an earlier one passes
    kept-or_earlier : (b : Bool) (k : ℕ) → k < length l → q (get_or l k d) ≡ true → p k ≡ b
        → ((j : ℕ) → j < k → q (get_or l j d) ≡ true → any q (keep_at p d l) ≡ true) → any q (keep_at p d l) ≡ true
    kept-or_earlier true k w e f sooner =
        let there = member_tab (λ (i : ℕ). i) 0 (length l) k (omega arith) (omega arith) in
        any-among q (member_map (λ (i : ℕ). get_or l i d) (keep_member p f there)) e
    kept-or_earlier false k w e f sooner = let g = earlier k w f e in sooner g.0 g.1 g.2

    kept_too : (n k : ℕ) → k < n → k < length l → q (get_or l k d) ≡ true → any q (keep_at p d l) ≡ true
    kept_too zero k v w e = absurd (not-suc-le-zero v)
    kept_too (suc n) k v w e = kept-or_earlier (p k) k w e refl (λ j u f. kept_too n j (omega arith) (omega arith) f)

    from-kept : any q (keep_at p d l) ≡ true → any q l ≡ true
    from-kept e =
        let f = any_member q (keep_at p d l) e in
        let s = source (λ (i : ℕ). get_or l i d) (keep p (up_to (length l))) f.among in
        any_hit q l s.one d (all_member (all-up_to (length l)) (keep-from p (up_to (length l)) s.among)) (ap q s.gives ∙ f.passes)

    -- some element passes exactly if some kept one does
    pub any-keep_at : any q (keep_at p d l) ≡ any q l
    any-keep_at =
        by_same (by_itself (any q (keep_at p d l))) (by_itself (any q l)) from-kept
        (λ e. let f = any-true q l d e in kept_too (suc f.0) f.0 (omega arith) f.1 f.2)
