-- Scans over numbers from 0 on, and over the front of a list.
use mathlib.Core.Path.{◌≡◌, refl, sym, ap, ◌∙◌}
use mathlib.Core.Bool.{Bool, true, false, ◌&&◌, ◌||◌, cond}
use mathlib.Core.List.{List, [], ◌∷◌}
use Rattle.std.specs.List.{list_any, list_all}
use Rattle.std.proofs.Common.{add-one}
use native.Mathlib.Omega.{arith}
use lib.Dec.{leb}
use lib.ListN.{length, get_or, take}
use Prim.Native.Nat.{ℕ, zero, suc, ◌+◌, ◌≤◌, ◌<◌}
use Rattle.laws.specs.Lists.{any, all, up_to}
use Rattle.laws.proofs.Lists.{any_more, all_more, any-up_to_more, all-up_to_more, all-up_to-failed}
use Rattle.payloads.specs.Tests.{flag_at, message_keeps}
use Rattle.rules.specs.Plan.{Plan, the_task}

-- the first n of a list, by number or as its front
module _ {A : Type 0} (p : A → Bool) (l : List A) (d : A) where
  any_listed : (m : List A) → list_any p m ≡ any p m
  any_listed [] = refl
  any_listed (x ∷ m) = ap (λ (b : Bool). p x || b) (any_listed m)

  all_listed : (m : List A) → list_all p m ≡ all p m
  all_listed [] = refl
  all_listed (x ∷ m) = ap (λ (b : Bool). p x && b) (all_listed m)

  any_taken : (n : ℕ) → n ≤ length l → any (λ k. p (get_or l k d)) (up_to n) ≡ any p (take n l)
  any_taken zero h = refl
  any_taken (suc n) h =
      rw (add-one n)
      at (any-up_to_more (λ k. p (get_or l k d)) n ∙ ap (λ (b : Bool). b || p (get_or l n d)) (any_taken n (omega arith)) ∙ sym (any_more p l n d (omega arith)))

  all_taken : (n : ℕ) → n ≤ length l → all (λ k. p (get_or l k d)) (up_to n) ≡ all p (take n l)
  all_taken zero h = refl
  all_taken (suc n) h =
      rw (add-one n)
      at (all-up_to_more (λ k. p (get_or l k d)) n ∙ ap (λ (b : Bool). b && p (get_or l n d)) (all_taken n (omega arith)) ∙ sym (all_more p l n d (omega arith)))

  pub any_front : (n : ℕ) → n ≤ length l → any (λ k. p (get_or l k d)) (up_to n) ≡ list_any p (take n l)
  any_front n h = any_taken n h ∙ sym (any_listed (take n l))

  pub all_front : (n : ℕ) → n ≤ length l → all (λ k. p (get_or l k d)) (up_to n) ≡ list_all p (take n l)
  all_front n h = all_taken n h ∙ sym (all_listed (take n l))

module _ (p : ℕ → Bool) where
  pub all_on : (n : ℕ) → all p (up_to n) ≡ true → p n ≡ true → all p (up_to (n + 1)) ≡ true
  all_on n e f = all-up_to_more p n ∙ rw (e, f)

  pub all_here : (n k : ℕ) → k < n → p k ≡ false → false ≡ all p (up_to n)
  all_here n k h e = sym (all-up_to-failed p n k h e)

  pub all_end : (n k : ℕ) → all p (up_to k) ≡ true → k ≤ n → n ≤ k → true ≡ all p (up_to n)
  all_end n k e h w = let q : k ≡ n = omega arith in sym (ap (λ (x : ℕ). all p (up_to x)) (sym q) ∙ e)

pub message_test : (tasks : List Bool) (p : Plan) (t size : ℕ) (r : Bool) → size ≡ (the_task p t).size → r ≡ cond (get_or tasks t false) (leb size p.bus.most) true
    → message_keeps tasks p t ≡ r
unfolding message_keeps flag_at
message_test tasks p t size r q e = sym (rw q at e)
