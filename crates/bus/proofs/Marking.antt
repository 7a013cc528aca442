-- What one more thing makes of a table by number, a mark or what it gives; what such a table is in the end.
use mathlib.Core.Path.{◌≡◌, refl, sym, ap, ap₂, subst, ◌∙◌}
use mathlib.Core.Bool.{Bool, true, false, ◌||◌, ◌&&◌}
use mathlib.Core.List.{List, [], ◌∷◌, ◌++◌, map}
use Rattle.std.specs.Prelude.{Option, Some, None}
use Rattle.std.specs.Bool.{then_some}
use borrow.Author.Tests.{eq-eqb, ne_eqb, eqb-true}
use native.Mathlib.Decide.{ℕ_discrete}
use lib.Dec.{eqb}
use lib.ListN.{length, get_or, set, take, replicate, length-set, length-map}
use lib.Seq.{get_or-set_same, get_or-set_other, take_all, ext_get_or}
use native.Mathlib.Nat.{not-suc-le-zero, le_of_suc-le-suc}
use Prim.Native.Nat.{ℕ, zero, suc, ◌+◌, ◌≤◌, ◌<◌}
use Rattle.laws.specs.Lists.{any, tab}
use Rattle.laws.specs.Loops.{stores}
use Rattle.laws.proofs.Lists.{take_more, any_snoc, or-false, and-true, length-tab}
use Rattle.laws.proofs.Bus.{table_at}
use Rattle.bus.specs.Senders.{by_number}
use Rattle.bus.specs.Tables.{is_mark, Gives, Marks, IsMarked}
use Rattle.bus.proofs.Tables.{at-number, filled_of}

pub or-true : (b : Bool) → (b || true) ≡ true
or-true true = refl
or-true false = refl

pub and-false : (b : Bool) → (b && false) ≡ false
and-false true = refl
and-false false = refl

pub or-again : (a b c : Bool) → (a || (b || c)) ≡ ((a || b) || c)
or-again true b c = refl
or-again false b c = refl

-- a thing that marks its number where the test holds
pub mark_if : (b : Bool) (n k : ℕ) → (eqb n k && b) ≡ is_mark (then_some b n) k
mark_if true n k = and-true (eqb n k)
mark_if false n k = and-false (eqb n k)

pub if_mark : (b : Bool) (n k : ℕ) → (b && eqb n k) ≡ is_mark (then_some b n) k
if_mark true n k = refl
if_mark false n k = refl

-- of what is asked of a number, only the number that may be marked passes
pub mark_where : (v b : Bool) (n k : ℕ) → (k ≡ n → v ≡ b) → (eqb n k ≡ false → v ≡ false) → v ≡ is_mark (then_some b n) k
mark_where v b n k same other = go (eqb n k) refl ∙ mark_if b n k
  where
    go : (t : Bool) → eqb n k ≡ t → v ≡ (eqb n k && b)
    go true e = rw e (same (sym (eqb-true n k e)))
    go false e = rw e (other e)

module _ {A : Type 0} where
  module _ (test : A → ℕ → Bool) (old : List Bool) where
    pub marked-none : IsMarked test old [] old
    marked-none = record { places = refl; at = λ k h. sym (or-false (get_or old k false)) }

    module _ {done : List A} {new : List Bool} (h : IsMarked test old done new) (x : A) where
      marked-not : ((k : ℕ) → test x k ≡ false) → IsMarked test old (done ++ (x ∷ [])) new
      marked-not t = record { places = h.places; at = λ k w. h.at k w ∙ rw (any_snoc (λ x. test x k) done x, t k, or-false (any (λ x. test x k) done)) }

      marked-also : (n : ℕ) → n < length old → ((k : ℕ) → test x k ≡ eqb n k) → IsMarked test old (done ++ (x ∷ [])) (set new n true)
      marked-also n s t = record { places = length-set new n true ∙ h.places; at = λ k w. here k w (ℕ_discrete k n) }
        where
          here : (k : ℕ) → k < length old → Dec (k ≡ n) → get_or (set new n true) k false ≡ (get_or old k false || any (λ x. test x k) (done ++ (x ∷ [])))
          here k w (yes e) =
              rw (e, any_snoc (λ x. test x n) done x, t n, eq-eqb n n refl, or-true (any (λ x. test x n) done), or-true (get_or old n false))
              (get_or-set_same new n true false (rw h.places s))
          here k w (no d) =
              get_or-set_other new n k true false d ∙ h.at k w
              ∙ rw (any_snoc (λ x. test x k) done x, t k, ne_eqb n k (λ e. d (sym e)), or-false (any (λ x. test x k) done))

  -- a turn of the loop, at a thing that marks none and at one that marks number n
  module _ {R : A → Option ℕ → Type 0} {test : A → ℕ → Bool} {old new : List Bool} {things : List A} {i : ℕ} (told : Marks R test things) (w : i < length things) (h : IsMarked test old (take i things) new)
      {x : A} (e : x ≡ get_or things i x) {r : Option ℕ} (y : R x r) where
    says : (k : ℕ) → test x k ≡ is_mark r k
    says k = subst (λ z. test z k ≡ is_mark r k) (sym e) (told.told i x r w (subst (λ z. R z r) e y) k)

    one_further : take (i + 1) things ≡ take i things ++ (x ∷ [])
    one_further = take_more things i x w ∙ ap (λ (z : A). take i things ++ (z ∷ [])) (sym e)

    pub turn-none : r ≡ None → IsMarked test old (take (i + 1) things) new
    turn-none q = rw one_further (marked-not test old h x (λ k. says k ∙ ap (λ (r : Option ℕ). is_mark r k) q))

    pub turn-some : {n : ℕ} → r ≡ Some n → n < length old → IsMarked test old (take (i + 1) things) (set new n true)
    turn-some {n} q s = rw one_further (marked-also test old h x n s (λ k. says k ∙ ap (λ (r : Option ℕ). is_mark r k) q))

  pub turns_end : {test : A → ℕ → Bool} {old new : List Bool} {things : List A} {i : ℕ} → length things ≤ i → IsMarked test old (take i things) new → IsMarked test old things new
  turns_end {things = things} {i} w h = rw (take_all i things w) at h

  -- what the thing gives, as `f` has it
  pub given_at : {V : Type 0} {R : A → V → Type 0} {f : ℕ → V} {things : List A} → Gives R f things → {i : ℕ} {x : A} {v : V} → i < length things → x ≡ get_or things i x → R x v → v ≡ f i
  given_at {R = R} told {i} {x} {v} w e y = told.told i x v w (subst (λ z. R z v) e y)

  -- ---- the table by number that it comes to, of what the things are seen as

  module _ {B : Type 0} (see : A → B) (T : ℕ → B → Bool) (k : ℕ) where
    any_seen : (l : List A) → any (λ x. T k (see x)) l ≡ any (T k) (map see l)
    any_seen [] = refl
    any_seen (x ∷ l) = ap (λ (b : Bool). T k (see x) || b) (any_seen l)

  pub marked_seen : {B : Type 0} (see : A → B) (T : ℕ → B → Bool) (f : ℕ → Bool) {old new : List Bool} {things : List A} {l : List B} → map see things ≡ l → old ≡ by_number f
      → IsMarked (λ x k. T k (see x)) old things new → new ≡ by_number (λ k. f k || any (T k) l)
  unfolding by_number
  marked_seen see T f {old} {new} {things} {l} e s h =
      ext_get_or false new (tab g 0 256) (h.places ∙ long ∙ sym (length-tab g 0 256)) (λ k w. let v : k < 256 = rw (h.places ∙ long) at w in at k v ∙ sym (table_at 256 g k false v))
    where
      g : ℕ → Bool
      g k = f k || any (T k) l

      long : length old ≡ 256
      long = ap length s ∙ length-tab f 0 256

      at : (k : ℕ) → k < 256 → get_or new k false ≡ g k
      at k w =
          h.at k (rw long w)
          ∙ ap₂ (λ (a b : Bool). a || b) (ap (λ (o : List Bool). get_or o k false) s ∙ at-number f k false w) (any_seen see T k things ∙ ap (any (T k)) e)

  -- the thing behind a number, as it is seen
  pub seen_at : {B : Type 0} (see : A → B) (things : List A) {l : List B} → map see things ≡ l → (i : ℕ) (d : A) (z : B) → i < length things → get_or l i z ≡ see (get_or things i d)
  seen_at {B} see things e i d z w = rw (← e) (go things i w)
    where
      go : (xs : List A) (i : ℕ) → i < length xs → get_or (map see xs) i z ≡ see (get_or xs i d)
      go [] i h = absurd (not-suc-le-zero h)
      go (x ∷ xs) zero h = refl
      go (x ∷ xs) (suc i) h = go xs i (le_of_suc-le-suc h)

  -- a table by number of what each thing has, zeros behind
  pub filled_seen : {B : Type 0} {R : A → ℕ → Type 0} {table : List ℕ} {things : List A} {l : List B} (see : A → B) (number : B → ℕ) (nothing : B) → number nothing ≡ 0 → map see things ≡ l → length things ≤ 256
      → ((f : ℕ → ℕ) → Gives R f things → table ≡ stores (replicate 256 0) f (length things))
      → ((i : ℕ) (d : A) (v : ℕ) → i < length things → R (get_or things i d) v → v ≡ number (see (get_or things i d))) → table ≡ by_number (λ k. number (get_or l k nothing))
  filled_seen {things = things} {l} see number nothing z e w t h =
      t (λ k. number (get_or l k nothing)) (record { told = λ i d v u y. h i d v u y ∙ ap number (sym (seen_at see things e i d nothing u)) })
      ∙ rw (long) (filled_of number l nothing z (rw (← long) w))
    where
      long : length things ≡ length l
      long = sym (length-map things see) ∙ ap length e

  -- ---- tests of a list by two tests

  pub any_or : (p q : A → Bool) (l : List A) → any (λ x. p x || q x) l ≡ (any p l || any q l)
  any_or p q [] = refl
  any_or p q (x ∷ l) = ap (λ (b : Bool). (p x || q x) || b) (any_or p q l) ∙ four (p x) (q x) (any p l) (any q l)
    where
      four : (a b c d : Bool) → ((a || b) || (c || d)) ≡ ((a || c) || (b || d))
      four true b c d = refl
      four false true c d = sym (or-true c)
      four false false c d = refl

  pub any_and : (b : Bool) (p : A → Bool) (l : List A) → any (λ x. b && p x) l ≡ (b && any p l)
  any_and true p l = refl
  any_and false p [] = refl
  any_and false p (x ∷ l) = any_and false p l
