-- Bounds of roundings that hold for every divisor, 0 included, which keep a machine's sums and products from wrapping; tables of a
-- fixed width, filled and stored into.
use mathlib.Core.Path.{◌≡◌, sym, ap, ◌∙◌}
use mathlib.Core.Logic.{◌⊎◌, inl, inr}
use native.Mathlib.Nat.{zero-add, eq-zero-or-pos, div-zero, mul-zero, le_trans, le-mul_of_pos_right, mul-le-mul_right}
use native.Mathlib.Omega.{arith}
use Prim.Native.Nat.{ℕ, ◌+◌, ◌*◌, ◌≤◌, ◌<◌}
use mathlib.Core.List.{List}
use native.Mathlib.Decide.{ℕ_discrete, dec_le}
use lib.ListN.{length, get_or, set, replicate, length-set, length-replicate, get_or-replicate}
use lib.Seq.{ext_get_or, get_or-set_same, get_or-set_other}
use Rattle.laws.specs.Lists.{tab}
use Rattle.laws.specs.Loops.{stores}
use Rattle.laws.proofs.Lists.{length-tab, get_or-tab}
use Rattle.laws.proofs.Loops.{length-stores, stores_at, stores_beyond}
use Rattle.laws.specs.Numbers.{ceil, up}
use Rattle.laws.proofs.Divisors.{ceil-enough, ceil-least, ceil_tight}

pub ceil_by_zero : (a : ℕ) → ceil a 0 ≡ 0
unfolding ceil
ceil_by_zero a = div-zero _

pub ceil-le : (a b : ℕ) → ceil a b ≤ a
ceil-le a b = by_case (eq-zero-or-pos b)
  where
    by_case : (b ≡ 0) ⊎ (0 < b) → ceil a b ≤ a
    by_case (inl z) = rw (z, ceil_by_zero) (omega arith)
    by_case (inr w) = ceil-least a b a (le-mul_of_pos_right a w)

pub up_le : (r x : ℕ) → up r x ≤ x + r
unfolding up
up_le r x = by_case (eq-zero-or-pos r)
  where
    by_case : (r ≡ 0) ⊎ (0 < r) → ceil x r * r ≤ x + r
    by_case (inl z) = rw (z, mul-zero) (omega arith)
    by_case (inr w) = let t : ceil x r * r < x + r = ceil_tight x r w in omega arith

-- what is rounded up does not fall when it grows
pub ceil_rises : (a c b : ℕ) → a ≤ c → ceil a b ≤ ceil c b
ceil_rises a c b h = by_case (eq-zero-or-pos b)
  where
    by_case : (b ≡ 0) ⊎ (0 < b) → ceil a b ≤ ceil c b
    by_case (inl z) = rw (z, ceil_by_zero) (omega arith)
    by_case (inr w) = ceil-least a b (ceil c b) (le_trans h (ceil-enough c b w))

pub up_rises : (r x y : ℕ) → x ≤ y → up r x ≤ up r y
unfolding up
up_rises r x y h = mul-le-mul_right r (ceil_rises x y r h)

-- ---- the table f 0, .., f (w - 1)

module _ {A : Type 0} (w : ℕ) where
  pub table_at : (f : ℕ → A) (k : ℕ) (d : A) → k < w → get_or (tab f 0 w) k d ≡ f k
  table_at f k d h = get_or-tab f 0 w k d h ∙ ap f (zero-add k)

  -- a list of w elements that holds f's values
  pub is-table : (f : ℕ → A) (l : List A) → length l ≡ w → ((k : ℕ) → k < w → get_or l k (f 0) ≡ f k) → l ≡ tab f 0 w
  is-table f l e h =
      ext_get_or (f 0) l (tab f 0 w) (e ∙ sym (length-tab f 0 w))
      (λ k v. let u : k < w = rw e at v in h k u ∙ sym (table_at f k (f 0) u))

  pub table_alike : (f : ℕ → A) (z : A) → ((k : ℕ) → f k ≡ z) → replicate w z ≡ tab f 0 w
  table_alike f z h = is-table f (replicate w z) (length-replicate w z) (λ k v. get_or-replicate w k z (f 0) v ∙ sym (h k))

  -- one store at k
  pub table-stored : (f g : ℕ → A) (k : ℕ) (v : A) → ((j : ℕ) → (j ≡ k → ⊥) → g j ≡ f j) → v ≡ g k → set (tab f 0 w) k v ≡ tab g 0 w
  table-stored f g k v other here =
      is-table g (set (tab f 0 w) k v) (length-set (tab f 0 w) k v ∙ length-tab f 0 w) (λ j h. place j h (ℕ_discrete j k))
    where
      place : (j : ℕ) → j < w → Dec (j ≡ k) → get_or (set (tab f 0 w) k v) j (g 0) ≡ g j
      place j h (yes e) =
          let u : k < length (tab f 0 w) = rw (length-tab f 0 w, ← e) h in
          rw e (get_or-set_same (tab f 0 w) k v (g 0) u ∙ here)
      place j h (no n) = get_or-set_other (tab f 0 w) k j v (g 0) n ∙ table_at f j (g 0) h ∙ sym (other j n)

  -- filled from the front as far as the rule does not say z
  pub table_filled : (f : ℕ → A) (z : A) (n : ℕ) → n ≤ w → ((k : ℕ) → n ≤ k → k < w → f k ≡ z) → stores (replicate w z) f n ≡ tab f 0 w
  table_filled f z n h behind =
      is-table f (stores old f n) (length-stores old f n ∙ length-replicate w z) (λ k v. place k v (front k))
    where
      old : List A
      old = replicate w z

      front : (k : ℕ) → (k < n) ⊎ (n ≤ k)
      front k = by_order (dec_le n k)
        where
          by_order : Dec (n ≤ k) → (k < n) ⊎ (n ≤ k)
          by_order (yes u) = inr u
          by_order (no u) = inl (omega arith)

      place : (k : ℕ) → k < w → (k < n) ⊎ (n ≤ k) → get_or (stores old f n) k (f 0) ≡ f k
      place k v (inl u) = stores_at old f n k (f 0) u (rw (length-replicate w z) h)
      place k v (inr u) = stores_beyond old f n k (f 0) u ∙ get_or-replicate w k z (f 0) v ∙ sym (behind k u v)
