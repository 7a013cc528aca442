-- Tables by number: what a place holds, and what one store makes of a table.
use mathlib.Core.Path.{◌≡◌, ap, ◌∙◌}
use mathlib.Core.Bool.{Bool, false}
use mathlib.Core.List.{List}
use lib.ListN.{length, get_or, set, replicate, get_or-eq_default}
use Prim.Native.Nat.{ℕ, ◌≤◌, ◌<◌}
use Rattle.laws.specs.Loops.{stores}
use Rattle.laws.proofs.Bus.{table_at, table_alike, table-stored, table_filled}
use Rattle.bus.specs.Senders.{by_number}

module _ {A : Type 0} where
  pub at-number : (f : ℕ → A) (k : ℕ) (d : A) → k < 256 → get_or (by_number f) k d ≡ f k
  unfolding by_number
  at-number f k d h = table_at 256 f k d h

  pub all_alike : (f : ℕ → A) (z : A) → ((k : ℕ) → f k ≡ z) → replicate 256 z ≡ by_number f
  unfolding by_number
  all_alike f z h = table_alike 256 f z h

  pub stored : (f g : ℕ → A) (k : ℕ) (v : A) → ((j : ℕ) → (j ≡ k → ⊥) → g j ≡ f j) → v ≡ g k → set (by_number f) k v ≡ by_number g
  unfolding by_number
  stored f g k v other here = table-stored 256 f g k v other here

  pub filled : (f : ℕ → A) (z : A) (n : ℕ) → n ≤ 256 → ((k : ℕ) → n ≤ k → k < 256 → f k ≡ z) → stores (replicate 256 z) f n ≡ by_number f
  unfolding by_number
  filled f z n w behind = table_filled 256 f z n w behind

-- a number of each thing of a list; what behind them stands for nothing has zero there
pub filled_of : {B : Type 0} (number : B → ℕ) (l : List B) (nothing : B) → number nothing ≡ 0 → length l ≤ 256 → stores (replicate 256 0) (λ k. number (get_or l k nothing)) (length l) ≡ by_number (λ k. number (get_or l k nothing))
filled_of number l nothing e w =
    filled (λ k. number (get_or l k nothing)) 0 (length l) w (λ k h v. ap number (get_or-eq_default l nothing h) ∙ e)

-- nothing was marked before
abbrev pub no_mark : ℕ → Bool
no_mark k = false
