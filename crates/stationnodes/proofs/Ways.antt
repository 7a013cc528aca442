-- A node made anew, and what was just filled read back.
use mathlib.Core.Path.{◌≡◌, ap, ◌∙◌}
use mathlib.Core.Bool.{Bool, false}
use mathlib.Core.List.{List}
use lib.ListN.{length, get_or, replicate, length-replicate}
use Prim.Native.Nat.{ℕ}
use native.Mathlib.Omega.{arith}
use Rattle.laws.specs.Loops.{stores}
use Rattle.laws.proofs.Loops.{stores_at, length-stores}
use Rattle.laws.proofs.Stores.{stores_same, stores-within, stores_anew}
use Rattle.stationbus.specs.Bus.{number_at, truth_at}
use Rattle.stationnodes.specs.Nodes.{lands_from, shown_rule}
use Rattle.stationnodes.specs.declared.Node.{Node}

-- a node made anew: what it shows is made of what has landed
pub made : {l x s y : List ℕ} → l ≡ x → s ≡ y → ◌≡◌ {A = Node} (record { landed = l; shown = s }) (record { landed = x; shown = y })
made e h = rw (h, e)

module _ (ends : List Bool) (homes nodes out held due : List ℕ) (n : ℕ) (old shown : List ℕ) where
  shows : (ℕ → ℕ) → ℕ → ℕ
  shows f = shown_rule ends homes nodes out held due n f shown

  shows_same : (f g : ℕ → ℕ) (k : ℕ) → f k ≡ g k → shows f k ≡ shows g k
  unfolding shows
  shows_same f g k e = rw e

  -- what has landed is read back from the array that was just filled
  pub shown_of_landed : (f : ℕ → ℕ) {l s : List ℕ} → length old ≡ 32 → l ≡ stores old f 32
      → s ≡ stores shown (shown_rule ends homes nodes out held due n (number_at l) shown) 32
      → s ≡ stores shown (shown_rule ends homes nodes out held due n f shown) 32
  unfolding shows
  shown_of_landed f {l} size e h =
      h
      ∙ stores_same shown (shows (number_at l)) (shows f) 32
      (λ k w. shows_same (number_at l) f k (ap (λ x. get_or x k 0) e ∙ stores_at old f 32 k 0 w (omega arith)))

-- what stops is read back from the array that was just filled, and filled anew
pub lands_of_stopping : (f : ℕ → Bool) (full : List ℕ) {stopping r : List Bool} → stopping ≡ stores (replicate 32 false) f 32
    → r ≡ stores stopping (lands_from (truth_at stopping) full) 32 → r ≡ stores (replicate 32 false) (lands_from f full) 32
lands_of_stopping f full {stopping} e h =
    let size : length stopping ≡ 32 = ap (λ (l : List Bool). length l) e ∙ length-stores (replicate 32 false) f 32 ∙ length-replicate 32 false in
    h
    ∙ stores_same stopping (lands_from (truth_at stopping) full) (lands_from f full) 32
    (λ k w. rw (stores-within (replicate 32 false) f 32 false (length-replicate 32 false) e k w))
    ∙ stores_anew false 32 (replicate 32 false) (length-replicate 32 false) (lands_from f full) stopping size
