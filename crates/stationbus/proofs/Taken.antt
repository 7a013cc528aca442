-- What the data frames take, by all pairs: where no pair is the lowest that starts, none of any task starts; and a mode has its bit in a
-- task's word exactly where it has a message of a pair of it.
use mathlib.Core.Path.{◌≡◌, refl, sym, ◌∙◌}
use mathlib.Core.Bool.{false, cond}
use mathlib.Core.List.{List}
use mathlib.Core.Option.{Option, none, some}
use borrow.Author.Tests.{not-true}
use lib.Dec.{eqb}
use lib.ListN.{get_or}
use Prim.Native.Nat.{ℕ, ◌<◌}
use Rattle.laws.specs.Lists.{first_bad, up_to}
use Rattle.laws.proofs.Loops.{first_bad-up_to-passes}
use Rattle.places.specs.Bits.{bit_at}
use Rattle.places.specs.Flags.{flag_at, flag_byte}
use Rattle.places.proofs.Bits.{bits_are}
use Rattle.rules.specs.Station.{row_with}
use Rattle.rules.proofs.TransparentTick.{row_by_other}
use Rattle.stationbus.specs.Bus.{number_at, has_other, some_pair_at, some_message_at, modes_at, full_rule, load_rule}
use Rattle.stationbus.proofs.Pairs.{none-some}

module _ (pair_tasks times : List ℕ) (pairs time : ℕ) where
  no-row : none ≡ row_with (number_at times) pairs time → (q : ℕ) → q < pairs → eqb (get_or times q 0) time ≡ false
  no-row e q w =
      let passed : first_bad (has_other times time) (up_to pairs) ≡ none = sym (e ∙ row_by_other (number_at times) pairs time) in
      not-true (eqb (get_or times q 0) time) (first_bad-up_to-passes (has_other times time) pairs q passed w)

  pub modes_bit : (pair_modes : List ℕ) (t μ : ℕ) → μ < 32
      → bit_at (modes_at pair_tasks times pair_modes pairs time t) μ ≡ some_message_at pair_tasks times pair_modes pairs time t μ
  unfolding modes_at
  modes_bit pair_modes t μ w = bits_are (some_message_at pair_tasks times pair_modes pairs time t) 32 μ w

  module _ (first : Option ℕ) (is : first ≡ row_with (number_at times) pairs time) (t : ℕ) where
    pub full-taken : (pair_modes homes : List ℕ) (modes : ℕ → ℕ) (full : List ℕ)
        → full_rule pair_tasks times pair_modes pairs time homes modes full first t
        ≡ flag_byte
        (cond (some_pair_at pair_tasks times pairs time t) (bit_at (modes_at pair_tasks times pair_modes pairs time t) (modes (get_or homes t 0)))
        (flag_at full t))
    full-taken pair_modes homes modes full = go first is
      where
        go : (o : Option ℕ) → o ≡ row_with (number_at times) pairs time
            → full_rule pair_tasks times pair_modes pairs time homes modes full o t
            ≡ flag_byte
            (cond (some_pair_at pair_tasks times pairs time t) (bit_at (modes_at pair_tasks times pair_modes pairs time t) (modes (get_or homes t 0)))
            (flag_at full t))
        go none e = rw (none-some pair_tasks times pairs time (no-row e) t)
        go (some q) e = refl

    pub load-taken : (out : ℕ → ℕ) (loads : List ℕ)
        → load_rule pair_tasks times pairs time out loads first t ≡ cond (some_pair_at pair_tasks times pairs time t) (out t) (get_or loads t 0)
    load-taken out loads = go first is
      where
        go : (o : Option ℕ) → o ≡ row_with (number_at times) pairs time
            → load_rule pair_tasks times pairs time out loads o t ≡ cond (some_pair_at pair_tasks times pairs time t) (out t) (get_or loads t 0)
        go none e = rw (none-some pair_tasks times pairs time (no-row e) t)
        go (some q) e = refl
