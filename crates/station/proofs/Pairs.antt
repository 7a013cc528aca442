-- What a tick gathers by task of the station's pairs is the rules' own: whether a pair has a time, and the modes that have a message of one.
use mathlib.Core.Path.{◌≡◌, refl}
use mathlib.Core.List.{List}
use Prim.Native.Nat.{ℕ, ◌<◌}
use Rattle.places.specs.Bits.{bit_at}
use Rattle.rules.specs.Station.{is_at, some_at, is_sent_at, some_sent_at}
use Rattle.stationbus.specs.Bus.{number_at, some_pair_at, modes_at}
use Rattle.stationbus.proofs.Taken.{modes_bit}
use Rattle.station.specs.Memory.{kept_of}
use Rattle.station.specs.declared.Station.{Station}

module _ (st : Station) (times : List ℕ) (t now : ℕ) where
  pub some_at_lem : some_pair_at st.pair_tasks times st.fixed.pairs now t ≡ some_at (kept_of st) (number_at times) t now
  unfolding kept_of some_at is_at
  some_at_lem = refl

  pub sent-at : (μ : ℕ) → μ < 32
      → bit_at (modes_at st.pair_tasks times st.pair_modes st.fixed.pairs now t) μ ≡ some_sent_at (kept_of st) (number_at times) t now μ
  unfolding kept_of some_sent_at is_sent_at is_at
  sent-at μ w = modes_bit st.pair_tasks times st.fixed.pairs now st.pair_modes t μ w
