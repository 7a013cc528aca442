-- Each number that a station's nodes hold landed and shown is below 2 ^ 64, for its type holds no other.
use mathlib.Core.Path.{◌≡◌, refl, ap₂}
use mathlib.Core.Bool.{true, ◌&&◌}
use mathlib.Core.List.{List, [], ◌∷◌}
use borrow.Author.Tests.{lt-ltb}
use lib.ListN.{get_or}
use Prim.Native.Nat.{ℕ, zero, suc, ◌^◌}
use mir.Val.{Val}
use denote.Shadow.{shadow}
use denote.Laws.{Is}
use denote.Array.{each}
use denote.Builtin.{u64}
use denote.Struct.Laws as LL
use Rattle.rules.specs.StationRange.{is_value}
use Rattle.stationrange.specs.Ranges.{place_test}
use Rattle.stationnodes.specs.declared.Node.{Node}
use Rattle.stationnodes.specs.contracts.Node as N
use Rattle.station.specs.Parts.{Valued}
use Rattle.station.specs.declared.Station.{Station}
use Rattle.station.specs.contracts.Station as T
use Rattle.station.proofs.Station.TheLaws as T'

numbers_fit : (xs : List ℕ) (us : List Val) → shadow (each u64.Denot u64.own_val xs us) → (t : ℕ)
    → is_value (get_or xs t 0) ≡ true
unfolding is_value
numbers_fit [] us e t = refl
numbers_fit (x ∷ xs) [] e t = absurd e
numbers_fit (x ∷ xs) (u ∷ us) e zero = lt-ltb x (2 ^ 64) e.0.1
numbers_fit (x ∷ xs) (u ∷ us) e (suc t) = numbers_fit xs us e.1 t

node-fits : (node : Node) (vs : List Val) → Is N.the_row node vs → (t : ℕ)
    → place_test node.landed node.shown t ≡ true
node-fits node vs is t =
    ap₂ (λ a b. a && b) (numbers_fit node.landed _ is.1.1.0.1.1 t) (numbers_fit node.shown _ is.1.1.1.0.1.1 t)

pub nodes-fit : (nodes : List Node) (us : List Val)
    → shadow (each (N.the_row).Denot (N.the_row).own_val nodes us) → Valued nodes
unfolding is_value
nodes-fit [] us e n t = refl
nodes-fit (x ∷ nodes) [] e n t = absurd e
nodes-fit (x ∷ nodes) (u ∷ us) e zero t = node-fits x (u ∷ []) e.0 t
nodes-fit (x ∷ nodes) (u ∷ us) e (suc n) t = nodes-fit nodes us e.1 n t

pub station_valued : (st : Station) (vs : List Val) → Is T.the_row st vs → Valued st.nodes
station_valued st vs is =
    let all-fields = LL.owed T.the_type T'.the_laws st vs is in
    nodes-fit st.nodes _ all-fields.1.1.1.1.1.1.1.1.0.1.1
