-- Steps (b) and (c) on the station's nodes are the rules' own, where the station is within its ranges; and where nothing lands and no
-- run ends, they change nothing.
use mathlib.Core.Path.{◌≡◌, refl, sym, ap, ap₂, ◌∙◌}
use mathlib.Core.Bool.{Bool, true, false, cond, not, ◌&&◌}
use mathlib.Core.List.{List}
use native.Mathlib.Omega.{arith}
use lib.Dec.{eqb}
use lib.ListN.{get_or, replicate, length-replicate}
use Prim.Native.Nat.{ℕ, ◌+◌, ◌*◌, ◌/◌, ◌%◌, ◌≤◌, ◌<◌}
use Rattle.laws.specs.Loops.{stores}
use Rattle.laws.proofs.Stores.{stores_same, stores-idle, stores-within}
use Rattle.places.specs.Bits.{bit_at}
use Rattle.places.specs.Flags.{flag_at}
use Rattle.rules.specs.Station.{
  Kept,
  State,
  tick,
  row_with,
  is_at,
  some_at,
  lands_on,
  landed_after,
  held_after,
  home_node,
  ends_now,
  has_message,
  own_shows,
  other_shows,
  out_after,
  shown_after,
}
use Rattle.rules.specs.StationRange.{in_range}
use Rattle.rules.proofs.StationStays.{range_tests}
use Rattle.rules.specs.Playing.{Input}
use Rattle.stationruns.specs.Inputs.{input_of}
use Rattle.stationruns.specs.declared.Input as given
use Rattle.stationbus.specs.Bus.{number_at, some_pair_at, modes_at}
use Rattle.stationnodes.specs.Nodes.{no_node, lands_rule, landed_rule, shown_rule, node_at, node_rule}
use Rattle.stationnodes.specs.declared.Node.{Node}
use Rattle.station.specs.Memory.{kept_of, state_of, node_laid}
use Rattle.station.specs.Parts.{due_by, nodes_by}
use Rattle.stationmoves.specs.Moving.{Reads}
use Rattle.stationrefusals.specs.declared.Play.{Play}
use Rattle.station.specs.declared.Station.{Station}
use Rattle.station.proofs.Pairs.{sent-at}
use Rattle.station.proofs.Steps.{held-rule, held_by_lem}

-- ---- over plain variables

grouped : (a b c : Bool) → ((a && b) && c) ≡ (a && (b && c))
grouped true b c = refl
grouped false b c = refl

shown-made : {e e' m m' : Bool} {out out' landed landed' : ℕ} (own : Bool) (old : ℕ) → e ≡ e' → out ≡ out' → m ≡ m' → landed ≡ landed'
    → cond (e && own) out (cond (e && m) landed old) ≡ cond (e' && own) out' (cond (e' && m') landed' old)
shown-made own old p q f g = rw (p, q, f, g)

node_made : {l l' s s' : List ℕ} → l ≡ l' → s ≡ s' → ◌≡◌ {A = Node} (record { landed = l; shown = s }) (record { landed = l'; shown = s' })
node_made e h = rw (e, h)

-- a node and one of the 16 modules have a place of their own
pub place-node : (n m : ℕ) → m < 16 → (n * 16 + m) / 16 ≡ n
place-node n m w = omega arith

pub place_module : (n m : ℕ) → m < 16 → (n * 16 + m) % 16 ≡ m
place_module n m w = omega arith

pub place-within : (n m : ℕ) → n < 8 → m < 16 → n * 16 + m < 128
place-within n m v w = omega arith

-- ---- on the station's arrays

-- a task's module is one of the 16 (refusal 40)
home-within : (k : Kept) (s : State) → in_range k s ≡ true → (t : ℕ) → t < 32 → k.task_home t < 16
home-within k s e t w =
    let kept = ((range_tests k s).says e).0 in
    let home : k.task_home t < k.modules = (kept.tasks t w).home in
    let most : k.modules ≤ 16 = kept.module_count.most in
    omega arith

module _ (st : Station) where
  abbrev k : Kept
  k = kept_of st

  abbrev s : State
  s = state_of st

  -- (b) a value of the task lands now
  abbrev pub lands_now : ℕ → Bool
  lands_now = lands_rule st.pair_tasks st.pair_stops st.fixed.pairs st.play.clock.0 st.play.full

  landed_by : (n t : ℕ) (lands : Bool) → lands ≡ lands_now t
      → cond (lands && not (eqb (home_node k t) n)) (s.load t) (s.landed n t) ≡ landed_after k s n t
  unfolding landed_after lands_on some_at is_at kept_of state_of
  landed_by n t lands e =
      ap (λ (b : Bool). cond (b && not (eqb (home_node k t) n)) (s.load t) (s.landed n t)) e
      ∙ ap (λ (b : Bool). cond b (s.load t) (s.landed n t))
      (grouped (some_pair_at st.pair_tasks st.pair_stops st.fixed.pairs st.play.clock.0 t) (flag_at st.play.full t) (not (eqb (home_node k t) n)))

  shown_stood : (n t : ℕ) → s.shown n t ≡ get_or (get_or st.nodes n no_node).shown t 0
  unfolding state_of
  shown_stood n t = refl

  module _ (input : given.Input) where
    abbrev i : Input
    i = input_of input

    module _ (next : Play) (ends : List Bool) {lands : List Bool} {due : List ℕ} (reads : Reads input st.fixed st.play next)
        (landing : lands ≡ stores (replicate 32 false) lands_now 32)
        (sent : due ≡ due_by st.pair_tasks st.pair_deadlines st.pair_modes st.fixed.pairs st.play.clock.0)
        (ended : (t : ℕ) → t < 32 → get_or ends t false ≡ ends_now k s t) (within : in_range k s ≡ true)
        (below : (n t : ℕ) → n < 8 → t < 32 → held_after k s n (k.task_home t) < 32) where
      abbrev lands-rule : ℕ → ℕ → ℕ
      lands-rule n = landed_rule lands st.play.loads st.fixed.tasks.homes st.fixed.modules.sites n (get_or st.nodes n no_node).landed

      landed_at : (n t : ℕ) → t < 32 → lands-rule n t ≡ landed_after k s n t
      unfolding kept_of state_of home_node
      landed_at n t w = landed_by n t (get_or lands t false) (stores-within (replicate 32 false) lands_now 32 false (length-replicate 32 false) landing t w)

      held-at : (n m : ℕ) → n < 8 → m < 16 → get_or next.held (n * 16 + m) 0 ≡ held_after k s n m
      unfolding held-rule held_after kept_of state_of
      held-at n m v w =
          reads.held (n * 16 + m) (place-within n m v w)
          ∙ held_by_lem st input (row_with (number_at st.fixed.controls.stops) st.fixed.controls.count st.play.clock.0) n m (n * 16 + m)
          (place-node n m w) (place_module n m w) refl

      out_at : (t : ℕ) → get_or next.out t 0 ≡ out_after s i t
      unfolding out_after state_of input_of
      out_at t = reads.out t

      -- the mode byte that the node holds has a message with this deadline
      message-at : (n t : ℕ) → n < 8 → t < 32
          → bit_at (get_or due t 0) (get_or next.held (n * 16 + get_or st.fixed.tasks.homes t 0) 0) ≡ has_message k t (held_after k s n (k.task_home t)) s.clock
      unfolding has_message kept_of state_of
      message-at n t v w =
          ap₂ bit_at
          (stores-within (replicate 32 0) (modes_at st.pair_tasks st.pair_deadlines st.pair_modes st.fixed.pairs st.play.clock.0) 32 0
          (length-replicate {A = ℕ} 32 0) sent t w)
          (held-at n (get_or st.fixed.tasks.homes t 0) v (home-within k s within t w))
          ∙ sent-at st st.pair_deadlines t st.play.clock.0 (held_after k s n (k.task_home t)) (below n t v w)

      -- (c)
      abbrev shows : ℕ → ℕ → ℕ
      shows n =
          shown_rule ends st.fixed.tasks.homes st.fixed.modules.sites next.out next.held due n (lands-rule n)
          (get_or st.nodes n no_node).shown

      shown-at : (n t : ℕ) → n < 8 → t < 32 → shows n t ≡ shown_after k s i n t
      unfolding shown_after own_shows other_shows kept_of state_of home_node
      shown-at n t v w =
          shown-made (eqb (home_node k t) n) (s.shown n t) (ended t w) (out_at t) (message-at n t v w) (landed_at n t w)

      node-same : (n : ℕ) → n < 8
          → node_rule lands st.play.loads ends st.fixed.tasks.homes st.fixed.modules.sites next.out next.held due st.nodes n
          ≡ node_laid st.nodes (tick k s i) n
      unfolding node_rule node_at node_laid tick
      node-same n v =
          node_made (stores_same (get_or st.nodes n no_node).landed (lands-rule n) (landed_after k s n) 32 (λ t w. landed_at n t w))
          (stores_same (get_or st.nodes n no_node).shown (shows n) (shown_after k s i n) 32 (λ t w. shown-at n t v w))

      pub nodes-same : (idle : Bool)
          → nodes_by st.fixed (record { play = next; idle = idle; lands = lands; loads = st.play.loads; due = due; ends = ends }) st.nodes
          ≡ stores st.nodes (node_laid st.nodes (tick k s i)) 8
      nodes-same idle =
          stores_same st.nodes
          (node_rule lands st.play.loads ends st.fixed.tasks.homes st.fixed.modules.sites next.out next.held due st.nodes)
          (node_laid st.nodes (tick k s i)) 8 node-same

    -- nothing lands, and no run ends
    module _ (still : (t : ℕ) → t < 32 → lands_now t ≡ false) (quiet : (t : ℕ) → t < 32 → ends_now k s t ≡ false) where
      landed-stays : (n t : ℕ) → t < 32 → landed_after k s n t ≡ get_or (get_or st.nodes n no_node).landed t 0
      unfolding state_of
      landed-stays n t w = sym (landed_by n t false (sym (still t w)))

      shown-stays : (n t : ℕ) → t < 32 → shown_after k s i n t ≡ get_or (get_or st.nodes n no_node).shown t 0
      unfolding shown_after own_shows other_shows
      shown-stays n t w = rw (quiet t w) (shown_stood n t)

      node_stays : (n : ℕ) → node_laid st.nodes (tick k s i) n ≡ get_or st.nodes n no_node
      unfolding node_laid tick
      node_stays n =
          sym
          (node_made (stores-idle (get_or st.nodes n no_node).landed (landed_after k s n) 32 0 (λ t w. landed-stays n t w))
          (stores-idle (get_or st.nodes n no_node).shown (shown_after k s i n) 32 0 (λ t w. shown-stays n t w)))

      pub nodes_stay : st.nodes ≡ stores st.nodes (node_laid st.nodes (tick k s i)) 8
      nodes_stay = stores-idle st.nodes (node_laid st.nodes (tick k s i)) 8 no_node (λ n w. node_stays n)
