-- Demand 3 of the code, by the contracts of `begin`, `tick` and `shown` alone: the station that a beginning leaves keeps what the rules
-- keep and stands at the rules' first state, at every place of a station; so behind every history of accepted ticks the values shown
-- are the one board's. In the basic edition they are so at every tick; in the consumer edition where they are read, and at every tick on a
-- task's own node and of the tasks that are not thinned.
use mathlib.Core.Path.{◌≡◌, refl, sym, ap, ap₂, ◌∙◌, subst}
use mathlib.Core.Bool.{Bool, true, false}
use mathlib.Core.List.{List}
use mathlib.Core.Logic.{◌↔◌}
use mathlib.Core.Option.{Option}
use native.Mathlib.Omega.{arith}
use lib.ListN.{length, get_or, replicate, get_or-replicate}
use Prim.Native.Nat.{ℕ, ◌+◌, ◌*◌, ◌/◌, ◌%◌, ◌<◌}
use Rattle.rules.specs.Limits.{most_frames}
use Rattle.laws.specs.Lists.{tab}
use Rattle.laws.specs.Res.{Res, ok, refuse}
use Rattle.laws.proofs.Bus.{table_at}
use Rattle.laws.proofs.Res.{refuse≢ok}
use Rattle.places.specs.Bits.{bit_at}
use Rattle.places.specs.Flags.{flag_at, flag_bytes, is_set}
use Rattle.places.proofs.Bits.{bits_are}
use Rattle.places.proofs.Flags.{set-byte}
use Rattle.rules.specs.Traffic.{read_in, task_node}
use Rattle.rules.specs.Readers.{is_thinned}
use Rattle.rules.specs.Checker.{is_for_consumers}
use Rattle.rules.specs.History.{board_value, consumes}
use Rattle.rules.specs.Plan.{Plan, read_plan}
use Rattle.rules.specs.Playing.{Input}
use Rattle.rules.specs.Station as rules
use Rattle.rules.specs.Station.{Kept}
use Rattle.rules.specs.StationRange.{ticked}
use Rattle.rules.specs.Told.{ShowsTold, ShowsRead}
use Rattle.rules.specs.Allowed.{MayTell, Allowed}
use Rattle.rules.proofs.StationKept.{SameKept, follows-kept, ticked-kept}
use Rattle.rules.proofs.StationPlaces.{Agree, SameAnswer, answer_ok, Follows, transparent_follows, transparent_follows-own}
use Rattle.rules.proofs.FollowsTold.{also_ok, follows-shown, follows-allowed, follows_exact, follows-reads}
use Rattle.stationruns.specs.Inputs.{starting_at}
use Rattle.stationruns.specs.declared.Starting.{Starting}
use Rattle.stationnodes.specs.Nodes.{no_node, zero_node}
use Rattle.station.specs.Memory.{kept_of, laid, not_begun, state_of}
use Rattle.station.specs.declared.Station.{Station}
use Rattle.station.proofs.Plays.{Plays, Behind, plays-follows}
use Rattle.station.proofs.Sized.{Sized, laid_agrees, sized-laid}
use Rattle.std.specs.Prelude.{Ok}
use Rattle.starting.specs.declared.Begun.{Begun}
use Rattle.beginning.specs.Begins.{Begins, kept_laid, modes_laid, run_laid, station_laid}
use Rattle.answers.specs.Answered.{judged}

-- a mode and one of the 32 tasks have a place of their own
run-place : (k : Kept) (μ t : ℕ) → μ < 32 → t < 32 → get_or (tab (run_laid k) 0 1024) (μ * 32 + t) 0 ≡ k.run μ t
unfolding run_laid
run-place k μ t v w =
    let m : (μ * 32 + t) / 32 ≡ μ = omega arith in
    let n : (μ * 32 + t) % 32 ≡ t = omega arith in
    table_at 1024 (run_laid k) (μ * 32 + t) 0 (omega arith) ∙ ap₂ k.run m n

-- a flag that is kept as a byte
flag_place : (n : ℕ) (flags : ℕ → Bool) (k : ℕ) → k < n → flag_at (tab (flag_bytes flags) 0 n) k ≡ flags k
flag_place n flags k w = ap is_set (table_at n (flag_bytes flags) k 0 w) ∙ set-byte (flags k)

-- a mode that is kept as a bit
mode_bit : (k : Kept) (q μ : ℕ) → q < most_frames → μ < 32 → bit_at (get_or (tab (modes_laid k) 0 most_frames) q 0) μ ≡ k.pair_has q μ
unfolding modes_laid
mode_bit k q μ v w = ap (λ (word : ℕ). bit_at word μ) (table_at most_frames (modes_laid k) q 0 v) ∙ bits_are (k.pair_has q) 32 μ w

module _ (b : rules.Begun) where
  abbrev k : Kept
  k = b.kept

  -- what is kept is the rules' (rule 8.2)
  pub same_kept : SameKept (kept_of (station_laid b)) k
  unfolding station_laid laid kept_laid kept_of
  same_kept =
      record {
        modules = refl;
        modes = refl;
        tasks = refl;
        period = refl;
        module_node = λ m w. table_at 16 k.module_node m 0 w;
        sends = λ m w. flag_place 16 k.sends m w;
        mode_home = λ μ w. table_at 32 k.mode_home μ 0 w;
        mode_period = λ μ w. table_at 32 k.mode_period μ 0 w;
        mode_switch = λ μ w. table_at 32 k.mode_switch μ 0 w;
        task_home = λ t w. table_at 32 k.task_home t 0 w;
        task_size = λ t w. table_at 32 k.task_size t 0 w;
        task_worst = λ t w. table_at 32 k.task_worst t 0 w;
        run = λ μ v t w. run-place k μ t v w;
        controls = refl;
        control_node = λ r w. table_at 8 k.control_node r 0 w;
        control_start = λ r w. table_at 8 k.control_start r 0 w;
        control_stop = λ r w. table_at 8 k.control_stop r 0 w;
        pairs = refl;
        pair_task = λ q w. table_at most_frames k.pair_task q 0 w;
        pair_deadline = λ q w. table_at most_frames k.pair_deadline q 0 w;
        pair_start = λ q w. table_at most_frames k.pair_start q 0 w;
        pair_stop = λ q w. table_at most_frames k.pair_stop q 0 w;
        pair_has = λ q v μ w. mode_bit k q μ v w;
      }

  sized-kept : Sized (kept_laid k)
  unfolding kept_laid not_begun
  sized-kept =
      record {
        running = refl;
        ages = refl;
        bytes = refl;
        givens = refl;
        out = refl;
        held = refl;
        full = refl;
        loads = refl;
        nodes = refl;
        landed = λ n w. (zero-node n w).0;
        shown = λ n w. (zero-node n w).1;
      }
    where
      zero-node : (n : ℕ) → n < 8
          → (length (get_or (replicate 8 zero_node) n no_node).landed ≡ 32) × (length (get_or (replicate 8 zero_node) n no_node).shown ≡ 32)
      zero-node n w = rw (get_or-replicate 8 n zero_node no_node w) (refl, refl)

  pub sized-begun : Sized (station_laid b)
  unfolding station_laid
  sized-begun = sized-laid (kept_laid k) sized-kept b.state

  -- and so is the state before the first tick (rule 8.4)
  pub same-state : Agree (state_of (station_laid b)) b.state
  unfolding station_laid
  same-state = laid_agrees (kept_laid k) sized-kept b.state

-- the rules begin, where the code does
record Beginning (r : Begun) (rule : Res rules.Begun) : Type 0 where
  b : rules.Begun
  is : rule ≡ ok b
  station : r.station ≡ station_laid b

begun-by : (r : Begun) (rule : Res rules.Begun) → Begins r rule → r.answer ≡ Ok tt → Beginning r rule
begun-by r (ok b) h e = record { b = b; is = refl; station = h.left }
begun-by r (refuse n p) h e = refuse≢ok (sym h.answered ∙ ap judged e)

-- The station of the rules' beginning, any calls, and the history of those that were accepted:
module _ (b : rules.Begun) (history : List Input) (after : Station) (plays : Plays (station_laid b) history after) where
  behind : Behind (station_laid b) history after
  behind = plays-follows (sized-begun b) plays

  follows : Follows b.kept (state_of (station_laid b)) history (state_of after)
  follows = follows-kept (same_kept b) behind.follows

-- of the plan in the table's edition
module _ (plan table : List ℕ) (starting : ℕ → Option ℕ) (b : rules.Begun) (begins : rules.begin plan table starting ≡ ok b)
    (p : Plan) (reads : read_in (is_for_consumers table) plan ≡ ok p) (history : List Input) (after : Station)
    (plays : Plays (station_laid b) history after) where
  -- in the basic edition, what is seen of the station is told by the history
  pub shows-told : p.consumers ≡ false → ShowsTold p starting history (state_of after).shown
  shows-told =
      follows-shown plan table starting b begins p reads (state_of (station_laid b)) (same-state b) history (state_of after)
      (follows b history after plays)

  -- whose ticks were all given what they may be given
  pub history-allowed : Allowed p starting history
  history-allowed =
      follows-allowed plan table starting b begins p reads (state_of (station_laid b)) (same-state b) history (state_of after)
      (follows b history after plays)

  -- and the next call is accepted exactly when it is, too
  pub call_exact : (i : Input) → ((t : rules.Ticked) × (ticked (kept_of after) (state_of after) i ≡ ok t)) ↔ MayTell p starting history i
  call_exact i =
      let told = follows_exact plan table starting b begins p reads (state_of (station_laid b)) (same-state b) history (state_of after)
      (follows b history after plays) i in
      let alike : SameAnswer (ticked (kept_of after) (state_of after) i) (ticked b.kept (state_of after) i) =
      rw (behind b history after plays).kept (ticked-kept (same_kept b) (state_of after) i) in (
        λ h. let o = answer_ok alike h.1 in told.0 (o.other, o.is),
        λ m. also_ok alike (told.1 m).1,
      )

-- of the plan as it is read, in either edition: what is seen where it is read, and on a task's own node, is told by the history
pub shows-read : (plan table : List ℕ) (starting : ℕ → Option ℕ) (b : rules.Begun) → rules.begin plan table starting ≡ ok b → (q : Plan)
    → read_plan plan ≡ ok q → (history : List Input) (after : Station) → Plays (station_laid b) history after
    → ShowsRead q starting history (state_of after).shown
shows-read plan table starting b begins q reads history after plays =
    follows-reads plan table starting b begins q reads (state_of (station_laid b)) (same-state b) history (state_of after)
    (follows b history after plays)

-- The same by the contracts of `begin` and `tick`:
module _ (plan table : List ℕ) (starting : Starting) (r : Begun) (begins : Begins r (rules.begin plan table (starting_at starting)))
    (started : r.answer ≡ Ok tt) where
  abbrev by : Beginning r (rules.begin plan table (starting_at starting))
  by = begun-by r (rules.begin plan table (starting_at starting)) begins started

  played : {history : List Input} {after : Station} → Plays r.station history after → Plays (station_laid by.b) history after
  played {history} {after} plays = subst (λ (st : Station). Plays st history after) by.station plays

  -- where a consumer reads a task of another node, and on a task's own node
  pub shown_read : (q : Plan) → read_plan plan ≡ ok q → (history : List Input) (after : Station) → Plays r.station history after
      → ShowsRead q (starting_at starting) history (state_of after).shown
  shown_read q reads history after plays =
      shows-read plan table (starting_at starting) by.b by.is q reads history after (played plays)

  module _ (p : Plan) (reads : read_in (is_for_consumers table) plan ≡ ok p) (history : List Input) (after : Station)
      (plays : Plays r.station history after) where
    -- at every tick, in the basic edition
    pub shown-told : p.consumers ≡ false → ShowsTold p (starting_at starting) history (state_of after).shown
    shown-told = shows-told plan table (starting_at starting) by.b by.is p reads history after (played plays)

    -- The one board's value, at every tick in either edition: on every node that consumes a task of another node that is not thinned,
    pub shown-consumed : (n t : ℕ) → consumes p n t ≡ true → is_thinned p t ≡ false
        → (state_of after).shown n t ≡ board_value p (starting_at starting) t history
    shown-consumed =
        transparent_follows plan table (starting_at starting) by.b by.is p reads (state_of (station_laid by.b)) (same-state by.b) history
        (state_of after) (follows by.b history after (played plays))

    -- and on a task's own node
    pub shown-own : (t : ℕ) → t < length p.tasks → (state_of after).shown (task_node p t) t ≡ board_value p (starting_at starting) t history
    shown-own =
        transparent_follows-own plan table (starting_at starting) by.b by.is p reads (state_of (station_laid by.b)) (same-state by.b)
        history (state_of after) (follows by.b history after (played plays))
