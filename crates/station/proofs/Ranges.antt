-- Refusals 40 to 44: the tests on the station's arrays are the rules' own.
use mathlib.Core.Path.{◌≡◌, refl, ap, ◌∙◌}
use mathlib.Core.List.{List, [], ◌∷◌}
use mathlib.Core.Option.{Option, none, some}
use mathlib.Core.Bool.{Bool, true}
use lib.ListN.{get_or}
use Prim.Native.Nat.{ℕ}
use Rattle.laws.specs.Lists.{all, up_to}
use Rattle.places.specs.Flags.{flag_at}
use Rattle.laws.proofs.Lists.{all-each}
use Rattle.laws.specs.Res.{◌>>◌, at}
use Rattle.laws.proofs.Res.{then_assoc}
use Rattle.laws.proofs.Turns.{first_bad-same}
use Rattle.rules.specs.Station.{
  judged_tick,
  result_awaited,
  is_awaited,
  is_running,
  run_period,
  task_age,
  run_age,
  result_fits,
  result_in_time,
  is_last_chance,
  may_take,
  change_allowed,
  is_mode_of,
  may_switch,
}
use Rattle.rules.specs.StationRange.{
  counts_in_range,
  module_in_range,
  mode_in_range,
  task_in_range,
  run_in_range,
  runs_in_range,
  control_in_range,
  pair_in_range,
  pairs_in_range,
  kept_in_range,
  play_in_range,
  box_in_range,
  place_in_range,
  byte_in_range,
  node_in_range,
  state_in_range,
}
use Rattle.stationrange.specs.Ranges.{runs_test}
use Rattle.stationruns.specs.Inputs.{input_of, change_at}
use Rattle.stationjudge.specs.Judging.{awaited_test, fits_test, in_time_test, allows, allowed_test}
use Rattle.stationruns.specs.declared.Input.{Input}
use Rattle.stationruns.proofs.Given.{given_flag}
use Rattle.station.specs.Memory.{kept_of, state_of}
use Rattle.stationrefusals.specs.Refusing.{kept_test, held_test, state_test, judged_by}
use Rattle.station.specs.Parts.{Valued}
use Rattle.station.specs.declared.Station.{Station}

-- the refusals one after the other, whichever two are taken together
joined : {a b c d a' b' c' d' : Option ℕ} → a ≡ a' → b ≡ b' → c ≡ c' → d ≡ d'
    → ◌>>◌ (◌>>◌ (at 41 0 a) (◌>>◌ (at 42 0 b) (at 43 0 c))) (at 44 0 d)
    ≡ ◌>>◌ (at 41 0 a') (◌>>◌ (at 42 0 b') (◌>>◌ (at 43 0 c') (at 44 0 d')))
joined {a} {b} {c} {d} e f g h =
    then_assoc (at 41 0 a) (◌>>◌ (at 42 0 b) (at 43 0 c)) (at 44 0 d)
    ∙ ap (◌>>◌ (at 41 0 a)) (then_assoc (at 42 0 b) (at 43 0 c) (at 44 0 d)) ∙ rw (e, f, g, h)

module _ (st : Station) where
  pub kept_range : kept_test st.fixed st.runs st.pair_tasks st.pair_deadlines st.pair_starts st.pair_stops ≡ kept_in_range (kept_of st)
  unfolding kept_test kept_in_range kept_of counts_in_range module_in_range mode_in_range task_in_range run_in_range runs_in_range control_in_range pair_in_range pairs_in_range runs_test
  kept_range = refl

  -- a node whose places are in range is in range by the mode bytes that it holds
  module _ (valued : Valued st.nodes) where
    places_range : (n : ℕ) → all (place_in_range (state_of st) n) (up_to 32) ≡ true
    unfolding state_of place_in_range
    places_range n = all-each (place_in_range (state_of st) n) (up_to 32) 0 (λ i w. valued n (get_or (up_to 32) i 0))

    node_range : (n : ℕ) → held_test st.play.held st.fixed.modes.count n ≡ node_in_range (kept_of st) (state_of st) n
    unfolding node_in_range byte_in_range kept_of state_of
    node_range n = rw (places_range n)

    nodes_range : (l : List ℕ)
        → all (held_test st.play.held st.fixed.modes.count) l ≡ all (node_in_range (kept_of st) (state_of st)) l
    nodes_range [] = refl
    nodes_range (n ∷ l) = rw (node_range n, nodes_range l)

    pub state_range : state_test st.fixed st.play ≡ state_in_range (kept_of st) (state_of st)
    unfolding state_test state_in_range kept_of state_of play_in_range box_in_range
    state_range = rw (nodes_range (up_to 8))

  module _ (input : Input) where
    abbrev awaited : ℕ → Bool
    awaited =
        awaited_test input.given st.fixed.tasks.count st.runs st.play.running st.play.ages st.fixed.tasks.homes st.play.givens
        st.fixed.tasks.worsts

    abbrev fits : ℕ → Bool
    fits = fits_test input.results input.given st.fixed.tasks.sizes

    abbrev in_time : ℕ → Bool
    in_time =
        in_time_test input.given st.fixed.tasks.count st.runs st.play.running st.play.ages st.fixed.tasks.homes st.play.givens
        st.fixed.tasks.worsts

    abbrev allowed : ℕ → Bool
    allowed =
        allowed_test input.modes input.changed st.fixed.modules.count st.fixed.modes.count st.fixed.modes.homes st.fixed.modes.switches st.play.running
        st.play.ages

    awaited-at : (t : ℕ) → awaited t ≡ result_awaited (kept_of st) (state_of st) (input_of input) t
    unfolding kept_of state_of input_of result_awaited is_awaited is_running run_period task_age run_age
    awaited-at t = rw (given_flag (flag_at input.given t) (get_or input.results t 0))

    fits-at : (t : ℕ) → fits t ≡ result_fits (kept_of st) (input_of input) t
    unfolding kept_of input_of result_fits
    fits-at t = refl

    in_time-at : (t : ℕ) → in_time t ≡ result_in_time (kept_of st) (state_of st) (input_of input) t
    unfolding kept_of state_of input_of result_in_time is_last_chance is_running run_period task_age run_age
    in_time-at t = rw (given_flag (flag_at input.given t) (get_or input.results t 0))

    allowed_by : (m : ℕ) (o : Option ℕ)
        → allows st.fixed.modules.count st.fixed.modes.count st.fixed.modes.homes (get_or st.fixed.modes.switches (get_or st.play.running m 0) 0)
        (get_or st.play.ages m 0) m o
        ≡ may_take (kept_of st) (state_of st) m o
    unfolding kept_of state_of is_mode_of may_switch
    allowed_by m none = refl
    allowed_by m (some μ) = refl

    allowed_at : (m : ℕ) → allowed m ≡ change_allowed (kept_of st) (state_of st) (input_of input) m
    unfolding input_of change_allowed
    allowed_at m = allowed_by m (change_at input m)

    pub judged-same : judged_by input st.fixed st.play st.runs
        ≡ judged_tick (kept_of st) (state_of st) (input_of input)
    unfolding judged_by judged_tick
    judged-same =
        let k = kept_of st in
        let s = state_of st in
        let i = input_of input in
        joined (first_bad-same awaited (result_awaited k s i) awaited-at (up_to 32)) (first_bad-same fits (result_fits k i) fits-at (up_to 32))
        (first_bad-same in_time (result_in_time k s i) in_time-at (up_to 32)) (first_bad-same allowed (change_allowed k s i) allowed_at (up_to 16))
