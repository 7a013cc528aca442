-- The steps of a tick, on the station's arrays, are the rules' own: the row that starts, and what changes beside the nodes.
use mathlib.Core.Path.{◌≡◌, refl, ap, ap₂, ◌∙◌}
use mathlib.Core.Bool.{Bool, false, cond}
use mathlib.Core.List.{List}
use mathlib.Core.Option.{Option, none, some}
use native.Mathlib.Nat.{div-add-mod'}
use lib.ListN.{get_or}
use Prim.Native.Nat.{ℕ, ◌+◌, ◌*◌, ◌/◌, ◌%◌, ◌<◌}
use Rattle.laws.specs.Loops.{stores}
use Rattle.laws.proofs.Stores.{stores_same}
use Rattle.places.specs.Flags.{flag_at, flag_byte, flag_bytes}
use Rattle.rules.specs.Station.{
  Kept,
  State,
  tick,
  out_after,
  row_with,
  held_by,
  held_after,
  is_byte_of,
  mode_after,
  age_after,
  given_after,
  ends_now,
  started_by,
  kept_control,
  kept_data,
  starting_control,
  starting_pair,
  mode_byte_by,
  mode_byte_after,
  starts_now,
  is_taken,
  full_after,
  load_after,
}
use Rattle.rules.specs.Playing.{Input}
use Rattle.stationruns.specs.Inputs.{input_of}
use Rattle.stationruns.proofs.Given.{given_flag}
use Rattle.stationruns.specs.declared.Input as goal
use Rattle.stationsteps.specs.Steps.{out_rule, mode_rule, age_rule, had_rule}
use Rattle.stationbus.specs.Bus.{number_at, held_rule, mode_byte_rule, full_rule, load_rule}
use Rattle.stationbus.proofs.Taken.{full-taken, load-taken}
use Rattle.station.specs.Memory.{kept_of, state_of, held_laid, play_laid}
use Rattle.stationmoves.specs.Moving.{said_by, play_after}
use Rattle.std.specs.Prelude.{Ok}
use Rattle.station.specs.Answers.{Said, row_said}
use Rattle.station.specs.declared.Station.{Station}
use Rattle.stationmoves.proofs.Ways.{play_made}
use Rattle.station.proofs.Pairs.{some_at_lem, sent-at}

module _ (st : Station) where
  -- the row that starts
  pub said_same : (c d : Option ℕ)
      → ◌≡◌ {A = Said} (Ok (said_by st.fixed.controls st.pair_tasks st.pair_deadlines st.pair_starts st.pair_stops c d)) (row_said (started_by (kept_of st) c d))
  unfolding kept_of kept_control kept_data
  said_same (some r) d = refl
  said_same none (some q) = refl
  said_same none none = refl

  module _ (input : goal.Input) where
    abbrev k : Kept
    k = kept_of st

    abbrev s : State
    s = state_of st

    abbrev i : Input
    i = input_of input

    modes-same : stores st.play.running (mode_rule input.modes input.changed st.play.running) 16 ≡ stores st.play.running (mode_after s i) 16
    unfolding state_of input_of mode_after
    modes-same = stores_same st.play.running (mode_rule input.modes input.changed st.play.running) (mode_after s i) 16 (λ m w. refl)

    age-rule : ℕ → ℕ
    age-rule = age_rule input.changed st.play.running st.fixed.modes.periods st.play.ages

    age-same : (m : ℕ) → age-rule m ≡ age_after k s i m
    unfolding age-rule kept_of state_of input_of age_after
    age-same m = rw (given_flag (flag_at input.changed m) (get_or input.modes m 0))

    ages-same : stores st.play.ages age-rule 16 ≡ stores st.play.ages (age_after k s i) 16
    ages-same = stores_same st.play.ages age-rule (age_after k s i) 16 (λ m w. age-same m)

    out-same : stores st.play.out (out_rule input.results input.given st.play.out) 32 ≡ stores st.play.out (out_after s i) 32
    unfolding state_of input_of out_after
    out-same = stores_same st.play.out (out_rule input.results input.given st.play.out) (out_after s i) 32 (λ t w. refl)

    bytes-rule : Option ℕ → ℕ → ℕ
    bytes-rule =
        mode_byte_rule st.fixed.modules.sending st.fixed.modules.sites (mode_rule input.modes input.changed st.play.running) st.fixed.controls.nodes
        st.play.bytes

    byte-same : (o : Option ℕ) (m : ℕ) → bytes-rule o m ≡ mode_byte_by k s i m o
    unfolding bytes-rule kept_of state_of input_of is_byte_of mode_after
    byte-same none m = refl
    byte-same (some r) m = refl

    bytes_same : stores st.play.bytes (bytes-rule (starting_control k s)) 16 ≡ stores st.play.bytes (mode_byte_after k s i) 16
    unfolding mode_byte_after
    bytes_same =
        stores_same st.play.bytes (bytes-rule (starting_control k s)) (mode_byte_after k s i) 16
        (λ m w. byte-same (starting_control k s) m)

    had-rule : List Bool → ℕ → ℕ
    had-rule ends = had_rule input.given input.changed ends st.fixed.tasks.homes st.play.givens

    given-same : (ends : List Bool) (t : ℕ) → get_or ends t false ≡ ends_now k s t → had-rule ends t ≡ flag_bytes (given_after k s i) t
    unfolding had-rule given_after kept_of state_of input_of
    given-same ends t e =
        let home = get_or st.fixed.tasks.homes t 0 in
        rw (
          e,
          given_flag (flag_at input.changed home) (get_or input.modes home 0),
          given_flag (flag_at input.given t) (get_or input.results t 0),
        )

    givens-same : (ends : List Bool) → ((t : ℕ) → t < 32 → get_or ends t false ≡ ends_now k s t)
        → stores st.play.givens (had-rule ends) 32 ≡ stores st.play.givens (flag_bytes (given_after k s i)) 32
    givens-same ends e = stores_same st.play.givens (had-rule ends) (flag_bytes (given_after k s i)) 32 (λ t w. given-same ends t (e t w))

    unfoldable pub held-rule : Option ℕ → ℕ → ℕ
    held-rule = held_rule st.fixed.modules.sending st.fixed.modules.sites st.play.bytes st.fixed.controls.nodes st.play.held

    -- the byte of node n and module m stands at n * 16 + m
    pub held_by_lem : (o : Option ℕ) (n m j : ℕ) → j / 16 ≡ n → j % 16 ≡ m → n * 16 + m ≡ j → held-rule o j ≡ held_by k s n m o
    unfolding held-rule kept_of state_of is_byte_of
    held_by_lem none n m j p q e = rw e
    held_by_lem (some r) n m j p q e = rw (e, p, q)

    held_same : stores st.play.held (held-rule (row_with k.control_stop k.controls s.clock)) 128
        ≡ stores st.play.held (held_laid (tick k s i)) 128
    unfolding tick held_laid held_after
    held_same =
        stores_same st.play.held (held-rule (row_with k.control_stop k.controls s.clock)) (held_laid (tick k s i)) 128
        (λ j w. held_by_lem (row_with k.control_stop k.controls s.clock) (j / 16) (j % 16) j refl refl (div-add-mod' j 16))

    -- (f) of the data frames
    abbrev time : ℕ
    time = st.play.clock.0 % st.fixed.period.0

    first-is : starting_pair k s ≡ row_with (number_at st.pair_starts) st.fixed.pairs time
    unfolding starting_pair kept_of state_of
    first-is = refl

    full-rule : ℕ → ℕ
    full-rule =
        full_rule st.pair_tasks st.pair_starts st.pair_modes st.fixed.pairs time st.fixed.tasks.homes
        (mode_rule input.modes input.changed st.play.running) st.play.full (starting_pair k s)

    full_at : (t : ℕ) → mode_after s i (k.task_home t) < 32 → full-rule t ≡ flag_bytes (full_after k s i) t
    unfolding full-rule full_after starts_now is_taken kept_of state_of input_of mode_after
    full_at t w =
        full-taken st.pair_tasks st.pair_starts st.fixed.pairs time (starting_pair k s) first-is t st.pair_modes st.fixed.tasks.homes
        (mode_rule input.modes input.changed st.play.running) st.play.full
        ∙ ap₂ (λ (a b : Bool). flag_byte (cond a b (flag_at st.play.full t))) (some_at_lem st st.pair_starts t time)
        (sent-at st st.pair_starts t time (mode_after s i (k.task_home t)) w)

    load_rule_lem : ℕ → ℕ
    load_rule_lem =
        load_rule st.pair_tasks st.pair_starts st.fixed.pairs time (out_rule input.results input.given st.play.out) st.play.loads
        (starting_pair k s)

    load_at : (t : ℕ) → load_rule_lem t ≡ load_after k s i t
    unfolding load_rule_lem load_after starts_now kept_of state_of input_of out_after
    load_at t =
        load-taken st.pair_tasks st.pair_starts st.fixed.pairs time (starting_pair k s) first-is t
        (out_rule input.results input.given st.play.out) st.play.loads
        ∙ ap (λ (a : Bool). cond a (out_after s i t) (get_or st.play.loads t 0)) (some_at_lem st st.pair_starts t time)

    pub play_same : ((t : ℕ) → t < 32 → mode_after s i (k.task_home t) < 32)
        → (ends : List Bool) → ((t : ℕ) → t < 32 → get_or ends t false ≡ ends_now k s t)
        → play_after input st.fixed st.play time (starting_control k s) (starting_pair k s) ends st.pair_tasks st.pair_starts st.pair_modes
        ≡ play_laid st.play (tick k s i)
    unfolding play_after play_laid age-rule bytes-rule had-rule held-rule full-rule load_rule_lem tick kept_of state_of
    play_same below ends e =
        play_made refl modes-same ages-same bytes_same (givens-same ends e) out-same held_same
        (stores_same st.play.full full-rule (flag_bytes (full_after k s i)) 32 (λ t w. full_at t (below t w)))
        (stores_same st.play.loads load_rule_lem (load_after k s i) 32 (λ t w. load_at t))
