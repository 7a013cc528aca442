-- The two ways of a tick over plain variables: what its parts give makes up the rules' answer.
use mathlib.Core.Path.{◌≡◌, refl, sym, ap, ◌∙◌}
use mathlib.Core.Bool.{Bool, true, false, cond, not}
use mathlib.Core.List.{List}
use Rattle.std.specs.Prelude.{Ok, Err}
use native.Mathlib.Omega.{arith}
use lib.ListN.{get_or, replicate, length-replicate}
use borrow.Author.Tests.{not-true}
use Prim.Native.Nat.{ℕ, ◌<◌}
use Rattle.laws.specs.Lists.{all, up_to}
use Rattle.laws.specs.Loops.{stores}
use Rattle.laws.specs.Res.{Res, ok, ◌>>◌, unless}
use Rattle.laws.proofs.Lists.{true-false, both_left, both_right, all-up_to-true}
use Rattle.laws.proofs.Res.{then_assoc, then_case, unless-ok}
use Rattle.laws.proofs.Stores.{stores-within}
use Rattle.answers.specs.Refusals.{said}
use Rattle.answers.specs.declared.Refusal.{Refusal}
use Rattle.rules.specs.Station as rules
use Rattle.rules.specs.Station.{
  Kept,
  State,
  tick,
  started,
  mode_after,
  held_after,
  starting_control,
  starting_pair,
  step,
  judged_tick,
  ends_now,
  is_running,
  run_period,
  task_age,
}
use Rattle.rules.specs.StationRange.{in_range, ticked}
use Rattle.rules.specs.Playing.{Input}
use Rattle.rules.proofs.StationStays.{KeptIn, StateIn, range_tests, tick-stays, in_range_steps}
use Rattle.stationruns.specs.Inputs.{input_of}
use Rattle.stationruns.specs.declared.Input as given
use Rattle.stationsteps.specs.Steps.{ends_rule}
use Rattle.stationnodes.specs.Nodes.{is_idle_at}
use Rattle.stationnodes.specs.declared.Node.{Node}
use Rattle.station.specs.Memory.{kept_of, state_of, ruled, play_laid, node_laid, laid}
use Rattle.station.specs.Parts.{Completes, Valued, due_by, left_alone, nodes_by, with_play_and_nodes}
use Rattle.stationmoves.specs.Moving.{Reads, advanced_by}
use Rattle.stationrefusals.specs.Refusing.{refused_by}
use Rattle.station.specs.Answers.{Answers, Said, outcome, is_refused, row_said}
use Rattle.stationmoves.specs.declared.Advanced.{Advanced}
use Rattle.stationrefusals.specs.declared.Play.{Play}
use Rattle.station.specs.declared.Station.{Station}
use Rattle.station.specs.declared.Ticked.{Ticked}
use Rattle.station.specs.declared.BeforeNodes.{BeforeNodes}
use Rattle.station.proofs.Ranges.{kept_range, state_range, judged-same}
use Rattle.station.proofs.Steps.{said_same, play_same}
use Rattle.station.proofs.Nodes.{lands_now, nodes-same, nodes_stay}

-- a row that starts is an accepted answer
row-outcome : (w : rules.Started) (r : Ticked) → outcome (row_said w) r ≡ ok r
row-outcome (rules.control w) r = refl
row-outcome (rules.message w) r = refl
row-outcome rules.nothing r = refl

row_accepted : (w : rules.Started) → is_refused (row_said w) ≡ false
row_accepted (rules.control w) = refl
row_accepted (rules.message w) = refl
row_accepted rules.nothing = refl

module _ (st : Station) (input : given.Input) (valued : Valued st.nodes) where
  abbrev k : Kept
  k = kept_of st

  abbrev s : State
  s = state_of st

  abbrev i : Input
  i = input_of input

  abbrev refusal : Res (Unit {0})
  refusal =
      refused_by input st.fixed st.play st.runs st.pair_tasks st.pair_deadlines st.pair_starts st.pair_stops

  -- 40 to 44
  refusal_same : refusal ≡ ◌>>◌ (unless 40 0 (in_range k s)) (judged_tick k s i)
  unfolding refused_by in_range
  refusal_same = rw (kept_range st, state_range st valued, judged-same st input)

  ticked-same : ticked k s i ≡ ◌>>◌ refusal (ok (record { row = started k s; state = tick k s i }))
  unfolding ticked step
  ticked-same = rw refusal_same (sym (then_assoc (unless 40 0 (in_range k s)) (judged_tick k s i) (ok (record { row = started k s; state = tick k s i }))))

  -- ---- a refused tick

  module _ (x : Refusal) (refused : said x ≡ refusal) where
    pub refused_way : Completes st input (Err x) (left_alone st.play)
    refused_way =
        record {
          idle = λ i. record { says = rw (ticked-same, ← refused); unchanged = λ q. refl };
          busy = λ i. true-false i;
        }

  -- ---- an accepted tick

  module _ (fine : ok tt ≡ refusal) where
    within : in_range k s ≡ true
    within = then_case (unless 40 0 (in_range k s)) (judged_tick k s i) (sym refusal_same ∙ sym fine) (λ u e f. unless-ok 40 0 (in_range k s) e)

    ticked-is : ticked k s i ≡ ok (record { row = started k s; state = tick k s i })
    ticked-is = rw (ticked-same, ← fine)

    -- what is kept is in range, and stays so
    kept : KeptIn k
    kept = ((range_tests k s).says within).0

    after : StateIn k (tick k s i)
    after =
        ((range_tests k (tick k s i)).says
        (tick-stays k s i (record { row = started k s; state = tick k s i }) within (sym (in_range_steps k s i within) ∙ ticked-is))
        ).1

    home-there : (t : ℕ) → t < 32 → k.task_home t < 16
    home-there t w = omega (arith, (kept.tasks t w).home, kept.module_count.most)

    -- so the modes after (d), and the mode bytes held, are modes
    mode-there : (t : ℕ) → t < 32 → mode_after s i (k.task_home t) < 32
    unfolding tick
    mode-there t w = omega (arith, (after.plays (k.task_home t) (home-there t w)).mode, kept.mode_count.most)

    held-there : (n t : ℕ) → n < 8 → t < 32 → held_after k s n (k.task_home t) < 32
    unfolding tick
    held-there n t v w = omega (arith, after.held n v (k.task_home t) (home-there t w), kept.mode_count.most)

    -- whichever way the nodes were changed
    accepted : {sd : Said} {play : Play} {nodes : List Node} → sd ≡ row_said (started k s) → play ≡ play_laid st.play (tick k s i)
        → nodes ≡ stores st.nodes (node_laid st.nodes (tick k s i)) 8
        → Answers st (ticked k s i) (record { said = sd; station = with_play_and_nodes st play nodes })
    unfolding laid
    accepted e f g =
        record {
          says = rw (e, f, g, ticked-is) (row-outcome (started k s) _);
          unchanged = λ q. true-false (sym q ∙ ap is_refused e ∙ row_accepted (started k s));
        }

    module _ {ends lands : List Bool} {next : Advanced}
        (ended : ends ≡ stores (replicate 32 false) (ends_rule st.runs st.play.running st.play.ages st.fixed.tasks.homes) 32)
        (moving : next
        ≡ advanced_by input st.fixed st.play ends st.pair_tasks st.pair_deadlines st.pair_starts st.pair_stops st.pair_modes)
        (landing : lands ≡ stores (replicate 32 false) (lands_now st) 32) where
      ends_at : (t : ℕ) → t < 32 → get_or ends t false ≡ ends_now k s t
      unfolding ends_now is_running run_period task_age kept_of state_of
      ends_at t w =
          stores-within (replicate 32 false) (ends_rule st.runs st.play.running st.play.ages st.fixed.tasks.homes) 32 false refl ended
          t w

      lands_at : (t : ℕ) → t < 32 → get_or lands t false ≡ lands_now st t
      lands_at t w = stores-within (replicate 32 false) (lands_now st) 32 false (length-replicate 32 false) landing t w

      said-is : Ok next.row ≡ row_said (started k s)
      unfolding advanced_by started starting_control starting_pair kept_of state_of
      said-is = ap (λ (n : Advanced). Ok n.row) moving ∙ said_same st (starting_control k s) (starting_pair k s)

      play_is : next.play ≡ play_laid st.play (tick k s i)
      unfolding advanced_by starting_control starting_pair kept_of state_of
      play_is = ap (λ n. n.play) moving ∙ play_same st input mode-there ends ends_at

      -- nothing lands and no run ends: the nodes stay
      idle_way : all (is_idle_at lands ends) (up_to 32) ≡ true
          → Answers st (ticked k s i) (record { said = Ok next.row; station = with_play_and_nodes st next.play st.nodes })
      idle_way idle =
          let both : (t : ℕ) → t < 32 → is_idle_at lands ends t ≡ true = λ t w. all-up_to-true (is_idle_at lands ends) 32 t idle w in
          accepted said-is play_is
          (nodes_stay st input (λ t w. sym (lands_at t w) ∙ not-true _ (both_left _ _ (both t w)))
          (λ t w. sym (ends_at t w) ∙ not-true _ (both_right (not (get_or lands t false)) _ (both t w))))

      abbrev due-now : List ℕ
      due-now = due_by st.pair_tasks st.pair_deadlines st.pair_modes st.fixed.pairs st.play.clock.0

      module _ (due : List ℕ) (b : Bool) (reads : Reads input st.fixed st.play next.play) where
        abbrev part : BeforeNodes
        part = record { play = next.play; idle = b; lands = lands; loads = st.play.loads; due = due; ends = ends }

        busy_way : due ≡ due-now
            → Answers st (ticked k s i)
            (record { said = Ok next.row; station = with_play_and_nodes st next.play (nodes_by st.fixed part st.nodes) })
        busy_way sent = accepted said-is play_is (nodes-same st input next.play ends reads landing sent ends_at within held-there b)

        pub accepted_way : b ≡ all (is_idle_at lands ends) (up_to 32) → due ≡ cond b (replicate 32 0) due-now → Completes st input (Ok next.row) part
        accepted_way e sent =
            record {
              idle = λ t. idle_way (sym e ∙ t);
              busy = λ f. busy_way (sent ∙ ap (λ (x : Bool). cond x (replicate 32 0) due-now) f);
            }

-- ---- the first part, and the nodes behind it

module _ {st self : Station} {input : given.Input} {sd : Said} {part : BeforeNodes} (first : Completes st input sd part) where
  pub idle-tick : part.idle ≡ true → self ≡ st
      → Answers st (ruled st input)
      (record { said = sd; station = with_play_and_nodes self part.play self.nodes })
  idle-tick i q = rw q (first.idle i)

  pub busy-tick : {nodes : List Node} → part.idle ≡ false → nodes ≡ nodes_by st.fixed part st.nodes
      → self ≡ with_play_and_nodes st st.play nodes
      → Answers st (ruled st input)
      (record { said = sd; station = with_play_and_nodes self part.play self.nodes })
  busy-tick i e q = rw (q, e) (first.busy i)
