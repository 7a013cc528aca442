-- Demand 3 says something: from every beginning, and behind every accepted history, another tick is accepted, so that there are
-- accepted histories of every length; and in one that is computed the value on a consumer changes twice.
use mathlib.Core.Path.{◌≡◌, refl, sym, ap}
use mathlib.Core.Bool.{Bool, true, false, not, ◌&&◌}
use mathlib.Core.List.{List, [], ◌∷◌}
use mathlib.Core.Option.{Option, none, some}
use native.Mathlib.Nat.{one-le-pow}
use native.Mathlib.Omega.{arith}
use borrow.Author.Tests.{not-true}
use lib.Dec.{T, eqb, ltb}
use lib.ListN.{length}
use Prim.Native.Nat.{ℕ, zero, suc, ◌^◌, ◌<◌}
use Rattle.laws.specs.Res.{Res, ok, refuse}
use Rattle.laws.specs.Lists.{all}
use Rattle.laws.proofs.Lists.{both_left, both_right}
use Rattle.laws.proofs.Tests.{by_eq}
use Rattle.rules.specs.Plan.{Plan, read_plan}
use Rattle.rules.specs.Jobs.{rec, file}
use Rattle.rules.specs.Playing.{Input, is_run, period_among, period_in}
use Rattle.rules.specs.Station.{Kept, State, Begun, passed_pair, passed_row, kept_of, state_at_start, home_node, run_period}
use Rattle.rules.specs.Station.{task_age, run_age, is_running, is_awaited, result_awaited, result_fits, is_last_chance, result_in_time}
use Rattle.rules.specs.Station.{is_mode_of, may_switch, change_allowed, judged_tick, out_after, has_time, row_with, is_at, some_at}
use Rattle.rules.specs.Station.{is_sent_at, some_sent_at, lands_on, landed_after, is_byte_of, held_after, ends_now, has_message}
use Rattle.rules.specs.Station.{own_shows, other_shows, shown_after, mode_after, one_on, age_after, given_after, starting_control}
use Rattle.rules.specs.Station.{starting_pair, mode_byte_after, starts_now, is_taken, full_after, load_after, tick, kept_control}
use Rattle.rules.specs.Station.{kept_data, started, step, starts_well, begin}
use Rattle.rules.specs.Obeys.{IsRunning, IsAwaited, MayTick}
use Rattle.rules.specs.History.{played, brings, consumes}
use Rattle.rules.proofs.Jobs.{everything}
use Rattle.rules.proofs.StationExact.{none-some, some_same, running_tests, step-passes}

-- ---- each result at its last chance, value 0, and no change

abbrev pub zero_if : Bool → Option ℕ
zero_if true = some 0
zero_if false = none

unfoldable pub late_result : Kept → State → ℕ → Option ℕ
late_result k s t = zero_if (is_last_chance k s t && not (s.given t))

unfoldable pub late : Kept → State → Input
late k s = record { result = late_result k s; change = λ m. none }

module _ (k : Kept) (s : State) where
  given-late : (b : Bool) (v : ℕ) → zero_if b ≡ some v → (b ≡ true) × (v ≡ 0)
  given-late true v e = (refl, sym (some_same e))
  given-late false v e = none-some e

  abbrev runs : ℕ → Bool
  runs t = ltb t k.tasks && is_running k s t

  chance : (t : ℕ) → is_last_chance k s t ≡ true → IsRunning k s t × (run_age k s t ≡ k.task_worst t)
  unfolding is_last_chance
  chance t e = (
    (running_tests k s t).says (both_left (runs t) (eqb (run_age k s t) (k.task_worst t)) e),
    (by_eq (run_age k s t) (k.task_worst t)).says (both_right (runs t) (eqb (run_age k s t) (k.task_worst t)) e),
  )

  late-awaited : (t v : ℕ) → late_result k s t ≡ some v → IsAwaited k s t
  unfolding late_result
  late-awaited t v e =
      let g = (given-late (is_last_chance k s t && not (s.given t)) v e).0 in
      let c = chance t (both_left (is_last_chance k s t) (not (s.given t)) g) in
      record {
        running = c.0;
        first = not-true (s.given t) (both_right (is_last_chance k s t) (not (s.given t)) g);
        early = omega (arith, c.1);
      }

  late-fits : (t v : ℕ) → late_result k s t ≡ some v → v < 256 ^ k.task_size t
  unfolding late_result
  late-fits t v e =
      omega (arith, (given-late (is_last_chance k s t && not (s.given t)) v e).1, one-le-pow (k.task_size t) 256 (omega arith))

  late_in_time : (t : ℕ) → IsRunning k s t → run_age k s t ≡ k.task_worst t → s.given t ≡ false → late_result k s t ≡ some 0
  unfolding late_result is_last_chance
  late_in_time t r a g = rw ((running_tests k s t).passes r, (by_eq (run_age k s t) (k.task_worst t)).passes a, g)

  -- on every state such a tick is accepted
  pub late-may : MayTick k s (late k s)
  unfolding late
  late-may =
      record {
        awaited = λ t v w. late-awaited t v;
        fits = λ t v w. late-fits t v;
        in_time = λ t w r a g. (0, late_in_time t r a g);
        allowed = λ m μ w e. none-some e;
      }

-- ---- histories of every length

pub record Played (k : Kept) (s : State) (n : ℕ) : Type 0 where
  pub history : List Input
  pub long : length history ≡ n
  pub behind : State
  pub plays : played k s history ≡ ok behind

-- behind every accepted history another tick is accepted
pub plays_more : (k : Kept) (s behind : State) (history : List Input) → played k s history ≡ ok behind
    → played k s (late k behind ∷ history) ≡ ok (tick k behind (late k behind))
unfolding played
plays_more k s behind history e = rw (e, step-passes k behind (late k behind) (late-may k behind))

pub plays-long : (k : Kept) (s : State) (n : ℕ) → Played k s n
unfolding played
plays-long k s zero = record { history = []; long = refl; behind = s; plays = refl }
plays-long k s (suc n) =
    let h = plays-long k s n in
    record {
      history = late k h.behind ∷ h.history;
      long = ap suc h.long;
      behind = tick k h.behind (late k h.behind);
      plays = plays_more k s h.behind h.history h.plays;
    }

-- from every beginning
pub begun-plays : (plan table : List ℕ) (starting : ℕ → Option ℕ) (b : Begun) → begin plan table starting ≡ ok b → (n : ℕ)
    → Played b.kept b.state n
begun-plays plan table starting b e n = plays-long b.kept b.state n

-- ---- a history in which the value changes

-- Two modules on two nodes, each with one mode of 2 ticks; task 0, of 1 byte and w 1, runs once in it, and task 1 consumes it. A byte
-- takes a tick, so the table has the control row at 0 and the data row at 1.
tiny_plan : List ℕ
tiny_plan =
    file
    (rec 1 (8000 ∷ 0 ∷ 0 ∷ 254 ∷ 0 ∷ 1 ∷ [])
    ∷ rec 2 (2 ∷ [])
    ∷ rec 3 (0 ∷ [])
    ∷ rec 3 (1 ∷ [])
    ∷ rec 4 (0 ∷ 2 ∷ 2 ∷ [])
    ∷ rec 4 (1 ∷ 2 ∷ 2 ∷ [])
    ∷ rec 5 (0 ∷ 1 ∷ 1 ∷ [])
    ∷ rec 5 (1 ∷ 1 ∷ 1 ∷ [])
    ∷ rec 6 (0 ∷ 0 ∷ 1 ∷ [])
    ∷ rec 7 (0 ∷ 1 ∷ [])
    ∷ [])

tiny_table : List ℕ
tiny_table = file (rec 16 (2 ∷ 1 ∷ 1 ∷ []) ∷ rec 17 (0 ∷ 0 ∷ 1 ∷ []) ∷ rec 18 (0 ∷ 2 ∷ 1 ∷ 2 ∷ []) ∷ [])

-- module 0 in mode 0, module 1 in mode 1
tiny_start : ℕ → Option ℕ
tiny_start zero = some 0
tiny_start (suc zero) = some 1
tiny_start (suc (suc m)) = none

quiet : Input
quiet = record { result = λ t. none; change = λ m. none }

-- a result of task 0
result_of : ℕ → ℕ → Option ℕ
result_of v zero = some v
result_of v (suc t) = none

gives : ℕ → Input
gives v = record { result = result_of v; change = λ m. none }

shown_is : ℕ → Res State → Bool
shown_is v (ok s) = eqb (s.shown 1 0) v
shown_is v (refuse n p) = false

-- behind the history node 1 shows v of task 0
shows_behind : ℕ → List Input → Res Begun → Bool
shows_behind v history (ok b) = shown_is v (played b.kept b.state history)
shows_behind v history (refuse n p) = false

consumed_in : Res Plan → Bool
consumed_in (ok p) = consumes p 1 0
consumed_in (refuse n p) = false

abbrev is_true : Bool → Bool
is_true b = b

-- node 1 consumes task 0, and shows 0, then 7 from tick 2 on, then 9 from tick 4 on
pub changing : List Bool
changing =
    consumed_in (read_plan tiny_plan)
    ∷ shows_behind 0 (gives 7 ∷ quiet ∷ []) (begin tiny_plan tiny_table tiny_start)
    ∷ shows_behind 7 (quiet ∷ gives 7 ∷ quiet ∷ []) (begin tiny_plan tiny_table tiny_start)
    ∷ shows_behind 7 (gives 9 ∷ quiet ∷ gives 7 ∷ quiet ∷ []) (begin tiny_plan tiny_table tiny_start)
    ∷ shows_behind 9 (quiet ∷ gives 9 ∷ quiet ∷ gives 7 ∷ quiet ∷ []) (begin tiny_plan tiny_table tiny_start)
    ∷ []

opened : Unit {0}
unfolding everything tiny_plan tiny_table tiny_start quiet result_of gives shown_is shows_behind consumed_in changing brings consumes
    played passed_pair passed_row kept_of state_at_start home_node run_period task_age run_age is_running is_awaited result_awaited result_fits
    is_last_chance result_in_time is_mode_of may_switch change_allowed judged_tick out_after has_time row_with is_at some_at is_sent_at some_sent_at
    lands_on landed_after is_byte_of held_after ends_now has_message own_shows other_shows shown_after mode_after one_on age_after given_after
    starting_control starting_pair mode_byte_after starts_now is_taken full_after load_after tick kept_control kept_data started step
    starts_well begin is_run period_among period_in
opened = tt

pub changes : T (all is_true changing)
unfolding opened
changes = tt
