-- A tick looks at the station's own places alone: 8 nodes, 16 modules, 32 tasks. States that agree at these are judged alike, start the
-- same row and agree after the tick; so a history of states that agree with the rules' is a history of the rules, and demand 3 holds of it.
use mathlib.Core.Path.{◌≡◌, refl, sym, ap, ◌∙◌, subst}
use mathlib.Core.Bool.{true, false}
use mathlib.Core.List.{List, [], ◌∷◌}
use mathlib.Core.Option.{Option, none, some}
use native.Mathlib.Omega.{arith}
use lib.ListN.{length}
use Prim.Native.Nat.{ℕ, ◌<◌}
use Rattle.laws.specs.Res.{Res, ok, refuse, ◌>>◌, unless}
use Rattle.laws.proofs.Res.{refuse≢ok, ok_injective, then_case, unless-ok}
use Rattle.laws.proofs.Turns.{same_bad}
use Rattle.rules.specs.Plan.{Plan, the_task}
use Rattle.rules.specs.Traffic.{task_node, read_in}
use Rattle.rules.specs.Playing.{node_places, module_places, task_places, Input}
use Rattle.rules.specs.Station.{Kept, State, run_period, task_age, run_age, is_running, is_awaited, result_awaited, result_fits}
use Rattle.rules.specs.Station.{is_last_chance, result_in_time, may_switch, may_take, change_allowed, judged_tick, out_after}
use Rattle.rules.specs.Station.{row_with, lands_on, landed_after, held_by, held_after, ends_now, own_shows, other_shows, shown_after}
use Rattle.rules.specs.Station.{mode_after, age_after, given_after, starting_control, starting_pair, mode_byte_by, mode_byte_after}
use Rattle.rules.specs.Station.{starts_now, is_taken, full_after, load_after, tick, started, Ticked, step, Begun, begin}
use Rattle.rules.specs.StationRange.{in_range, ticked}
use Rattle.rules.specs.History.{played, board_value, consumes}
use Rattle.rules.proofs.PlanKept.{PlanKept}
use Rattle.rules.proofs.StationRanges.{KeptIn, range_tests}
use Rattle.rules.proofs.StationStays.{node-begins}
use Rattle.rules.proofs.Transparent.{consumed_on, consumed-there, transparent, transparent_own}
use Rattle.rules.specs.Checker.{is_for_consumers}
use Rattle.rules.specs.Readers.{is_thinned}
use Rattle.rules.proofs.Editions.{readable_kept_in}

-- Two states that agree at every place of a station.
pub record Agree (s s' : State) : Type 0 where
  pub clock : s.clock ≡ s'.clock
  pub mode : (m : ℕ) → m < module_places → s.mode m ≡ s'.mode m
  pub age : (m : ℕ) → m < module_places → s.age m ≡ s'.age m
  pub given : (t : ℕ) → t < task_places → s.given t ≡ s'.given t
  pub out : (t : ℕ) → t < task_places → s.out t ≡ s'.out t
  pub landed : (n : ℕ) → n < node_places → (t : ℕ) → t < task_places → s.landed n t ≡ s'.landed n t
  pub shown : (n : ℕ) → n < node_places → (t : ℕ) → t < task_places → s.shown n t ≡ s'.shown n t
  pub held : (n : ℕ) → n < node_places → (m : ℕ) → m < module_places → s.held n m ≡ s'.held n m
  pub full : (t : ℕ) → t < task_places → s.full t ≡ s'.full t
  pub load : (t : ℕ) → t < task_places → s.load t ≡ s'.load t
  pub mode_byte : (m : ℕ) → m < module_places → s.mode_byte m ≡ s'.mode_byte m

pub agree_trans : {s s' s'' : State} → Agree s s' → Agree s' s'' → Agree s s''
agree_trans a b =
    record {
      clock = a.clock ∙ b.clock;
      mode = λ m w. a.mode m w ∙ b.mode m w;
      age = λ m w. a.age m w ∙ b.age m w;
      given = λ t w. a.given t w ∙ b.given t w;
      out = λ t w. a.out t w ∙ b.out t w;
      landed = λ n v t w. a.landed n v t w ∙ b.landed n v t w;
      shown = λ n v t w. a.shown n v t w ∙ b.shown n v t w;
      held = λ n v m w. a.held n v m w ∙ b.held n v m w;
      full = λ t w. a.full t w ∙ b.full t w;
      load = λ t w. a.load t w ∙ b.load t w;
      mode_byte = λ m w. a.mode_byte m w ∙ b.mode_byte m w;
    }

-- Two inputs that agree at every place of a station.
pub record SameInput (i i' : Input) : Type 0 where
  pub result : (t : ℕ) → t < task_places → i.result t ≡ i'.result t
  pub change : (m : ℕ) → m < module_places → i.change m ≡ i'.change m

pub same-input : {i : Input} → SameInput i i
same-input = record { result = λ t w. refl; change = λ m w. refl }

-- ---- refusals 41 to 44

module _ {k : Kept} {s s' : State} {i i' : Input} (kept : KeptIn k) (a : Agree s s') (b : SameInput i i') where
  home-there : (t : ℕ) → t < task_places → k.task_home t < module_places
  home-there t w = omega (arith, (kept.tasks t w).home, kept.module_count.most)

  period_agree : (t : ℕ) → t < task_places → run_period k s t ≡ run_period k s' t
  unfolding run_period
  period_agree t w = ap (λ (μ : ℕ). k.run μ t) (a.mode (k.task_home t) (home-there t w))

  task_age_agree : (t : ℕ) → t < task_places → task_age k s t ≡ task_age k s' t
  unfolding task_age
  task_age_agree t w = a.age (k.task_home t) (home-there t w)

  run_age_agree : (t : ℕ) → t < task_places → run_age k s t ≡ run_age k s' t
  unfolding run_age
  run_age_agree t w = rw (period_agree t w, task_age_agree t w)

  running_agree : (t : ℕ) → t < task_places → is_running k s t ≡ is_running k s' t
  unfolding is_running
  running_agree t w = rw (period_agree t w, task_age_agree t w)

  result_agree : (t : ℕ) → t < task_places → result_awaited k s i t ≡ result_awaited k s' i' t
  unfolding result_awaited is_awaited
  result_agree t w = rw (b.result t w, running_agree t w, a.given t w, run_age_agree t w)

  fits_agree : (t : ℕ) → t < task_places → result_fits k i t ≡ result_fits k i' t
  unfolding result_fits
  fits_agree t w = rw (b.result t w)

  in_time_agree : (t : ℕ) → t < task_places → result_in_time k s i t ≡ result_in_time k s' i' t
  unfolding result_in_time is_last_chance
  in_time_agree t w = rw (b.result t w, running_agree t w, a.given t w, run_age_agree t w)

  allowed_agree : (m : ℕ) → m < module_places → change_allowed k s i m ≡ change_allowed k s' i' m
  unfolding change_allowed may_switch
  allowed_agree m w = rw (b.change m w) (go (i'.change m))
    where
      go : (o : Option ℕ) → may_take k s m o ≡ may_take k s' m o
      go none = refl
      go (some μ) = rw (a.mode m w, a.age m w)

  pub judged_agree : judged_tick k s i ≡ judged_tick k s' i'
  unfolding judged_tick
  judged_agree =
      rw (
        same_bad (result_awaited k s i) (result_awaited k s' i') task_places result_agree,
        same_bad (result_fits k i) (result_fits k i') task_places fits_agree,
        same_bad (result_in_time k s i) (result_in_time k s' i') task_places in_time_agree,
        same_bad (change_allowed k s i) (change_allowed k s' i') module_places allowed_agree,
      )

  -- ---- the six steps

  out_agree : (t : ℕ) → t < task_places → out_after s i t ≡ out_after s' i' t
  unfolding out_after
  out_agree t w = rw (b.result t w, a.out t w)

  landed_agree : (n : ℕ) → n < node_places → (t : ℕ) → t < task_places → landed_after k s n t ≡ landed_after k s' n t
  unfolding landed_after lands_on
  landed_agree n v t w = rw (a.full t w, a.load t w, a.landed n v t w, a.clock)

  held_agree : (n : ℕ) → n < node_places → (m : ℕ) → m < module_places → held_after k s n m ≡ held_after k s' n m
  unfolding held_after
  held_agree n v m w =
      ap (λ (now : ℕ). held_by k s n m (row_with k.control_stop k.controls now)) a.clock
      ∙ go (row_with k.control_stop k.controls s'.clock)
    where
      go : (o : Option ℕ) → held_by k s n m o ≡ held_by k s' n m o
      go none = a.held n v m w
      go (some r) = rw (a.mode_byte m w, a.held n v m w)

  ends_agree : (t : ℕ) → t < task_places → ends_now k s t ≡ ends_now k s' t
  unfolding ends_now
  ends_agree t w = rw (running_agree t w, period_agree t w, task_age_agree t w)

  shown_agree : (n : ℕ) → n < node_places → (t : ℕ) → t < task_places → shown_after k s i n t ≡ shown_after k s' i' n t
  unfolding shown_after own_shows other_shows
  shown_agree n v t w =
      rw (
        ends_agree t w,
        out_agree t w,
        held_agree n v (k.task_home t) (home-there t w),
        landed_agree n v t w,
        a.shown n v t w,
        a.clock,
      )

  mode_agree : (m : ℕ) → m < module_places → mode_after s i m ≡ mode_after s' i' m
  unfolding mode_after
  mode_agree m w = rw (b.change m w, a.mode m w)

  age_agree : (m : ℕ) → m < module_places → age_after k s i m ≡ age_after k s' i' m
  unfolding age_after
  age_agree m w = rw (b.change m w, a.age m w, a.mode m w)

  given_agree : (t : ℕ) → t < task_places → given_after k s i t ≡ given_after k s' i' t
  unfolding given_after
  given_agree t w = rw (ends_agree t w, b.change (k.task_home t) (home-there t w), a.given t w, b.result t w)

  control_agree : starting_control k s ≡ starting_control k s'
  unfolding starting_control
  control_agree = rw a.clock

  pair_agree : starting_pair k s ≡ starting_pair k s'
  unfolding starting_pair
  pair_agree = rw a.clock

  byte_agree : (m : ℕ) → m < module_places → mode_byte_after k s i m ≡ mode_byte_after k s' i' m
  unfolding mode_byte_after
  byte_agree m w = rw control_agree (go (starting_control k s'))
    where
      go : (o : Option ℕ) → mode_byte_by k s i m o ≡ mode_byte_by k s' i' m o
      go none = a.mode_byte m w
      go (some r) = rw (mode_agree m w, a.mode_byte m w)

  full_agree : (t : ℕ) → t < task_places → full_after k s i t ≡ full_after k s' i' t
  unfolding full_after starts_now is_taken
  full_agree t w = rw (mode_agree (k.task_home t) (home-there t w), a.full t w, a.clock)

  load_agree : (t : ℕ) → t < task_places → load_after k s i t ≡ load_after k s' i' t
  unfolding load_after starts_now
  load_agree t w = rw (out_agree t w, a.load t w, a.clock)

  pub tick_agree : Agree (tick k s i) (tick k s' i')
  unfolding tick
  tick_agree =
      record {
        clock = rw a.clock;
        mode = mode_agree;
        age = age_agree;
        given = given_agree;
        out = out_agree;
        landed = landed_agree;
        shown = shown_agree;
        held = held_agree;
        full = full_agree;
        load = load_agree;
        mode_byte = byte_agree;
      }

  pub started_agree : started k s ≡ started k s'
  unfolding started
  started_agree = rw (control_agree, pair_agree)

-- ---- answers

-- Two answers of a tick: the same row and states that agree, or the same refusal.
pub data SameAnswer : Res Ticked → Res Ticked → Type 0 where
  accepted : {t t' : Ticked} → t.row ≡ t'.row → Agree t.state t'.state → SameAnswer (ok t) (ok t')
  refused : (n p : ℕ) → SameAnswer (refuse n p) (refuse n p)

-- an accepted tick that agrees with the one given
pub record AlsoOk (t : Ticked) (r : Res Ticked) : Type 0 where
  pub other : Ticked
  pub is : r ≡ ok other
  pub row : t.row ≡ other.row
  pub state : Agree t.state other.state

pub answer_ok : {r r' : Res Ticked} {t : Ticked} → SameAnswer r r' → r ≡ ok t → AlsoOk t r'
answer_ok (accepted {t' = t'} row state) e =
    let same = ok_injective e in
    record {
      other = t';
      is = refl;
      row = sym (ap (λ (t : Ticked). t.row) same) ∙ row;
      state = subst (λ (t : Ticked). Agree t.state t'.state) same state;
    }
answer_ok (refused n p) e = refuse≢ok e

pub answer-refused : {r r' : Res Ticked} {n p : ℕ} → SameAnswer r r' → r ≡ refuse n p → r' ≡ refuse n p
answer-refused (accepted row state) e = refuse≢ok (sym e)
answer-refused (refused n p) e = e

module _ (k : Kept) {s s' : State} {i i' : Input} (a : Agree s s') (b : SameInput i i') where
  pub step_agree : KeptIn k → SameAnswer (step k s i) (step k s' i')
  unfolding step
  step_agree kept = rw (judged_agree kept a b) (go (judged_tick k s' i'))
    where
      go : (r : Res (Unit {0}))
          → SameAnswer (◌>>◌ r (ok (record { row = started k s; state = tick k s i })))
          (◌>>◌ r (ok (record { row = started k s'; state = tick k s' i' })))
      go (ok u) = accepted (started_agree kept a b) (tick_agree kept a b)
      go (refuse n p) = refused n p

-- ---- histories

-- Stations one after the other, each the agreeing result of an accepted tick of the one before.
pub data Follows (k : Kept) : State → List Input → State → Type 0 where
  begun : {s : State} → Follows k s [] s
  next :
      {s before after : State} {past : List Input} {t : Ticked} (i : Input) → Follows k s past before → ticked k before i ≡ ok t →
      Agree after t.state → Follows k s (i ∷ past) after

-- a tick that is accepted on a station value is accepted by the rules 41 to 44
steps : (k : Kept) (s : State) (i : Input) (t : Ticked) → ticked k s i ≡ ok t → (in_range k s ≡ true) × (step k s i ≡ ok t)
unfolding ticked
steps k s i t e = then_case (unless 40 0 (in_range k s)) (step k s i) e λ u f g. (unless-ok 40 0 (in_range k s) f, g)

played-on : (k : Kept) (s before : State) (i : Input) (past : List Input) (t : Ticked) → played k s past ≡ ok before → step k before i ≡ ok t
    → played k s (i ∷ past) ≡ ok t.state
unfolding played
played-on k s before i past t e q = rw (e, q)

-- the rules play the same history, to a state that agrees
pub follows-played : {k : Kept} {s s₀ after : State} {history : List Input} → Agree s s₀ → Follows k s history after
    → (s₁ : State) × ((played k s₀ history ≡ ok s₁) × Agree after s₁)
unfolding played
follows-played {s₀ = s₀} a begun = (s₀, (refl, a))
follows-played {k} {s₀ = s₀} a (next {before = before} {past = past} {t = t} i f e same) =
    let h = follows-played a f in
    let g = steps k before i t e in
    let other = answer_ok (step_agree k h.1.1 same-input ((range_tests k before).says g.0).0) g.1 in
    (other.other.state, (played-on k s₀ h.0 i past other.other h.1.0 other.is, agree_trans same other.state))

-- ---- demand 3

pub task-node : (p : Plan) → PlanKept p → (t : ℕ) → task_node p t < node_places
unfolding task_node
task-node p kept t = node-begins p kept (the_task p t).home

-- Of stations that follow one another from a beginning, the value shown is the one board's:
module _ (plan table : List ℕ) (starting : ℕ → Option ℕ) (b : Begun) (begins : begin plan table starting ≡ ok b)
    (p : Plan) (reads : read_in (is_for_consumers table) plan ≡ ok p) (s : State) (same : Agree s b.state) (history : List Input) (after : State)
    (follows : Follows b.kept s history after) where
  kept-plan : PlanKept p
  kept-plan = readable_kept_in (is_for_consumers table) plan p reads

  task-place : (t : ℕ) → t < length p.tasks → t < task_places
  task-place t w = omega (arith, w, kept-plan.task_count.most)

  -- what is shown is what the rules' state shows
  abbrev now : (s₁ : State) × ((played b.kept b.state history ≡ ok s₁) × Agree after s₁)
  now = follows-played same follows

  pub shown-there : (n t : ℕ) → consumes p n t ≡ true → after.shown n t ≡ now.0.shown n t
  shown-there n t c =
      let on = consumed_on p n t c in
      let node : n < node_places = rw (← on.1) (task-node p kept-plan on.0) in
      now.1.1.shown n node t (task-place t (consumed-there p n t c kept-plan))

  pub shown-there-own : (t : ℕ) → t < length p.tasks → after.shown (task_node p t) t ≡ now.0.shown (task_node p t) t
  shown-there-own t w = now.1.1.shown (task_node p t) (task-node p kept-plan t) t (task-place t w)

  -- on every node that consumes a task of another node, if it is not thinned
  pub transparent_follows : (n t : ℕ) → consumes p n t ≡ true → is_thinned p t ≡ false → after.shown n t ≡ board_value p starting t history
  transparent_follows n t c whole =
      shown-there n t c ∙ transparent plan table starting b begins p reads history now.0 now.1.0 n t c whole

  -- on a task's own node
  pub transparent_follows-own : (t : ℕ) → t < length p.tasks → after.shown (task_node p t) t ≡ board_value p starting t history
  transparent_follows-own t w = shown-there-own t w ∙ transparent_own plan table starting b begins p reads history now.0 now.1.0 t w
