-- What may be asked of a station, on the parts that the code looks at: the two ways of each question, and that no other part matters.
use mathlib.Core.Path.{◌≡◌, refl, sym, ap, ◌∙◌}
use mathlib.Core.Bool.{Bool, true, false, ◌&&◌}
use mathlib.Core.List.{List, []}
use lib.Dec.{ltb}
use Prim.Native.Nat.{ℕ}
use Rattle.rules.specs.Station.{is_awaited, is_running, run_age, run_period, task_age}
use Rattle.stationrefusals.specs.declared.Fixed.{Fixed}
use Rattle.stationrefusals.specs.declared.Play.{Play}
use Rattle.station.specs.declared.Station.{Station}
use Rattle.station.specs.Memory.{kept_of, state_of}
use Rattle.outward.specs.Seen.{has_begun, time_if, time_now, time_by, module_if, module_now, module_by, ticks_left, task_if, task_now, task_by, task_at, partly}

module _ (fixed : Fixed) (play : Play) where
  pub task-there : (runs : List ℕ) (t : ℕ) {b : Bool} → b ≡ (ltb 0 fixed.period.0 && ltb t fixed.tasks.count) → b ≡ true
      → task_at fixed.tasks.count runs play.running play.ages fixed.tasks.homes play.givens fixed.tasks.worsts t ≡ task_by fixed play runs t
  unfolding task_now ticks_left has_begun kept_of state_of is_awaited is_running run_age run_period task_age
  task-there runs t e y = ap (λ (z : Bool). task_if z (kept_of (partly fixed runs play)) (state_of (partly fixed runs play)) t) (sym y ∙ e)

  pub task-not : (runs : List ℕ) (t : ℕ) {b : Bool} → b ≡ (ltb 0 fixed.period.0 && ltb t fixed.tasks.count) → b ≡ false
      → record { there = 0; home = 0; awaits = 0; left = 0 } ≡ task_by fixed play runs t
  unfolding task_now ticks_left has_begun kept_of state_of is_awaited is_running run_age run_period task_age
  task-not runs t e y = ap (λ (z : Bool). task_if z (kept_of (partly fixed runs play)) (state_of (partly fixed runs play)) t) (sym y ∙ e)

-- of a whole station

module _ (st : Station) where
  abbrev bare : Station
  bare = partly st.fixed [] st.play

  abbrev running : Station
  running = partly st.fixed st.runs st.play

  pub time-whole : time_by st.fixed st.play ≡ time_now (kept_of st) (state_of st)
  unfolding time_now has_begun kept_of state_of
  time-whole = same (ltb 0 st.fixed.period.0)
    where
      same : (b : Bool) → time_if b (kept_of bare) (state_of bare) ≡ time_if b (kept_of st) (state_of st)
      same true = refl
      same false = refl

  pub module_whole : (m : ℕ) → module_by st.fixed st.play m ≡ module_now (kept_of st) (state_of st) m
  unfolding module_now has_begun kept_of state_of
  module_whole m = same (ltb 0 st.fixed.period.0 && ltb m st.fixed.modules.count)
    where
      same : (b : Bool) → module_if b (kept_of bare) (state_of bare) m ≡ module_if b (kept_of st) (state_of st) m
      same true = refl
      same false = refl

  pub task-whole : (t : ℕ) → task_by st.fixed st.play st.runs t ≡ task_now (kept_of st) (state_of st) t
  unfolding task_now ticks_left has_begun kept_of state_of is_awaited is_running run_age run_period task_age
  task-whole t = same (ltb 0 st.fixed.period.0 && ltb t st.fixed.tasks.count)
    where
      same : (b : Bool) → task_if b (kept_of running) (state_of running) t ≡ task_if b (kept_of st) (state_of st) t
      same true = refl
      same false = refl
