-- Refusals 41 to 44 in plain words, over the history itself (docs/RULES.md, 8.7, 8.8 and 8.41 to 8.44): when a result may be given, when
-- one must be, and when a module may change its mode. The newest tick of a history stands in front, so the tick behind it has the number
-- of its length.
use Rattle.std.specs.Prelude.{◌≡◌, List, [], ◌∷◌, length, ℕ, ◌+◌, ◌-◌, ◌^◌, ◌≤◌, ◌<◌}
use Rattle.std.proofs.Math.Option.{Option, some}
use Rattle.std.specs.Int.{◌∣◌}
use Rattle.rules.specs.Plan.{Plan, the_mode, the_task}
use Rattle.rules.specs.Playing.{module_places, task_places, Input, period_in}
use Rattle.rules.specs.History.{home_in, first_in}
use Rattle.rules.specs.Told.{At, InMode}

-- At the tick behind this past a run of the task is under way, released at tick `release`: its module is in a mode that invokes the
-- task with period T, the mode was a whole number of periods old at the release, and this tick is one of the T behind it. (The tick of
-- a release belongs to the run before.)
pub record UnderWay (home : ℕ → ℕ) (run : ℕ → ℕ → ℕ) (first : ℕ → ℕ) (t : ℕ) (past : List Input) (release T : ℕ) : Type 0 where
  pub mode : ℕ
  pub since : ℕ
  pub in_mode : InMode first (home t) past mode since (length past)
  pub period : run mode t ≡ T
  pub began : since ≤ release
  pub whole : T ∣ release - since
  pub released : release < length past
  pub lasts : length past ≤ release + T

-- the task was given no result after tick `release`
abbrev pub Silent : ℕ → List Input → ℕ → Type 0
Silent t past release = (x v : ℕ) (i : Input) → release < x → At past x i → i.result t ≡ some v → ⊥

module _ (p : Plan) (starting : ℕ → Option ℕ) (past : List Input) where
  -- A run of the task, released at tick `release`, is under way and has had no result.
  pub record Waits (t release : ℕ) : Type 0 where
    pub in_plan : t < length p.tasks
    pub period : ℕ
    pub run : UnderWay (home_in p) (period_in p) (first_in starting) t past release period
    pub silent : Silent t past release

  -- 41: a run waits for its result, and its worst time is not over
  pub record MayGive (t : ℕ) : Type 0 where
    pub release : ℕ
    pub waits : Waits t release
    pub in_time : length past ≤ release + (the_task p t).worst

  -- 44: the mode is one of the module's own, and the mode that is left began a whole number of its switch periods ago
  pub record MayTurn (m μ : ℕ) : Type 0 where
    pub in_plan : m < length p.modules
    pub is_mode : μ < length p.modes
    pub own : (the_mode p μ).home ≡ m
    pub left : ℕ
    pub since : ℕ
    pub in_mode : InMode (first_in starting) m past left since (length past)
    pub instant : (the_mode p left).switch ∣ length past - since

  -- What may be given at the tick behind this past: 41 a result only where one may be; 42 one that fits its message; 43 a result of
  -- each task with a run that waits and whose worst time ends now; 44 a mode only where it may begin.
  pub record MayTell (i : Input) : Type 0 where
    pub results : (t v : ℕ) → t < task_places → i.result t ≡ some v → MayGive t
    pub fits : (t v : ℕ) → t < task_places → i.result t ≡ some v → v < 256 ^ (the_task p t).size
    pub due : (t release : ℕ) → Waits t release → length past ≡ release + (the_task p t).worst → (v : ℕ) × (i.result t ≡ some v)
    pub changes : (m μ : ℕ) → m < module_places → i.change m ≡ some μ → MayTurn m μ

-- each tick of the history was given what it may be given
pub data Allowed (p : Plan) (starting : ℕ → Option ℕ) : List Input → Type 0 where
  at_start : Allowed p starting []
  one_more : {i : Input} {past : List Input} → Allowed p starting past → MayTell p starting past i → Allowed p starting (i ∷ past)
