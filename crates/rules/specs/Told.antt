-- One board in plain words (docs/RULES.md, section 9), over the history itself: its ticks by their number from 0 on, the runs that
-- ended in it, the one result of a run, and the value of a task.
use Rattle.std.specs.Prelude.{◌≡◌, true, length, ℕ, ◌+◌, ◌-◌, ◌≤◌, ◌<◌}
use mathlib.Core.List.{List, ◌∷◌, Memᴰ}
use Rattle.std.proofs.Math.Option.{Option, none, some}
use Rattle.std.specs.Int.{◌∣◌}
use Rattle.rules.specs.Plan.{Connection, Plan}
use Rattle.rules.specs.Traffic.{task_node}
use Rattle.rules.specs.Playing.{Input, period_in}
use Rattle.rules.specs.History.{home_in, first_in, consumes}

-- Tick x of the history (the first is tick 0, the newest stands in front) was given i.
pub data At : List Input → ℕ → Input → Type 0 where
  newest : {i : Input} {past : List Input} {x : ℕ} → x ≡ length past → At (i ∷ past) x i
  older : {i j : Input} {past : List Input} {x : ℕ} → At past x i → At (j ∷ past) x i

-- Before tick `now` the module was in mode μ since tick `since`: it started in it, or a change to it was given then.
pub data Enters (first : ℕ → ℕ) (m : ℕ) (history : List Input) (μ since now : ℕ) : Type 0 where
  from_start :
      since ≡ 0 → μ ≡ first m → ((i : Input) → 0 < now → At history 0 i → i.change m ≡ none) →
      Enters first m history μ since now
  by_change :
      (i : Input) → since < now → At history since i → i.change m ≡ some μ → Enters first m history μ since now

-- And no change was given after that.
pub record InMode (first : ℕ → ℕ) (m : ℕ) (history : List Input) (μ since now : ℕ) : Type 0 where
  pub enters : Enters first m history μ since now
  pub stays : (x : ℕ) (i : Input) → since < x → x < now → At history x i → i.change m ≡ none

module _ (home : ℕ → ℕ) (run : ℕ → ℕ → ℕ) (first : ℕ → ℕ) where
  -- A run of the task, released at tick `release`, ended T ticks later, at a tick of the history: until then its module was in a
  -- mode that invokes the task with period T, and the mode was a whole number of periods old at the release.
  pub record EndedRun (t : ℕ) (history : List Input) (release T : ℕ) : Type 0 where
    pub mode : ℕ
    pub since : ℕ
    pub in_mode : InMode first (home t) history mode since (release + T)
    pub period : run mode t ≡ T
    pub lasts : 0 < T
    pub began : since ≤ release
    pub whole : T ∣ release - since
    pub ended : release + T < length history

  -- and no run ended later
  pub record LastRun (t : ℕ) (history : List Input) (release T : ℕ) : Type 0 where
    pub one : EndedRun t history release T
    pub last : (release' T' : ℕ) → EndedRun t history release' T' → release' + T' ≤ release + T

  -- v is the one result that the task was given after tick `release` and up to tick `end`
  pub record OneResult (t : ℕ) (history : List Input) (release end v : ℕ) : Type 0 where
    pub tick : ℕ
    pub input : Input
    pub given : At history tick input
    pub late : release < tick
    pub early : tick ≤ end
    pub result : input.result t ≡ some v
    pub only : (x w : ℕ) (i : Input) → release < x → x ≤ end → At history x i → i.result t ≡ some w → x ≡ tick

  -- The value of the task is the one result of the last run that has ended, or zero if none has.
  pub data ValueIs (t : ℕ) (history : List Input) (v : ℕ) : Type 0 where
    of_none : ((release T : ℕ) → EndedRun t history release T → ⊥) → v ≡ 0 → ValueIs t history v
    of_last : (release T : ℕ) → LastRun t history release T → OneResult t history release (release + T) v → ValueIs t history v

  -- The task is released at the newest tick of the history: behind that tick its module is in a mode that invokes it, and the mode began a
  -- whole number of the invocation's periods before; a mode that begins at this tick releases it too.
  pub record Released (t : ℕ) (history : List Input) : Type 0 where
    pub tick : ℕ
    pub newest : length history ≡ tick + 1
    pub mode : ℕ
    pub since : ℕ
    pub in_mode : InMode first (home t) history mode since (length history)
    pub invoked : 0 < run mode t
    pub whole : run mode t ∣ tick - since

-- v is the one result of the last run of the plan's task that has ended in the history, or zero if none has
abbrev pub Tells : Plan → (ℕ → Option ℕ) → ℕ → List Input → ℕ → Type 0
Tells p starting t history v = ValueIs (home_in p) (period_in p) (first_in starting) t history v

-- Demand 3: behind the history, what is shown by node and task is told by it, on every node that consumes a task of another node and
-- on a task's own.
pub record ShowsTold (p : Plan) (starting : ℕ → Option ℕ) (history : List Input) (shown : ℕ → ℕ → ℕ) : Type 0 where
  pub consumed : (n t : ℕ) → consumes p n t ≡ true → Tells p starting t history (shown n t)
  pub own : (t : ℕ) → t < length p.tasks → Tells p starting t history (shown (task_node p t) t)

-- the plan's task is released at the newest tick
abbrev pub ReleasedIn : Plan → (ℕ → Option ℕ) → ℕ → List Input → Type 0
ReleasedIn p starting t history = Released (home_in p) (period_in p) (first_in starting) t history

-- Demand 3 where only what is read is sent (docs/RULES.md, section 21): of every connection between two nodes, wherever the consumer is released at the newest
-- tick its node shows what the history tells of the producer; a task's own node does at every tick.
pub record ShowsRead (p : Plan) (starting : ℕ → Option ℕ) (history : List Input) (shown : ℕ → ℕ → ℕ) : Type 0 where
  pub read : (c : Connection) → Memᴰ c p.connections → (task_node p c.producer ≡ task_node p c.consumer → ⊥)
      → ReleasedIn p starting c.consumer history
      → Tells p starting c.producer history (shown (task_node p c.consumer) c.producer)
  pub own : (t : ℕ) → t < length p.tasks → Tells p starting t history (shown (task_node p t) t)
