-- docs/RULES.md, rules 13.1 to 13.4 and 21.9: the pairs found directly. From one pair the walk goes straight to the next, which it finds from
-- the runs' periods and those with which they are read; no multiple in between is looked at, and the steps are counted. That it finds the
-- pairs of rule 4.7: `proofs/Direct`.
use Rattle.std.specs.Prelude.{Bool, true, false, cond, ◌&&◌, eqb, ltb, length, ℕ, zero, suc, ◌+◌, ◌*◌, ◌-◌, ◌/◌, ◌%◌, min}
use mathlib.Core.List.{List, [], ◌∷◌, map, foldr}
use Rattle.laws.specs.Lists.{keep}
use Rattle.laws.specs.Numbers.{divides, up, down, greatest, least}
use Rattle.rules.specs.Limits.{most_frames, most_tasks}
use Rattle.rules.specs.Traffic.{Run}
use Rattle.rules.specs.Frames.{Pair}
use Rattle.rules.specs.Readers.{is_read_by}

-- Rules 13.1 and 21.9: the first deadline of a run behind d whose message is read with period U: behind d comes a, the first multiple of T;
-- it is the one that the first read from a on needs.
unfoldable pub multiple_after : ℕ → ℕ → ℕ
multiple_after period d = d - d % period + period

unfoldable pub read_after : ℕ → ℕ → ℕ → ℕ
read_after period d u = down period (up u (multiple_after period d))

-- The place of a deadline and a task in the pairs' order (rule 4.9), as one number; and the one behind all places of a cycle.
abbrev pub place_of : ℕ → ℕ → ℕ
place_of d t = d * most_tasks + t

abbrev pub behind_all : ℕ → ℕ
behind_all cycle = place_of (suc cycle) 0

-- What a walk finds, and in how many steps. A step takes one message.
pub record Walk : Type 0 where
  pub found : List Pair
  pub steps : ℕ

abbrev pub nothing_found : Walk
nothing_found = record { found = []; steps = 0 }

unfoldable pub release_for : ℕ → Run → ℕ
release_for d r = d - r.period + r.worst

-- `readers` are the periods with which the results of a task are read (rule 21.8).
module _ (readers : ℕ → List ℕ) where
  -- Rules 13.1 and 21.9: the run ends at d with a message that is read; its first such deadline behind d.
  unfoldable pub is_end : ℕ → Run → Bool
  is_end d r = divides r.period d && is_read_by (readers r.task) r.period d

  unfoldable pub deadline_after : ℕ → Run → ℕ
  deadline_after d r = least (map (read_after r.period d) (readers r.task))

  -- Rule 13.2: behind the place of deadline d and task t a run comes next at d still, where it ends at d and its task comes behind t; else
  -- at its next deadline. The next place of all is the first of theirs, if it is in the cycle.
  unfoldable pub is_still_ahead : ℕ → ℕ → Run → Bool
  is_still_ahead d t r = is_end d r && ltb t r.task

  unfoldable pub next_of : ℕ → ℕ → Run → ℕ
  next_of d t r = place_of (cond (is_still_ahead d t r) d (deadline_after d r)) r.task

  unfoldable pub next_place : ℕ → List Run → ℕ → ℕ → ℕ
  next_place cycle rs d t = foldr min (behind_all cycle) (map (next_of d t) rs)

  -- Rule 13.3: the runs of task t that end at d; each has a message there. Their pair is released with the last of these.
  unfoldable pub is_due : ℕ → ℕ → Run → Bool
  is_due d t r = is_end d r && eqb r.task t

  unfoldable pub due_at : List Run → ℕ → ℕ → List Run
  due_at rs d t = keep (is_due d t) rs

  unfoldable pub pair_at : List Run → ℕ → ℕ → Pair
  pair_at rs d t = record { task = t; release = greatest (map (release_for d) (due_at rs d t)); deadline = d }

  unfoldable pub found_then : List Run → ℕ → ℕ → Walk → Walk
  found_then rs d t rest = record { found = pair_at rs d t ∷ rest.found; steps = length (due_at rs d t) + rest.steps }

  -- Rule 13.4: from place to place, until the cycle ends or as many pairs are found as there is room for.
  unfoldable pub walk_runs_from : ℕ → ℕ → List Run → ℕ → ℕ → Walk
  walk_runs_from zero cycle rs d t = nothing_found
  walk_runs_from (suc room) cycle rs d t =
      let next = next_place cycle rs d t in
      elim (ltb next (behind_all cycle)) [
        | true ↦ found_then rs (next / most_tasks) (next % most_tasks) (walk_runs_from room cycle rs (next / most_tasks) (next % most_tasks))
        | false ↦ nothing_found
      ]

  -- It begins behind all places of deadline 0, and has room for one pair more than there may be (refusal 9).
  unfoldable pub walk_runs : ℕ → List Run → Walk
  walk_runs cycle rs = walk_runs_from (suc most_frames) cycle rs 0 (most_tasks - 1)
