-- Runs and frames as arrays of numbers, one array for each field; and what the walk from message to message keeps.
use Rattle.std.specs.Prelude.{◌≡◌, Bool, true, ◌&&◌, List, map, leb, ltb, get_or, length, take, ℕ, suc, ◌+◌, ◌*◌, ◌-◌, ◌≤◌, ◌<◌, min}
use Rattle.std.proofs.lemmas.List.Edits.{sets}
use Rattle.laws.specs.Lists.{all, tab}
use Rattle.rules.specs.Limits.{longest_time, most_frames, most_invocations, most_tasks}
use Rattle.rules.specs.Traffic.{Run}
use Rattle.rules.specs.Frames.{Pair}
use Rattle.rules.specs.Direct.{is_end, deadline_after, place_of, due_at, Walk}
use Rattle.rules.proofs.Grid.{cell, latest}
use Rattle.rules.proofs.ReadersGo.{ReadersGo}
use Rattle.laws.proofs.Members.{All}
use Rattle.tree.specs.Tree.{most_leaves, tree_places, Tree}

-- the run whose numbers stand at place i, and the runs at the places below n; their modes do not matter to the frames
unfoldable pub run_at : List ℕ → List ℕ → List ℕ → ℕ → Run
run_at task period worst i = record { mode = 0; task = get_or task i 0; period = get_or period i 0; worst = get_or worst i 0 }

unfoldable pub runs_in : List ℕ → List ℕ → List ℕ → ℕ → List Run
runs_in task period worst n = tab (run_at task period worst) 0 n

-- What a plan that keeps the rules promises of a run: its task is one that a plan can have, its period at least one tick and not above the bus
-- period, its worst time not above its period.
unfoldable pub is_fair : ℕ → Run → Bool
is_fair bus_period r = (ltb r.task most_tasks && ltb 0 r.period) && (leb r.period bus_period && leb r.worst r.period)

-- the results of each run's task are read, each reader coming again in the cycle
abbrev pub AreRead : (ℕ → List ℕ) → ℕ → List Run → Type 0
AreRead readers cycle rs = All (λ r. ReadersGo cycle (readers r.task)) rs

-- What is asked of the readers of one task, and the latest deadline with which a run can wait: a reader comes again within the next cycle.
pub record Readable (us : List ℕ) : Type 0 where
  pub some : 0 < length us
  pub few : length us ≤ most_invocations
  pub each : All (λ u. (0 < u) × (u ≤ longest_time)) us

abbrev pub latest_deadline : ℕ
latest_deadline = 2 * longest_time

-- The key of run i's message at the place of deadline d and task t; behind all keys the limit.
abbrev pub key_of : ℕ → ℕ → ℕ → ℕ
key_of d t i = place_of d t * most_invocations + i

abbrev pub limit_of : ℕ → ℕ
limit_of cycle = (cycle + 1) * (most_tasks * most_invocations)

-- The message with which run i waits: the run ends there with one that is read, its place is not before lo, and no such end from hi on is
-- before it.
pub record Waits (readers : ℕ → List ℕ) (task period worst : List ℕ) (lo hi i key : ℕ) : Type 0 where
  pub next : ℕ
  pub is : key ≡ key_of next (get_or task i 0) i
  pub end : is_end readers next (run_at task period worst i) ≡ true
  pub reached : lo ≤ place_of next (get_or task i 0)
  pub first : (y : ℕ) → is_end readers y (run_at task period worst i) ≡ true → hi ≤ place_of y (get_or task i 0) → next ≤ y

module _ (readers : ℕ → List ℕ) (task period worst : List ℕ) (runs size cycle : ℕ) where
  -- What is asked of the runs and their readers, and of the tree that has a leaf for each run.
  pub record Ready : Type 0 where
    pub few : runs ≤ size
    pub some : 0 < size
    pub small : size ≤ most_leaves
    pub short : cycle ≤ longest_time
    pub fair : all (is_fair cycle) (runs_in task period worst runs) ≡ true
    pub read : AreRead readers cycle (runs_in task period worst runs)

  -- each run's first message that is read stands at its leaf
  pub record Planted (tree : List ℕ) : Type 0 where
    pub places : length tree ≡ tree_places
    pub firsts : (i : ℕ) → i < runs → get_or tree (size + i) 0 ≡ key_of (deadline_after readers 0 (run_at task period worst i)) (get_or task i 0) i
    pub rest : (i : ℕ) → runs ≤ i → i < size → get_or tree (size + i) 0 ≡ limit_of cycle

  -- so each run waits at its leaf of a tree
  pub record Waiting (lo hi : ℕ) (tree : List ℕ) : Type 0 where
    pub whole : Tree tree size
    pub each : (i : ℕ) → i < runs → Waits readers task period worst lo hi i (get_or tree (size + i) 0)
    pub rest : (i : ℕ) → runs ≤ i → i < size → get_or tree (size + i) 0 ≡ limit_of cycle

  -- the messages of task t and deadline d are taken, and all that wait come behind them
  pub record CellMet (d t : ℕ) (tree : List ℕ) (best root taken : ℕ) : Type 0 where
    pub is : best ≡ latest readers (runs_in task period worst runs) d t
    pub took : taken ≡ length (due_at readers (runs_in task period worst runs) d t)
    pub waiting : Waiting (suc (place_of d t)) (suc (place_of d t)) tree
    pub root_is : root ≡ get_or tree 1 0
    pub past : suc (place_of d t) * most_invocations ≤ root

-- the frame of one place
unfoldable pub frame_at : ℕ → ℕ → ℕ → List Pair
frame_at t d b = cell t d b

-- a frame's numbers
abbrev pub task_of : Pair → ℕ
task_of f = f.task

abbrev pub release_of : Pair → ℕ
release_of f = f.release

abbrev pub deadline_of : Pair → ℕ
deadline_of f = f.deadline

-- One number of each frame, stored from place n on, as far as the places reach.
unfoldable pub stored : (Pair → ℕ) → List ℕ → ℕ → List Pair → List ℕ
stored number old n fs = sets old n (map number (take (most_frames - n) fs))

-- What is left of three arrays and a count when frames are stored from place n₀ on. The count stops one behind the last place.
pub record Stored (task₀ release₀ deadline₀ : List ℕ) (n₀ : ℕ) (fs : List Pair) (task release deadline : List ℕ) (n : ℕ) : Type 0 where
  pub tasks : task ≡ stored task_of task₀ n₀ fs
  pub releases : release ≡ stored release_of release₀ n₀ fs
  pub deadlines : deadline ≡ stored deadline_of deadline₀ n₀ fs
  pub count : n ≡ min (suc most_frames) (n₀ + length fs)

-- What a walk found stands in front, as far as there are places; with it how many pairs it found, and in how many steps.
pub record Derived (task₀ release₀ deadline₀ : List ℕ) (w : Walk) (task release deadline : List ℕ) (n k : ℕ) : Type 0 where
  pub tasks : task ≡ sets task₀ 0 (map task_of (take most_frames w.found))
  pub releases : release ≡ sets release₀ 0 (map release_of (take most_frames w.found))
  pub deadlines : deadline ≡ sets deadline₀ 0 (map deadline_of (take most_frames w.found))
  pub count : n ≡ length w.found
  pub steps : k ≡ w.steps
