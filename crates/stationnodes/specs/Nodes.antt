-- Steps (b) and (c) on the nodes: what lands, and what a node shows.
use Rattle.std.specs.Prelude.{Bool, cond, not, ◌&&◌, List, [], eqb, get_or, replicate, ℕ, ◌+◌, ◌*◌}
use Rattle.laws.specs.Loops.{stores}
use Rattle.places.specs.Bits.{bit_at}
use Rattle.places.specs.Flags.{flag_at}
use Rattle.rules.specs.Limits.{most_modules, most_tasks}
use Rattle.stationbus.specs.Bus.{truth_at, some_pair_at}
use Rattle.stationnodes.specs.declared.Node.{Node}

-- a node before the first tick (rule 8.4)
abbrev pub zero_node : Node
zero_node = record { landed = replicate most_tasks 0; shown = replicate most_tasks 0 }

-- what stands behind the last node
abbrev pub no_node : Node
no_node = record { landed = []; shown = [] }

-- (b), rule 8.12: a value of the task lands where a pair of it stops, and the data frame has a value of it
abbrev pub lands_from : (ℕ → Bool) → List ℕ → ℕ → Bool
lands_from stopping full t = stopping t && flag_at full t

abbrev pub lands_rule : List ℕ → List ℕ → ℕ → ℕ → List ℕ → ℕ → Bool
lands_rule pair_tasks pair_stops pairs clock full t = lands_from (some_pair_at pair_tasks pair_stops pairs clock) full t

-- on every node but the sender's
abbrev pub landed_at : List Bool → List ℕ → List ℕ → List ℕ → ℕ → ℕ → ℕ → ℕ
landed_at lands loads homes nodes n t old = cond (truth_at lands t && not (eqb (get_or nodes (get_or homes t 0) 0) n)) (get_or loads t 0) old

abbrev pub landed_rule : List Bool → List ℕ → List ℕ → List ℕ → ℕ → List ℕ → ℕ → ℕ
landed_rule lands loads homes nodes n landed t = landed_at lands loads homes nodes n t (get_or landed t 0)

-- (c) by the runs that end, the out-boxes after (a), the landed values and the mode bytes held after (b), and by task the modes that have a
-- message with this deadline
abbrev pub shown_at : List Bool → List ℕ → List ℕ → List ℕ → List ℕ → List ℕ → ℕ → (ℕ → ℕ) → ℕ → ℕ → ℕ
shown_at ends homes nodes out held due n landed t old =
    cond (truth_at ends t && eqb (get_or nodes (get_or homes t 0) 0) n) (get_or out t 0)
    (cond (truth_at ends t && bit_at (get_or due t 0) (get_or held (n * most_modules + get_or homes t 0) 0)) (landed t) old)

abbrev pub shown_rule : List Bool → List ℕ → List ℕ → List ℕ → List ℕ → List ℕ → ℕ → (ℕ → ℕ) → List ℕ → ℕ → ℕ
shown_rule ends homes nodes out held due n landed shown t = shown_at ends homes nodes out held due n landed t (get_or shown t 0)

unfoldable pub node_at : List Bool → List ℕ → List Bool → List ℕ → List ℕ → List ℕ → List ℕ → List ℕ → ℕ → Node → Node
node_at lands loads ends homes nodes out held due n node =
    record {
      landed = stores node.landed (landed_rule lands loads homes nodes n node.landed) most_tasks;
      shown =
          stores node.shown
          (shown_rule ends homes nodes out held due n (landed_rule lands loads homes nodes n node.landed) node.shown) most_tasks;
    }

unfoldable pub node_rule : List Bool → List ℕ → List Bool → List ℕ → List ℕ → List ℕ → List ℕ → List ℕ → List Node → ℕ → Node
node_rule lands loads ends homes nodes out held due old n = node_at lands loads ends homes nodes out held due n (get_or old n no_node)

-- of a task: nothing lands, and no run ends
abbrev pub is_idle_at : List Bool → List Bool → ℕ → Bool
is_idle_at lands ends t = not (truth_at lands t) && not (truth_at ends t)
