-- The periods with which the results of each task are read, in memory: how many there are, by task; and a row of them for each task.
use Rattle.std.specs.Prelude.{Bool, not, List, eqb, length, get_or, ℕ, ◌+◌, ◌*◌}
use Rattle.laws.specs.Lists.{any, tab, joined}
use Rattle.laws.specs.Loops.{pad_to}
use Rattle.rules.specs.Limits.{most_tasks, most_invocations}
use Rattle.rules.specs.Plan.{Plan, Connection}
use Rattle.rules.specs.Readers.{needs_all, leads_to, is_thinned}
use Rattle.bus.specs.declared.readers.Row.{Row}
use Rattle.bus.specs.declared.readers.Readers.{Readers}

-- the k-th reader of a task
unfoldable pub reader_at : List ℕ → ℕ → ℕ → ℕ
reader_at periods t k = get_or periods (t * most_invocations + k) 0

-- The readers that counts and rows stand for; a task that has no place has none.
unfoldable pub readers_seen : List ℕ → List ℕ → ℕ → List ℕ
readers_seen counts periods t = tab (reader_at periods t) 0 (get_or counts t 0)

-- a row of readers, zeros behind
abbrev pub row_of : List ℕ → List ℕ
row_of us = pad_to most_invocations 0 us

unfoldable pub row_laid : List ℕ → Row
row_laid us = record { count = length us; periods = row_of us }

-- The readers of each task: how many, and their rows one behind another.
unfoldable pub readers_laid : (ℕ → List ℕ) → Readers
readers_laid readers =
    record {
      counts = tab (λ t. length (readers t)) 0 most_tasks;
      periods = joined (tab (λ t. row_of (readers t)) 0 most_tasks);
    }

-- ---- what the code asks of a task

-- a connection that can't be thinned leads from it
unfoldable pub is_full : Plan → ℕ → Bool
is_full p t = any (needs_all p t) p.connections

-- all its messages are needed
unfoldable pub needs_every : Plan → ℕ → Bool
needs_every p t = not (is_thinned p t)

-- some connection leads from it
unfoldable pub comes_from : ℕ → Connection → Bool
comes_from t c = eqb c.producer t

unfoldable pub is_producer : Plan → ℕ → Bool
is_producer p t = any (comes_from t) p.connections

-- one leads from it to a task
unfoldable pub leads_from : Plan → ℕ → ℕ → Bool
leads_from p t u = any (leads_to t u) p.connections
