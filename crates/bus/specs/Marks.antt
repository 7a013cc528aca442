-- Which tasks' runs give P, and which modules' modes give G, by the edition.
use Rattle.std.specs.Prelude.{Bool, ◌||◌, cond, ℕ}
use Rattle.laws.specs.Lists.{any}
use Rattle.rules.specs.Plan.{Plan}
use Rattle.rules.specs.Traffic.{is_bus_task, is_sending, thins_for, ends_in}

-- Rule 21.4: a bus task, or the consumer of a connection that can be thinned.
unfoldable pub is_counted_task : Plan → ℕ → Bool
is_counted_task p t = is_bus_task p t || any (thins_for p t) p.connections

-- Rule 21.5: a module that holds an end of a connection.
unfoldable pub holds_end : Plan → ℕ → Bool
holds_end p m = any (ends_in p m) p.connections

unfoldable pub gives_period : Plan → ℕ → Bool
gives_period p t = cond p.consumers (is_counted_task p t) (is_bus_task p t)

unfoldable pub gives_grid : Plan → ℕ → Bool
gives_grid p m = cond p.consumers (holds_end p m) (is_sending p m)
