-- The grid of mode changes over the modes of marked modules, sending ones or others.
use Rattle.std.specs.Prelude.{Bool, false, get_or, ℕ}
use mathlib.Core.List.{List, foldr}
use Rattle.laws.specs.Lists.{keep}
use Rattle.rules.specs.Plan.{Plan, Mode}
use Rattle.rules.specs.Traffic.{with_mode}

-- the mode's module is marked
unfoldable pub is_of_marked : List Bool → Mode → Bool
is_of_marked marks μ = get_or marks μ.home false

-- the grid of those modes whose modules are marked; of all modes of the plan
unfoldable pub grid_among : List Bool → List Mode → ℕ
grid_among marks μs = foldr with_mode 0 (keep (is_of_marked marks) μs)

unfoldable pub grid_marked : Plan → List Bool → ℕ
grid_marked p marks = grid_among marks p.modes
