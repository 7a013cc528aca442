-- The connections left of a plan, in memory: how many there are, and zero connections behind them.
use Rattle.std.specs.Prelude.{List, map, length}
use Rattle.laws.specs.Loops.{pad_to}
use Rattle.rules.specs.Limits.{most_connections}
use Rattle.rules.specs.Plan.{Connection, no_connection}
use Rattle.plan.specs.Memory.{connection_laid}
use Rattle.bus.specs.declared.edition.Left.{Left}

unfoldable pub left_laid : List Connection → Left
left_laid cs =
    record { count = length cs; connections = pad_to most_connections (connection_laid no_connection) (map connection_laid cs) }
