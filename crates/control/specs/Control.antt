-- The control rows in memory: an array for each number of a row.
use Rattle.std.specs.Prelude.{List, map, length, ℕ}
use Rattle.laws.specs.Loops.{pad_to}
use Rattle.rules.specs.Limits.{most_nodes}
use Rattle.rules.specs.Frames.{ControlRow}
use Rattle.control.specs.declared.Control.{Control}

abbrev pub node_of : ControlRow → ℕ
node_of r = r.node

abbrev pub start_of : ControlRow → ℕ
start_of r = r.start

abbrev pub stop_of : ControlRow → ℕ
stop_of r = r.stop

-- one number of each row, zeros behind
abbrev pub column : (ControlRow → ℕ) → List ControlRow → List ℕ
column f rs = pad_to most_nodes 0 (map f rs)

unfoldable pub control_laid : List ControlRow → Control
control_laid rs =
    record { count = length rs; nodes = column node_of rs; starts = column start_of rs; stops = column stop_of rs }
