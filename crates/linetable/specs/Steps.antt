-- The steps of making: what each is given, and what it comes to.
use Rattle.std.specs.Prelude.{◌≡◌, Bool, List, map, leb, length, ℕ}
use Rattle.laws.specs.Lists.{tab}
use Rattle.laws.specs.Res.{Res, ok, ◌>>=◌, ◌>>◌, unless}
use Rattle.rules.specs.Plan.{Plan}
use Rattle.rules.specs.Traffic.{read_in}
use Rattle.rules.specs.Frames.{Layout, layout, layout_of}
use Rattle.rules.specs.LatestRelease.{latest_release}
use Rattle.rules.specs.Table.{alone, MadeTable, made_table}
use Rattle.line.specs.declared.Line.{Line}
use Rattle.line.specs.Line.{Drawing, line_of}
use Rattle.rows.specs.Rows.{TableRows}
use Rattle.table.specs.Rows.{control_in, data_in, table_in}

-- refusals 12 and 13 of a layout, and its table
unfoldable pub laid_table : Layout → ℕ → Res MadeTable
laid_table l room = do
  placed ← latest_release l
  let t = made_table l (map alone placed)
  unless 13 (length t.table) (leb (length t.table) room)
  ok t

-- The line and its frames are those of a plan file to which 1 to 11 do not apply.
pub record Stands (line : Drawing) : Type 0 where
  pub consumers : Bool
  pub file : List ℕ
  pub plan : Plan
  pub is_read : read_in consumers file ≡ ok plan
  pub is_laid : layout plan ≡ ok (layout_of plan)
  pub is : line ≡ line_of plan

-- the bytes of a table, by the arrays of a line, the starts of its data rows and what else stands in them
unfoldable pub bytes_of : Line → List ℕ → TableRows → List ℕ
bytes_of line starts rows =
    table_in line.head line.period.0 (tab (control_in line.control_nodes line.control_starts line.control_stops) 0 line.controls)
    (tab (data_in rows.tasks rows.deadlines starts rows.stops) 0 line.frames) line.controls line.frames
