-- A table's rows in arrays, and the bytes of the table that they make.
use Rattle.std.specs.Prelude.{List, [], ◌∷◌, ◌++◌, map, get_or, ℕ}
use Rattle.laws.specs.Lists.{joined}
use Rattle.rules.specs.Frames.{ControlRow}
use Rattle.rules.specs.Records.{head_fields}
use Rattle.rules.specs.Table.{DataRow, encoded, control_bytes, data_bytes}

-- control row k, data row k
unfoldable pub control_in : List ℕ → List ℕ → List ℕ → ℕ → ControlRow
control_in nodes starts stops k = record { node = get_or nodes k 0; start = get_or starts k 0; stop = get_or stops k 0 }

unfoldable pub data_in : List ℕ → List ℕ → List ℕ → List ℕ → ℕ → DataRow
data_in tasks deadlines starts stops k =
    record { task = get_or tasks k 0; deadline = get_or deadlines k 0; start = get_or starts k 0; stop = get_or stops k 0 }

-- A head of this kind: the numbers are those of both kinds of head.
unfoldable pub head_in : ℕ → ℕ → ℕ → ℕ → List ℕ
head_in head period controls datas = head ∷ encoded head_fields (period ∷ controls ∷ datas ∷ [])

-- A table: its head, the control rows, the data rows, the end.
unfoldable pub table_in : ℕ → ℕ → List ControlRow → List DataRow → ℕ → ℕ → List ℕ
table_in head period control rows controls datas =
    head_in head period controls datas ++ (joined (map control_bytes control) ++ (joined (map data_bytes rows) ++ (0 ∷ [])))
