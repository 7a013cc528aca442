-- What is left of a plan file and a table file: the checker's answer, and the text at the front of the lent bytes.
use Rattle.std.specs.Prelude.{◌≡◌, Bool, List, length, ℕ}
use Rattle.std.proofs.lemmas.List.Edits.{sets}
use Rattle.laws.specs.Res.{Res, ok, ◌>>=◌, ◌>>◌}
use Rattle.rules.specs.Records.{records, table_follows}
use Rattle.rules.specs.Plan as rules
use Rattle.rules.specs.Traffic.{read_in, traffic}
use Rattle.rules.specs.Frames.{layout, layout_of}
use Rattle.rules.specs.Checker.{Passed, check_files, shaped, table_of}
use Rattle.answers.specs.Answered.{judged}
use Rattle.checked.specs.Checking.{verdict}
use Rattle.sheet.specs.Sheet.{sheet_text}
use Rattle.sheetwriter.specs.declared.Written.{Written}

-- an answer, and a text that stands at the front of what was lent, with its length
pub record Prints (r : Written) (old left : List ℕ) (answer : Res (Unit {0})) (text : List ℕ) : Type 0 where
  pub answered : judged r.answer ≡ answer
  pub put : left ≡ sets old 0 text
  pub long : r.length ≡ length text

-- what the rules say of the two files, and the sheet's text
abbrev pub Writes : Written → List ℕ → List ℕ → List ℕ → List ℕ → Type 0
Writes r old left plan table = Prints r old left (verdict (check_files plan table)) (sheet_text plan table)

-- a plan that some file holds, in an edition, and that is laid out
pub record FromFile (consumers : Bool) (p : rules.Plan) : Type 0 where
  pub file : List ℕ
  pub is_read : read_in consumers file ≡ ok p
  pub is_laid : layout p ≡ ok (layout_of p)

-- refusals 20 to 24 of a table file by a plan that is laid out
unfoldable pub table_located : rules.Plan → List ℕ → Res Passed
table_located p table = do
  rs ← records table_follows 20 table
  shaped (layout_of p) (table_of rs)
  ok (record { plan = p; traffic = traffic p; layout = layout_of p; table = table_of rs })
