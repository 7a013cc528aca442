-- What a record reader finds at a place of a file.
use Rattle.std.specs.Prelude.{Bool, true, false, ◌&&◌, List, ℕ, ◌+◌, ◌-◌, eqb, leb, ltb, length, get_or}
use Rattle.rules.specs.Records.{known, body_length, plan_follows, table_follows}
use Rattle.records.specs.declared.Sort.{Sort}
use Rattle.records.specs.declared.Sort.TheVariants.{Plan, Table}
use Rattle.records.specs.declared.Step.{Step}
use Rattle.records.specs.declared.Step.TheVariants.{Record, End, Wrong}

-- the order of kinds in each sort of file
abbrev pub follows : Sort → ℕ → ℕ → Bool
follows Plan = plan_follows
follows Table = table_follows

abbrev pub either : Bool → Step → Step → Step
either true a b = a
either false a b = b

abbrev pub wrong_at : ℕ → Step
wrong_at place = Wrong (record { 0 = place })

-- The end record, with nothing behind it (rule 2.7); else what stands behind it is wrong.
abbrev pub end_at : List ℕ → ℕ → Step
end_at s behind = either (eqb behind (length s)) End (wrong_at behind)

-- A record whose body is whole; a body that is cut is wrong at the file's end.
abbrev pub record_at : List ℕ → ℕ → ℕ → Step
record_at s kind body =
    either (leb (body_length kind) (length s - body)) (Record kind body (body + body_length kind)) (wrong_at (length s))

-- The record with this kind at `at`. Its kind is judged first, then whether its body is whole.
abbrev pub kind_at : Sort → List ℕ → ℕ → ℕ → ℕ → Step
kind_at sort s previous at kind =
    either (known kind && follows sort previous kind)
    (either (eqb kind 0) (end_at s (at + 1)) (record_at s kind (at + 1)))
    (wrong_at at)

-- One record of the file, at a place, behind a record of the kind `previous` (0: behind nothing): its kind, where its body begins
-- and what stands behind it; or the end of the file; or the place of a wrong record.
unfoldable pub next_at : Sort → List ℕ → ℕ → ℕ → Step
next_at sort s previous at =
    either (ltb at (length s)) (kind_at sort s previous at (get_or s at 0)) (wrong_at (length s))
