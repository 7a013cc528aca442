-- The table of kinds as the code has it.
use Rattle.std.specs.Prelude.{Option, None, Some, Bool, true, false, cond, ℕ}
use Rattle.rules.specs.Records.{known, body_length}

abbrev pub if_known : Bool → ℕ → Option ℕ
if_known true length = Some length
if_known false length = None

-- The length of a kind's body (rule 2.2), if the kind is known.
unfoldable pub length_of : ℕ → Option ℕ
length_of kind = if_known (known kind) (body_length kind)

-- The byte that stands in the table for a kind: the length of its body, or 255 where it is unknown; no body is that long.
unfoldable pub length_byte : ℕ → ℕ
length_byte kind = cond (known kind) (body_length kind) 255
