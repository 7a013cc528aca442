-- A flag in one byte: set where the byte is not 0, and stored as 0 or 1. So every byte means something.
use Rattle.std.specs.Prelude.{Bool, cond, not, List, eqb, get_or, ℕ}

abbrev pub is_set : ℕ → Bool
is_set byte = not (eqb byte 0)

abbrev pub flag_at : List ℕ → ℕ → Bool
flag_at l k = is_set (get_or l k 0)

abbrev pub flag_byte : Bool → ℕ
flag_byte flag = cond flag 1 0

-- the flags of many places, as bytes
abbrev pub flag_bytes : (ℕ → Bool) → ℕ → ℕ
flag_bytes flags k = flag_byte (flags k)
