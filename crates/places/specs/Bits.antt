-- Places as the bits of a word: place k has its bit set, and the word in which the places that pass a test have it set.
use Rattle.std.specs.Prelude.{Bool, cond, eqb, ℕ, zero, suc, ◌+◌, ◌*◌, ◌/◌, ◌%◌, ◌^◌}

unfoldable pub bit_at : ℕ → ℕ → Bool
bit_at bits k = eqb (bits / 2 ^ k % 2) 1

-- of n places from lo on; the lowest is bit 0
abbrev pub bits_from : (ℕ → Bool) → ℕ → ℕ → ℕ
bits_from test lo zero = 0
bits_from test lo (suc n) = cond (test lo) 1 0 + 2 * bits_from test (suc lo) n

unfoldable pub bits_of : (ℕ → Bool) → ℕ → ℕ
bits_of test n = bits_from test 0 n
