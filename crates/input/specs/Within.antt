-- What is known of an input once it was read. No contract says which bytes came: the system puts them there.
use Rattle.std.specs.Prelude.{List, length, ℕ, ◌≤◌}

-- more bytes came behind the first ones, and no more than there was room for
abbrev pub Further : ℕ → ℕ → List ℕ → Type 0
Further from n buf = (from ≤ n) × (from ≤ length buf → n ≤ length buf)
