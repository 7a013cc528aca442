-- Numbers: divisors and multiples, roundings, little-endian bytes.
use Rattle.std.specs.Prelude.{Bool, eqb, ℕ, zero, suc, ◌+◌, ◌*◌, ◌-◌, ◌/◌, ◌%◌, min, max}
use mathlib.Core.List.{List, [], ◌∷◌, foldr}

-- a divides b (0 divides 0 alone)
abbrev pub divides : ℕ → ℕ → Bool
divides a b = eqb (b % a) 0

-- Euclid's rule, at most n times
unfoldable pub euclid : ℕ → ℕ → ℕ → ℕ
euclid zero a b = a
euclid (suc n) a zero = a
euclid (suc n) a (suc b) = euclid n (suc b) (a % suc b)

-- greatest common divisor
unfoldable pub gcd : ℕ → ℕ → ℕ
gcd a b = euclid (suc b) a b

-- least common multiple
unfoldable pub lcm : ℕ → ℕ → ℕ
lcm a b = a / gcd a b * b

-- a / b, rounded up
unfoldable pub ceil : ℕ → ℕ → ℕ
ceil a b = (a + (b - 1)) / b

-- the least multiple of r not below x, the greatest not above x
unfoldable pub up : ℕ → ℕ → ℕ
up r x = ceil x r * r

unfoldable pub down : ℕ → ℕ → ℕ
down r x = x / r * r

-- the number that bytes stand for, least byte first
abbrev pub number : List ℕ → ℕ
number [] = 0
number (b ∷ bs) = b + 256 * number bs

-- x as w bytes, least byte first
abbrev pub bytes : ℕ → ℕ → List ℕ
bytes zero x = []
bytes (suc w) x = x % 256 ∷ bytes w (x / 256)

-- all numbers of a list together, and the greatest of them (of none 0)
abbrev pub sum : List ℕ → ℕ
sum [] = 0
sum (x ∷ xs) = x + sum xs

abbrev pub greatest : List ℕ → ℕ
greatest [] = 0
greatest (x ∷ xs) = max x (greatest xs)

-- the least number of a list (of none 0)
abbrev pub least : List ℕ → ℕ
least [] = 0
least (x ∷ xs) = foldr min x xs
