-- A line at the front of lent bytes: its length counts bytes of them, which is what `io` asks for before it writes them. And the answer of a
-- program that reads two files, where one of them is too long and where neither is.
use mathlib.Core.Bool.{Bool, true, false, ◌&&◌}
use mathlib.Core.List.{List}
use mathlib.Core.Path.{◌≡◌, refl, sym, ap, ◌∙◌}
use native.Mathlib.Omega.{arith}
use borrow.Author.Tests.{le-leb, lt-leb}
use lib.ListN.{length}
use lib.Seq.{sets, length-sets, length-take-le}
use Prim.Native.Nat.{ℕ, ◌≤◌, ◌<◌}
use Rattle.io.specs.Counts.{IsPrefixLen}
use Rattle.text.specs.Text.{is_short, too_long_line, unless_long}

-- what a line leaves in the lent bytes, with its length
abbrev pub Front : List ℕ → List ℕ → List ℕ → ℕ → Type 0
Front line old out n = (out ≡ sets old 0 line) × (n ≡ length line)

pub front-counts : (line old out : List ℕ) (n : ℕ) → Front line old out n → length line ≤ length old → IsPrefixLen n out
front-counts line old out n a h =
    let long : length out ≡ length old = ap length a.0 ∙ length-sets old 0 line in
    let within : n ≤ length out = omega arith in
    (within, sym (length-take-le n out within))

module _ (most : ℕ) (first second answer : List ℕ) where
  -- what such a program answers
  abbrev pub two_read : List ℕ
  two_read = unless_long (is_short most first && is_short most second) answer

  pub first-long : most < length first → two_read ≡ too_long_line
  unfolding is_short
  first-long h = rw (lt-leb (length first) most h)

  pub second_long : most < length second → two_read ≡ too_long_line
  unfolding is_short
  second_long h = rw (lt-leb (length second) most h) (either (is_short most first))
    where
      either : (b : Bool) → unless_long (b && false) answer ≡ too_long_line
      either true = refl
      either false = refl

  pub neither_long : length first ≤ most → length second ≤ most → two_read ≡ answer
  unfolding is_short
  neither_long h k = rw (le-leb (length first) most h, le-leb (length second) most k)
