-- How a program that reads two files ends, where one of them is too long and where neither is.
use mathlib.Core.Bool.{Bool, true, false, ◌&&◌}
use mathlib.Core.List.{List}
use mathlib.Core.Path.{◌≡◌, refl}
use borrow.Author.Tests.{le-leb, lt-leb}
use lib.ListN.{length}
use Prim.Native.Nat.{ℕ, ◌≤◌, ◌<◌}
use Rattle.text.specs.Text.{is_short}
use Rattle.manners.specs.Status.{unless_long_status}

module _ (most : ℕ) (first second : List ℕ) (status : ℕ) where
  abbrev pub two_read_status : ℕ
  two_read_status = unless_long_status (is_short most first && is_short most second) status

  pub first-long_status : most < length first → 1 ≡ two_read_status
  unfolding is_short
  first-long_status h = rw (lt-leb (length first) most h)

  pub second_long_status : most < length second → 1 ≡ two_read_status
  unfolding is_short
  second_long_status h = rw (lt-leb (length second) most h) (either (is_short most first))
    where
      either : (b : Bool) → 1 ≡ unless_long_status (b && false) status
      either true = refl
      either false = refl

  pub neither_long_status : length first ≤ most → length second ≤ most → two_read_status ≡ status
  unfolding is_short
  neither_long_status h k = rw (le-leb (length first) most h, le-leb (length second) most k)
