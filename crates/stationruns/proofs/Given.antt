-- A place is given something exactly where its flag is set.
use mathlib.Core.Path.{◌≡◌, refl}
use mathlib.Core.Bool.{Bool, true, false}
use Prim.Native.Nat.{ℕ}
use Rattle.std.specs.Bool.{then_some}
use Rattle.places.specs.Spot.{spot_in}
use Rattle.rules.specs.Playing.{is_given}
use Rattle.stationruns.specs.Inputs.{given_if}

pub given_flag : (flag : Bool) (value : ℕ) → is_given (given_if flag value) ≡ flag
given_flag true value = refl
given_flag false value = refl

-- the code's Option of a flag and its value
pub given-then_some : (flag : Bool) (value : ℕ) → spot_in (then_some flag value) ≡ given_if flag value
given-then_some true value = refl
given-then_some false value = refl
