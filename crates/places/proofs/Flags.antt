-- A flag that is stored as a byte is read back.
use mathlib.Core.Path.{◌≡◌, refl}
use mathlib.Core.Bool.{Bool, true, false}
use Rattle.places.specs.Flags.{is_set, flag_byte}

pub set-byte : (flag : Bool) → is_set (flag_byte flag) ≡ flag
set-byte true = refl
set-byte false = refl
