-- What a search of the code found: the definitions' place, if there is one, as the code answers it.
use Rattle.std.proofs.Math.Option as definitions
use Rattle.std.proofs.Math.Option.{none, some}
use Rattle.std.specs.Prelude.{Option, None, Some, ℕ}

abbrev pub spot_of : definitions.Option ℕ → Option ℕ
spot_of none = None
spot_of (some k) = Some k

abbrev pub spot_in : Option ℕ → definitions.Option ℕ
spot_in None = none
spot_in (Some k) = some k
