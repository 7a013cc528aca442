-- A reason that a number may have, as the code has it.
use Rattle.std.specs.Prelude as code
use Rattle.std.proofs.Math.Option.{Option, none, some}
use Rattle.planwords.specs.declared.Reason.{Reason}

abbrev pub found : Option Reason → code.Option Reason
found none = code.None
found (some why) = code.Some why
