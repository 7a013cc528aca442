-- A history played: the station after all its bytes (of at most 262,144, as `answered` has it), and where it begins.
use Rattle.std.specs.Prelude.{List, [], ◌∷◌, ℕ}
use Rattle.station.specs.declared.Station.{Station}
use Rattle.hearing.specs.Pieces.{heard_all}
use Rattle.history.specs.Reading.{read_line}
use Rattle.history.specs.declared.What.{What}
use Rattle.history.specs.declared.What.TheVariants.{Blank, Begin, Tick, Quiet, Unreadable}

unfoldable pub played : List ℕ → List ℕ → List ℕ → Station
played plan table s = (heard_all plan table s).station

-- the lines from the first on that has a word
abbrev pub unless_blank : What → List (List ℕ) → List (List ℕ) → List (List ℕ)
unless_blank Blank here behind = behind
unless_blank Begin here behind = here
unless_blank Tick here behind = here
unless_blank (Quiet n) here behind = here
unless_blank Unreadable here behind = here

unfoldable pub from_first : List (List ℕ) → List (List ℕ)
from_first [] = []
from_first (s ∷ lines) = unless_blank (read_line s).what (s ∷ lines) (from_first lines)
