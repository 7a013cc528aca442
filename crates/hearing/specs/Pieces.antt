-- A history as it comes, byte by byte: what was heard, whatever the pieces were in which it came.
use Rattle.std.specs.Prelude.{Bool, true, false, cond, List, [], ◌∷◌, ◌++◌, eqb, leb, length, take, ℕ, suc}
use Rattle.hearing.specs.Heard.{heard_line, unheard}
use Rattle.hearing.specs.declared.Heard.{Heard}
use Rattle.hearing.specs.declared.Stage.{Stage}
use Rattle.hearing.specs.declared.Stage.TheVariants.{Waits, Plays, Stops}

-- so many lines have ended, and this was heard of them; a further line has begun with these bytes
pub record Hearing : Type 0 where
  pub lines : ℕ
  pub heard : Heard
  pub opening : List ℕ

abbrev pub silence : Hearing
silence = record { lines = 0; heard = unheard; opening = [] }

-- a line feed ends a line, and it is heard
abbrev pub with_byte : List ℕ → List ℕ → Hearing → Bool → ℕ → Hearing
with_byte plan table a true b =
    record { lines = suc a.lines; heard = heard_line plan table (suc a.lines) a.heard a.opening; opening = [] }
with_byte plan table a false b = record { lines = a.lines; heard = a.heard; opening = a.opening ++ (b ∷ []) }

unfoldable pub hear_on : List ℕ → List ℕ → Hearing → List ℕ → Hearing
hear_on plan table a [] = a
hear_on plan table a (b ∷ s) = hear_on plan table (with_byte plan table a (eqb b 10) b) s

-- at the end of the history a line is heard that has no line feed
abbrev pub last_heard : List ℕ → List ℕ → ℕ → Heard → List ℕ → Heard
last_heard plan table lines heard [] = heard
last_heard plan table lines heard (b ∷ s) = heard_line plan table (suc lines) heard (b ∷ s)

abbrev pub at_end : List ℕ → List ℕ → Hearing → Heard
at_end plan table a = last_heard plan table a.lines a.heard a.opening

-- a whole history
unfoldable pub heard_all : List ℕ → List ℕ → List ℕ → Heard
heard_all plan table s = at_end plan table (hear_on plan table silence s)

-- a history of at most 262,144 bytes is heard whole; of a longer one the lines that end within so many
unfoldable pub answered : List ℕ → List ℕ → List ℕ → Heard
answered plan table s =
    cond (leb (length s) 262144) (heard_all plan table s) (hear_on plan table silence (take 262144 s)).heard

abbrev pub is_stopped : Stage → Bool
is_stopped Waits = false
is_stopped (Plays begun) = false
is_stopped (Stops k) = true
