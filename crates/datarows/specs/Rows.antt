-- Rules 7.24 to 7.27 on the data row at a place, of arrays, and 7.28 on all of them: that the row does not break the rule.
use Rattle.std.specs.Prelude.{Bool, ◌&&◌, List, eqb, leb, get_or, ℕ, ◌+◌}
use Rattle.laws.specs.Numbers.{divides}
use Rattle.rules.specs.Limits.{most_frames, most_tasks}
use Rattle.naming.specs.Places.{look_in, before_in}

-- 7.24: the stop is the start plus the sending time, and the start is on the resolution
unfoldable pub time_kept : List ℕ → List ℕ → List ℕ → List ℕ → ℕ → ℕ → Bool
time_kept tasks starts stops times resolution k =
    eqb (get_or stops k 0) (get_or starts k 0 + look_in most_tasks times (get_or tasks k 0)) && divides resolution (get_or starts k 0)

-- 7.25: the start is not before the release; `numbers` has the number of each row's frame
unfoldable pub release_kept : List ℕ → List ℕ → List ℕ → ℕ → Bool
release_kept starts releases numbers k = leb (look_in most_frames releases (get_or numbers k 0)) (get_or starts k 0)

-- 7.26: the stop is not after the deadline
unfoldable pub due_kept : List ℕ → List ℕ → ℕ → Bool
due_kept stops deadlines k = leb (get_or stops k 0) (get_or deadlines k 0)

-- 7.27: the start is not before the stop plus gap of the row before it; before the first row stands the last control row, with the stop `last`
unfoldable pub gap_kept : List ℕ → List ℕ → ℕ → ℕ → ℕ → Bool
gap_kept starts stops last gap k = leb (before_in stops last k + gap) (get_or starts k 0)

-- 7.28: the stop plus gap of the last of `count` rows is not above P
unfoldable pub last_kept : List ℕ → ℕ → ℕ → ℕ → ℕ → Bool
last_kept stops last gap period count = leb (before_in stops last count + gap) period
