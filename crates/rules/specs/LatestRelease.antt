-- docs/RULES.md, section 5: the latest-release rule, and refusal 12.
use Rattle.std.specs.Prelude.{Bool, true, false, cond, not, ◌&&◌, ◌||◌, eqb, leb, ltb, length, ℕ, zero, suc, ◌-◌, min, max}
use mathlib.Core.List.{List, [], ◌∷◌, foldr}
use Rattle.laws.specs.Res.{Res, ok, refuse}
use Rattle.laws.specs.Lists.{keep}
use Rattle.laws.specs.Numbers.{down}
use Rattle.rules.specs.Frames.{Pair, Layout}

-- A frame with its number.
pub record Numbered : Type 0 where
  pub number : ℕ
  pub pair : Pair

unfoldable pub numbered_from : ℕ → List Pair → List Numbered
numbered_from k [] = []
numbered_from k (f ∷ fs) = record { number = k; pair = f } ∷ numbered_from (suc k) fs

-- A frame with its number and its start.
pub record Placed : Type 0 where
  pub number : ℕ
  pub pair : Pair
  pub start : ℕ

abbrev pub no_pair : Pair
no_pair = record { task = 0; release = 0; deadline = 0 }

abbrev pub no_numbered : Numbered
no_numbered = record { number = 0; pair = no_pair }

-- the greatest deadline of the frames left (rule 5.2)
unfoldable pub with_deadline : Numbered → ℕ → ℕ
with_deadline x d = max x.pair.deadline d

unfoldable pub greatest_deadline : List Numbered → ℕ
greatest_deadline xs = foldr with_deadline 0 xs

-- Rule 5.3: candidates are the frames left whose deadline is not below e.
unfoldable pub is_candidate : ℕ → Numbered → Bool
is_candidate e x = leb e x.pair.deadline

-- Rule 5.4: x is later than y: released later, or at the same time with a higher number.
unfoldable pub is_later : Numbered → Numbered → Bool
is_later x y =
    ltb y.pair.release x.pair.release
    || (eqb y.pair.release x.pair.release && ltb y.number x.number)

unfoldable pub latest_of : Numbered → List Numbered → Numbered
latest_of x [] = x
latest_of x (y ∷ ys) = latest_of (cond (is_later y x) y x) ys

abbrev pub latest : List Numbered → Numbered
latest [] = no_numbered
latest (x ∷ xs) = latest_of x xs

unfoldable pub is_other : ℕ → Numbered → Bool
is_other k x = not (eqb x.number k)

module _ (resolution gap floor : ℕ) (sending : Pair → ℕ) where
  -- Rule 5.2: the end, lowered to the greatest deadline left.
  unfoldable pub lowered : ℕ → List Numbered → ℕ
  lowered e left = min e (greatest_deadline left)

  -- Rule 5.4: the candidate that is taken.
  unfoldable pub taken : ℕ → List Numbered → Numbered
  taken e left = latest (keep (is_candidate e) left)

  -- Rule 5.5: the highest start on the resolution from which the frame is sent by e.
  unfoldable pub start_of : ℕ → Pair → ℕ
  start_of e f = down resolution (e - sending f)

  -- Rule 5.6: there is such a start, and it lies neither before the release nor before C, which is `floor` here.
  unfoldable pub fits : ℕ → Pair → Bool
  fits e f = leb (sending f) e && (leb f.release (start_of e f) && leb floor (start_of e f))

  -- The rule over n frames left, from the end e down. `done` are the frames placed so far, the last placed in front, so they stand
  -- by start. Rule 5.7: the next end is a gap before the start.
  unfoldable pub place : ℕ → ℕ → List Numbered → List Placed → Res (List Placed)
  place zero e left done = ok done
  place (suc n) e left done =
      let end = lowered e left in
      let x = taken end left in
      elim (fits end x.pair) [
        | true ↦ place n (start_of end x.pair - gap) (keep (is_other x.number) left)
            (record { number = x.number; pair = x.pair; start = start_of end x.pair } ∷ done)
        | false ↦ refuse 12 x.number
      ]

-- the sending time of a row that holds one pair
unfoldable pub time_alone : Layout → Pair → ℕ
time_alone l f = l.time (f ∷ [])

-- The starts that the latest-release rule gives, by start; or refusal 12 at the number of the pair that it could not place. Rule 5.1: the
-- first end is that of the layout, a gap before P.
unfoldable pub latest_release : Layout → Res (List Placed)
latest_release l =
    place l.grid l.gap l.floor (time_alone l) (length l.pairs) l.end (numbered_from 0 l.pairs) []
