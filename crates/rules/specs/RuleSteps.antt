-- The latest-release rule (docs/RULES.md, section 5) in sentences: what each of its steps must be, as propositions over the frames left and the
-- end e; a run of such steps, to the frames with their starts or to the frame at which it sticks.
use Rattle.std.specs.Prelude.{◌≡◌, ℕ, ◌+◌, ◌-◌, ◌≤◌, ◌<◌, min}
use mathlib.Core.List.{List, [], ◌∷◌, Memᴰ}
use Rattle.std.specs.Int.{◌∣◌}
use Rattle.laws.specs.Res.{Res, ok, refuse}
use Rattle.rules.specs.Frames.{Pair, Layout}
use Rattle.rules.specs.LatestRelease.{Numbered, numbered_from, Placed, time_alone}

-- d is the greatest deadline left: some frame left has it, and none has a greater one.
pub record IsGreatestDeadline (left : List Numbered) (d : ℕ) : Type 0 where
  pub one : Numbered
  pub among : Memᴰ one left
  pub has : one.pair.deadline ≡ d
  pub greatest : (x : Numbered) → Memᴰ x left → x.pair.deadline ≤ d

-- Rule 5.2: e is lowered to the smaller of e and the greatest deadline left.
pub record IsLowered (e : ℕ) (left : List Numbered) (end : ℕ) : Type 0 where
  pub deadline : ℕ
  pub is_greatest : IsGreatestDeadline left deadline
  pub smaller : end ≡ min e deadline

-- Rule 5.3: a candidate is left and has a deadline at least the end.
pub record IsCandidate (end : ℕ) (left : List Numbered) (x : Numbered) : Type 0 where
  pub among : Memᴰ x left
  pub in_time : end ≤ x.pair.deadline

-- Rule 5.4: the frame taken is a candidate; no candidate has a later release, and among those of equal release none has a larger number.
pub record IsTaken (end : ℕ) (left : List Numbered) (x : Numbered) : Type 0 where
  pub candidate : IsCandidate end left x
  pub latest : (y : Numbered) → IsCandidate end left y → y.pair.release ≤ x.pair.release
  pub larger : (y : Numbered) → IsCandidate end left y → y.pair.release ≡ x.pair.release → y.number ≤ x.number

-- Rule 5.5: the start of a frame that takes `time` ticks: a multiple of the resolution from which it stops by the end, and the greatest one.
pub record IsStart (resolution time end start : ℕ) : Type 0 where
  pub multiple : resolution ∣ start
  pub stops : start + time ≤ end
  pub greatest : (m : ℕ) → resolution ∣ m → m + time ≤ end → m ≤ start

-- Rule 5.6: why a frame gets no place: no multiple of the resolution is early enough; or the start lies before the release, or before C.
pub data NoPlace (resolution floor time release end : ℕ) : Type 0 where
  no_start : ((m : ℕ) → resolution ∣ m → m + time ≤ end → ⊥) → NoPlace resolution floor time release end
  before_release : {start : ℕ} → IsStart resolution time end start → start < release → NoPlace resolution floor time release end
  before_floor : {start : ℕ} → IsStart resolution time end start → start < floor → NoPlace resolution floor time release end

-- The frames left without x.
pub data Without (x : Numbered) : List Numbered → List Numbered → Type 0 where
  here : {y : Numbered} {left rest : List Numbered} → x ≡ y → left ≡ rest → Without x (y ∷ left) rest
  behind : {y : Numbered} {left rest : List Numbered} → Without x left rest → Without x (y ∷ left) (y ∷ rest)

-- the frame of a placed one, with its number
abbrev pub unplaced : Placed → Numbered
unplaced x = record { number = x.number; pair = x.pair }

module _ (resolution gap floor : ℕ) (sending : Pair → ℕ) where
  -- Rule 5.7: a step that places x: its start is not before its release nor before C (`floor`), and the next end is the start minus the gap. (C is
  -- at least a gap.)
  pub record Places (e : ℕ) (left : List Numbered) (x : Placed) (next : ℕ) (rest : List Numbered) : Type 0 where
    pub end : ℕ
    pub lowered : IsLowered e left end
    pub taken : IsTaken end left (unplaced x)
    pub start : IsStart resolution (sending x.pair) end x.start
    pub released : x.pair.release ≤ x.start
    pub behind_control : floor ≤ x.start
    pub ends : next ≡ x.start - gap
    pub leaves : Without (unplaced x) left rest

  -- Rule 5.6: a step that takes the frame of this number and finds no place for it.
  pub record Sticks (e : ℕ) (left : List Numbered) (number : ℕ) : Type 0 where
    pub end : ℕ
    pub lowered : IsLowered e left end
    pub pair : Pair
    pub taken : IsTaken end left (record { number = number; pair = pair })
    pub no_place : NoPlace resolution floor (sending pair) pair.release end

  -- A run of steps from the end e, with these frames left and these placed before, the last placed in front: it goes on while frames
  -- remain. Its outcome is all that was placed, or refusal 12 at the number of the frame at which it sticks.
  pub data Steps : ℕ → List Numbered → List Placed → Res (List Placed) → Type 0 where
    none_left : {e : ℕ} {left : List Numbered} {done : List Placed} {outcome : Res (List Placed)}
        → left ≡ [] → ok done ≡ outcome → Steps e left done outcome
    places : {e next : ℕ} {left rest : List Numbered} {done : List Placed} {x : Placed} {outcome : Res (List Placed)}
        → Places e left x next rest → Steps next rest (x ∷ done) outcome → Steps e left done outcome
    sticks : {e number : ℕ} {left : List Numbered} {done : List Placed} {outcome : Res (List Placed)}
        → Sticks e left number → refuse 12 number ≡ outcome → Steps e left done outcome

-- Rule 5.1: the rule on what a plan asks, from the end of its cycle on, with every pair left.
abbrev pub RuleGives : Layout → Res (List Placed) → Type 0
RuleGives l outcome = Steps l.grid l.gap l.floor (time_alone l) l.end (numbered_from 0 l.pairs) [] outcome
