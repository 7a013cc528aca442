-- Stations one after the other, by the contract of `tick` alone: what is seen of them follows the rules' play.
use mathlib.Core.Path.{◌≡◌, refl, sym, ap, ◌∙◌, subst}
use mathlib.Core.Bool.{true, false}
use Rattle.std.specs.Prelude.{Ok, Err}
use mathlib.Core.List.{List, [], ◌∷◌, ◌++◌}
use Prim.Native.Nat.{ℕ}
use Rattle.laws.specs.Res.{Res, ok, refuse}
use Rattle.laws.proofs.Lists.{true-false}
use Rattle.laws.proofs.Res.{refuse≢ok, ok_injective}
use Rattle.rules.specs.Playing.{Input}
use Rattle.rules.specs.Station as rules
use Rattle.rules.specs.StationRange.{ticked}
use Rattle.rules.proofs.StationPlaces.{Follows, begun, next}
use Rattle.stationruns.specs.Inputs.{input_of}
use Rattle.stationruns.specs.declared.Input as given
use Rattle.station.specs.Memory.{kept_of, state_of, laid, ruled}
use Rattle.station.specs.Answers.{Answers, Said, outcome, is_refused, row_said, station_after}
use Rattle.station.specs.declared.Station.{Station}
use Rattle.station.specs.declared.Ticked.{Ticked}
use Rattle.station.proofs.Sized.{Sized, sized-laid, laid_agrees}

-- ---- what an answer leaves is what the rule says

module _ (st : Station) (r : Ticked) where
  taken : (x : Ticked) (w : Said) → outcome w r ≡ ok x → r ≡ x
  taken x (Ok row) e = ok_injective e
  taken x (Err y) e = refuse≢ok e

  pub refused-said : (n p : ℕ) (w : Said) → outcome w r ≡ refuse n p → is_refused w ≡ true
  refused-said n p (Ok row) e = refuse≢ok (sym e)
  refused-said n p (Err x) e = refl

  pub leaves : (rule : Res rules.Ticked) → Answers st rule r → r.station ≡ station_after st rule
  leaves (ok t) a = ap (λ (x : Ticked). x.station) (taken _ r.said a.says)
  leaves (refuse n p) a = a.unchanged (refused-said n p r.said a.says)

-- ---- calls

-- A history, the newest tick first, of the calls that were accepted, each call answered by its contract. A refused call leaves the
-- station and the history as they were.
pub data Plays : Station → List Input → Station → Type 0 where
  start : {st : Station} → Plays st [] st
  accepted :
      {st before : Station} {past : List Input} {r : Ticked} (input : given.Input) → Plays st past before →
      Answers before (ruled before input) r → is_refused r.said ≡ false →
      Plays st (input_of input ∷ past) r.station
  refused :
      {st before : Station} {past : List Input} {r : Ticked} (input : given.Input) → Plays st past before →
      Answers before (ruled before input) r → is_refused r.said ≡ true →
      Plays st past r.station

-- ---- a call by what the rules say of it

said-taken : (w : rules.Started) (r : Ticked) → (outcome (row_said w) r ≡ ok r) × (is_refused (row_said w) ≡ false)
said-taken (rules.control w) r = (refl, refl)
said-taken (rules.message w) r = (refl, refl)
said-taken rules.nothing r = (refl, refl)

answered : (st : Station) (t : rules.Ticked) → Answers st (ok t) (record { said = row_said t.row; station = laid st t.state })
answered st t =
    let r : Ticked = record { said = row_said t.row; station = laid st t.state } in
    record { says = (said-taken t.row r).0; unchanged = λ e. true-false (sym e ∙ (said-taken t.row r).1) }

-- the history behind a call
abbrev pub history_after : List Input → Input → Res rules.Ticked → List Input
history_after past i (ok t) = i ∷ past
history_after past i (refuse n p) = past

pub plays_on : {st before : Station} {past : List Input} (input : given.Input) (rule : Res rules.Ticked)
    → ruled before input ≡ rule → Plays st past before
    → Plays st (history_after past (input_of input) rule) (station_after before rule)
plays_on {before = before} input (ok t) e p =
    accepted input p
    (subst (λ (x : Res rules.Ticked). Answers before x (record { said = row_said t.row; station = laid before t.state })) (sym e) (answered before t))
    (said-taken t.row (record { said = row_said t.row; station = laid before t.state })).1
plays_on input (refuse n q) e p = p

-- ---- any calls, the oldest first

-- the station after the calls
unfoldable pub after_calls : Station → List given.Input → Station
after_calls st [] = st
after_calls st (c ∷ calls) = after_calls (station_after st (ruled st c)) calls

-- the history of those that are accepted, in front of a past
unfoldable pub accepted_of : List Input → Station → List given.Input → List Input
accepted_of past st [] = past
accepted_of past st (c ∷ calls) = accepted_of (history_after past (input_of c) (ruled st c)) (station_after st (ruled st c)) calls

pub plays_calls : {st before : Station} {past : List Input} (calls : List given.Input) → Plays st past before
    → Plays st (accepted_of past before calls) (after_calls before calls)
unfolding after_calls accepted_of
plays_calls [] p = p
plays_calls {before = before} (c ∷ calls) p = plays_calls {before = station_after before (ruled before c)} calls (plays_on c (ruled before c) refl p)

pub after-joined : (st : Station) (calls more : List given.Input) → after_calls st (calls ++ more) ≡ after_calls (after_calls st calls) more
unfolding after_calls
after-joined st [] more = refl
after-joined st (c ∷ calls) more = after-joined (station_after st (ruled st c)) calls more

-- ---- the rules' play

-- what an accepted tick leaves
record Left (st : Station) (rule : Res rules.Ticked) (r : Ticked) : Type 0 where
  ticks : rules.Ticked
  is : rule ≡ ok ticks
  station : r.station ≡ laid st ticks.state

left : (st : Station) (rule : Res rules.Ticked) (r : Ticked) → Answers st rule r → is_refused r.said ≡ false → Left st rule r
left st (ok t) r a e = record { ticks = t; is = refl; station = leaves st r (ok t) a }
left st (refuse n p) r a e = true-false (sym (refused-said st r n p r.said a.says) ∙ e)

-- Behind every history the station keeps what it kept, its arrays have their lengths, and its state follows.
pub record Behind (st : Station) (history : List Input) (after : Station) : Type 0 where
  pub kept : kept_of after ≡ kept_of st
  pub sized : Sized after
  pub follows : Follows (kept_of st) (state_of st) history (state_of after)

kept-laid : (st : Station) (s : rules.State) → kept_of (laid st s) ≡ kept_of st
unfolding kept_of laid
kept-laid st s = refl

pub plays-follows : {st after : Station} {history : List Input} → Sized st → Plays st history after → Behind st history after
plays-follows z start = record { kept = refl; sized = z; follows = begun }
plays-follows {st} z (accepted {before = before} {past = past} {r = r} input p a e) =
    let b = plays-follows z p in
    let l = left before (ruled before input) r a e in
    let s = l.ticks.state in
    let on : ticked (kept_of st) (state_of before) (input_of input) ≡ ok l.ticks = rw (← b.kept) l.is in
    subst (λ (x : Station). Behind st (input_of input ∷ past) x) (sym l.station)
    (record {
      kept = kept-laid before s ∙ b.kept;
      sized = sized-laid before b.sized s;
      follows = next (input_of input) b.follows on (laid_agrees before b.sized s);
    })
plays-follows {st} z (refused {past = past} input p a e) =
    subst (λ (x : Station). Behind st past x) (sym (a.unchanged e)) (plays-follows z p)
