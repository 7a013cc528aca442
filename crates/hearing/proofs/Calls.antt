-- A whole history by its lines, and the calls of `tick` that they ask for: the station after the lines is the one after these calls.
use mathlib.Core.Path.{◌≡◌, refl, sym, ap, ◌∙◌}
use mathlib.Core.Bool.{Bool, true, false, cond, ◌&&◌, true≢false}
use mathlib.Core.List.{List, [], ◌∷◌, ◌++◌, append-nil, append_assoc}
use native.Mathlib.Omega.{arith}
use borrow.Author.Tests.{eqb-true}
use lib.Dec.{eqb}
use lib.ListN.{length, drop}
use Prim.Native.Nat.{ℕ, zero, suc}
use Rattle.laws.specs.Lists.{all}
use Rattle.stationruns.specs.Inputs.{no_input}
use Rattle.stationruns.specs.declared.Input.{Input}
use Rattle.station.specs.declared.Station.{Station}
use Rattle.station.proofs.Plays.{after_calls, after-joined}
use Rattle.text.specs.Lines.{is_other, lines_of, one_line}
use Rattle.text.proofs.Runs.{drop_all, front_over, is_feedless, line_first, lines_more}
use Rattle.history.specs.Reading.{read_line, input_from}
use Rattle.history.specs.declared.Line.{Line}
use Rattle.history.specs.declared.What.{What}
use Rattle.history.specs.declared.What.TheVariants.{Blank, Begin, Tick, Quiet, Unreadable}
use Rattle.hearing.specs.Heard.{after_tick, after_nothing, after_quiet, heard_line, after_lines, later_by, playing, stopped, unheard}
use Rattle.hearing.specs.Pieces.{at_end, hear_on, heard_all, last_heard, with_byte}
use Rattle.hearing.specs.declared.Heard.{Heard}

-- ---- byte by byte is line by line

all_snoc : (p : ℕ → Bool) (l : List ℕ) (b : ℕ) → all p l ≡ true → p b ≡ true → all p (l ++ (b ∷ [])) ≡ true
all_snoc p [] b h e = rw e
all_snoc p (x ∷ l) b h e = go (p x) h (λ q. all_snoc p l b q e)
  where
    go : (t : Bool) → (t && all p l) ≡ true → (all p l ≡ true → all p (l ++ (b ∷ [])) ≡ true) → (t && all p (l ++ (b ∷ []))) ≡ true
    go true q more = more q
    go false q more = absurd (true≢false (sym q))

only-line : (b : ℕ) (l : List ℕ) → is_feedless (b ∷ l) ≡ true → lines_of (b ∷ l) ≡ (b ∷ l) ∷ []
unfolding lines_of
only-line b l h =
    let whole : one_line (b ∷ l) ≡ b ∷ l = ap one_line (sym (append-nil (b ∷ l))) ∙ front_over (is_other 10) (b ∷ l) [] h ∙ append-nil (b ∷ l) in
    lines_more (b ∷ l) (omega arith)
    ∙ ap (λ (x : List ℕ). x ∷ lines_of (drop (suc (length x)) (b ∷ l))) whole
    ∙ ap (λ (x : List ℕ). (b ∷ l) ∷ lines_of x) (drop_all (suc (length (b ∷ l))) (b ∷ l) (omega arith))

module _ (plan table : List ℕ) where
  last_line : (k : ℕ) (h : Heard) (l : List ℕ) → is_feedless l ≡ true → last_heard plan table k h l ≡ after_lines plan table k (lines_of l) h
  unfolding after_lines lines_of
  last_line k h [] e = refl
  last_line k h (b ∷ l) e = rw (only-line b l e)

  lines_on : (s : List ℕ) (k : ℕ) (h : Heard) (l : List ℕ) → is_feedless l ≡ true
      → at_end plan table (hear_on plan table (record { lines = k; heard = h; opening = l }) s) ≡ after_lines plan table k (lines_of (l ++ s)) h
  unfolding hear_on after_lines
  lines_on [] k h l e = last_line k h l e ∙ ap (λ (x : List ℕ). after_lines plan table k (lines_of x) h) (sym (append-nil l))
  lines_on (b ∷ s) k h l e = go (eqb b 10) refl (λ j x m q. lines_on s j x m q)
    where
      go : (t : Bool) → eqb b 10 ≡ t
          → ((j : ℕ) (x : Heard) (m : List ℕ) → is_feedless m ≡ true
          → at_end plan table (hear_on plan table (record { lines = j; heard = x; opening = m }) s) ≡ after_lines plan table j (lines_of (m ++ s)) x)
          → at_end plan table (hear_on plan table (with_byte plan table (record { lines = k; heard = h; opening = l }) t b) s) ≡ after_lines plan table k (lines_of (l ++ (b ∷ s))) h
      go true q more =
          more (suc k) (heard_line plan table (suc k) h l) [] refl
          ∙ sym (ap (λ (x : List (List ℕ)). after_lines plan table k x h) (ap (λ (c : ℕ). lines_of (l ++ (c ∷ s))) (eqb-true b 10 q) ∙ line_first l s e))
      go false q more =
          more k h (l ++ (b ∷ [])) (all_snoc (is_other 10) l b e (rw q))
          ∙ ap (λ (x : List ℕ). after_lines plan table k (lines_of x) h) (append_assoc l (b ∷ []) s)

  pub all_lines : (s : List ℕ) → heard_all plan table s ≡ after_lines plan table 0 (lines_of s) unheard
  unfolding heard_all
  all_lines s = lines_on s 0 unheard [] refl

  -- a line that stops the history is the last
  pub stopped-stays : (lines : List (List ℕ)) (k l : ℕ) (st : Station) → after_lines plan table k lines (stopped l st) ≡ stopped l st
  unfolding after_lines heard_line
  stopped-stays [] k l st = refl
  stopped-stays (s ∷ lines) k l st = stopped-stays lines (suc k) l st

-- ---- calls

-- what each call is given: nothing, so many times
unfoldable pub quiet_calls : ℕ → List Input
quiet_calls zero = []
quiet_calls (suc n) = no_input ∷ quiet_calls n

abbrev pub calls_by : Line → What → List Input
calls_by line Blank = []
calls_by line Tick = input_from line.results line.modes ∷ []
calls_by line (Quiet n) = quiet_calls n
calls_by line Begin = []
calls_by line Unreadable = []

-- the next line is read
abbrev pub goes_by : What → Bool
goes_by Blank = true
goes_by Tick = true
goes_by (Quiet n) = true
goes_by Begin = false
goes_by Unreadable = false

unfoldable pub calls_of : List (List ℕ) → List Input
calls_of [] = []
calls_of (s ∷ lines) = calls_by (read_line s) (read_line s).what ++ cond (goes_by (read_line s).what) (calls_of lines) []

quiet-calls : (st : Station) (n : ℕ) → after_quiet st n ≡ after_calls st (quiet_calls n)
unfolding after_quiet after_nothing after_tick after_calls quiet_calls
quiet-calls st zero = refl
quiet-calls st (suc n) = quiet-calls (after_nothing st) n

module _ (plan table : List ℕ) (begun : Bool) where
  line_calls : (line : Line) (w : What) (k : ℕ) (lines : List (List ℕ)) (st : Station)
      → ((k : ℕ) (st : Station) → (after_lines plan table k lines (playing begun st)).station ≡ after_calls st (calls_of lines))
      → (after_lines plan table k lines (later_by k begun st line w)).station ≡ after_calls st (calls_by line w ++ cond (goes_by w) (calls_of lines) [])
  unfolding after_tick after_calls
  line_calls line Blank k lines st h = h k st
  line_calls line Tick k lines st h = h k (after_tick st (input_from line.results line.modes))
  line_calls line (Quiet n) k lines st h =
      h k (after_quiet st n) ∙ ap (λ (x : Station). after_calls x (calls_of lines)) (quiet-calls st n) ∙ rw (after-joined st (quiet_calls n) (calls_of lines))
  line_calls line Begin k lines st h = ap (λ (x : Heard). x.station) (stopped-stays plan table lines k k st)
  line_calls line Unreadable k lines st h = ap (λ (x : Heard). x.station) (stopped-stays plan table lines k k st)

  -- the lines behind a beginning
  pub after-lines : (lines : List (List ℕ)) (k : ℕ) (st : Station) → (after_lines plan table k lines (playing begun st)).station ≡ after_calls st (calls_of lines)
  unfolding after_lines heard_line calls_of after_calls
  after-lines [] k st = refl
  after-lines (s ∷ lines) k st = line_calls (read_line s) (read_line s).what (suc k) lines st (λ j x. after-lines lines j x)
