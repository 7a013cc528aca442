-- Demand 3 of the exported functions, by the contracts of `olbiothar_begin` and `olbiothar_tick` alone, for any calls. After a beginning
-- that answered number 0, the value in the lent station that a node shows of a task of another node that it consumes, and that a task's
-- own node shows, is the one result of the last run of the task that has ended by the history of the calls that answered number 0: in the
-- basic edition at every tick; in either edition at every tick on the task's own node, and on another where a task there reads it.
use mathlib.Core.Path.{◌≡◌, refl, sym, ◌∙◌, subst}
use mathlib.Core.Bool.{false}
use mathlib.Core.List.{List, [], ◌∷◌}
use mathlib.Core.Logic.{◌↔◌}
use mathlib.Core.Option.{Option}
use native.Mathlib.Omega.{arith}
use Prim.Native.Nat.{ℕ}
use Rattle.laws.specs.Res.{Res, ok, refuse}
use Rattle.laws.proofs.Refusals.{Gives}
use Rattle.rules.specs.Plan.{Plan, read_plan}
use Rattle.rules.specs.Traffic.{read_in}
use Rattle.rules.specs.Checker.{is_for_consumers}
use Rattle.rules.specs.Playing.{Input}
use Rattle.rules.specs.Station as rules
use Rattle.rules.specs.Station.{begin}
use Rattle.rules.specs.Told.{ShowsTold, ShowsRead}
use Rattle.rules.specs.Allowed.{MayTell, Allowed}
use Rattle.rules.proofs.Editions.{read-in}
use Rattle.rules.proofs.FollowsTold.{numbers_of_any-tick}
use Rattle.rules.proofs.RefusalNumbers.{passed_gives}
use Rattle.rules.proofs.StationExact.{begin_checks}
use Rattle.rules.proofs.Transparent.{begun}
use Rattle.stationruns.specs.Inputs.{input_of, starting_at}
use Rattle.stationruns.specs.declared.Input as given
use Rattle.stationruns.specs.declared.Starting.{Starting}
use Rattle.station.specs.Memory.{kept_of, ruled, state_of}
use Rattle.station.specs.declared.Station.{Station}
use Rattle.station.proofs.Plays.{Plays, start, plays_on}
use Rattle.beginning.specs.Begins.{station_laid, verdict}
use Rattle.beginning.proofs.Shown.{shows-told, shows-read, history-allowed, call_exact}
use Rattle.outward.specs.Answers.{answer_of}
use Rattle.outward.specs.Numbers.{tick_by}
use Rattle.outward.specs.declared.Answer.{Answer}
use Rattle.outward.specs.declared.TickAnswer.{TickAnswer}
use Rattle.olbiothar.specs.Playing.{BeginsIn, Ticks}

-- ---- calls

-- Any calls on the lent station, each by its contract, and what was given to those that answered number 0, the newest first.
pub data Calls : Station → List Input → Station → Type 0 where
  none : {st : Station} → Calls st [] st
  accepted :
      {st before after : Station} {past : List Input} {r : TickAnswer} (input : given.Input) → Calls st past before →
      Ticks before input r after → r.answer.number ≡ 0 →
      Calls st (input_of input ∷ past) after
  refused :
      {st before after : Station} {past : List Input} {r : TickAnswer} (input : given.Input) → Calls st past before →
      Ticks before input r after → (r.answer.number ≡ 0 → ⊥) → Calls st past after

-- number 0 is no refusal's
taken : (rule : Res rules.Ticked) → Gives 40 44 rule → (tick_by rule).answer.number ≡ 0 → (t : rules.Ticked) × (rule ≡ ok t)
taken (ok t) g e = (t, refl)
taken (refuse n p) g e = absurd (omega (arith, g.number n p refl))

taken-number : (rule : Res rules.Ticked) (t : rules.Ticked) → rule ≡ ok t → (tick_by rule).answer.number ≡ 0
taken-number rule t e = rw e

module _ {before after : Station} {r : TickAnswer} (input : given.Input) (c : Ticks before input r after) where
  abbrev rule : Res rules.Ticked
  rule = ruled before input

  abbrev i : Input
  i = input_of input

  number_exact : (r.answer.number ≡ 0) ↔ ((t : rules.Ticked) × (ruled before input ≡ ok t))
  number_exact = (
    λ e. taken rule (numbers_of_any-tick (kept_of before) (state_of before) i) (rw c.answers at e),
    λ h. rw c.answers (taken-number rule h.0 h.1),
  )

  plays_accepted : {st : Station} {past : List Input} → r.answer.number ≡ 0 → Plays st past before → Plays st (input_of input ∷ past) after
  plays_accepted {st} {past} e p =
      let h = number_exact.0 e in
      subst (λ (x : Station). Plays st (i ∷ past) x) (sym (c.leaves ∙ rw h.1))
      (plays_on input (ok h.0) h.1 p)

  plays-refused : {st : Station} {past : List Input} → (r.answer.number ≡ 0 → ⊥) → Plays st past before → Plays st past after
  plays-refused {st} {past} other p = go rule refl
    where
      go : (x : Res rules.Ticked) → ruled before input ≡ x → Plays st past after
      go (ok t) q = absurd (other (number_exact.1 (t, q)))
      go (refuse n k) q = subst (λ (x : Station). Plays st past x) (sym (c.leaves ∙ rw q)) p

calls_play : {st after : Station} {history : List Input} → Calls st history after → Plays st history after
calls_play none = start
calls_play (accepted input calls c e) = plays_accepted input c e (calls_play calls)
calls_play (refused input calls c other) = plays-refused input c other (calls_play calls)

-- ---- a beginning that answered number 0

module _ (plan table : List ℕ) (modes : Starting) (before station : Station) (r : Answer) (begins : BeginsIn (begin plan table (starting_at modes)) before r station)
    (fine : r.number ≡ 0) where
  abbrev starting : ℕ → Option ℕ
  starting = starting_at modes

  began : (b : rules.Begun) × (begin plan table starting ≡ ok b)
  began = go (begin plan table starting) refl (rw begins.answers at fine)
    where
      go : (x : Res rules.Begun) → begin plan table starting ≡ x → (answer_of (verdict x)).number ≡ 0
          → (b : rules.Begun) × (begin plan table starting ≡ ok b)
      go (ok b) q e = (b, q)
      go (refuse n p) q e =
          let other : n ≡ 40 → ⊥ = λ z. absurd (omega arith) in
          absurd (omega (arith, (passed_gives plan table).number n p ((begin_checks plan table starting n p other).0 q)))

  -- it had a plan, in the table's edition and as it is read
  pub began-plan : (p : Plan) × (read_in (is_for_consumers table) plan ≡ ok p)
  began-plan = let told = begun plan table starting began.0 began.1 in (told.read, told.is_read)

  pub began-read : (q : Plan) × (read_plan plan ≡ ok q)
  began-read = let r = read-in (is_for_consumers table) plan began-plan.0 began-plan.1 in (r.0, r.1)

  module _ (history : List Input) (after : Station) (calls : Calls station history after) where
    played : Plays (station_laid began.0) history after
    played = subst (λ (st : Station). Plays st history after) (begins.leaves ∙ rw began.1) (calls_play calls)

    -- in either edition: what the lent station shows where it is read, and on a task's own node, is told by the history
    pub calls_read : (q : Plan) → read_plan plan ≡ ok q → ShowsRead q (starting_at modes) history (state_of after).shown
    calls_read q reads = shows-read plan table starting began.0 began.1 q reads history after played

    module _ (p : Plan) (reads : read_in (is_for_consumers table) plan ≡ ok p) where
      -- in the basic edition all that it shows to consumers is
      pub calls_shown : p.consumers ≡ false → ShowsTold p (starting_at modes) history (state_of after).shown
      calls_shown = shows-told plan table starting began.0 began.1 p reads history after played

      -- in that history each result came in its time and modes changed at their instants
      pub calls_allowed : Allowed p (starting_at modes) history
      calls_allowed = history-allowed plan table starting began.0 began.1 p reads history after played

      -- and the next call answers number 0 exactly when it is given such a tick
      pub call_answers : {r' : TickAnswer} {next : Station} (input : given.Input) → Ticks after input r' next
          → (r'.answer.number ≡ 0) ↔ MayTell p (starting_at modes) history (input_of input)
      call_answers input c =
          let number = number_exact input c in
          let told = call_exact plan table starting began.0 began.1 p reads history after played (input_of input) in
          (λ e. told.0 (number.0 e), λ m. number.1 (told.1 m))
