-- Demand 3 in plain words, of stations that follow one another from a beginning: what is shown is told by their history, each tick of
-- which was given what it may be given; and the next tick is accepted exactly when it is, too.
use mathlib.Core.Path.{◌≡◌, refl, sym, ◌∙◌, subst}
use mathlib.Core.Bool.{true, false}
use mathlib.Core.List.{List}
use mathlib.Core.Logic.{◌↔◌}
use mathlib.Core.Option.{Option}
use lib.Dec.{lit≤}
use Prim.Native.Nat.{ℕ, ◌<◌}
use Rattle.laws.specs.Res.{Res, ok}
use Rattle.laws.proofs.Res.{refuse≢ok}
use Rattle.laws.proofs.Refusals.{Gives, gives-unless, gives_then, gives-within}
use Rattle.rules.specs.Plan.{Plan, read_plan}
use Rattle.rules.specs.Playing.{module_places, Input}
use Rattle.rules.specs.Station.{Kept, State, Ticked, Begun, step, begin}
use Rattle.rules.specs.StationRange.{in_range, ticked}
use Rattle.rules.specs.History.{played}
use Rattle.rules.specs.Told.{Tells, ShowsTold, ShowsRead}
use Rattle.rules.specs.Allowed.{MayTell, Allowed}
use Rattle.rules.proofs.StationExact.{numbers_of_ticks}
use Rattle.rules.proofs.StationRanges.{KeptIn, PlayIn, StateIn, range_tests}
use Rattle.rules.proofs.StationStays.{in_range_steps, stays_in_range}
use Rattle.rules.proofs.StationPlaces.{Agree, SameAnswer, accepted, refused, answer_ok, same-input, step_agree, Follows, follows-played, shown-there, shown-there-own, task-node}
use Rattle.rules.proofs.TransparentTold.{shown-told, shown-told-own}
use Rattle.rules.proofs.AllowedExact.{tick-told, history-told}
use Rattle.rules.specs.Traffic.{read_in, task_node}
use Rattle.rules.specs.Checker.{is_for_consumers}
use Rattle.rules.proofs.AllRead.{basic-whole}
use Rattle.rules.proofs.TransparentReads.{shows-read}
use Rattle.rules.proofs.PlanKept.{PlanKept, readable_kept}
use Rattle.laws.proofs.Members.{all_member}
use native.Mathlib.Omega.{arith}
use lib.ListN.{length}

-- the numbers of a tick of any station value
pub numbers_of_any-tick : (k : Kept) (s : State) (i : Input) → Gives 40 44 (ticked k s i)
unfolding ticked
numbers_of_any-tick k s i =
    gives_then (gives-unless 40 0 (in_range k s) (lit≤ tt) (lit≤ tt)) (gives-within (lit≤ tt) (lit≤ tt) (numbers_of_ticks k s i))

-- a state that agrees with one in range is in range
agree_in : {k : Kept} {s s' : State} → Agree s s' → StateIn k s' → StateIn k s
agree_in {k} {s} {s'} a h =
    record {
      clock = rw a.clock h.clock;
      plays = λ m w. play m w (h.plays m w);
      boxes = λ t w. rw (a.out t w) (h.boxes t w);
      loads = λ t w. rw (a.load t w) (h.loads t w);
      landed = λ n v t w. rw (a.landed n v t w) (h.landed n v t w);
      shown = λ n v t w. rw (a.shown n v t w) (h.shown n v t w);
      held = λ n v m w. rw (a.held n v m w) (h.held n v m w);
    }
  where
    play : (m : ℕ) → m < module_places → PlayIn k s' m → PlayIn k s m
    play m w q =
        record {
          mode = rw (a.mode m w) q.mode;
          own = λ there. rw (a.mode m w) (q.own there);
          age = rw (a.age m w, a.mode m w) q.age;
          byte = rw (a.mode_byte m w) q.byte;
        }

pub also_ok : {r r' : Res Ticked} {t : Ticked} → SameAnswer r r' → r' ≡ ok t → (a : Ticked) × (r ≡ ok a)
also_ok (accepted row state) e = (_, refl)
also_ok (refused n p) e = refuse≢ok e

module _ (plan table : List ℕ) (starting : ℕ → Option ℕ) (b : Begun) (begins : begin plan table starting ≡ ok b)
    (p : Plan) (reads : read_in (is_for_consumers table) plan ≡ ok p) (s : State) (same : Agree s b.state) (history : List Input) (after : State)
    (follows : Follows b.kept s history after) where
  -- the rules play the same history
  abbrev now : (s₁ : State) × ((played b.kept b.state history ≡ ok s₁) × Agree after s₁)
  now = follows-played same follows

  pub follows-shown : p.consumers ≡ false → ShowsTold p starting history after.shown
  follows-shown basic =
      record {
        consumed = λ n t c.
            subst (Tells p starting t history) (sym (shown-there plan table starting b begins p reads s same history after follows n t c))
            (shown-told plan table starting b begins p reads history now.0 now.1.0 n t c (basic-whole p t basic));
        own = λ t w.
            subst (Tells p starting t history) (sym (shown-there-own plan table starting b begins p reads s same history after follows t w))
            (shown-told-own plan table starting b begins p reads history now.0 now.1.0 t w);
      }

  pub follows-allowed : Allowed p starting history
  follows-allowed = (history-told plan table starting b begins p reads history).0 (now.0, now.1.0)

  -- no tick is refused by 40
  kept_in : KeptIn b.kept × StateIn b.kept now.0
  kept_in = (range_tests b.kept now.0).says (stays_in_range plan table starting b history now.0 begins now.1.0)

  in-range : in_range b.kept after ≡ true
  in-range = (range_tests b.kept after).passes (kept_in.0, agree_in now.1.1 kept_in.1)

  pub follows_exact : (i : Input) → ((t : Ticked) × (ticked b.kept after i ≡ ok t)) ↔ MayTell p starting history i
  follows_exact i =
      let steps : ticked b.kept after i ≡ step b.kept after i = in_range_steps b.kept after i in-range in
      let alike : SameAnswer (step b.kept after i) (step b.kept now.0 i) =
      step_agree b.kept now.1.1 same-input kept_in.0 in
      let told = tick-told plan table starting b begins p reads history now.0 now.1.0 i in (
        λ h. let o = answer_ok alike (sym steps ∙ h.1) in told.0 (o.other, o.is),
        λ m. let o = also_ok alike (told.1 m).1 in (o.0, steps ∙ o.1),
      )

-- ---- at reads, of the plan as it is read, in either edition

module _ (plan table : List ℕ) (starting : ℕ → Option ℕ) (b : Begun) (begins : begin plan table starting ≡ ok b)
    (q : Plan) (reads : read_plan plan ≡ ok q) (s : State) (same : Agree s b.state) (history : List Input) (after : State)
    (follows : Follows b.kept s history after) where
  abbrev played-on : (s₁ : State) × ((played b.kept b.state history ≡ ok s₁) × Agree after s₁)
  played-on = follows-played same follows

  kept-plan : PlanKept q
  kept-plan = readable_kept plan q reads

  shown_as : (u t : ℕ) → t < length q.tasks → after.shown (task_node q u) t ≡ played-on.0.shown (task_node q u) t
  shown_as u t w = played-on.1.1.shown (task_node q u) (task-node q kept-plan u) t (omega (arith, w, kept-plan.task_count.most))

  pub follows-reads : ShowsRead q starting history after.shown
  follows-reads =
      let shows = shows-read plan table starting b begins q reads history played-on.0 played-on.1.0 in
      record {
        read = λ c m apart released.
            subst (Tells q starting c.producer history)
            (sym (shown_as c.consumer c.producer (all_member kept-plan.connections m).producer))
            (shows.read c m apart released);
        own = λ t w. subst (Tells q starting t history) (sym (shown_as t t w)) (shows.own t w);
      }
