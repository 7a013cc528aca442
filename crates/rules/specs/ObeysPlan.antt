-- What it means that a plan keeps refusals 2 to 11 (docs/RULES.md, rules 6.2 to 6.11): a proposition for each sentence, and the rules in order
-- with their numbers and their first records.
use Rattle.std.specs.Prelude.{◌≡◌, ◌⊎◌, List, [], ◌∷◌, length, get_or, ℕ, ◌+◌, ◌≤◌, ◌<◌}
use Rattle.std.specs.Int.{◌∣◌}
use Rattle.laws.specs.Faults.{Rule, once, AllKept, FirstFault}
use Rattle.rules.specs.Limits.{most_frames}
use Rattle.rules.specs.Records.{Field, names, ranges, free, Rec, fields, plan_follows}
use Rattle.rules.specs.Plan.{
  Plan,
  nth,
  plan_of,
  zero_record,
  count,
  least_counts,
  most_counts,
  the_mode,
  the_task,
  the_invocation,
  the_connection,
  period_of,
  first_mode,
  first_invocation,
  first_connection,
}
use Rattle.rules.specs.Traffic.{task_node, control_payload, traffic}
use Rattle.rules.specs.Frames.{pairs, control_end}
use Rattle.rules.specs.Obeys.{AreRecords, BreakRecords}

-- ---- reading a plan (2 to 5)

-- Rules 6.2, 3.1: the number of things of a kind, counted from kind 2 (nodes) on, is in its range.
pub record CountFits (rs : List Rec) (k : ℕ) : Type 0 where
  pub enough : nth least_counts k ≤ count rs (2 + k)
  pub few : count rs (2 + k) ≤ nth most_counts k

-- what the k-th number of a kind's body is
unfoldable pub field_at : ℕ → ℕ → Field
field_at kind k = get_or (fields kind) k (free 0)

-- Rule 6.3: each number of a body that names a thing names one that is there.
abbrev pub NamesThere : List Rec → Rec → Type 0
NamesThere rs r =
    (k kind : ℕ) → k < length (fields r.kind) → field_at r.kind k ≡ names kind → nth r.numbers k < count rs kind

-- the two kinds of bus
abbrev pub IsBus : ℕ → Type 0
IsBus kind = (kind ≡ 1) ⊎ (kind ≡ 9)

-- Rules 6.4, 3.2, 3.3: each other number of a body is in its range, and the bus's largest payload is not below its least.
pub record NumbersWithin (r : Rec) : Type 0 where
  pub least :
      (k wide low high : ℕ) → k < length (fields r.kind) → field_at r.kind k ≡ ranges wide low high → low ≤ nth r.numbers k
  pub most :
      (k wide low high : ℕ) → k < length (fields r.kind) → field_at r.kind k ≡ ranges wide low high → nth r.numbers k ≤ high
  pub payloads : IsBus r.kind → nth r.numbers 2 ≤ nth r.numbers 3

-- Rule 6.5.1: the module has a mode.
pub record HasMode (p : Plan) (m : ℕ) : Type 0 where
  pub mode : ℕ
  pub there : mode < length p.modes
  pub own : (the_mode p mode).home ≡ m

-- Rule 6.5.2: the mode's switch period divides its period.
abbrev pub SwitchDivides : Plan → ℕ → Type 0
SwitchDivides p μ = (the_mode p μ).switch ∣ (the_mode p μ).period

-- Rules 6.5.3 to 6.5.7, of an invocation: its rate divides the mode's period; the invocation's period divides the switch
-- period; the worst time is not above it; task and mode are of one module; no invocation before it has the same task and mode.
pub record InvocationFits (p : Plan) (k : ℕ) : Type 0 where
  pub rate : (the_invocation p k).rate ∣ (the_mode p (the_invocation p k).mode).period
  pub period : period_of p (the_invocation p k) ∣ (the_mode p (the_invocation p k).mode).switch
  pub worst : (the_task p (the_invocation p k).task).worst ≤ period_of p (the_invocation p k)
  pub home : (the_task p (the_invocation p k).task).home ≡ (the_mode p (the_invocation p k).mode).home
  pub once :
      (j : ℕ) → j < k → (the_invocation p j).mode ≡ (the_invocation p k).mode → (the_invocation p j).task ≡ (the_invocation p k).task → ⊥

-- Rules 6.5.8 and 6.5.9, of a connection: its producer is not its consumer; no connection before it has the same producer and consumer.
pub record ConnectionFits (p : Plan) (k : ℕ) : Type 0 where
  pub apart : (the_connection p k).producer ≡ (the_connection p k).consumer → ⊥
  pub once :
      (j : ℕ) → j < k → (the_connection p j).producer ≡ (the_connection p k).producer
      → (the_connection p j).consumer ≡ (the_connection p k).consumer → ⊥

-- the record of a number
unfoldable pub record_at : List Rec → ℕ → Rec
record_at rs k = get_or rs k zero_record

-- The rules in order. The four of number 5 ask of records that stand behind each other: modules, modes, invocations, connections.
abbrev pub plan_rules : List Rec → List Rule
plan_rules rs =
    record { number = 2; first = 2; places = 6; asks = CountFits rs }
    ∷ record { number = 3; first = 0; places = length rs; asks = λ k. NamesThere rs (record_at rs k) }
    ∷ record { number = 4; first = 0; places = length rs; asks = λ k. NumbersWithin (record_at rs k) }
    ∷ record { number = 5; first = 2; places = length (plan_of rs).modules; asks = HasMode (plan_of rs) }
    ∷ record { number = 5; first = first_mode (plan_of rs); places = length (plan_of rs).modes; asks = SwitchDivides (plan_of rs) }
    ∷ record {
      number = 5;
      first = first_invocation (plan_of rs);
      places = length (plan_of rs).invocations;
      asks = InvocationFits (plan_of rs);
    }
    ∷ record {
      number = 5;
      first = first_connection (plan_of rs);
      places = length (plan_of rs).connections;
      asks = ConnectionFits (plan_of rs);
    }
    ∷ []

-- The bytes are records (1) that keep 2 to 5, and this is their plan.
pub record ReadsAs (file : List ℕ) (p : Plan) : Type 0 where
  pub rows : List Rec
  pub are_rows : AreRecords plan_follows 0 file rows
  pub kept : AllKept (plan_rules rows)
  pub is : plan_of rows ≡ p

-- Number n at q is the first fault of the bytes: 1, else the first of 2 to 5 that is broken, at its lowest place.
pub data ReadFault (file : List ℕ) (n q : ℕ) : Type 0 where
  of_bytes : n ≡ 1 → BreakRecords plan_follows 0 0 file q → ReadFault file n q
  of_rules : {rs : List Rec} → AreRecords plan_follows 0 file rs → FirstFault (plan_rules rs) n q → ReadFault file n q

-- ---- what a plan asks of the bus (6 to 11)

-- Rule 4.2: a bus task has an invocation, and a connection from it goes to a task on another node.
pub record IsBusTask (p : Plan) (t : ℕ) : Type 0 where
  pub invocation : ℕ
  pub is_invocation : invocation < length p.invocations
  pub runs : (the_invocation p invocation).task ≡ t
  pub connection : ℕ
  pub is_connection : connection < length p.connections
  pub comes : (the_connection p connection).producer ≡ t
  pub leaves : task_node p (the_connection p connection).consumer ≡ task_node p t → ⊥

-- Rule 6.6: there is a bus task.
pub record SomeBusTask (p : Plan) : Type 0 where
  pub task : ℕ
  pub there : task < length p.tasks
  pub on_bus : IsBusTask p task

-- Rule 6.10: no message of a bus task and no control payload is above the largest payload.
pub record PayloadsFit (p : Plan) : Type 0 where
  pub messages : (t : ℕ) → t < length p.tasks → IsBusTask p t → (the_task p t).size ≤ p.bus.most
  pub control : (n : ℕ) → n < p.nodes → 0 < control_payload p n → control_payload p n ≤ p.bus.most

-- The rules in order, each at 0; 6.7: P divides G; 6.8: P is a multiple of the resolution; 6.9: no more than 1,024 frames; 6.11: C is not
-- above P.
abbrev pub layout_rules : Plan → List Rule
layout_rules p =
    once 6 0 (SomeBusTask p)
    ∷ once 7 0 ((traffic p).period ∣ (traffic p).grid)
    ∷ once 8 0 (p.bus.resolution ∣ (traffic p).period)
    ∷ once 9 0 (length (pairs p) ≤ most_frames)
    ∷ once 10 0 (PayloadsFit p)
    ∷ once 11 0 (control_end p ≤ (traffic p).period)
    ∷ []
