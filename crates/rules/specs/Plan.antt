-- docs/RULES.md, sections 2 and 3 (a plan's things and their limits), and refusals 2 to 5 (rules 6.2 to 6.5).
use Rattle.std.specs.Prelude.{Bool, true, false, cond, not, ◌&&◌, List, [], ◌∷◌, map, eqb, leb, ltb, get_or, length, ℕ, ◌+◌, ◌/◌}
use Rattle.laws.specs.Res.{Res, ok, ◌>>=◌, ◌>>◌, at}
use Rattle.laws.specs.Lists.{keep, any, first_bad, is_fresh, up_to}
use Rattle.laws.specs.Numbers.{divides}
use Rattle.rules.specs.Limits.{plain_byte_bits, most_nodes, most_modules, most_modes, most_tasks, most_invocations, most_connections}
use Rattle.rules.specs.Records.{Field, names, ranges, free, Rec, fields, records, is_bus, plan_follows}

pub record Bus : Type 0 where
  pub rate : ℕ
  pub overhead : ℕ
  pub least : ℕ
  pub most : ℕ
  pub gap : ℕ
  pub resolution : ℕ
  pub byte_bits : ℕ

pub record Mode : Type 0 where
  pub home : ℕ
  pub period : ℕ
  pub switch : ℕ

pub record Task : Type 0 where
  pub home : ℕ
  pub size : ℕ
  pub worst : ℕ

pub record Invocation : Type 0 where
  pub mode : ℕ
  pub task : ℕ
  pub rate : ℕ

pub record Connection : Type 0 where
  pub producer : ℕ
  pub consumer : ℕ

-- A plan: the bus, the number of nodes, of each module its node, and the modes, tasks, invocations and connections. A thing's
-- number is its place in its list (rule 2.8). Beside what the file says it has the edition in which it is sent (rule 21.1): whether only
-- what is read is sent to the consumers.
pub record Plan : Type 0 where
  pub bus : Bus
  pub nodes : ℕ
  pub modules : List ℕ
  pub modes : List Mode
  pub tasks : List Task
  pub invocations : List Invocation
  pub connections : List Connection
  pub consumers : Bool

-- the k-th number of a body
abbrev pub nth : List ℕ → ℕ → ℕ
nth numbers k = get_or numbers k 0

unfoldable pub mode_of : List ℕ → Mode
mode_of b = record { home = nth b 0; period = nth b 1; switch = nth b 2 }

unfoldable pub task_of : List ℕ → Task
task_of b = record { home = nth b 0; size = nth b 1; worst = nth b 2 }

unfoldable pub invocation_of : List ℕ → Invocation
invocation_of b = record { mode = nth b 0; task = nth b 1; rate = nth b 2 }

unfoldable pub connection_of : List ℕ → Connection
connection_of b = record { producer = nth b 0; consumer = nth b 1 }

-- a record is of this kind; it is a bus
unfoldable pub is_kind : ℕ → Rec → Bool
is_kind k r = eqb r.kind k

unfoldable pub is_bus_record : Rec → Bool
is_bus_record r = is_bus r.kind

abbrev pub numbers_of : Rec → List ℕ
numbers_of r = r.numbers

-- A bus of either kind. Kind 9 says how many bits a byte takes; kind 1 means 8.
unfoldable pub bus_of : Rec → Bus
bus_of r =
    let b = r.numbers in
    record {
      rate = nth b 0;
      overhead = nth b 1;
      least = nth b 2;
      most = nth b 3;
      gap = nth b 4;
      resolution = nth b 5;
      byte_bits = cond (is_kind 9 r) (nth b 6) plain_byte_bits;
    }

-- the bodies of the records of a kind, in file order
unfoldable pub things : ℕ → List Rec → List (List ℕ)
things k rs = map numbers_of (keep (is_kind k) rs)

-- the first body of a kind (the number of nodes), and the first bus
unfoldable pub only : ℕ → List Rec → List ℕ
only k rs = get_or (things k rs) 0 []

abbrev pub zero_record : Rec
zero_record = record { kind = 0; numbers = [] }

unfoldable pub the_bus : List Rec → Rec
the_bus rs = get_or (keep is_bus_record rs) 0 zero_record

unfoldable pub module_of : List ℕ → ℕ
module_of b = nth b 0

unfoldable pub plan_of : List Rec → Plan
plan_of rs =
    record {
      bus = bus_of (the_bus rs);
      nodes = nth (only 2 rs) 0;
      modules = map module_of (things 3 rs);
      modes = map mode_of (things 4 rs);
      tasks = map task_of (things 5 rs);
      invocations = map invocation_of (things 6 rs);
      connections = map connection_of (things 7 rs);
      consumers = false;
    }

-- how many things of a kind there are; of nodes (2) the record says it
unfoldable pub count : List Rec → ℕ → ℕ
count rs k = cond (eqb k 2) (nth (only 2 rs) 0) (length (things k rs))

-- Rule 3.1: the least and the greatest number of things, by kind from 2 on.
unfoldable pub least_counts : List ℕ
least_counts = 1 ∷ 1 ∷ 1 ∷ 1 ∷ 1 ∷ 0 ∷ []

unfoldable pub most_counts : List ℕ
most_counts = most_nodes ∷ most_modules ∷ most_modes ∷ most_tasks ∷ most_invocations ∷ most_connections ∷ []

-- Refusal 2 (rule 6.2): there are as many things of a kind as there may be; k counts kinds from 2 on.
unfoldable pub count_fits : List Rec → ℕ → Bool
count_fits rs k = leb (nth least_counts k) (count rs (2 + k)) && leb (count rs (2 + k)) (nth most_counts k)

-- every number of a body passes the test of its field
abbrev pub each_number : (Field → ℕ → Bool) → List Field → List ℕ → Bool
each_number test [] numbers = true
each_number test (f ∷ fs) [] = true
each_number test (f ∷ fs) (x ∷ xs) = test f x && each_number test fs xs

-- Refusal 3 (rule 6.3): a number that is a name is below the number of things of the kind that it names.
abbrev pub is_there : (ℕ → ℕ) → Field → ℕ → Bool
is_there counts (names k) x = ltb x (counts k)
is_there counts (ranges w low high) x = true
is_there counts (free w) x = true

unfoldable pub names_are_there : (ℕ → ℕ) → Rec → Bool
names_are_there counts r = each_number (is_there counts) (fields r.kind) r.numbers

-- Refusal 4 (rule 6.4): a number that is no name is within its range, and the bus's payloads are in order (rule 3.3, reading 7).
abbrev pub is_within : Field → ℕ → Bool
is_within (names k) x = true
is_within (ranges w low high) x = leb low x && leb x high
is_within (free w) x = true

unfoldable pub payloads_ordered : Rec → Bool
payloads_ordered r = cond (is_bus_record r) (leb (nth r.numbers 2) (nth r.numbers 3)) true

unfoldable pub numbers_are_within : Rec → Bool
numbers_are_within r = each_number is_within (fields r.kind) r.numbers && payloads_ordered r

-- things by number; a number that names nothing gives the zero thing
abbrev pub no_mode : Mode
no_mode = record { home = 0; period = 0; switch = 0 }

abbrev pub no_task : Task
no_task = record { home = 0; size = 0; worst = 0 }

abbrev pub no_invocation : Invocation
no_invocation = record { mode = 0; task = 0; rate = 0 }

abbrev pub no_connection : Connection
no_connection = record { producer = 0; consumer = 0 }

unfoldable pub the_mode : Plan → ℕ → Mode
the_mode p μ = get_or p.modes μ no_mode

unfoldable pub the_task : Plan → ℕ → Task
the_task p t = get_or p.tasks t no_task

unfoldable pub the_invocation : Plan → ℕ → Invocation
the_invocation p k = get_or p.invocations k no_invocation

unfoldable pub the_connection : Plan → ℕ → Connection
the_connection p k = get_or p.connections k no_connection

-- Rule 4.1: an invocation's period is its mode's, divided by its rate.
unfoldable pub period_of : Plan → Invocation → ℕ
period_of p i = (the_mode p i.mode).period / i.rate

-- Refusal 5, of a module (rule 6.5.1): it has a mode.
unfoldable pub is_home : ℕ → Mode → Bool
is_home m μ = eqb μ.home m

unfoldable pub has_mode : Plan → ℕ → Bool
has_mode p m = any (is_home m) p.modes

-- Refusal 5, of a mode (rule 6.5.2): its switch period divides its period.
unfoldable pub switch_divides : Mode → Bool
switch_divides μ = divides μ.switch μ.period

-- Refusal 5, of an invocation, in this order: its rate divides its mode's period (rule 6.5.3), its own period the switch period
-- (6.5.4); its task needs no longer than that period (6.5.5), and belongs to the mode's module (6.5.6).
unfoldable pub fits_its_mode : Plan → Invocation → Bool
fits_its_mode p i =
    (divides i.rate (the_mode p i.mode).period
    && divides (period_of p i) (the_mode p i.mode).switch)
    && (leb (the_task p i.task).worst (period_of p i)
    && eqb (the_task p i.task).home (the_mode p i.mode).home)

-- Refusal 5, of an invocation (rule 6.5.7): no earlier one has its mode and its task. So of two the later is at fault (reading 8).
unfoldable pub same_run : Invocation → Invocation → Bool
same_run i j = eqb i.mode j.mode && eqb i.task j.task

unfoldable pub invocation_keeps : Plan → ℕ → Bool
invocation_keeps p k = fits_its_mode p (the_invocation p k) && is_fresh same_run no_invocation p.invocations k

-- Refusal 5, of a connection: it joins two tasks, not one to itself (rule 6.5.8), and no earlier one has its producer and its consumer
-- (rule 6.5.9). One that does not keep both is doubtful.
unfoldable pub is_own : Connection → Bool
is_own c = eqb c.producer c.consumer

unfoldable pub same_ends : Connection → Connection → Bool
same_ends c d = eqb c.producer d.producer && eqb c.consumer d.consumer

unfoldable pub connection_keeps : List Connection → ℕ → Bool
connection_keeps cs k = not (is_own (get_or cs k no_connection)) && is_fresh same_ends no_connection cs k

-- The first record of each kind of thing: bus 0, nodes 1, then the things in the order of their kinds (reading 6).
unfoldable pub first_mode : Plan → ℕ
first_mode p = 2 + length p.modules

unfoldable pub first_invocation : Plan → ℕ
first_invocation p = first_mode p + length p.modes + length p.tasks

unfoldable pub first_connection : Plan → ℕ
first_connection p = first_invocation p + length p.invocations

-- Refusal 5 at the lowest record at fault.
unfoldable pub rule5 : Plan → Res (Unit {0})
rule5 p = do
  at 5 2 (first_bad (has_mode p) (up_to (length p.modules)))
  at 5 (first_mode p) (first_bad switch_divides p.modes)
  at 5 (first_invocation p) (first_bad (invocation_keeps p) (up_to (length p.invocations)))
  at 5 (first_connection p) (first_bad (connection_keeps p.connections) (up_to (length p.connections)))

-- Refusals 2 to 5 of a file's records by rule 6.31: each over the whole plan before the next, and at the lowest place where it applies.
abbrev pub plan_from : List Rec → Res Plan
plan_from rs = do
  at 2 2 (first_bad (count_fits rs) (up_to 6))
  at 3 0 (first_bad (names_are_there (count rs)) rs)
  at 4 0 (first_bad numbers_are_within rs)
  rule5 (plan_of rs)
  ok (plan_of rs)

-- Before them refusal 1, of the bytes.
unfoldable pub read_plan : List ℕ → Res Plan
read_plan file = do
  rs ← records plan_follows 1 file
  plan_from rs
