-- docs/RULES.md, rules 4.1 to 4.6, and section 21: what a plan sends on the bus, in either edition. Every message keeps the mode that sends it.
use Rattle.std.specs.Prelude.{Bool, true, false, cond, not, ◌&&◌, ◌||◌, eqb, leb, ltb, get_or, length, ℕ, ◌+◌, ◌*◌, ◌-◌, ◌/◌}
use mathlib.Core.List.{List, map, foldr}
use Rattle.laws.specs.Res.{Res, ok, ◌>>=◌}
use Rattle.laws.specs.Lists.{keep, any, joined, tab, up_to}
use Rattle.laws.specs.Numbers.{gcd, lcm, greatest, least}
use Rattle.rules.specs.Plan.{Mode, Invocation, Connection, Plan, the_task, period_of, read_plan}

-- the node of a module, and of a task
unfoldable pub module_node : Plan → ℕ → ℕ
module_node p m = get_or p.modules m 0

unfoldable pub task_node : Plan → ℕ → ℕ
task_node p t = module_node p (the_task p t).home

-- Rule 4.2: a bus task is invoked, and a connection leads from it to a task on another node (reading 11).
unfoldable pub invokes : ℕ → Invocation → Bool
invokes t i = eqb i.task t

unfoldable pub leaves : Plan → ℕ → Connection → Bool
leaves p t c = eqb c.producer t && not (eqb (task_node p c.consumer) (task_node p t))

unfoldable pub is_bus_task : Plan → ℕ → Bool
is_bus_task p t = any (invokes t) p.invocations && any (leaves p t) p.connections

unfoldable pub bus_tasks : Plan → List ℕ
bus_tasks p = keep (is_bus_task p) (up_to (length p.tasks))

-- Rule 4.3: a module with a bus task is sending, and so is its node.
unfoldable pub lives_in : Plan → ℕ → ℕ → Bool
lives_in p m t = eqb (the_task p t).home m

unfoldable pub is_sending : Plan → ℕ → Bool
is_sending p m = any (lives_in p m) (bus_tasks p)

unfoldable pub stands_on : Plan → ℕ → ℕ → Bool
stands_on p n m = eqb (module_node p m) n && is_sending p m

-- the sending modules of a node
unfoldable pub senders_on : Plan → ℕ → List ℕ
senders_on p n = keep (stands_on p n) (up_to (length p.modules))

-- Rule 4.12: a node's control frame has a byte for each of its sending modules, and a node without any has no control frame.
unfoldable pub control_payload : Plan → ℕ → ℕ
control_payload p n = length (senders_on p n)

unfoldable pub is_sending_node : Plan → ℕ → Bool
is_sending_node p n = ltb 0 (control_payload p n)

unfoldable pub sending_nodes : Plan → List ℕ
sending_nodes p = keep (is_sending_node p) (up_to p.nodes)

-- An invocation of a bus task: its mode, the task, the invocation's period T, the task's worst time w.
pub record Run : Type 0 where
  pub mode : ℕ
  pub task : ℕ
  pub period : ℕ
  pub worst : ℕ

unfoldable pub run_of : Plan → Invocation → Run
run_of p i = record { mode = i.mode; task = i.task; period = period_of p i; worst = (the_task p i.task).worst }

unfoldable pub of_bus_task : Plan → Invocation → Bool
of_bus_task p i = is_bus_task p i.task

unfoldable pub bus_runs : Plan → List Run
bus_runs p = map (run_of p) (keep (of_bus_task p) p.invocations)

-- Rule 4.4: the bus period P is the least common multiple of the bus runs' periods.
unfoldable pub with_run : Run → ℕ → ℕ
with_run r m = lcm r.period m

unfoldable pub period_of_runs : List Run → ℕ
period_of_runs rs = foldr with_run 1 rs

unfoldable pub bus_period : Plan → ℕ
bus_period p = period_of_runs (bus_runs p)

-- Rule 4.5: the grid G is the greatest common divisor of periods and switch periods, over the modes of sending modules (reading 11).
unfoldable pub with_mode : Mode → ℕ → ℕ
with_mode μ g = gcd μ.period (gcd μ.switch g)

unfoldable pub of_sender : Plan → Mode → Bool
of_sender p μ = is_sending p μ.home

unfoldable pub switch_grid : Plan → ℕ
switch_grid p = foldr with_mode 0 (keep (of_sender p) p.modes)

-- A message: the mode that sends it, its task, release and deadline.
pub record Message : Type 0 where
  pub mode : ℕ
  pub task : ℕ
  pub release : ℕ
  pub deadline : ℕ

-- Rule 4.6: message i of a run, i from 1 on to the last of the bus period; released w behind the end of the one before, due at its own end.
unfoldable pub message : Run → ℕ → Message
message r i =
    record { mode = r.mode; task = r.task; release = (i - 1) * r.period + r.worst; deadline = i * r.period }

unfoldable pub messages_of : ℕ → Run → List Message
messages_of period r = tab (message r) 1 (period / r.period)

unfoldable pub messages : ℕ → List Run → List Message
messages period rs = joined (map (messages_of period) rs)

-- What a plan sends: P, the grid G of mode changes, and the messages of a cycle.
pub record Traffic : Type 0 where
  pub period : ℕ
  pub grid : ℕ
  pub messages : List Message

-- Rules 4.2 to 4.6: every run of a bus task sends its message.
unfoldable pub basic : Plan → Traffic
basic p =
    record { period = bus_period p; grid = switch_grid p; messages = messages (bus_period p) (bus_runs p) }

-- ---- the consumer edition (docs/RULES.md, section 21)

-- Rule 21.2: a connection is left if its ends are on different nodes and each of them is invoked in some mode.
unfoldable pub is_invoked : Plan → ℕ → Bool
is_invoked p t = any (invokes t) p.invocations

unfoldable pub is_left : Plan → Connection → Bool
is_left p c =
    not (eqb (task_node p c.consumer) (task_node p c.producer))
    && (is_invoked p c.producer && is_invoked p c.consumer)

-- Rules 21.1 and 21.2: a plan in an edition. In the consumer edition only the connections left are in it; so bus tasks, senders and control
-- rows, by the rules above, are those of the connections left.
abbrev pub plan_in : Bool → Plan → Plan
plan_in false p = p
plan_in true p =
    record {
      bus = p.bus;
      nodes = p.nodes;
      modules = p.modules;
      modes = p.modes;
      tasks = p.tasks;
      invocations = p.invocations;
      connections = keep (is_left p) p.connections;
      consumers = true;
    }

-- the plan of a file, in an edition
unfoldable pub read_in : Bool → List ℕ → Res Plan
read_in consumers file = do
  p ← read_plan file
  ok (plan_in consumers p)

-- Rule 21.3: a connection can be thinned if the least period of its consumer, over all its invocations, is above that of its producer.
unfoldable pub periods_of : Plan → ℕ → List ℕ
periods_of p t = map (period_of p) (keep (invokes t) p.invocations)

unfoldable pub can_be_thinned : Plan → Connection → Bool
can_be_thinned p c = ltb (least (periods_of p c.producer)) (least (periods_of p c.consumer))

-- Rule 21.4: P takes in the periods of the consumers of connections that can be thinned, with those of bus tasks.
unfoldable pub thins_for : Plan → ℕ → Connection → Bool
thins_for p t c = eqb c.consumer t && can_be_thinned p c

unfoldable pub is_counted : Plan → Invocation → Bool
is_counted p i = of_bus_task p i || any (thins_for p i.task) p.connections

unfoldable pub counted_runs : Plan → List Run
counted_runs p = map (run_of p) (keep (is_counted p) p.invocations)

unfoldable pub thinned_period : Plan → ℕ
thinned_period p = period_of_runs (counted_runs p)

-- Rule 21.5: G takes in all modes of the modules that hold an end of a connection, of one that can't be thinned too.
unfoldable pub ends_in : Plan → ℕ → Connection → Bool
ends_in p m c = lives_in p m c.producer || lives_in p m c.consumer

unfoldable pub of_end : Plan → Mode → Bool
of_end p μ = any (ends_in p μ.home) p.connections

unfoldable pub thinned_grid : Plan → ℕ
thinned_grid p = foldr with_mode 0 (keep (of_end p) p.modes)

-- Rule 21.6: in a mode that invokes it with period U a consumer reads at k × U, k from 0 on to the last of the bus period.
unfoldable pub read_at : ℕ → ℕ → ℕ
read_at u k = k * u

unfoldable pub reads_with : ℕ → ℕ → List ℕ
reads_with period u = map (read_at u) (up_to (period / u))

-- Rule 21.6: a read at x needs the message of the run with the latest deadline not after it; if there is none, the one with deadline P.
abbrev pub deadline_of_message : Message → ℕ
deadline_of_message m = m.deadline

unfoldable pub is_by : ℕ → ℕ → Bool
is_by x d = leb d x

unfoldable pub latest_by : ℕ → Run → ℕ → ℕ
latest_by period r x = greatest (keep (is_by x) (map deadline_of_message (messages_of period r)))

unfoldable pub needed_at : ℕ → Run → ℕ → ℕ
needed_at period r x = cond (eqb (latest_by period r x) 0) period (latest_by period r x)

unfoldable pub is_needed_at : ℕ → Run → ℕ → ℕ → Bool
is_needed_at period r d x = eqb (needed_at period r x) d

-- some read of the invocation needs the run's message with deadline d
unfoldable pub is_read_in : Plan → ℕ → Run → ℕ → Invocation → Bool
is_read_in p period r d i = any (is_needed_at period r d) (reads_with period (period_of p i))

-- Rule 21.7: a connection from the run's task needs all its messages if it can't be thinned; else those that its consumer reads in some
-- mode. What some connection needs is kept.
unfoldable pub needs : Plan → ℕ → Run → ℕ → Connection → Bool
needs p period r d c =
    eqb c.producer r.task
    && (not (can_be_thinned p c) || any (is_read_in p period r d) (keep (invokes c.consumer) p.invocations))

unfoldable pub is_kept : Plan → ℕ → Run → Message → Bool
is_kept p period r m = any (needs p period r m.deadline) p.connections

unfoldable pub kept_messages : Plan → ℕ → Run → List Message
kept_messages p period r = keep (is_kept p period r) (messages_of period r)

unfoldable pub thinned : Plan → Traffic
thinned p =
    let period = thinned_period p in
    record { period = period; grid = thinned_grid p; messages = joined (map (kept_messages p period) (bus_runs p)) }

-- What a plan sends, in its edition.
unfoldable pub traffic : Plan → Traffic
traffic p = cond p.consumers (thinned p) (basic p)

-- Rule 8.17: the mode has a message of the task with this deadline (reading 30).
unfoldable pub is_message : ℕ → ℕ → ℕ → Message → Bool
is_message μ t deadline m = eqb m.mode μ && (eqb m.task t && eqb m.deadline deadline)

unfoldable pub has : List Message → ℕ → ℕ → ℕ → Bool
has ms μ t deadline = any (is_message μ t deadline) ms
