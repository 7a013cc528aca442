-- A plan gathered from records as they are met: what one record adds to the plan in memory, and what a whole file comes to.
use Rattle.std.specs.Prelude.{Bool, cond, ◌&&◌, List, [], ◌∷◌, Result, Ok, Err, eqb, leb, get_or, set, ℕ, ◌+◌}
use Rattle.units.specs.declared.Offset.{Offset}
use Rattle.laws.specs.Res.{Res, ok, refuse}
use Rattle.rules.specs.Records.{Rec}
use Rattle.rules.specs.Plan as rules
use Rattle.plan.specs.declared.Bus.{Bus}
use Rattle.plan.specs.declared.Module.{Module}
use Rattle.plan.specs.declared.Mode.{Mode}
use Rattle.plan.specs.declared.Task.{Task}
use Rattle.plan.specs.declared.Invocation.{Invocation}
use Rattle.plan.specs.declared.Connection.{Connection}
use Rattle.plan.specs.declared.Plan.{Plan}
use Rattle.plan.specs.Memory.{bus_laid, module_laid, mode_laid, task_laid, invocation_laid, connection_laid, count_seen, lay_out}

-- the kinds of things
unfoldable pub is_thing : ℕ → Bool
is_thing kind = leb 3 kind && leb kind 7

-- the number that the next thing of a kind gets, and the counts with that thing; what is no thing is not counted
unfoldable pub number_of : List ℕ → ℕ → ℕ
number_of counts kind = cond (is_thing kind) (get_or counts kind 0) 0

unfoldable pub counted_more : List ℕ → ℕ → List ℕ
counted_more counts kind = cond (is_thing kind) (set counts kind (get_or counts kind 0 + 1)) counts

-- the counts with one thing of a kind more
unfoldable pub one_more : Plan → ℕ → List ℕ
one_more p kind = set p.counts kind (count_seen p kind + 1)

-- a plan with its bus, with its number of nodes
unfoldable pub with_bus : Plan → Bus → Plan
with_bus p b =
    record {
      bus = b;
      counts = p.counts;
      modules = p.modules;
      modes = p.modes;
      tasks = p.tasks;
      invocations = p.invocations;
      connections = p.connections;
      consumers = p.consumers;
    }

unfoldable pub with_nodes : Plan → ℕ → Plan
with_nodes p n =
    record {
      bus = p.bus;
      counts = set p.counts 2 n;
      modules = p.modules;
      modes = p.modes;
      tasks = p.tasks;
      invocations = p.invocations;
      connections = p.connections;
      consumers = p.consumers;
    }

-- A plan with one thing more: it is counted, and it stands behind those of its kind if a place is left.
unfoldable pub with_module : Plan → Module → Plan
with_module p m =
    record {
      bus = p.bus;
      counts = one_more p 3;
      modules = set p.modules (count_seen p 3) m;
      modes = p.modes;
      tasks = p.tasks;
      invocations = p.invocations;
      connections = p.connections;
      consumers = p.consumers;
    }

unfoldable pub with_mode : Plan → Mode → Plan
with_mode p μ =
    record {
      bus = p.bus;
      counts = one_more p 4;
      modules = p.modules;
      modes = set p.modes (count_seen p 4) μ;
      tasks = p.tasks;
      invocations = p.invocations;
      connections = p.connections;
      consumers = p.consumers;
    }

unfoldable pub with_task : Plan → Task → Plan
with_task p t =
    record {
      bus = p.bus;
      counts = one_more p 5;
      modules = p.modules;
      modes = p.modes;
      tasks = set p.tasks (count_seen p 5) t;
      invocations = p.invocations;
      connections = p.connections;
      consumers = p.consumers;
    }

unfoldable pub with_invocation : Plan → Invocation → Plan
with_invocation p i =
    record {
      bus = p.bus;
      counts = one_more p 6;
      modules = p.modules;
      modes = p.modes;
      tasks = p.tasks;
      invocations = set p.invocations (count_seen p 6) i;
      connections = p.connections;
      consumers = p.consumers;
    }

unfoldable pub with_connection : Plan → Connection → Plan
with_connection p c =
    record {
      bus = p.bus;
      counts = one_more p 7;
      modules = p.modules;
      modes = p.modes;
      tasks = p.tasks;
      invocations = p.invocations;
      connections = set p.connections (count_seen p 7) c;
      consumers = p.consumers;
    }

-- A plan with one record more, by its kind; a kind that no plan has changes nothing.
unfoldable pub with_record : Plan → Rec → Plan
with_record p r =
    cond (rules.is_bus_record r) (with_bus p (bus_laid (rules.bus_of r)))
    (cond (eqb r.kind 2) (with_nodes p (rules.nth r.numbers 0))
    (cond (eqb r.kind 3) (with_module p (module_laid (rules.module_of r.numbers)))
    (cond (eqb r.kind 4) (with_mode p (mode_laid (rules.mode_of r.numbers)))
    (cond (eqb r.kind 5) (with_task p (task_laid (rules.task_of r.numbers)))
    (cond (eqb r.kind 6) (with_invocation p (invocation_laid (rules.invocation_of r.numbers)))
    (cond (eqb r.kind 7) (with_connection p (connection_laid (rules.connection_of r.numbers))) p))))))

-- A plan with all of some records more.
abbrev pub with_records : Plan → List Rec → Plan
with_records p [] = p
with_records p (r ∷ rs) = with_records (with_record p r) rs

-- What gathering a file comes to, by what the record rules say of the file: the plan of its records, or refusal 1's place.
abbrev pub gathered_of : Res (List Rec) → Result Plan Offset
gathered_of (ok rs) = Ok (lay_out (rules.plan_of rs))
gathered_of (refuse n place) = Err (record { 0 = place })
