-- How a plan stands in memory: from the rules' plan to the struct (`lay_out`), and from the struct to the rules' plan (`seen`).
use Rattle.std.specs.Prelude.{false, [], ◌∷◌, map, get_or, length, take, ℕ}
use Rattle.laws.specs.Loops.{pad_to}
use Rattle.plan.specs.declared.Bus.{Bus}
use Rattle.plan.specs.declared.Module.{Module}
use Rattle.plan.specs.declared.Mode.{Mode}
use Rattle.plan.specs.declared.Task.{Task}
use Rattle.plan.specs.declared.Invocation.{Invocation}
use Rattle.plan.specs.declared.Connection.{Connection}
use Rattle.plan.specs.declared.Plan.{Plan}
use Rattle.rules.specs.Limits.{most_modules, most_modes, most_tasks, most_invocations, most_connections}
use Rattle.rules.specs.Plan as rules

-- each thing of the rules as its struct
unfoldable pub bus_laid : rules.Bus → Bus
bus_laid b =
    record {
      rate = b.rate;
      overhead = record { 0 = b.overhead };
      least = record { 0 = b.least };
      most = record { 0 = b.most };
      gap = record { 0 = b.gap };
      resolution = record { 0 = b.resolution };
      byte_bits = record { 0 = b.byte_bits };
    }

unfoldable pub module_laid : ℕ → Module
module_laid n = record { node = record { 0 = n } }

unfoldable pub mode_laid : rules.Mode → Mode
mode_laid μ =
    record { home = record { 0 = μ.home }; period = record { 0 = μ.period }; switch = record { 0 = μ.switch } }

unfoldable pub task_laid : rules.Task → Task
task_laid t = record { home = record { 0 = t.home }; size = record { 0 = t.size }; worst = record { 0 = t.worst } }

unfoldable pub invocation_laid : rules.Invocation → Invocation
invocation_laid i = record { mode = record { 0 = i.mode }; task = record { 0 = i.task }; rate = i.rate }

unfoldable pub connection_laid : rules.Connection → Connection
connection_laid c = record { producer = record { 0 = c.producer }; consumer = record { 0 = c.consumer } }

-- a bus whose bytes take so many bits
unfoldable pub with_byte_bits : ℕ → rules.Bus → rules.Bus
with_byte_bits bits b =
    record {
      rate = b.rate;
      overhead = b.overhead;
      least = b.least;
      most = b.most;
      gap = b.gap;
      resolution = b.resolution;
      byte_bits = bits;
    }

-- the bus of a plan with nothing in it
unfoldable pub no_bus : rules.Bus
no_bus = record { rate = 0; overhead = 0; least = 0; most = 0; gap = 0; resolution = 0; byte_bits = 0 }

-- A plan in memory: its counts by kind, each array filled up with zero things; what has no place left is not stored.
unfoldable pub lay_out : rules.Plan → Plan
lay_out p =
    record {
      bus = bus_laid p.bus;
      counts =
          0 ∷ 0 ∷ p.nodes ∷ length p.modules ∷ length p.modes ∷ length p.tasks ∷ length p.invocations
          ∷ length p.connections ∷ [];
      modules = pad_to most_modules (module_laid 0) (map module_laid p.modules);
      modes = pad_to most_modes (mode_laid rules.no_mode) (map mode_laid p.modes);
      tasks = pad_to most_tasks (task_laid rules.no_task) (map task_laid p.tasks);
      invocations = pad_to most_invocations (invocation_laid rules.no_invocation) (map invocation_laid p.invocations);
      connections = pad_to most_connections (connection_laid rules.no_connection) (map connection_laid p.connections);
      consumers = p.consumers;
    }

-- the plan with nothing in it
unfoldable pub no_plan : rules.Plan
no_plan =
    record {
      bus = no_bus;
      nodes = 0;
      modules = [];
      modes = [];
      tasks = [];
      invocations = [];
      connections = [];
      consumers = false;
    }

unfoldable pub empty_plan : Plan
empty_plan = lay_out no_plan

-- each struct as the rules' thing
unfoldable pub bus_seen : Bus → rules.Bus
bus_seen b =
    record {
      rate = b.rate;
      overhead = b.overhead.0;
      least = b.least.0;
      most = b.most.0;
      gap = b.gap.0;
      resolution = b.resolution.0;
      byte_bits = b.byte_bits.0;
    }

unfoldable pub module_seen : Module → ℕ
module_seen m = m.node.0

unfoldable pub mode_seen : Mode → rules.Mode
mode_seen μ = record { home = μ.home.0; period = μ.period.0; switch = μ.switch.0 }

unfoldable pub task_seen : Task → rules.Task
task_seen t = record { home = t.home.0; size = t.size.0; worst = t.worst.0 }

unfoldable pub invocation_seen : Invocation → rules.Invocation
invocation_seen i = record { mode = i.mode.0; task = i.task.0; rate = i.rate }

unfoldable pub connection_seen : Connection → rules.Connection
connection_seen c = record { producer = c.producer.0; consumer = c.consumer.0 }

-- how many things of a kind the struct counts
unfoldable pub count_seen : Plan → ℕ → ℕ
count_seen p kind = get_or p.counts kind 0

-- The plan that a struct stands for: of each array as many things as are counted.
unfoldable pub seen : Plan → rules.Plan
seen p =
    record {
      bus = bus_seen p.bus;
      nodes = count_seen p 2;
      modules = map module_seen (take (count_seen p 3) p.modules);
      modes = map mode_seen (take (count_seen p 4) p.modes);
      tasks = map task_seen (take (count_seen p 5) p.tasks);
      invocations = map invocation_seen (take (count_seen p 6) p.invocations);
      connections = map connection_seen (take (count_seen p 7) p.connections);
      consumers = p.consumers;
    }
