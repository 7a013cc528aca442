-- Tables by number: numbers of tasks, modules and nodes are bytes, and a table has a place for every byte.
use Rattle.std.specs.Prelude.{Bool, List, length, ℕ}
use Rattle.laws.specs.Lists.{keep, any, tab, up_to}
use Rattle.rules.specs.Plan.{Plan, Invocation, the_task}
use Rattle.rules.specs.Traffic.{invokes, is_bus_task, is_sending, control_payload, lives_in, stands_on}
use Rattle.bus.specs.declared.senders.Senders.{Senders}

abbrev pub every_byte : ℕ
every_byte = 256

unfoldable pub by_number : {A : Type 0} → (ℕ → A) → List A
by_number f = tab f 0 every_byte

-- the module that a task belongs to
unfoldable pub task_home : Plan → ℕ → ℕ
task_home p t = (the_task p t).home

-- of the invocations, one invokes the task
unfoldable pub invoked_by : List Invocation → ℕ → Bool
invoked_by is t = any (invokes t) is

-- the sending modules, had the plan only its first n tasks
unfoldable pub sending_by : Plan → ℕ → ℕ → Bool
sending_by p n m = any (lives_in p m) (keep (is_bus_task p) (up_to n))

-- the payload of a node's control frame, had the plan only its first n modules
unfoldable pub payload_by : Plan → ℕ → ℕ → ℕ
payload_by p n node = length (keep (stands_on p node) (up_to n))

-- Bus tasks by task, sending modules by module, control payloads by node.
unfoldable pub senders_of : Plan → Senders
senders_of p =
    record {
      tasks = by_number (is_bus_task p);
      modules = by_number (is_sending p);
      payloads = by_number (control_payload p);
    }
