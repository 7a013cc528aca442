-- docs/RULES.md, section 15: a plan without its doubtful connections.
use Rattle.std.specs.Prelude.{List}
use Rattle.laws.specs.Lists.{keep_at}
use Rattle.rules.specs.Plan.{Connection, Plan, no_connection, connection_keeps}

-- The connections that rules 6.5.8 and 6.5.9 find no fault with, in their order.
unfoldable pub undoubted : Plan → List Connection
undoubted p = keep_at (connection_keeps p.connections) no_connection p.connections

-- a plan with these connections, all else as it stands
unfoldable pub with_connections : Plan → List Connection → Plan
with_connections p connections =
    record {
      bus = p.bus;
      nodes = p.nodes;
      modules = p.modules;
      modes = p.modes;
      tasks = p.tasks;
      invocations = p.invocations;
      connections = connections;
      consumers = p.consumers;
    }

-- Rule 15.1: a plan without its doubtful connections.
unfoldable pub without_doubtful : Plan → Plan
without_doubtful p = with_connections p (undoubted p)
