-- Each array of a plan in memory has as many elements as its type says. A list in a definition has any length; that an array's list
-- has the array's length is part of what a function is handed with a parameter, and stands there behind the struct's relation.
use mathlib.Core.Path.{◌≡◌}
use mathlib.Core.List.{List}
use mir.Val.{Val}
use denote.Laws.{Is}
use denote.Struct.Declared.{row}
use lib.ListN.{length}
use Rattle.plan.specs.declared.Plan.{Plan}
use Rattle.plan.specs.contracts.Plan as declared

pub record Sizes (p : Plan) : Type 0 where
  pub counts : length p.counts ≡ 8
  pub modules : length p.modules ≡ 16
  pub modes : length p.modes ≡ 32
  pub tasks : length p.tasks ≡ 32
  pub invocations : length p.invocations ≡ 64
  pub connections : length p.connections ≡ 64

pub sizes : (p : Plan) (vs : List Val) → Is (row declared.the_type) p vs → Sizes p
sizes p vs h =
    record {
      counts = h.1.1.1.0.1.0.1;
      modules = h.1.1.1.1.0.1.0.1;
      modes = h.1.1.1.1.1.0.1.0.1;
      tasks = h.1.1.1.1.1.1.0.1.0.1;
      invocations = h.1.1.1.1.1.1.1.0.1.0.1;
      connections = h.1.1.1.1.1.1.1.1.0.1.0.1;
    }
