-- Invariant: the three arrays are filled below t (`Filled`), and a size fits a byte (`size_small`); `filled-all` ends it.
use lib.ListN.{replicate}
use Rattle.laws.proofs.Turns.{Filled}
use Rattle.plan.specs.Memory.{seen}
use Rattle.keeping.specs.Keeping.{task_home, task_size, task_worst}
use Rattle.keeping.proofs.tasks.Given as goal

abbrev pub invariant-loop-t : goal.invariant-loop-t
invariant-loop-t l =
    Filled (replicate 32 0) (task_home (seen l.p)) l.t l.homes
    × Filled (replicate 32 0) (task_size (seen l.p)) l.t l.sizes
    × Filled (replicate 32 0) (task_worst (seen l.p)) l.t l.worsts
