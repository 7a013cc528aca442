-- The lesser of count and array size is the length of what is seen (`part_length`); the array's type gives its size (`sizes`).
use mathlib.Core.Path.{◌∙◌, sym}
use native.Mathlib.Omega.{arith}
use Rattle.plan.specs.Memory.{seen, count_seen, task_seen}
use Rattle.plan.proofs.Parts.{part_length}
use Rattle.plan.proofs.Sizes.{sizes}
use Rattle.plan.proofs.look.task_count.Goals as goal

pub returns : goal.returns
unfolding seen count_seen
returns c =
    let p = c.args.p in
    let h = sizes p _ c.well_formed.0 in
    (rw c.from.ensures at c.min.ensures ∙ sym (part_length task_seen (count_seen p 5) p.tasks 32 h.tasks), omega arith)
