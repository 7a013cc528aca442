-- The lesser of count and array size is the length of what is seen (`part_length`); the array's type gives its size (`sizes`).
use mathlib.Core.Path.{◌∙◌, sym}
use native.Mathlib.Omega.{arith}
use Rattle.plan.specs.Memory.{seen, count_seen, invocation_seen}
use Rattle.plan.proofs.Parts.{part_length}
use Rattle.plan.proofs.Sizes.{sizes}
use Rattle.plan.proofs.look.invocation_count.Goals as goal

pub returns : goal.returns
unfolding seen count_seen
returns c =
    let p = c.args.p in
    let h = sizes p _ c.well_formed.0 in
    (rw c.from.ensures at c.min.ensures ∙ sym (part_length invocation_seen (count_seen p 6) p.invocations 64 h.invocations), omega arith)
