-- The array is the row of names (`expected_is`).
use mathlib.Core.Path.{ap, ◌∙◌}
use native.Mathlib.Omega.{arith}
use Rattle.std.specs.Prelude.{Some}
use Rattle.planwords.specs.declared.Name.{Name}
use Rattle.planwords.specs.declared.Name.TheVariants.{Bus}
use Rattle.planwords.specs.declared.Reason.TheVariants.{Expected}
use Rattle.reasons.proofs.Named.{expected_is}
use Rattle.reasons.proofs.expected_reason.Goals as goal

pub returns : goal.returns
returns c =
    let h = c.in_ok-name.ensures.lookup in
    ap (λ (name : Name). Some (Expected name)) (h.4 (omega arith) Bus) ∙ expected_is c.args.k h.3.0
