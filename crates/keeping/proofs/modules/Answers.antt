use Rattle.plan.specs.declared.Module.{Module}
use mathlib.Core.Bool.{Bool, true, false}
use mathlib.Core.Path.{◌≡◌, refl, ap, ◌∙◌}
use mir.Val.{bool_byte}
use native.Mathlib.Omega.{arith}
use Rattle.laws.proofs.Turns.{filled_none, filled_turn}
use Rattle.places.specs.Flags.{flag_byte}
use Rattle.rules.specs.Traffic.{module_node, is_sending}
use Rattle.plan.specs.Memory.{seen, module_laid}
use Rattle.keeping.specs.Keeping.{modules_of}
use Rattle.keeping.proofs.Filling.{filled-all, by_number-at}
use Rattle.keeping.proofs.modules.Goals as goal

-- a flag as a byte
flag_is : (b : Bool) → bool_byte b ≡ flag_byte b
flag_is true = refl
flag_is false = refl

pub loop-m-init : goal.loop-m-init
loop-m-init c = (filled_none, filled_none)

pub loop-m-preserved : goal.loop-m-preserved
unfolding module_laid module_node
loop-m-preserved c =
    let l = c.loop-m in (
      filled_turn l.invariant.0 (ap (λ (x : Module). x.node.0) c.module_at-module.ensures),
      filled_turn l.invariant.1
          (c.from.ensures
          ∙ flag_is _
          ∙ ap flag_byte (by_number-at (is_sending (seen c.args.p)) l.m false c.requires (omega arith))),
    )

pub returns : goal.returns
unfolding modules_of
returns c =
    let l = c.loop-m in
    rw (
      c.module_count.ensures.0,
      filled-all 16 0 l.invariant.0 l.auto.m-end c.loop-m-test.false,
      filled-all 16 0 l.invariant.1 l.auto.m-end c.loop-m-test.false,
    )
