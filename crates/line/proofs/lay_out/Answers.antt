-- Two cases of the reading: a plan is kept and laid out (`sound-laid`), a refusal is passed on (`refused-laid`).
use borrow.Author.Rules.{rules}
use Rattle.line.proofs.Reading.{sound-kept, sound-laid, refused-laid}
use Rattle.line.proofs.lay_out.Goals as goal

pub of_plan-requires : goal.of_plan-requires
of_plan-requires c =
    record {
      plan_kept = sound-kept c.args.consumers c.args.s.now _ c.read_in.ensures c.in_ok-plan.was;
      tasks_value = c.requires;
    }

pub returns-in_err-plan : goal.returns-in_err-plan
returns-in_err-plan c =
    refused-laid c.args.consumers c.args.s.now _ c.read_in.ensures _ _ c.in_err-plan.was (search rules) c.requires

pub returns : goal.returns
returns c = sound-laid c.args.consumers c.args.s.now _ c.read_in.ensures _ c.in_ok-plan.was c.of_plan.ensures
