use Rattle.text.specs.Lines.{is_other}
use Rattle.text.proofs.Runs.{run_counted}
use Rattle.text.proofs.lines.byte_end.Goals as goal

pub returns-clause-value : goal.returns-clause-value
returns-clause-value c = run_counted (is_other c.args.stop) _ _ c.rest.ensures c.others.ensures.value
