-- A plan that was read is given its edition (`sound-read`); a refusal is passed on (`refused-read`).
use mathlib.Core.Path.{refl}
use borrow.Author.Rules.{rules}
use Rattle.line.proofs.Reading.{read_ready, sound-read, refused-read}
use Rattle.line.proofs.read_in.Goals as goal

pub in_edition-requires : goal.in_edition-requires
in_edition-requires c = read_ready c.args.s.now _ c.read.ensures c.in_ok-plan.was

pub returns-in_err-plan : goal.returns-in_err-plan
returns-in_err-plan c = refused-read c.args.consumers c.args.s.now _ c.read.ensures _ c.in_err-plan.was _ (search rules)

pub returns : goal.returns
returns c = sound-read c.args.consumers c.args.s.now _ c.read.ensures c.in_ok-plan.was c.in_edition.ensures _ refl
