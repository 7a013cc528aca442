-- Two lists of as many numbers are equal where each place agrees (`same-places`).
use Rattle.std.proofs.Common.{◌∙◌}
use Rattle.answerlines.proofs.Places.{same-places}
use Rattle.answerlines.proofs.same_places.Goals as goal

pub returns : goal.returns
returns c = c.eq.ensures ∙ same-places c.args.a.now c.args.b.now 32 c.told-a c.told-b
