-- `numbered_put` joins the marked number and the line feed.
use Rattle.text.proofs.Putting.{numbered_put}
use Rattle.text.proofs.put_numbered.Goals as goal

pub returns-clause-out_after : goal.returns-clause-out_after
returns-clause-out_after c =
    numbered_put c.args.out.now _ _ c.args.word.now c.put_marked-end.result c.put_bytes.result c.args.number
    c.put_marked-end.ensures.out_after c.put_bytes.ensures
