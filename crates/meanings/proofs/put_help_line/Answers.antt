-- Four pieces, one behind the other (`help_put`); their bounds add up.
use Rattle.text.specs.Text.{ascii, marked}
use Rattle.text.proofs.Putting.{Put}
use Rattle.meanings.proofs.Words.{help_put}
use Rattle.meanings.proofs.put_help_line.Goals as goal

pub returns-clause-out_after : goal.returns-clause-out_after
returns-clause-out_after c =
    let number : Put c.args.out.now c.args.at (marked (ascii "  ") c.args.number) c.put_marked-colon.new.out c.put_marked-colon.result =
    rw c.from.ensures at c.put_marked-colon.ensures.out_after in
    help_put c.args.out.now _ _ _ _ c.args.at _ _ _ _ c.args.number number c.put_bytes-words.ensures c.put_meaning-end.ensures.out_after
    c.put_bytes.ensures
