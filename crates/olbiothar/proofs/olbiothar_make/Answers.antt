-- `makes_rows` puts together what the callees promise.
use Rattle.maker.specs.Making.{making}
use Rattle.olbiothar.proofs.MakeRules.{makes_rows}
use Rattle.olbiothar.proofs.olbiothar_make.Goals as goal

pub returns : goal.returns
returns c =
    let a = c.args in
    let m = c.made_in-making in
    makes_rows a.edition a.plan.now a.rows.now c.fill.new.rows a.table.now m.new.buf
    (making m.result m.new.tasks m.new.releases m.new.deadlines m.new.starts) c.from.result c.fill.ensures m.ensures.makes c.from.ensures
