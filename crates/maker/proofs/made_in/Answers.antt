-- Four exits: too few rows (`too_few-rows`), no edition (`no-edition`) and a refused plan (`plan-refused`), which leave no rows
-- (`refused-made`); and a sound line's table (`placed-made`).
use lib.ListN.{length}
use Rattle.answers.specs.declared.Refusal.TheVariants.{TooFewRows, NoEdition}
use Rattle.maker.specs.Making.{for_consumers}
use Rattle.maker.proofs.Ways.{too_few-rows, no-edition, plan-refused, plan-sound, refused-made, none_left, placed-made}
use Rattle.maker.proofs.made_in.Goals as goal

pub returns-then-lent-lt-MOST : goal.returns-then-lent-lt-MOST
returns-then-lent-lt-MOST c =
    let a = c.args in
    let all = refused-made a.edition a.plan.now a.lent TooFewRows _ a.buf.now c.refused.ensures c.requires
    (too_few-rows a.edition a.plan.now a.lent (length a.buf.now) c.if-lent-lt-MOST.true) in
    record { makes = all.0; passes_check = all.1 }

pub returns-then-edition-gt-CONSUMERS : goal.returns-then-edition-gt-CONSUMERS
returns-then-edition-gt-CONSUMERS c =
    let a = c.args in
    let all = refused-made a.edition a.plan.now a.lent (NoEdition a.edition) _ a.buf.now c.refused-then-edition-gt-CONSUMERS.ensures c.requires
    (no-edition a.edition a.plan.now a.lent (length a.buf.now) c.if-lent-lt-MOST.false c.if-edition-gt-CONSUMERS.true) in
    record { makes = all.0; passes_check = all.1 }

pub lay_out-laid-requires : goal.lay_out-laid-requires
lay_out-laid-requires c =
    (c.requires.0, c.requires.1.0, c.requires.1.1.0)

pub made_of-requires : goal.made_of-requires
unfolding for_consumers
made_of-requires c =
    let a = c.args in
    record {
      stands = (plan-sound a.edition a.plan.now a.lent (length a.buf.now) c.if-lent-lt-MOST.false c.if-edition-gt-CONSUMERS.false c.lay_out-laid.result c.lay_out-laid.ensures c.in-Ok.is).stands;
      starts_value = c.requires.1.1.1;
    }

pub returns-in-Ok : goal.returns-in-Ok
unfolding for_consumers
returns-in-Ok c =
    let a = c.args in
    let all = placed-made a.edition a.plan.now a.lent c.lay_out-laid.result _ a.buf.now _
    (plan-sound a.edition a.plan.now a.lent (length a.buf.now) c.if-lent-lt-MOST.false c.if-edition-gt-CONSUMERS.false c.lay_out-laid.result c.lay_out-laid.ensures c.in-Ok.is)
    c.made_of.ensures in
    record { makes = all.0; passes_check = all.1 }

pub returns-in-Err : goal.returns-in-Err
unfolding for_consumers
returns-in-Err c =
    let a = c.args in
    let refused = plan-refused a.edition a.plan.now a.lent (length a.buf.now) c.if-lent-lt-MOST.false c.if-edition-gt-CONSUMERS.false c.lay_out-laid.result c.lay_out-laid.ensures _ c.in-Err.is in
    let all = refused-made a.edition a.plan.now a.lent _ _ a.buf.now c.refused-in-Err.ensures
    (none_left a.edition a.plan.now a.lent c.lay_out-laid.result refused c.requires.1.1.1) refused.rule in
    record { makes = all.0; passes_check = all.1 }
