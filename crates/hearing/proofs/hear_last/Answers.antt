-- No byte is no line (`last_none`); else the line is heard (`last_some`).
use mathlib.Core.Path.{◌≡◌}
use Prim.Native.Nat.{◌+◌}
use Rattle.hearing.specs.Heard.{heard_line}
use Rattle.hearing.specs.Pieces.{last_heard}
use Rattle.hearing.proofs.Coming.{if_ok, last_none, last_some}
use Rattle.hearing.proofs.hear_last.Goals as goal

pub returns-then-s-eq0 : goal.returns-then-s-eq0
returns-then-s-eq0 c =
    last_none c.args.plan.now c.args.table.now c.args.lines c.args.heard.now c.args.s.now c.if-s-eq0.true

pub returns : goal.returns
returns c =
    let a = c.args in
    if_ok c.hear.result (λ x. c.hear.new.heard ≡ heard_line a.plan.now a.table.now (a.lines + 1) a.heard.now a.s.now)
    (λ x. c.hear.new.heard ≡ last_heard a.plan.now a.table.now a.lines a.heard.now a.s.now)
    (λ x e. last_some a.plan.now a.table.now a.lines a.heard.now a.s.now c.if-s-eq0.false e) c.hear.ensures
