-- No two frames have one key, so where it stands is the number (`look_found`); else the search missed it (`look_missed`).
use Rattle.std.proofs.Common.{arith}
use Rattle.naming.proofs.Names.{look_found, look_missed}
use Rattle.naming.proofs.number_of.Goals as goal

pub returns-then-has_key : goal.returns-then-has_key
returns-then-has_key c =
    look_found _ _ _ _ _ c.requires c.key-wanted.ensures _ (omega arith) c.has_key.ensures c.if-has_key.true

pub returns-then-has_key-2 : goal.returns-then-has_key-2
returns-then-has_key-2 c =
    look_found _ _ _ _ _ c.requires c.key-wanted.ensures _ (omega arith) c.has_key-2.ensures c.if-has_key-2.true

pub returns : goal.returns
returns c =
    look_missed _ _ _ _ _ c.requires c.key-wanted.ensures c.before-k.ensures c.has_key-2.ensures c.if-has_key-2.false
