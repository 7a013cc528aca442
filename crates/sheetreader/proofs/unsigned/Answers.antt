-- Two cases of the sign in front (`signed`, `unsigned`); where it stands the text has a byte.
use lib.ListN.{length}
use Prim.Native.Nat.{◌≤◌}
use Rattle.sheetreader.proofs.Numbering.{signed, unsigned, sign_long, part_rest}
use borrow.Author.Rules.{rules}
use Rattle.sheetreader.proofs.unsigned.Goals as goal

pub slice_bounds-whole_number-count : goal.slice_bounds-whole_number-count
slice_bounds-whole_number-count c =
    let w = c.args.word.now in
    let long : 1 ≤ length w = sign_long w (signed w c.behind.ensures c.in-Some.is) in
    search rules

pub slice_bounds-whole_number-start : goal.slice_bounds-whole_number-start
slice_bounds-whole_number-start c =
    let w = c.args.word.now in
    let long : 1 ≤ length w = sign_long w (signed w c.behind.ensures c.in-Some.is) in
    search rules

pub returns-in-None : goal.returns-in-None
returns-in-None c =
    rw (unsigned c.args.word.now c.behind.ensures c.in-None.is) c.whole_number-in-None.ensures

pub returns-in-Some : goal.returns-in-Some
returns-in-Some c =
    let w = c.args.word.now in
    rw (signed w c.behind.ensures c.in-Some.is, ← part_rest w 1) c.whole_number.ensures
