use Rattle.laws.proofs.Loops.{first_bad-up_to_more}
use Rattle.naming.specs.Places.{is_new}
use Rattle.naming.proofs.Places.{scan_hit, new-past, new-again, new-first, marks_more}
use Rattle.naming.proofs.first_unnamed.Goals.{then-frames-f-via-then-frames-f, then-frames-f-via-else-frames-f+then-named-f}
use Rattle.naming.proofs.first_unnamed.Goals as goal

pub returns-then-frames-f : goal.returns-then-frames-f
returns-then-frames-f c =
    let a = c.args in
    let v = c.loop-k.invariant in
    scan_hit (is_new a.numbers.now a.frames) v.new c.loop-k-test.true
    (elim c.then-frames-f.branch [
      | then-frames-f-via-then-frames-f w ↦ new-past a.numbers.now a.frames c.loop-k.k w.if-frames-f.true
      | then-frames-f-via-else-frames-f+then-named-f w ↦ new-again a.numbers.now a.frames c.loop-k.k v.marked w.if-frames-f.false w.if-named-f.true
    ])

pub loop-k-preserved : goal.loop-k-preserved
loop-k-preserved c =
    let a = c.args in
    let v = c.loop-k.invariant in
    record {
      marked = marks_more a.numbers.now a.frames c.loop-k.k v.marked;
      new = first_bad-up_to_more (is_new a.numbers.now a.frames) c.loop-k.k v.new
          (new-first a.numbers.now a.frames c.loop-k.k v.marked c.if-frames-f.false c.if-named-f.false);
    }
