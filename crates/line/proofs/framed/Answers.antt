-- Two cases of the count: too many frames are refusal 9 (`nine`); else `few-frames` and `onward` give what `closed` requires. Of its answer
-- there are two cases: the frames that were laid are the line's (`fine-laid`), or the rule's refusal is passed on (`refused-is`).
use Rattle.plan.specs.Memory.{seen}
use Rattle.answers.specs.declared.Refusal.TheVariants.{TooManyFrames}
use Rattle.line.proofs.Ways.{lays_as, lays_refused}
use Rattle.line.proofs.Framing.{readers_same, runs-few, period-short, all_fair, all_read, frames-laid, few-frames, nine, onward, fine-laid, refused-is}
use Rattle.line.proofs.framed.Goals as goal

pub lay-count-requires : goal.lay-count-requires
lay-count-requires c =
    let a = c.args in
    let k = c.requires.plan_kept.0 in
    let left = c.requires.plan_kept.1 in
    let r = c.requires.senders_value.1 in
    let e = c.requires.senders_value.2 in
    let same = readers_same (seen a.p) k _ c.of-readers.ensures in
    record {
      count_le_most_invocations = runs-few (seen a.p) k left a.runs _ r e _ same;
      period_le_longest_time = period-short (seen a.p) k left a.runs _ r e _ same c.requires.p_value.0 c.requires.p_value.1;
      runs_value = all_fair (seen a.p) k left a.runs _ r e _ same c.requires.p_value.0 c.requires.p_value.1;
      are_read = all_read (seen a.p) k left a.runs _ r e _ same;
      tasks_value = c.requires.tasks_value;
    }

pub returns-then-count-gt-MOST : goal.returns-then-count-gt-MOST
returns-then-count-gt-MOST c =
    let a = c.args in
    let same = readers_same (seen a.p) c.requires.plan_kept.0 _ c.of-readers.ensures in
    lays_refused TooManyFrames _ c.taken_back.ensures.value c.taken_back.ensures.tasks_after _
    (nine (seen a.p) c.requires.plan_kept.0 c.requires.plan_kept.1 a.runs _ c.requires.senders_value.1 c.requires.senders_value.2 _ same _
    c.lay-count.ensures c.requires.p_value_2 c.if-count-gt-MOST.true)

pub closed-laid-requires : goal.closed-laid-requires
closed-laid-requires c =
    let a = c.args in
    let k = c.requires.plan_kept.0 in
    let left = c.requires.plan_kept.1 in
    let r = c.requires.senders_value.1 in
    let e = c.requires.senders_value.2 in
    let same = readers_same (seen a.p) k _ c.of-readers.ensures in
    record {
      plan_kept = k;
      senders_value = c.requires.senders_value.0;
      period_value = (e, period-short (seen a.p) k left a.runs _ r e _ same c.requires.p_value.0 c.requires.p_value.1);
      count_value = few-frames (seen a.p) k left a.runs _ r e _ same _ c.lay-count.ensures c.if-count-gt-MOST.false;
      p_value = onward (seen a.p) k left a.runs _ r e _ same _ c.lay-count.ensures c.requires.p_value_2 c.if-count-gt-MOST.false;
    }

pub returns-in-Ok : goal.returns-in-Ok
returns-in-Ok c =
    let a = c.args in
    let same = readers_same (seen a.p) c.requires.plan_kept.0 _ c.of-readers.ensures in
    fine-laid (seen a.p) _ c.closed-laid.ensures c.in-Ok.is
    (frames-laid (seen a.p) c.requires.plan_kept.0 c.requires.plan_kept.1 a.runs _ c.requires.senders_value.1 c.requires.senders_value.2 _ same _ c.lay-count.ensures)

pub returns-in-Err : goal.returns-in-Err
returns-in-Err c =
    lays_as _ _ c.taken_back-in-Err.ensures.value c.taken_back-in-Err.ensures.tasks_after _
    (refused-is (seen c.args.p) _ c.closed-laid.ensures _ c.in-Err.is)
