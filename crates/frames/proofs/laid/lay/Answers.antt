-- What `derive` leaves on zeros are the walk's frames, and so all frames (`frames_direct`, `laid-is`); the runs lent are those seen, but for
-- their modes (`Modeless`).
use mathlib.Core.Path.{◌∙◌, ap}
use Rattle.rules.specs.Readers.{read_messages}
use Rattle.rules.specs.Frames.{pairs_of}
use Rattle.rules.proofs.Direct.{frames_direct}
use Rattle.bus.specs.Readers.{readers_seen}
use Rattle.frames.specs.Laid.{frames_laid}
use Rattle.frames.proofs.Meeting.{fair_go}
use Rattle.frames.proofs.Laying.{laid-is}
use Rattle.frames.proofs.Modeless.{lent, lent-fair, lent-read, lent-pairs}
use Rattle.frames.proofs.laid.lay.Goals as goal

pub derive-walked-requires : goal.derive-walked-requires
derive-walked-requires c =
    record {
      runs_le_most_invocations = c.requires.count_le_most_invocations;
      cycle_le_longest_time = c.requires.period_le_longest_time;
      runs_value = lent-fair c.args.runs c.args.period.0 c.requires.runs_value;
      are_read = lent-read c.args.runs _ c.args.period.0 c.requires.are_read;
    }

pub returns : goal.returns
returns c =
    let runs = lent c.args.runs in
    let readers = readers_seen c.args.reader_counts.now c.args.reader_periods.now in
    let cycle = c.args.period.0 in
    let goes = fair_go readers cycle runs (lent-fair c.args.runs cycle c.requires.runs_value) (lent-read c.args.runs readers cycle c.requires.are_read) in
    let zeros = c.requires.tasks_value in
    laid-is (pairs_of (read_messages readers cycle runs)) zeros.0 zeros.1 zeros.2 c.derive-walked.ensures.derived (frames_direct readers cycle runs goes)
    ∙ ap frames_laid (lent-pairs c.args.runs readers cycle)
