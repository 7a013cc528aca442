-- docs/RULES.md, sections 6, 7 and 8: the number and the place of each refusal.
use Rattle.std.specs.Prelude.{ℕ}
use Rattle.laws.specs.Res.{Res, refuse}
use Rattle.rules.specs.Limits.{most_frames}
use Rattle.answers.specs.declared.Refusal.{Refusal}
use Rattle.answers.specs.declared.Refusal.TheVariants.{
  BadRecords,
  BadCount,
  NotThere,
  OutOfRange,
  Unfit,
  NoBusTask,
  PeriodDoesNotDivide,
  PeriodOffResolution,
  TooManyFrames,
  PayloadTooLarge,
  ControlTooLong,
  NoRoom,
  BufferTooShort,
  TooFewRows,
  NoEdition,
  BadTableRecords,
  WrongHeader,
  WrongControlRow,
  NoNewFrame,
  WrongTime,
  BeforeRelease,
  AfterDeadline,
  GapBroken,
  NoGapAtEnd,
  NotBegun,
  NotAwaited,
  ResultTooLarge,
  ResultOverdue,
  ChangeNotAllowed,
}

-- the number of each refusal, with what it refuses
abbrev pub number_of : Refusal → ℕ
number_of (BadRecords _) = 1  -- bytes break the record rules for a plan
number_of (BadCount _) = 2  -- a count of things is outside its range
number_of (NotThere _) = 3  -- a number names a thing that is not there
number_of (OutOfRange _) = 4  -- another number is outside its range
number_of (Unfit _) = 5  -- periods, rates, worst times, modules that do not fit together
number_of NoBusTask = 6  -- no bus task
number_of PeriodDoesNotDivide = 7  -- P does not divide G
number_of PeriodOffResolution = 8  -- P is no multiple of the resolution
number_of TooManyFrames = 9  -- more than 1,024 data frames
number_of PayloadTooLarge = 10  -- a message or control payload above the largest
number_of ControlTooLong = 11  -- C above P
number_of (NoRoom _) = 12  -- the latest-release rule refuses
number_of (BufferTooShort _) = 13  -- the lent table buffer is too short
number_of TooFewRows = 19  -- fewer than 1,024 frame rows lent
number_of (NoEdition _) = 62  -- no edition of this number
number_of (BadTableRecords _) = 20  -- bytes break the record rules for a table
number_of WrongHeader = 21  -- P, a header count or a number of rows is not the plan's
number_of (WrongControlRow _) = 22  -- a control row is not the fixed one
number_of (NoNewFrame _) = 23  -- a data row names no frame, or one already named
number_of (WrongTime _) = 24  -- stop is not start plus sending time, or start is off the resolution
number_of (BeforeRelease _) = 25  -- start before release
number_of (AfterDeadline _) = 26  -- stop after deadline
number_of (GapBroken _) = 27  -- start before the stop plus gap of the row before
number_of (NoGapAtEnd _) = 28  -- the last stop plus gap above P
number_of (NotBegun _) = 40  -- starting modes that do not fit, or a station not begun
number_of (NotAwaited _) = 41  -- a result where none is awaited
number_of (ResultTooLarge _) = 42  -- a result that needs more bytes than the message has
number_of (ResultOverdue _) = 43  -- w ticks gone without a result
number_of (ChangeNotAllowed _) = 44  -- a mode of another module, or a change at the wrong instant

-- the place of each refusal
abbrev pub place_of : Refusal → ℕ
place_of (BadRecords offset) = offset.0
place_of (BadCount kind) = kind
place_of (NotThere k) = k.0
place_of (OutOfRange k) = k.0
place_of (Unfit k) = k.0
place_of NoBusTask = 0
place_of PeriodDoesNotDivide = 0
place_of PeriodOffResolution = 0
place_of TooManyFrames = 0
place_of PayloadTooLarge = 0
place_of ControlTooLong = 0
place_of (NoRoom frame) = frame.0
place_of (BufferTooShort needed) = needed.0
place_of TooFewRows = most_frames
place_of (NoEdition edition) = edition
place_of (BadTableRecords offset) = offset.0
place_of WrongHeader = 0
place_of (WrongControlRow k) = k.0
place_of (NoNewFrame k) = k.0
place_of (WrongTime k) = k.0
place_of (BeforeRelease k) = k.0
place_of (AfterDeadline k) = k.0
place_of (GapBroken k) = k.0
place_of (NoGapAtEnd k) = k.0
place_of (NotBegun home) = home.0
place_of (NotAwaited task) = task.0
place_of (ResultTooLarge task) = task.0
place_of (ResultOverdue task) = task.0
place_of (ChangeNotAllowed home) = home.0

-- what the rules say where the code answers with this case
abbrev pub said : {A : Type 0} → Refusal → Res A
said x = refuse (number_of x) (place_of x)
