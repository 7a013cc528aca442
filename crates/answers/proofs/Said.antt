-- A refusal is known by its number and its place: `said` leaves one case of the enum, with one place in it.
use mathlib.Core.Bool.{cond}
use mathlib.Core.List.{List, [], ◌∷◌}
use mathlib.Core.Path.{◌≡◌, refl}
use lib.Dec.{eqb}
use Prim.Native.Nat.{ℕ}
use Rattle.answers.specs.declared.Refusal.{Refusal}
use Rattle.answers.specs.declared.Refusal.TheVariants.{
  BadRecords,
  BadCount,
  NotThere,
  OutOfRange,
  Unfit,
  NoBusTask,
  PeriodDoesNotDivide,
  PeriodOffResolution,
  TooManyFrames,
  PayloadTooLarge,
  ControlTooLong,
  NoRoom,
  BufferTooShort,
  TooFewRows,
  NoEdition,
  BadTableRecords,
  WrongHeader,
  WrongControlRow,
  NoNewFrame,
  WrongTime,
  BeforeRelease,
  AfterDeadline,
  GapBroken,
  NoGapAtEnd,
  NotBegun,
  NotAwaited,
  ResultTooLarge,
  ResultOverdue,
  ChangeNotAllowed,
}
use Rattle.answers.specs.Refusals.{number_of, place_of, said}

-- every case, at a place
cases : List (ℕ → Refusal)
cases =
    (λ p. BadRecords (record { 0 = p }))
    ∷ BadCount
    ∷ (λ p. NotThere (record { 0 = p }))
    ∷ (λ p. OutOfRange (record { 0 = p }))
    ∷ (λ p. Unfit (record { 0 = p }))
    ∷ (λ p. NoBusTask)
    ∷ (λ p. PeriodDoesNotDivide)
    ∷ (λ p. PeriodOffResolution)
    ∷ (λ p. TooManyFrames)
    ∷ (λ p. PayloadTooLarge)
    ∷ (λ p. ControlTooLong)
    ∷ (λ p. NoRoom (record { 0 = p }))
    ∷ (λ p. BufferTooShort (record { 0 = p }))
    ∷ (λ p. TooFewRows)
    ∷ NoEdition
    ∷ (λ p. BadTableRecords (record { 0 = p }))
    ∷ (λ p. WrongHeader)
    ∷ (λ p. WrongControlRow (record { 0 = p }))
    ∷ (λ p. NoNewFrame (record { 0 = p }))
    ∷ (λ p. WrongTime (record { 0 = p }))
    ∷ (λ p. BeforeRelease (record { 0 = p }))
    ∷ (λ p. AfterDeadline (record { 0 = p }))
    ∷ (λ p. GapBroken (record { 0 = p }))
    ∷ (λ p. NoGapAtEnd (record { 0 = p }))
    ∷ (λ p. NotBegun (record { 0 = p }))
    ∷ (λ p. NotAwaited (record { 0 = p }))
    ∷ (λ p. ResultTooLarge (record { 0 = p }))
    ∷ (λ p. ResultOverdue (record { 0 = p }))
    ∷ (λ p. ChangeNotAllowed (record { 0 = p }))
    ∷ []

-- the case with this number, at this place; some case where there is none
pick : List (ℕ → Refusal) → ℕ → ℕ → Refusal
pick [] n p = NoBusTask
pick (c ∷ cs) n p = cond (eqb n (number_of (c p))) (c p) (pick cs n p)

found : (x : Refusal) → pick cases (number_of x) (place_of x) ≡ x
unfolding cases pick
found (BadRecords _) = refl
found (BadCount _) = refl
found (NotThere _) = refl
found (OutOfRange _) = refl
found (Unfit _) = refl
found NoBusTask = refl
found PeriodDoesNotDivide = refl
found PeriodOffResolution = refl
found TooManyFrames = refl
found PayloadTooLarge = refl
found ControlTooLong = refl
found (NoRoom _) = refl
found (BufferTooShort _) = refl
found TooFewRows = refl
found (NoEdition _) = refl
found (BadTableRecords _) = refl
found WrongHeader = refl
found (WrongControlRow _) = refl
found (NoNewFrame _) = refl
found (WrongTime _) = refl
found (BeforeRelease _) = refl
found (AfterDeadline _) = refl
found (GapBroken _) = refl
found (NoGapAtEnd _) = refl
found (NotBegun _) = refl
found (NotAwaited _) = refl
found (ResultTooLarge _) = refl
found (ResultOverdue _) = refl
found (ChangeNotAllowed _) = refl

-- No second refusal is said with the same number and place.
pub said-once : {A : Type 0} → (x y : Refusal) → said {A = A} x ≡ said y → x ≡ y
said-once x y e = cc (found x, found y, e)
