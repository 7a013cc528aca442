-- docs/RULES.md, section 14: the frames of a table as they go over the bus, cycle after cycle, and the gap between any two of them.
use Rattle.std.specs.Prelude.{◌≡◌, List, ◌++◌, map, ◌⊎◌, length, get_or, ℕ, ◌+◌, ◌*◌, ◌≤◌, ◌<◌}
use Rattle.rules.specs.Frames.{ControlRow}
use Rattle.rules.specs.Checker.{Row, TableRead}

-- The time in which a frame is on the bus.
pub record Stretch : Type 0 where
  pub start : ℕ
  pub stop : ℕ

unfoldable pub of_control : ControlRow → Stretch
of_control r = record { start = r.start; stop = r.stop }

unfoldable pub of_data : Row → Stretch
of_data r = record { start = r.start; stop = r.stop }

-- the frames of one cycle, in the order of the table
unfoldable pub in_cycle : TableRead → List Stretch
in_cycle t = map of_control t.control ++ map of_data t.rows

abbrev pub no_stretch : Stretch
no_stretch = record { start = 0; stop = 0 }

-- the frame of a number in a cycle: a cycle begins where the one before it ends
unfoldable pub stretch_in : TableRead → ℕ → ℕ → Stretch
stretch_in t cycle k =
    let began = cycle * t.period in
    let s = get_or (in_cycle t) k no_stretch in
    record { start = began + s.start; stop = began + s.stop }

-- One of two frames has stopped, and the gap has passed, when the other starts.
abbrev pub GapBetween : ℕ → Stretch → Stretch → Type 0
GapBetween gap a b = (a.stop + gap ≤ b.start) ⊎ (b.stop + gap ≤ a.start)

-- Rule 14.1: no two frames stand closer than the gap, of one cycle or of different ones.
pub record GapsKept (gap : ℕ) (t : TableRead) : Type 0 where
  pub between :
      (c d i j : ℕ) → i < length (in_cycle t) → j < length (in_cycle t) → ((c ≡ d) × (i ≡ j) → ⊥) →
      GapBetween gap (stretch_in t c i) (stretch_in t d j)
