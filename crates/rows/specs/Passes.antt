-- Passes over lent rows: what each step makes of a row, and what stands in the rows after the pass.
use Rattle.std.specs.Prelude.{Bool, cond, ◌||◌, List, ltb, length, get_or, ℕ, zero, suc}
use Rattle.laws.specs.Loops.{stores}
use Rattle.units.specs.declared.Frame.{Frame}
use Rattle.rows.specs.Frames.{zero_frame, end_of}

-- What a step leaves of a row: whether something was found so far, and the row.
pub record Step : Type 0 where
  pub found : Bool
  pub row : Frame

-- what a pass that carries a Bool over the rows of so many frames has found after n rows; row k after it, and all rows
unfoldable pub found_in : (Bool → Frame → Step) → Bool → List Frame → ℕ → Bool
found_in g b rows zero = b
found_in g b rows (suc n) = (g (found_in g b rows n) (get_or rows n zero_frame)).found

unfoldable pub passed_row : (Bool → Frame → Step) → Bool → List Frame → ℕ → Frame
passed_row g b rows k = (g (found_in g b rows k) (get_or rows k zero_frame)).row

unfoldable pub found_after : (Bool → Frame → Step) → ℕ → Bool → List Frame → Bool
found_after g frames b rows = found_in g b rows (end_of frames (length rows))

unfoldable pub rows_after : (Bool → Frame → Step) → ℕ → Bool → List Frame → List Frame
rows_after g frames b rows = stores rows (passed_row g b rows) (end_of frames (length rows))

-- rule 25 on a row; a row cleared
unfoldable pub looked_row : Bool → Frame → Step
looked_row b row = record { found = ltb row.start.0 row.release.0 || b; row = row }

unfoldable pub cleared_row : Bool → Frame → Step
cleared_row b row = record { found = b; row = cond b zero_frame row }
