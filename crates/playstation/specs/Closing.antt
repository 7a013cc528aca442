-- What is said at a history's end, and how the program ends: 0 for a result, 1 for a refusal.
use Rattle.std.specs.Prelude.{Bool, true, cond, List, [], leb, ℕ}
use Rattle.text.specs.Text.{too_long_line, unreadable_line}
use Rattle.hearing.specs.declared.Stage.{Stage}
use Rattle.hearing.specs.declared.Stage.TheVariants.{Waits, Plays, Stops}

-- nothing, unless more than 262,144 bytes have come
abbrev pub end_text : ℕ → List ℕ
end_text n = cond (leb n 262144) [] too_long_line

abbrev pub end_status : ℕ → Bool → ℕ
end_status n begun = cond (leb n 262144) (cond begun 0 1) 1

-- a line that stops the history is named
unfoldable pub closing_text : ℕ → Stage → List ℕ
closing_text n Waits = end_text n
closing_text n (Plays begun) = end_text n
closing_text n (Stops k) = unreadable_line k

unfoldable pub closing_status : ℕ → Stage → ℕ
closing_status n Waits = end_status n true
closing_status n (Plays begun) = end_status n begun
closing_status n (Stops k) = 1
