-- Answers by their letters: what each line says.
use mathlib.Core.Bool.{true, false}
use mathlib.Core.Path.{◌≡◌, refl}
use mathlib.Core.List.{[], ◌++◌}
use lib.ListN.{replicate, set}
use Rattle.text.specs.Text.{ascii, decimal, digits, line_feed, numbered_line, texts}
use Rattle.std.specs.Prelude.{Ok, Some, None}
use Rattle.stationmoves.specs.declared.StartedRow.TheVariants.{Control, Data}
use Rattle.stationnodes.specs.Nodes.{zero_node}
use Rattle.answerlines.specs.Writing.{control_line, data_line, node_shown, quiet_text, shown_at, shown_line, ticked_text, times_text}

-- everything that the examples open
everything : Unit {0}
unfolding decimal digits texts shown_at node_shown shown_line numbered_line times_text control_line data_line ticked_text quiet_text
everything = tt

none-shown : ticked_text false (Ok None) (replicate 8 zero_node) ≡ ascii "shown -" ++ line_feed
unfolding everything
none-shown = refl

two_shown : shown_line (set (replicate 8 zero_node) 1 (record { landed = []; shown = set (set (replicate 32 0) 31 70) 0 5 })) ≡ ascii "shown 1/0=5 1/31=70" ++ line_feed
unfolding everything
two_shown = refl

-- a quiet tick after which another thing is shown
changed : quiet_text 29499 false (Ok None) true (replicate 8 zero_node) ≡ ascii "after 29499" ++ line_feed ++ ascii "shown -" ++ line_feed
unfolding everything
changed = refl

-- a row, asked for and not
control-starts : ticked_text true (Ok (Some (Control (record { node = record { 0 = 3 }; start = record { 0 = 72 }; stop = record { 0 = 144 } })))) (replicate 8 zero_node)
    ≡ ascii "row control node 3 start 72 stop 144" ++ line_feed ++ ascii "shown -" ++ line_feed
unfolding everything
control-starts = refl

data_starts : quiet_text 7 true (Ok (Some (Data (record { task = record { 0 = 1 }; deadline = record { 0 = 20000 }; start = record { 0 = 19904 }; stop = record { 0 = 20000 } })))) false (replicate 8 zero_node)
    ≡ ascii "after 7" ++ line_feed ++ ascii "row data task 1 deadline 20000 start 19904 stop 20000" ++ line_feed
unfolding everything
data_starts = refl

data_unasked : quiet_text 7 false (Ok (Some (Data (record { task = record { 0 = 1 }; deadline = record { 0 = 20000 }; start = record { 0 = 19904 }; stop = record { 0 = 20000 } })))) false (replicate 8 zero_node) ≡ []
unfolding everything
data_unasked = refl
