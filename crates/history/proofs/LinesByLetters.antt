-- Lines by their letters: what each says.
use mathlib.Core.Path.{◌≡◌, refl}
use mathlib.Core.List.{[], ◌∷◌, ◌++◌}
use Rattle.text.specs.Text.{ascii, read_decimal}
use Rattle.text.specs.Lines.{behind_word, is_blank, is_word, uncommented, whole_number, words}
use Rattle.history.specs.Reading.{first_mode, first_result, first_word, is_free, more_results, no_places, pair_in, plain, read_line, whole_line, with_mode, with_result, with_value, with_word, with_words}
use Rattle.history.specs.declared.What.TheVariants.{Blank, Begin, Tick, Quiet, Unreadable}

-- everything that the examples open
everything : Unit {0}
unfolding read_decimal behind_word is_blank is_word uncommented whole_number words pair_in is_free first_word with_result with_mode first_result more_results first_mode with_word with_words whole_line read_line
everything = tt

both_lists : read_line (ascii "tick results 0=5 31=18446744073709551615 modes 15=255") ≡ record { what = Tick; results = with_value (with_value no_places 0 5) 31 18446744073709551615; modes = with_value no_places 15 255 }
unfolding everything
both_lists = refl

nothing-given : read_line (ascii "tick results - modes -") ≡ plain Tick
unfolding everything
nothing-given = refl

two_modes : read_line (ascii "begin 0=0 1=2") ≡ record { what = Begin; results = no_places; modes = with_value (with_value no_places 0 0) 1 2 }
unfolding everything
two_modes = refl

no_mode : read_line (ascii "begin -") ≡ plain Begin
unfolding everything
no_mode = refl

some_quiet : read_line (ascii "quiet 60000") ≡ plain (Quiet 60000)
unfolding everything
some_quiet = refl

twice : read_line (ascii "tick results 0=5 0=6 modes -") ≡ plain Unreadable
unfolding everything
twice = refl

no_such_task : read_line (ascii "tick results 32=5 modes -") ≡ plain Unreadable
unfolding everything
no_such_task = refl

no_such_module : read_line (ascii "begin 16=0") ≡ plain Unreadable
unfolding everything
no_such_module = refl

mode_too_large : read_line (ascii "begin 0=256") ≡ plain Unreadable
unfolding everything
mode_too_large = refl

value_too_large : read_line (ascii "tick results 0=18446744073709551616 modes -") ≡ plain Unreadable
unfolding everything
value_too_large = refl

no_modes : read_line (ascii "tick results 0=5") ≡ plain Unreadable
unfolding everything
no_modes = refl

no_list : read_line (ascii "tick results modes -") ≡ plain Unreadable
unfolding everything
no_list = refl

dash-and-pair : read_line (ascii "begin - 0=1") ≡ plain Unreadable
unfolding everything
dash-and-pair = refl

spaced-pair : read_line (ascii "begin 0 =1") ≡ plain Unreadable
unfolding everything
spaced-pair = refl

two_counts : read_line (ascii "quiet 1 2") ≡ plain Unreadable
unfolding everything
two_counts = refl

letter_behind : read_line (ascii "quiet 1x") ≡ plain Unreadable
unfolding everything
letter_behind = refl

other_word : read_line (ascii "ticks 1") ≡ plain Unreadable
unfolding everything
other_word = refl

free_spacing : read_line (ascii "  tick   results 0=5  1=6 modes - ") ≡ record { what = Tick; results = with_value (with_value no_places 0 5) 1 6; modes = no_places }
unfolding everything
free_spacing = refl

comment_behind : read_line (ascii "quiet 1 # one") ≡ plain (Quiet 1)
unfolding everything
comment_behind = refl

comment_in_a_word : read_line (ascii "quiet 1#2") ≡ plain (Quiet 1)
unfolding everything
comment_in_a_word = refl

only_comment : read_line (ascii "# quiet 1") ≡ plain Blank
unfolding everything
only_comment = refl

no_word : read_line (ascii "  ") ≡ plain Blank
unfolding everything
no_word = refl

empty_line : read_line (ascii "") ≡ plain Blank
unfolding everything
empty_line = refl

-- a carriage return at the end, and a tab between words
from_another_editor : read_line (ascii "quiet" ++ (9 ∷ ascii "7") ++ (13 ∷ [])) ≡ plain (Quiet 7)
unfolding everything
from_another_editor = refl
