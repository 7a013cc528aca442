-- Invariant: the value so far and the digits left give the whole number, and as many were counted as are gone.
use Rattle.std.proofs.Common.{◌≡◌, ◌<◌, ◌+◌, ◌^◌, drop, length}
use Rattle.text.specs.Text.{digit_run, value_from}
use Rattle.text.proofs.digits_in.Given as goal

abbrev pub invariant-loop-b : goal.invariant-loop-b
invariant-loop-b l =
    record {
      fits : l.value < 2 ^ 64;
      here : l.next ≡ l.b-index;
      count : l.next + length (digit_run (drop l.b-index l.s)) ≡ length (digit_run l.s);
      whole : value_from l.value (digit_run (drop l.b-index l.s)) ≡ value_from 0 (digit_run l.s);
    }
