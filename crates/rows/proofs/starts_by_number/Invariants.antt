-- Invariant: the rest, scattered on, gives the whole.
use Rattle.std.proofs.Common.{◌≡◌, length}
use Rattle.rules.specs.Limits.{most_frames}
use Rattle.rows.specs.Rows.{scattered}
use Rattle.rows.proofs.starts_by_number.Given as goal

abbrev pub invariant-loop-j : goal.invariant-loop-j
invariant-loop-j l =
    record {
      long : length l.by ≡ most_frames;
      rest : scattered l.numbers l.starts l.count l.initial.by ≡ scattered l.numbers l.starts l.j l.by;
    }
