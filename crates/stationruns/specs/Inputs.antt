-- What a tick and a beginning are given, in plain arrays, as the rules have it by place.
use Rattle.std.specs.Prelude.{Bool, cond, List, get_or, replicate, ℕ}
use Rattle.std.proofs.Math.Option.{Option, none, some}
use Rattle.places.specs.Flags.{flag_at}
use Rattle.rules.specs.Limits.{most_modules, most_tasks}
use Rattle.rules.specs.Playing as rules
use Rattle.stationruns.specs.declared.Input.{Input}
use Rattle.stationruns.specs.declared.Starting.{Starting}

-- Rule 8.5: a place is given its value where its flag is set, and nothing else.
abbrev pub given_if : Bool → ℕ → Option ℕ
given_if flag value = cond flag (some value) none

abbrev pub given_at : (values flags : List ℕ) → ℕ → Option ℕ
given_at values flags k = given_if (flag_at flags k) (get_or values k 0)

-- by task place a result, by module place a mode
abbrev pub result_at : Input → ℕ → Option ℕ
result_at i t = given_at i.results i.given t

abbrev pub change_at : Input → ℕ → Option ℕ
change_at i m = given_at i.modes i.changed m

unfoldable pub input_of : Input → rules.Input
input_of i = record { result = result_at i; change = change_at i }

-- an input that gives nothing
abbrev pub no_input : Input
no_input =
    record {
      results = replicate most_tasks 0;
      given = replicate most_tasks 0;
      modes = replicate most_modules 0;
      changed = replicate most_modules 0;
    }

-- Rule 8.1: by module place its starting mode.
abbrev pub starting_at : Starting → ℕ → Option ℕ
starting_at s m = given_at s.modes s.given m
