-- The steps (a), (c) and (d) of a tick on arrays: for each array the rule that gives its places after the tick. That these are the
-- rules of the played station is a law of the crate `station`.
use Rattle.std.specs.Prelude.{Bool, false, cond, not, ◌&&◌, ◌||◌, List, get_or, ℕ}
use Rattle.std.proofs.Math.Option
use Rattle.places.specs.Flags.{flag_at, flag_byte}
use Rattle.rules.specs.Station.{one_on}
use Rattle.stationruns.specs.Inputs.{given_at}
use Rattle.stationruns.specs.Runs.{run_at, ends_run}

-- the value that a place is given, else what it held; `outside` stands behind the lists
abbrev pub taken_rule : {A : Type 0} → List A → List ℕ → List A → A → ℕ → A
taken_rule values given places outside k = cond (flag_at given k) (get_or values k outside) (get_or places k outside)

-- (a)
abbrev pub out_rule : List ℕ → List ℕ → List ℕ → ℕ → ℕ
out_rule results given out t = Option.get_or (given_at results given t) (get_or out t 0)

-- the runs that end now
abbrev pub ends_rule : List ℕ → List ℕ → List ℕ → List ℕ → ℕ → Bool
ends_rule runs modes ages homes t = ends_run (run_at runs modes ages homes t)

-- (d)
abbrev pub mode_rule : List ℕ → List ℕ → List ℕ → ℕ → ℕ
mode_rule modes changed running m = Option.get_or (given_at modes changed m) (get_or running m 0)

abbrev pub age_rule : List ℕ → List ℕ → List ℕ → List ℕ → ℕ → ℕ
age_rule changed running periods ages m =
    cond (flag_at changed m) 1 (one_on (get_or ages m 0) (get_or periods (get_or running m 0) 0))

-- a run has had its result; where a run ends or the mode changes, the next has not
abbrev pub had_rule : List ℕ → List ℕ → List Bool → List ℕ → List ℕ → ℕ → ℕ
had_rule given changed ends homes had t =
    flag_byte (not (get_or ends t false || flag_at changed (get_or homes t 0)) && (flag_at had t || flag_at given t))
