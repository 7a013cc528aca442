-- Refusals 41 to 44 on arrays: the tests of the rules' `judged_tick`, each at a place of the arrays that it reads. That they are the
-- rules' own tests is a law of the crate `station`.
use Rattle.std.specs.Prelude.{Bool, true, not, ◌&&◌, ◌||◌, List, eqb, ltb, get_or, ℕ}
use Rattle.std.proofs.Math.Option.{Option, none, some}
use Rattle.laws.specs.Numbers.{divides}
use Rattle.laws.specs.Lists.{first_bad, up_to}
use Rattle.laws.specs.Res.{Res, ◌>>◌, at}
use Rattle.rules.specs.Limits.{most_modules, most_tasks}
use Rattle.rules.specs.Station.{fits_in}
use Rattle.places.specs.Flags.{flag_at}
use Rattle.stationruns.specs.Inputs.{given_at}
use Rattle.stationruns.specs.Runs.{run_at, awaits, last_chance}

-- 41
abbrev pub awaited_test : List ℕ → ℕ → List ℕ → List ℕ → List ℕ → List ℕ → List ℕ → List ℕ → ℕ → Bool
awaited_test given tasks runs modes ages homes had worsts t =
    not (flag_at given t) || awaits (run_at runs modes ages homes t) (ltb t tasks) (flag_at had t) (get_or worsts t 0)

-- 42
abbrev pub fits_test : List ℕ → List ℕ → List ℕ → ℕ → Bool
fits_test results given sizes t = fits_in (get_or sizes t 0) (given_at results given t)

-- 43
abbrev pub in_time_test : List ℕ → ℕ → List ℕ → List ℕ → List ℕ → List ℕ → List ℕ → List ℕ → ℕ → Bool
in_time_test given tasks runs modes ages homes had worsts t =
    not (last_chance (run_at runs modes ages homes t) (ltb t tasks) (get_or worsts t 0)) || (flag_at had t || flag_at given t)

-- 44
abbrev pub allows : ℕ → ℕ → List ℕ → ℕ → ℕ → ℕ → Option ℕ → Bool
allows module_count mode_count homes switch age m none = true
allows module_count mode_count homes switch age m (some μ) =
    (ltb m module_count && (ltb μ mode_count && eqb (get_or homes μ 0) m)) && divides switch age

abbrev pub allowed_test : List ℕ → List ℕ → ℕ → ℕ → List ℕ → List ℕ → List ℕ → List ℕ → ℕ → Bool
allowed_test modes changed module_count mode_count homes switches running ages m =
    allows module_count mode_count homes (get_or switches (get_or running m 0) 0) (get_or ages m 0) m (given_at modes changed m)

-- Rule 8.9: in order of number, each at its lowest task.
abbrev pub results_judged : List ℕ → List ℕ → ℕ → List ℕ → List ℕ → List ℕ → List ℕ → List ℕ → List ℕ → List ℕ → Res (Unit {0})
results_judged results given tasks runs modes ages homes had sizes worsts = do
  at 41 0 (first_bad (awaited_test given tasks runs modes ages homes had worsts) (up_to most_tasks))
  at 42 0 (first_bad (fits_test results given sizes) (up_to most_tasks))
  at 43 0 (first_bad (in_time_test given tasks runs modes ages homes had worsts) (up_to most_tasks))

abbrev pub changes_judged : Res (Unit {0}) → List ℕ → List ℕ → ℕ → ℕ → List ℕ → List ℕ → List ℕ → List ℕ → Res (Unit {0})
changes_judged before modes changed module_count mode_count homes switches running ages = do
  before
  at 44 0 (first_bad (allowed_test modes changed module_count mode_count homes switches running ages) (up_to most_modules))
