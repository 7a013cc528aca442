-- P is the least common multiple of the periods of all invocations of bus tasks, G the greatest common divisor of the mode and
-- switch periods of all modes of sending modules: what these words mean, and that the folds of the definitions mean it.
use mathlib.Core.Path.{◌≡◌, sym, ap, ◌∙◌}
use mathlib.Core.Bool.{Bool, true, ◌&&◌, and_assoc, and_comm}
use mathlib.Core.List.{List, [], ◌∷◌, ◌++◌, foldr}
use native.Mathlib.Nat.{dvd_refl, dvd_antisymm, one-dvd, dvd-zero}
use lib.ListN.{length}
use Prim.Native.Nat.{ℕ, ◌<◌, ◌∣◌}
use Rattle.laws.specs.Lists.{keep, all}
use Rattle.laws.specs.Numbers.{divides, gcd, lcm}
use Rattle.laws.proofs.Lists.{all_map, all_snoc}
use Rattle.laws.proofs.Tests.{Tests, by_itself, by_divides, by_and, by_all-keep}
use Rattle.laws.proofs.Divisors.{divides-true, divides-is, lcm-divides, divides-gcd, same_multiples, same_divisors}
use Rattle.rules.specs.Plan.{Mode, Plan, no_mode, no_invocation, the_mode, the_invocation, period_of}
use Rattle.rules.specs.Traffic.{Run, run_of, of_bus_task, bus_runs, with_run, period_of_runs, bus_period, with_mode, of_sender, switch_grid}

-- ---- what P and G are

-- every invocation's period of a bus task divides P, and P divides every other number of this kind
pub record IsBusPeriod (p : Plan) (period : ℕ) : Type 0 where
  pub multiple : (k : ℕ) → k < length p.invocations → of_bus_task p (the_invocation p k) ≡ true → period_of p (the_invocation p k) ∣ period
  pub least : (m : ℕ)
      → ((k : ℕ) → k < length p.invocations → of_bus_task p (the_invocation p k) ≡ true → period_of p (the_invocation p k) ∣ m)
      → period ∣ m

-- d divides the mode period and the switch period of every mode of a sending module
pub record DividesModes (p : Plan) (d : ℕ) : Type 0 where
  pub periods : (k : ℕ) → k < length p.modes → of_sender p (the_mode p k) ≡ true → d ∣ (the_mode p k).period
  pub switches : (k : ℕ) → k < length p.modes → of_sender p (the_mode p k) ≡ true → d ∣ (the_mode p k).switch

-- G divides them, and every other number of this kind divides G
pub record IsSwitchGrid (p : Plan) (grid : ℕ) : Type 0 where
  pub divisor : DividesModes p grid
  pub greatest : (d : ℕ) → DividesModes p d → d ∣ grid

-- ---- P

abbrev pub period_divides : ℕ → Run → Bool
period_divides m r = divides r.period m

-- P divides a number exactly when each run's period does
pub runs_divide : (m : ℕ) (rs : List Run) → divides (period_of_runs rs) m ≡ all (period_divides m) rs
unfolding period_of_runs with_run
runs_divide m [] = divides-is 1 m (one-dvd m)
runs_divide m (r ∷ rs) = lcm-divides r.period (period_of_runs rs) m ∙ ap (λ (b : Bool). divides r.period m && b) (runs_divide m rs)

pub period-divides : (p : Plan) (m : ℕ) → divides (bus_period p) m ≡ all (period_divides m) (bus_runs p)
unfolding bus_period
period-divides p m = runs_divide m (bus_runs p)

period_tests : (p : Plan) (m : ℕ)
    → Tests (divides (bus_period p) m)
    ((k : ℕ) → k < length p.invocations → of_bus_task p (the_invocation p k) ≡ true → period_of p (the_invocation p k) ∣ m)
unfolding bus_runs run_of the_invocation
period_tests p m =
    rw (period-divides p m, all_map (run_of p) (period_divides m) (keep (of_bus_task p) p.invocations))
    (by_all-keep (of_bus_task p) (λ i. divides (period_of p i) m) p.invocations no_invocation
    (λ k w. by_itself (of_bus_task p (the_invocation p k)))
    (λ k w. by_divides (period_of p (the_invocation p k)) m))

pub period : (p : Plan) → IsBusPeriod p (bus_period p)
period p =
    record {
      multiple = (period_tests p (bus_period p)).says (divides-is (bus_period p) (bus_period p) (dvd_refl (bus_period p)));
      least = λ m h. divides-true (bus_period p) m ((period_tests p m).passes h);
    }

pub period_unique : (p : Plan) (m n : ℕ) → IsBusPeriod p m → IsBusPeriod p n → m ≡ n
period_unique p m n a b = dvd_antisymm (a.least n b.multiple) (b.least m a.multiple)

-- one run more at the end, as a loop meets it
pub period_snoc : (rs : List Run) (r : Run) → period_of_runs (rs ++ (r ∷ [])) ≡ lcm r.period (period_of_runs rs)
unfolding period_of_runs with_run
period_snoc rs r =
    same_multiples (period_of_runs (rs ++ (r ∷ []))) (period_of_runs (r ∷ rs))
    (λ m. runs_divide m (rs ++ (r ∷ [])) ∙ all_snoc (period_divides m) rs r
    ∙ and_comm (all (period_divides m) rs) (period_divides m r) ∙ sym (runs_divide m (r ∷ rs)))

-- ---- G

abbrev pub divides_mode : ℕ → Mode → Bool
divides_mode d μ = divides d μ.period && divides d μ.switch

-- a number divides G exactly when it divides both periods of each mode
pub divides-modes : (d : ℕ) (μs : List Mode) → divides d (foldr with_mode 0 μs) ≡ all (divides_mode d) μs
unfolding with_mode
divides-modes d [] = divides-is d 0 (dvd-zero d)
divides-modes d (μ ∷ μs) =
    divides-gcd d μ.period (gcd μ.switch (foldr with_mode 0 μs))
    ∙ ap (λ (b : Bool). divides d μ.period && b) (divides-gcd d μ.switch (foldr with_mode 0 μs)
    ∙ ap (λ (b : Bool). divides d μ.switch && b) (divides-modes d μs))
    ∙ sym (and_assoc (divides d μ.period) (divides d μ.switch) (all (divides_mode d) μs))

pub divides-grid : (p : Plan) (d : ℕ) → divides d (switch_grid p) ≡ all (divides_mode d) (keep (of_sender p) p.modes)
unfolding switch_grid
divides-grid p d = divides-modes d (keep (of_sender p) p.modes)

grid_tests : (p : Plan) (d : ℕ)
    → Tests (divides d (switch_grid p))
    ((k : ℕ) → k < length p.modes → of_sender p (the_mode p k) ≡ true → (d ∣ (the_mode p k).period) × (d ∣ (the_mode p k).switch))
unfolding the_mode
grid_tests p d =
    rw (divides-grid p d)
    (by_all-keep (of_sender p) (divides_mode d) p.modes no_mode
    (λ k w. by_itself (of_sender p (the_mode p k)))
    (λ k w. by_and (by_divides d (the_mode p k).period) (by_divides d (the_mode p k).switch)))

pub switch-grid : (p : Plan) → IsSwitchGrid p (switch_grid p)
switch-grid p =
    let g = switch_grid p in
    let h = (grid_tests p g).says (divides-is g g (dvd_refl g)) in
    record {
      divisor = record { periods = λ k w e. (h k w e).0; switches = λ k w e. (h k w e).1 };
      greatest = λ d s. divides-true d g ((grid_tests p d).passes (λ k w e. (s.periods k w e, s.switches k w e)));
    }

pub grid_unique : (p : Plan) (m n : ℕ) → IsSwitchGrid p m → IsSwitchGrid p n → m ≡ n
grid_unique p m n a b = dvd_antisymm (b.greatest m a.divisor) (a.greatest n b.divisor)

-- one mode more at the end, as a loop meets it
pub grid_snoc : (μs : List Mode) (μ : Mode) → foldr with_mode 0 (μs ++ (μ ∷ [])) ≡ with_mode μ (foldr with_mode 0 μs)
grid_snoc μs μ =
    same_divisors (foldr with_mode 0 (μs ++ (μ ∷ []))) (foldr with_mode 0 (μ ∷ μs))
    (λ d. divides-modes d (μs ++ (μ ∷ [])) ∙ all_snoc (divides_mode d) μs μ
    ∙ and_comm (all (divides_mode d) μs) (divides_mode d μ) ∙ sym (divides-modes d (μ ∷ μs)))
