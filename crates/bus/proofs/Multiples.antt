-- The bus period and the grid of mode changes as loops meet them: one run more, one mode more.
use mathlib.Core.Path.{◌≡◌, refl, sym, ap, ◌∙◌}
use mathlib.Core.Bool.{Bool, true, false, ◌&&◌, cond}
use mathlib.Core.List.{List, [], ◌∷◌, ◌++◌, map}
use native.Mathlib.Nat.{zero-add, le_of_dvd}
use native.Mathlib.Omega.{arith}
use lib.ListN.{length, get_or, take, length-map, get_or-map}
use lib.Seq.{ext_get_or}
use Rattle.std.specs.List.{list_all}
use Rattle.std.proofs.lemmas.List.{length-take-le, get_or-take}
use Rattle.std.proofs.lemmas.List.Folds.{list_all-map}
use Prim.Native.Nat.{ℕ, ◌+◌, ◌≤◌, ◌<◌}
use Rattle.laws.specs.Lists.{keep, all, tab}
use Rattle.laws.specs.Numbers.{divides, gcd, lcm}
use Rattle.laws.proofs.Lists.{take_more, keep_snoc_yes, keep_snoc_no, tab_more, length-tab, get_or-tab, all_true, all-each}
use Rattle.laws.proofs.Divisors.{divides-true}
use Rattle.rules.specs.Plan.{Mode, no_mode}
use Rattle.rules.specs.Traffic.{Run, period_of_runs, with_mode}
use Rattle.rules.proofs.Period.{period_divides, runs_divide, period_snoc, grid_snoc}
use Rattle.bus.specs.declared.runs.Runs.{Runs}
use Rattle.bus.specs.Runs.{run_period, run_at, runs_seen}
use Rattle.bus.proofs.Columns.{no_run}
use Rattle.bus.specs.Period.{is_of_marked, grid_among}

-- ---- P, of the runs f 0, .., f (n - 1)

module _ (f : ℕ → Run) where
  front_more : (i : ℕ) → tab f 0 (i + 1) ≡ tab f 0 i ++ (f i ∷ [])
  front_more i = tab_more f 0 i ∙ ap (λ (k : ℕ). tab f 0 i ++ (f k ∷ [])) (zero-add i)

  pub period_more : (i : ℕ) → period_of_runs (tab f 0 (i + 1)) ≡ lcm (f i).period (period_of_runs (tab f 0 i))
  period_more i = ap period_of_runs (front_more i) ∙ period_snoc (tab f 0 i) (f i)

  module _ (m : ℕ) where
    -- the period of the first runs divides what that of all divides
    pub divides-front : (n i : ℕ) → i ≤ n → divides (period_of_runs (tab f 0 n)) m ≡ true → divides (period_of_runs (tab f 0 i)) m ≡ true
    divides-front n i w e =
        runs_divide m (tab f 0 i) ∙ all-each (period_divides m) (tab f 0 i) (f 0)
        (λ k h. let v : k < i = rw (length-tab f 0 i) at h in
        rw (get_or-tab f 0 i k (f 0) v) (rw (get_or-tab f 0 n k (f 0) (wide k v)) at (all_true (period_divides m) (tab f 0 n) (f 0) k (sym (runs_divide m (tab f 0 n)) ∙ e) (rw (length-tab f 0 n) (wide k v)))))
      where
        wide : (k : ℕ) → k < i → k < n
        wide k v = omega arith

    pub period-below : (n i : ℕ) → i ≤ n → 0 < m → divides (period_of_runs (tab f 0 n)) m ≡ true → period_of_runs (tab f 0 i) ≤ m
    period-below n i w z e = le_of_dvd z (divides-true (period_of_runs (tab f 0 i)) m (divides-front n i w e))

-- ---- whether P divides a number, from the periods alone

all_listed : {A : Type 0} (p : A → Bool) (l : List A) → list_all p l ≡ all p l
all_listed p [] = refl
all_listed p (x ∷ l) = ap (λ (b : Bool). p x && b) (all_listed p l)

periods-seen : (r : Runs) → r.count ≤ length r.periods → map run_period (runs_seen r) ≡ take r.count r.periods
unfolding runs_seen run_at
periods-seen r w =
    ext_get_or 0 (map run_period runs) (take r.count r.periods) (long ∙ sym (length-take-le r.count r.periods w))
    (λ k h. let v : k < r.count = rw long at h in get_or-map run_period runs k no_run ∙ rw (get_or-tab (run_at r) 0 r.count k no_run v, zero-add k) (sym (get_or-take r.count r.periods k 0 v)))
  where
    runs : List Run
    runs = tab (run_at r) 0 r.count

    long : length (map run_period runs) ≡ r.count
    long = length-map runs run_period ∙ length-tab (run_at r) 0 r.count

pub periods-divide : (r : Runs) (m : ℕ) → r.count ≤ length r.periods → divides (period_of_runs (runs_seen r)) m ≡ list_all (λ n. divides n m) (take r.count r.periods)
periods-divide r m w =
    runs_divide m (runs_seen r) ∙ sym (all_listed (period_divides m) (runs_seen r)) ∙ sym (list_all-map (λ n. divides n m) run_period (runs_seen r))
    ∙ ap (list_all (λ n. divides n m)) (periods-seen r w)

-- ---- G

module _ (marks : List Bool) (μs : List Mode) (i : ℕ) (x : Mode) (w : i < length μs) (here : get_or μs i no_mode ≡ x) where
  grid_more : (b : Bool) → is_of_marked marks x ≡ b → grid_among marks (take (i + 1) μs) ≡ cond b (with_mode x (grid_among marks (take i μs))) (grid_among marks (take i μs))
  unfolding grid_among
  grid_more true e =
      rw (take_more μs i no_mode w, here, keep_snoc_yes (is_of_marked marks) (take i μs) x e) (grid_snoc (keep (is_of_marked marks) (take i μs)) x)
  grid_more false e = rw (take_more μs i no_mode w, here, keep_snoc_no (is_of_marked marks) (take i μs) x e)

  pub grid_turn : {m g v : ℕ} → m ≡ x.home → g ≡ grid_among marks (take i μs) → v ≡ cond (get_or marks m false) (gcd x.period (gcd x.switch g)) g → v ≡ grid_among marks (take (i + 1) μs)
  unfolding is_of_marked with_mode
  grid_turn s g₀ v₀ = v₀ ∙ rw (s, g₀) (sym (grid_more (is_of_marked marks x) refl))
