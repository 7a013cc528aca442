-- The runs of marked tasks laid into columns: one run more, none more, and that the struct stands for the runs that were laid.
use mathlib.Core.Path.{◌≡◌, refl, sym, ap, ◌∙◌}
use mathlib.Core.Bool.{Bool, true, false}
use mathlib.Core.List.{List, [], ◌∷◌, ◌++◌, map}
use native.Mathlib.Nat.{zero-add}
use native.Mathlib.Omega.{arith}
use lib.ListN.{length, get_or, set, take, replicate, length-map, length-take, get_or-map}
use lib.Seq.{ext_get_or}
use Prim.Native.Nat.{ℕ, ◌+◌, ◌/◌, ◌≤◌, ◌<◌}
use Rattle.laws.specs.Lists.{keep, tab}
use Rattle.laws.specs.Loops.{pad_to}
use Rattle.laws.proofs.Lists.{take_more, map_snoc, keep_snoc_yes, keep_snoc_no, length-keep, length_snoc, length-tab, get_or-tab, pad_to-none, pad_to_snoc, get_or-pad_to}
use Rattle.rules.specs.Plan.{Plan, Invocation, no_invocation, period_of}
use Rattle.rules.specs.Traffic.{Run, run_of}
use Rattle.bus.specs.Senders.{by_number}
use Rattle.bus.proofs.Tables.{at-number}
use Rattle.bus.specs.declared.runs.Runs.{Runs}
use Rattle.bus.specs.Runs.{mode_period, task_worst, is_marked, runs_among, run_mode, run_task, run_period, run_worst, column, runs_laid, run_at, runs_seen}

column_snoc : (f : Run → ℕ) (rs : List Run) (r : Run) → column f (rs ++ (r ∷ [])) ≡ set (column f rs) (length rs) (f r)
unfolding column
column_snoc f rs r =
    ap (pad_to 64 0) (map_snoc f rs r) ∙ pad_to_snoc 64 0 (map f rs) (f r) ∙ ap (λ (n : ℕ). set (pad_to 64 0 (map f rs)) n (f r)) (length-map rs f)

pub record Laid (rs : List Run) (count : ℕ) (modes tasks periods worsts : List ℕ) : Type 0 where
  pub counted : count ≡ length rs
  pub mode : modes ≡ column run_mode rs
  pub task : tasks ≡ column run_task rs
  pub period : periods ≡ column run_period rs
  pub worst : worsts ≡ column run_worst rs

column-none : (f : Run → ℕ) → replicate 64 0 ≡ column f []
unfolding column
column-none f = sym (pad_to-none 64 0)

laid_snoc : (rs : List Run) (r : Run) (n : ℕ) (m a b c : List ℕ) → Laid rs n m a b c → Laid (rs ++ (r ∷ [])) (n + 1) (set m n r.mode) (set a n r.task) (set b n r.period) (set c n r.worst)
laid_snoc rs r n m a b c h =
    record {
      counted = ap (λ (k : ℕ). k + 1) h.counted ∙ sym (length_snoc rs r);
      mode = rw (h.mode, h.counted) (sym (column_snoc run_mode rs r));
      task = rw (h.task, h.counted) (sym (column_snoc run_task rs r));
      period = rw (h.period, h.counted) (sym (column_snoc run_period rs r));
      worst = rw (h.worst, h.counted) (sym (column_snoc run_worst rs r));
    }

module _ (q : Plan) (marks : List Bool) where
  pub laid_none : Laid (runs_among q marks []) 0 (replicate 64 0) (replicate 64 0) (replicate 64 0) (replicate 64 0)
  unfolding runs_among
  laid_none = record { counted = refl; mode = column-none run_mode; task = column-none run_task; period = column-none run_period; worst = column-none run_worst }

  -- no more runs than invocations
  pub among-few : (is : List Invocation) → length (runs_among q marks is) ≤ length is
  unfolding runs_among
  among-few is = rw (length-map (keep (is_marked marks) is) (run_of q)) (length-keep (is_marked marks) is)

  among_yes : (is : List Invocation) (i : ℕ) → i < length is → is_marked marks (get_or is i no_invocation) ≡ true → runs_among q marks (take (i + 1) is) ≡ runs_among q marks (take i is) ++ (run_of q (get_or is i no_invocation) ∷ [])
  unfolding runs_among
  among_yes is i w e =
      rw (take_more is i no_invocation w, keep_snoc_yes (is_marked marks) (take i is) (get_or is i no_invocation) e)
      (map_snoc (run_of q) (keep (is_marked marks) (take i is)) (get_or is i no_invocation))

  among_no : (is : List Invocation) (i : ℕ) → i < length is → is_marked marks (get_or is i no_invocation) ≡ false → runs_among q marks (take (i + 1) is) ≡ runs_among q marks (take i is)
  unfolding runs_among
  among_no is i w e = rw (take_more is i no_invocation w, keep_snoc_no (is_marked marks) (take i is) (get_or is i no_invocation) e)

  module _ (is : List Invocation) (i n : ℕ) (m a b c : List ℕ) (w : i < length is) (h : Laid (runs_among q marks (take i is)) n m a b c) where
    pub laid-few : n ≤ i
    laid-few = let l : length (runs_among q marks (take i is)) ≤ length (take i is) = among-few (take i is) in omega (arith, h.counted, length-take i is)

    pub laid_more : {x : Invocation} {u t d v : ℕ} → get_or is i no_invocation ≡ x → is_marked marks x ≡ true → u ≡ x.mode → t ≡ x.task → d ≡ period_of q x → v ≡ task_worst q x.task → Laid (runs_among q marks (take (i + 1) is)) (n + 1) (set m n u) (set a n t) (set b n d) (set c n v)
    unfolding task_worst run_of
    laid_more {x = x} e y o p r s =
        let f : runs_among q marks (take (i + 1) is) ≡ runs_among q marks (take i is) ++ (run_of q x ∷ []) = rw e at (among_yes is i w (rw e y)) in
        rw (f, o, p, r, s) (laid_snoc (runs_among q marks (take i is)) (run_of q x) n m a b c h)

    pub laid_kept : {x : Invocation} → get_or is i no_invocation ≡ x → is_marked marks x ≡ false → Laid (runs_among q marks (take (i + 1) is)) n m a b c
    laid_kept e y = rw (among_no is i w (rw e y)) h

pub laid-is : (rs : List Run) (r : Runs) → Laid rs r.count r.modes r.tasks r.periods r.worsts → r ≡ runs_laid rs
unfolding runs_laid
laid-is rs r h = rw (← h.counted, ← h.mode, ← h.task, ← h.period, ← h.worst)

-- ---- the struct stands for what was laid

column-at : (f : Run → ℕ) (z : Run) (rs : List Run) (k : ℕ) → f z ≡ 0 → length rs ≤ 64 → k < length rs → get_or (column f rs) k 0 ≡ f (get_or rs k z)
unfolding column
column-at f z rs k e n w =
    get_or-pad_to 64 0 (map f rs) k (omega arith) ∙ ap (λ (d : ℕ). get_or (map f rs) k d) (sym e) ∙ get_or-map f rs k z

abbrev pub no_run : Run
no_run = record { mode = 0; task = 0; period = 0; worst = 0 }

pub laid-seen : (rs : List Run) → length rs ≤ 64 → runs_seen (runs_laid rs) ≡ rs
unfolding runs_seen runs_laid run_at
laid-seen rs w =
    ext_get_or no_run (tab at 0 (length rs)) rs (length-tab at 0 (length rs)) (λ k h. here k (rw (length-tab at 0 (length rs)) at h))
  where
    at : ℕ → Run
    at = run_at (runs_laid rs)

    here : (k : ℕ) → k < length rs → get_or (tab at 0 (length rs)) k no_run ≡ get_or rs k no_run
    here k h =
        get_or-tab at 0 (length rs) k no_run h
        ∙ rw (zero-add k, column-at run_mode no_run rs k refl w h, column-at run_task no_run rs k refl w h, column-at run_period no_run rs k refl w h, column-at run_worst no_run rs k refl w h)

-- ---- an invocation's numbers, read off tables

module _ (x : Invocation) where
  pub mark_is : (marks : List Bool) {b : Bool} {t : ℕ} → t ≡ x.task → get_or marks t false ≡ b → is_marked marks x ≡ b
  unfolding is_marked
  mark_is marks s h = rw (← s) h

module _ (q : Plan) (x : Invocation) where
  pub period-is : {modes : List ℕ} {d : ℕ} (m : ℕ) → modes ≡ by_number (mode_period q) → m < 256 → m ≡ x.mode → d ≡ get_or modes m 0 / x.rate → d ≡ period_of q x
  unfolding period_of mode_period
  period-is m e w s h = h ∙ rw (e, at-number (mode_period q) m 0 w, s)

  pub worst-is : {times : List ℕ} (t : ℕ) → times ≡ by_number (task_worst q) → t < 256 → t ≡ x.task → get_or times t 0 ≡ task_worst q x.task
  worst-is t e w s = rw (e, at-number (task_worst q) t 0 w, s)
