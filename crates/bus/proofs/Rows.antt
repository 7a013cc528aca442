-- The readers of a task as a row, and the rows of all tasks one behind another; and that what was laid is seen again.
use mathlib.Core.Path.{◌≡◌, refl, sym, ap, ap₂, ◌∙◌}
use mathlib.Core.Bool.{Bool, true, false, not, ◌&&◌, cond}
use mathlib.Core.List.{List, [], ◌∷◌, map, map-map}
use native.Mathlib.Nat.{zero-add}
use native.Mathlib.Omega.{arith}
use borrow.Author.Tests.{not-true, not-false}
use lib.ListN.{length, get_or, take, replicate, length-map}
use lib.Seq.{sets, ext_get_or}
use Prim.Native.Nat.{ℕ, ◌+◌, ◌*◌, ◌≤◌, ◌<◌}
use Rattle.laws.specs.Lists.{keep, any, joined, tab}
use Rattle.laws.specs.Loops.{stores, pad_to}
use Rattle.laws.proofs.Lists.{length-keep, length-pad_to, length-tab, get_or-tab, get_or-pad_to, take-pad_to, pad_to-none}
use Rattle.laws.proofs.Members.{All, empty, also, all_weaker, all_of_members, keep-nothing, none_passes}
use Rattle.laws.proofs.Laid.{tab-same}
use Rattle.laws.proofs.Bus.{table_filled}
use Rattle.laws.proofs.Rows.{get_d_rows, row_more, rows_all}
use Rattle.rules.specs.Plan.{Plan, Invocation, period_of}
use Rattle.rules.specs.Traffic.{Run, run_of}
use Rattle.rules.specs.Readers.{needs_all, leads_to, is_reader, is_thinned, readers_of}
use Rattle.rules.proofs.PlanKept.{PlanKept}
use Rattle.bus.specs.Senders.{by_number}
use Rattle.bus.specs.Runs.{run_period, column, runs_marked, runs_laid}
use Rattle.bus.specs.Readers.{reader_at, readers_seen, row_of, row_laid, readers_laid, is_full, needs_every, comes_from, is_producer, leads_from}
use Rattle.bus.specs.declared.runs.Runs.{Runs}
use Rattle.bus.specs.declared.readers.Row.{Row}
use Rattle.bus.specs.declared.readers.Readers.{Readers}
use Rattle.bus.proofs.Tables.{all_alike}
use Rattle.bus.proofs.Marked.{runs-marked}

-- ---- which tasks are needed in full

not-not : (b : Bool) → not (not b) ≡ b
not-not true = refl
not-not false = refl

module _ (q : Plan) where
  every_is : (b : Bool) → q.consumers ≡ b → (t : ℕ) → needs_every q t ≡ not (b && not (is_full q t))
  unfolding needs_every is_thinned is_full
  every_is b e t = ap (λ (b : Bool). not (b && not (any (needs_all q t) q.connections))) e

  pub in_full : q.consumers ≡ true → by_number (is_full q) ≡ by_number (needs_every q)
  unfolding by_number
  in_full e = tab-same (is_full q) (needs_every q) 0 256 (λ t a b. sym (every_is true e t ∙ not-not (is_full q t)))

  pub all_in_full : q.consumers ≡ false → replicate 256 true ≡ by_number (needs_every q)
  all_in_full e = all_alike (needs_every q) true (every_is false e)

-- ---- the row of a task

any_none : {A : Type 0} {p : A → Bool} {l : List A} → All (λ x. p x ≡ false) l → any p l ≡ false
any_none empty = refl
any_none (also e r) = rw (e, any_none r)

module _ (q : Plan) (t : ℕ) where
  abbrev pub consumers_periods : List ℕ
  consumers_periods = map (period_of q) (keep (is_reader q t) q.invocations)

  abbrev row_from : List Run → Row
  row_from rs = record { count = length rs; periods = row_of (map run_period rs) }

  row_from_lem : (l : List Invocation) → row_from (map (run_of q) l) ≡ row_laid (map (period_of q) l)
  unfolding row_laid run_of
  row_from_lem l = rw (length-map l (run_of q), length-map l (period_of q), map-map run_period (run_of q) l)

  pub row-marked : PlanKept q → {runs : Runs} (marks : List Bool) → runs ≡ runs_laid (runs_marked q marks) → marks ≡ by_number (leads_from q t)
      → ◌≡◌ {A = Row} (record { count = runs.count; periods = runs.periods }) (row_laid consumers_periods)
  unfolding runs_laid column is_reader leads_from
  row-marked kept marks e m =
      ap (λ (r : Runs). record { count = r.count; periods = r.periods }) e
      ∙ ap row_from (ap (runs_marked q) m ∙ runs-marked q kept (leads_from q t) (is_reader q t) (λ i. refl)) ∙ row_from_lem (keep (is_reader q t) q.invocations)

  module _ {full : Bool} (f : full ≡ needs_every q t) where
    pub every_tick-row : full ≡ true → readers_of q t ≡ 1 ∷ []
    unfolding readers_of needs_every
    every_tick-row e = rw (not-true (is_thinned q t) (sym f ∙ e))

    pub consumers-row : full ≡ false → readers_of q t ≡ consumers_periods
    unfolding readers_of needs_every
    consumers-row e = rw (not-false (is_thinned q t) (sym f ∙ e))

    no_reader : is_producer q t ≡ false → (i : Invocation) → is_reader q t i ≡ false
    unfolding is_producer comes_from is_reader leads_to
    no_reader h i = any_none (all_weaker (λ c e. rw e) (none_passes (comes_from t) q.connections h))

    pub nothing-row : full ≡ false → is_producer q t ≡ false → readers_of q t ≡ []
    nothing-row e h =
        consumers-row e ∙ ap (map (period_of q)) (keep-nothing (is_reader q t) (all_of_members q.invocations (λ i m. no_reader h i)))

-- ---- the rows of all tasks

-- the rows of the first tasks, zeros behind
unfoldable pub rows_of : (ℕ → List ℕ) → ℕ → List ℕ
rows_of readers n = pad_to 2048 0 (joined (tab (λ t. row_of (readers t)) 0 n))

module _ (q : Plan) (kept : PlanKept q) where
  few_in : (b : Bool) (l : List ℕ) → length l ≤ 64 → length (cond b l (1 ∷ [])) ≤ 64
  few_in true l h = h
  few_in false l h = omega arith

  pub few_readers : (t : ℕ) → length (readers_of q t) ≤ 64
  unfolding readers_of
  few_readers t =
      let l = keep (is_reader q t) q.invocations in
      few_in (is_thinned q t) (map (period_of q) l) (omega (arith, length-map l (period_of q), length-keep (is_reader q t) q.invocations, kept.invocation_count.most))

  pub rows_none : replicate 2048 0 ≡ rows_of (readers_of q) 0
  unfolding rows_of
  rows_none = sym (pad_to-none 2048 0)

  pub rows_turn : (t : ℕ) {row : Row} {before after : List ℕ} → t < 32 → row ≡ row_laid (readers_of q t) → before ≡ rows_of (readers_of q) t
      → after ≡ sets before (t * 64) (take row.count row.periods) → after ≡ rows_of (readers_of q) (t + 1)
  unfolding rows_of row_laid
  rows_turn t h r b a =
      a ∙ rw (r, b, take-pad_to 64 0 (readers_of q t) (few_readers t)) (row_more 2048 64 0 (readers_of q) t (few_readers t) (omega arith))

  pub rows_are : {counts periods : List ℕ} → counts ≡ stores (replicate 32 0) (λ t. length (readers_of q t)) 32 → periods ≡ rows_of (readers_of q) 32
      → ◌≡◌ {A = Readers} (record { counts = counts; periods = periods }) (readers_laid (readers_of q))
  unfolding rows_of readers_laid
  rows_are e f =
      ap₂ (λ (c : List ℕ) (u : List ℕ). record { counts = c; periods = u })
      (e ∙ table_filled 32 (λ t. length (readers_of q t)) 0 32 (omega arith) (λ k a b. absurd (omega arith)))
      (f ∙ rows_all 32 64 0 (readers_of q))

-- ---- what was laid is seen

pub readers-seen : (readers : ℕ → List ℕ) (t : ℕ) → length (readers t) ≤ 64 → t < 32 → readers_seen (readers_laid readers).counts (readers_laid readers).periods t ≡ readers t
unfolding readers_seen readers_laid reader_at
readers-seen readers t few h =
    ap (tab at 0) count ∙ ext_get_or 0 (tab at 0 (length (readers t))) (readers t) (length-tab at 0 (length (readers t))) (λ k w. here k (rw (length-tab at 0 (length (readers t))) at w))
  where
    at : ℕ → ℕ
    at = reader_at (readers_laid readers).periods t

    count : get_or (tab (λ t. length (readers t)) 0 32) t 0 ≡ length (readers t)
    count = get_or-tab (λ t. length (readers t)) 0 32 t 0 h ∙ ap (λ (k : ℕ). length (readers k)) (zero-add t)

    here : (k : ℕ) → k < length (readers t) → get_or (tab at 0 (length (readers t))) k 0 ≡ get_or (readers t) k 0
    here k w =
        get_or-tab at 0 (length (readers t)) k 0 w
        ∙ rw (zero-add k, get_d_rows (λ t. row_of (readers t)) 64 (λ t. length-pad_to 64 0 (readers t)) 0 32 t k 0 h (omega arith), zero-add t) (get_or-pad_to 64 0 (readers t) k (omega arith))

-- of a plan's readers, each task that has a place
pub plan_readers_seen : (p : Plan) → PlanKept p → (t : ℕ) → t < 32 → readers_seen (readers_laid (readers_of p)).counts (readers_laid (readers_of p)).periods t ≡ readers_of p t
plan_readers_seen p kept t h = readers-seen (readers_of p) t (few_readers p kept t) h
