-- Arrays of what a station keeps, filled place by place.
use mathlib.Core.Path.{◌≡◌, refl, ap, ◌∙◌}
use mathlib.Core.Bool.{Bool, true, false, cond, ◌&&◌}
use mathlib.Core.List.{List, [], ◌∷◌}
use native.Mathlib.Omega.{arith}
use borrow.Author.Tests.{eqb-true, eq-eqb}
use lib.Dec.{eqb, lit<}
use lib.ListN.{length, get_or, set, drop, replicate}
use lib.Seq.{drop-length, drop-cons}
use Prim.Native.Nat.{ℕ, suc, ◌+◌, ◌-◌, ◌*◌, ◌/◌, ◌%◌, ◌≤◌, ◌<◌}
use Rattle.laws.specs.Lists.{tab}
use Rattle.laws.proofs.Bus.{table_at, table_alike, table_filled, table-stored}
use Rattle.laws.proofs.Members.{all_get_d, all-get_or-or, all_weaker}
use Rattle.laws.proofs.Turns.{Filled, filled-end}
use Rattle.rules.specs.Plan.{Plan, Task, Invocation, no_task, no_invocation, the_task, the_mode, the_invocation, period_of}
use Rattle.rules.specs.Playing.{is_run, period_among}
use Rattle.rules.proofs.PlanKept.{PlanKept}
use Rattle.plan.specs.declared.Invocation as memory
use Rattle.plan.specs.declared.Mode as modes
use Rattle.plan.specs.Memory.{invocation_laid, invocation_seen, mode_laid}
use Rattle.bus.specs.Senders.{by_number}
use Rattle.keeping.specs.Keeping.{run_among, runs_among, runs_of}

-- an array that was filled to its end
pub filled-all : {A : Type 0} (n : ℕ) (z : A) {f : ℕ → A} {i : ℕ} {a : List A} → Filled (replicate n z) f i a → i ≤ n → n ≤ i → a ≡ tab f 0 n
filled-all n z {f} t h w =
    filled-end t h w ∙ table_filled n f z n (omega arith) (λ k u v. absurd (omega arith))

-- a table by number, read at a number
pub by_number-at : {A : Type 0} (f : ℕ → A) {l : List A} (k : ℕ) (d : A) → l ≡ by_number f → k < 256 → get_or l k d ≡ f k
unfolding by_number
by_number-at f k d e w = rw e (table_at 256 f k d w)

-- the size of a message is a byte
pub size_small : (p : Plan) → PlanKept p → (t size : ℕ) → size ≡ (the_task p t).size → size < 256
unfolding the_task
size_small p kept t size e =
    rw e
    (all-get_or-or {P = λ (x : Task). x.size < 256} no_task
    (all_weaker (λ x h. let m : x.size ≤ 8 = h.size.most in omega arith) kept.tasks) (lit< tt) t)

-- ---- the periods by mode and task

-- Of these invocations the last is stored at its own place, over what those behind it left.
pub run-stored : (p : Plan) (x : Invocation) (is : List Invocation) (v : ℕ) → x.mode < 32 → x.task < 32 → v ≡ period_of p x
    → set (runs_among p is) (x.mode * 32 + x.task) v ≡ runs_among p (x ∷ is)
unfolding runs_among run_among period_among is_run
run-stored p x is v μ t e =
    table-stored 1024 (run_among p is) (run_among p (x ∷ is)) (x.mode * 32 + x.task) v
    (λ j other. elsewhere j (eqb x.mode (j / 32)) (eqb x.task (j % 32)) refl refl other)
    (rw (place-mode, place-task, eq-eqb x.mode x.mode refl, eq-eqb x.task x.task refl) e)
  where
    place-mode : (x.mode * 32 + x.task) / 32 ≡ x.mode
    place-mode = omega arith

    place-task : (x.mode * 32 + x.task) % 32 ≡ x.task
    place-task = omega arith

    elsewhere : (j : ℕ) (a b : Bool) → eqb x.mode (j / 32) ≡ a → eqb x.task (j % 32) ≡ b → (j ≡ x.mode * 32 + x.task → ⊥)
        → cond (a && b) (period_of p x) (period_among p is (j / 32) (j % 32)) ≡ period_among p is (j / 32) (j % 32)
    elsewhere j true true h w other =
        let m : x.mode ≡ j / 32 = eqb-true x.mode (j / 32) h in
        let k : x.task ≡ j % 32 = eqb-true x.task (j % 32) w in
        absurd (other (omega arith))
    elsewhere j true false h w other = refl
    elsewhere j false b h w other = refl

-- an invocation of a plan that was read: its place is one of the 1,024, and its rate is not 0
pub record Names (x : memory.Invocation) : Type 0 where
  pub mode : x.mode.0 < 32
  pub task : x.task.0 < 32
  pub rate : 0 < x.rate

pub names : (p : Plan) → PlanKept p → (k : ℕ) → k < length p.invocations → (x : memory.Invocation) → x ≡ invocation_laid (the_invocation p k) → Names x
unfolding the_invocation invocation_laid
names p kept k w x e =
    let i = all_get_d no_invocation kept.invocations k w in
    let modes : length p.modes ≤ 32 = kept.mode_count.most in
    let tasks : length p.tasks ≤ 32 = kept.task_count.most in
    rw e
    (record {
      mode = omega (arith, i.mode);
      task = omega (arith, i.task);
      rate = omega (arith, i.rate.least);
    })

-- the periods of the invocations from `left` on are stored
pub record Stored (p : Plan) (left : ℕ) (runs : List ℕ) : Type 0 where
  pub within : left ≤ length p.invocations
  pub says : runs ≡ runs_among p (drop left p.invocations)

pub stored-none : (p : Plan) {n : ℕ} → n ≡ length p.invocations → Stored p n (replicate 1024 0)
unfolding runs_among run_among period_among
stored-none p e =
    record {
      within = omega arith;
      says = rw (e, drop-length p.invocations) (table_alike 1024 (run_among p []) 0 (λ k. refl));
    }

pub stored_turn : (p : Plan) {left : ℕ} {runs : List ℕ} (x : memory.Invocation) {y : modes.Mode} {m t : ℕ} → PlanKept p → Stored p left runs
    → 0 < left → x ≡ invocation_laid (the_invocation p (left - 1)) → y ≡ mode_laid (the_mode p x.mode.0) → m ≡ x.mode.0 → t ≡ x.task.0
    → Stored p (left - 1) (set runs (m * 32 + t) (y.period.0 / x.rate))
unfolding the_invocation invocation_laid invocation_seen mode_laid period_of
stored_turn p {left} {runs} x kept s w e h mode task =
    let inside : left - 1 < length p.invocations = omega (arith, s.within) in
    let n = names p kept (left - 1) inside x e in
    let next : suc (left - 1) ≡ left = omega arith in
    record {
      within = omega (arith, s.within);
      says =
          rw (s.says, drop-cons p.invocations (left - 1) no_invocation inside, next, mode, task, h)
          (run-stored p (invocation_seen x) (drop left p.invocations) ((the_mode p x.mode.0).period / x.rate) n.mode n.task refl
          ∙ ap (λ (z : memory.Invocation). runs_among p (invocation_seen z ∷ drop left p.invocations)) e);
    }

pub stored-all : (p : Plan) {left : ℕ} {runs : List ℕ} → Stored p left runs → left ≤ 0 → runs ≡ runs_of p
unfolding runs_of
stored-all p {left} s w = let e : left ≡ 0 = omega arith in s.says ∙ ap (λ k. runs_among p (drop k p.invocations)) e
