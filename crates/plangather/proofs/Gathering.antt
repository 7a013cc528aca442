-- A plan that is gathered record by record is the plan of the records: over lists, then over a file that the record reader walks.
use mathlib.Core.Path.{◌≡◌, refl, sym, ap, ◌∙◌, subst}
use mathlib.Core.Bool.{Bool, true, false, ◌&&◌, ◌||◌}
use mathlib.Core.Logic.{◌⊎◌, inl, inr}
use mathlib.Core.List.{List, [], ◌∷◌, ◌++◌, map, append_assoc}
use native.Mathlib.Omega.{arith}
use lib.Dec.{eqb, leb, ltb}
use lib.ListN.{length, get_or, set, drop, length-map}
use borrow.Author.Tests.{ne_eqb, eqb-true, leb-true}
use Prim.Native.Nat.{ℕ, zero, suc, ◌+◌, ◌-◌, ◌≤◌}
use Rattle.laws.specs.Res.{Res, ok, refuse}
use Rattle.laws.specs.Lists.{keep}
use Rattle.laws.specs.Loops.{pad_to}
use Rattle.laws.proofs.Lists.{keep_snoc_yes, keep_snoc_no, map_snoc, length_snoc, pad_to_snoc, both_left, both_right, true-false}
use Rattle.laws.proofs.Res.{refuse≢ok, ok_injective}
use Rattle.laws.proofs.Tests.{by_or, by_eq}
use Rattle.rules.specs.Records.{Rec, fields, body_length, decoded, record_of, is_bus, plan_follows, before, records, known}
use Rattle.rules.specs.Plan as rules
use Rattle.records.specs.Reader.{next_at, either, wrong_at}
use Rattle.records.specs.declared.Sort.TheVariants.{Plan}
use Rattle.records.specs.declared.Step.{Step}
use Rattle.records.specs.declared.Step.TheVariants.{Record, End, Wrong}
use Rattle.records.proofs.Steps.{from, onward, one-step, Found, found}
use Rattle.plan.specs.declared.Plan as memory
use Rattle.plan.specs.Memory.{lay_out, empty_plan, no_plan, module_laid, mode_laid, task_laid, invocation_laid, connection_laid, count_seen}
use Rattle.plangather.specs.Gather.{one_more, with_bus, with_nodes, with_module, with_mode, with_task, with_invocation, with_connection, with_record, with_records}

-- ---- over lists

-- the kinds of a plan's things
pub data Thing : ℕ → Type 0 where
  a-module : Thing 3
  a-mode : Thing 4
  a-task : Thing 5
  an_invocation : Thing 6
  a-connection : Thing 7

abbrev pub rec : ℕ → List ℕ → Rec
rec k b = record { kind = k; numbers = b }

-- records of things alone
pub data Things : List Rec → Type 0 where
  none : Things []
  more : {k : ℕ} (b : List ℕ) {rs : List Rec} → Thing k → Things rs → Things (rec k b ∷ rs)

-- the two kinds of bus
pub data ABus : ℕ → Type 0 where
  plain : ABus 1
  framed : ABus 9

-- the records of a plan (rule 2.5): a bus, the number of nodes, then things
pub data Planned : List Rec → Type 0 where
  planned : {k : ℕ} → ABus k → (b n : List ℕ) {rs : List Rec} → Things rs → Planned (rec k b ∷ rec 2 n ∷ rs)

module _ (k : ℕ) (rs : List Rec) (r : Rec) where
  thing_more : rules.is_kind k r ≡ true → rules.things k (rs ++ (r ∷ [])) ≡ rules.things k rs ++ (r.numbers ∷ [])
  unfolding rules.things
  thing_more e = rw (keep_snoc_yes (rules.is_kind k) rs r e) (map_snoc rules.numbers_of (keep (rules.is_kind k) rs) r)

  thing-same : rules.is_kind k r ≡ false → rules.things k (rs ++ (r ∷ [])) ≡ rules.things k rs
  unfolding rules.things
  thing-same e = ap (map rules.numbers_of) (keep_snoc_no (rules.is_kind k) rs r e)

bus-same : (rs : List Rec) (r : Rec) → rules.is_bus_record r ≡ false → rules.the_bus (rs ++ (r ∷ [])) ≡ rules.the_bus rs
unfolding rules.the_bus
bus-same rs r e = rw (keep_snoc_no rules.is_bus_record rs r e)

-- one thing more in an array filled up
padded_more : {A B : Type 0} (n : ℕ) (z : B) (f : A → B) (l : List A) (x : A)
    → pad_to n z (map f (l ++ (x ∷ []))) ≡ set (pad_to n z (map f l)) (length l) (f x)
padded_more n z f l x = rw (map_snoc f l x, pad_to_snoc n z (map f l) (f x), length-map l f)

module_more : (rs : List Rec) (b : List ℕ)
    → lay_out (rules.plan_of (rs ++ (rec 3 b ∷ []))) ≡ with_record (lay_out (rules.plan_of rs)) (rec 3 b)
unfolding lay_out rules.plan_of rules.only rules.is_kind rules.is_bus_record is_bus with_record with_module one_more count_seen
module_more rs b =
    rw (
      bus-same rs (rec 3 b) refl,
      thing-same 2 rs (rec 3 b) refl,
      thing_more 3 rs (rec 3 b) refl,
      thing-same 4 rs (rec 3 b) refl,
      thing-same 5 rs (rec 3 b) refl,
      thing-same 6 rs (rec 3 b) refl,
      thing-same 7 rs (rec 3 b) refl,
      map_snoc rules.module_of (rules.things 3 rs) b,
      padded_more 16 (module_laid 0) module_laid (map rules.module_of (rules.things 3 rs)) (rules.module_of b),
      length_snoc (map rules.module_of (rules.things 3 rs)) (rules.module_of b),
    )

mode_more : (rs : List Rec) (b : List ℕ)
    → lay_out (rules.plan_of (rs ++ (rec 4 b ∷ []))) ≡ with_record (lay_out (rules.plan_of rs)) (rec 4 b)
unfolding lay_out rules.plan_of rules.only rules.is_kind rules.is_bus_record is_bus with_record with_mode one_more count_seen
mode_more rs b =
    rw (
      bus-same rs (rec 4 b) refl,
      thing-same 2 rs (rec 4 b) refl,
      thing-same 3 rs (rec 4 b) refl,
      thing_more 4 rs (rec 4 b) refl,
      thing-same 5 rs (rec 4 b) refl,
      thing-same 6 rs (rec 4 b) refl,
      thing-same 7 rs (rec 4 b) refl,
      map_snoc rules.mode_of (rules.things 4 rs) b,
      padded_more 32 (mode_laid rules.no_mode) mode_laid (map rules.mode_of (rules.things 4 rs)) (rules.mode_of b),
      length_snoc (map rules.mode_of (rules.things 4 rs)) (rules.mode_of b),
    )

task_more : (rs : List Rec) (b : List ℕ)
    → lay_out (rules.plan_of (rs ++ (rec 5 b ∷ []))) ≡ with_record (lay_out (rules.plan_of rs)) (rec 5 b)
unfolding lay_out rules.plan_of rules.only rules.is_kind rules.is_bus_record is_bus with_record with_task one_more count_seen
task_more rs b =
    rw (
      bus-same rs (rec 5 b) refl,
      thing-same 2 rs (rec 5 b) refl,
      thing-same 3 rs (rec 5 b) refl,
      thing-same 4 rs (rec 5 b) refl,
      thing_more 5 rs (rec 5 b) refl,
      thing-same 6 rs (rec 5 b) refl,
      thing-same 7 rs (rec 5 b) refl,
      map_snoc rules.task_of (rules.things 5 rs) b,
      padded_more 32 (task_laid rules.no_task) task_laid (map rules.task_of (rules.things 5 rs)) (rules.task_of b),
      length_snoc (map rules.task_of (rules.things 5 rs)) (rules.task_of b),
    )

invocation_more : (rs : List Rec) (b : List ℕ)
    → lay_out (rules.plan_of (rs ++ (rec 6 b ∷ []))) ≡ with_record (lay_out (rules.plan_of rs)) (rec 6 b)
unfolding lay_out rules.plan_of rules.only rules.is_kind rules.is_bus_record is_bus with_record with_invocation one_more count_seen
invocation_more rs b =
    rw (
      bus-same rs (rec 6 b) refl,
      thing-same 2 rs (rec 6 b) refl,
      thing-same 3 rs (rec 6 b) refl,
      thing-same 4 rs (rec 6 b) refl,
      thing-same 5 rs (rec 6 b) refl,
      thing_more 6 rs (rec 6 b) refl,
      thing-same 7 rs (rec 6 b) refl,
      map_snoc rules.invocation_of (rules.things 6 rs) b,
      padded_more 64 (invocation_laid rules.no_invocation) invocation_laid (map rules.invocation_of (rules.things 6 rs)) (rules.invocation_of b),
      length_snoc (map rules.invocation_of (rules.things 6 rs)) (rules.invocation_of b),
    )

connection_more : (rs : List Rec) (b : List ℕ)
    → lay_out (rules.plan_of (rs ++ (rec 7 b ∷ []))) ≡ with_record (lay_out (rules.plan_of rs)) (rec 7 b)
unfolding lay_out rules.plan_of rules.only rules.is_kind rules.is_bus_record is_bus with_record with_connection one_more count_seen
connection_more rs b =
    rw (
      bus-same rs (rec 7 b) refl,
      thing-same 2 rs (rec 7 b) refl,
      thing-same 3 rs (rec 7 b) refl,
      thing-same 4 rs (rec 7 b) refl,
      thing-same 5 rs (rec 7 b) refl,
      thing-same 6 rs (rec 7 b) refl,
      thing_more 7 rs (rec 7 b) refl,
      map_snoc rules.connection_of (rules.things 7 rs) b,
      padded_more 64 (connection_laid rules.no_connection) connection_laid (map rules.connection_of (rules.things 7 rs)) (rules.connection_of b),
      length_snoc (map rules.connection_of (rules.things 7 rs)) (rules.connection_of b),
    )

one_more_lem : {k : ℕ} (rs : List Rec) (b : List ℕ) → Thing k
    → lay_out (rules.plan_of (rs ++ (rec k b ∷ []))) ≡ with_record (lay_out (rules.plan_of rs)) (rec k b)
one_more_lem rs b a-module = module_more rs b
one_more_lem rs b a-mode = mode_more rs b
one_more_lem rs b a-task = task_more rs b
one_more_lem rs b an_invocation = invocation_more rs b
one_more_lem rs b a-connection = connection_more rs b

append-nothing : (l : List Rec) → l ++ [] ≡ l
append-nothing [] = refl
append-nothing (x ∷ l) = ap (λ (r : List Rec). x ∷ r) (append-nothing l)

things-gathered : {rs : List Rec} (done : List Rec) → Things rs
    → with_records (lay_out (rules.plan_of done)) rs ≡ lay_out (rules.plan_of (done ++ rs))
things-gathered done none = rw (append-nothing done)
things-gathered done (more {k} b {rs} t h) =
    rw (← one_more_lem done b t) (things-gathered (done ++ (rec k b ∷ [])) h ∙ rw (append_assoc done (rec k b ∷ []) rs))

begun : {k : ℕ} (b n : List ℕ) → ABus k
    → with_record (with_record empty_plan (rec k b)) (rec 2 n) ≡ lay_out (rules.plan_of (rec k b ∷ rec 2 n ∷ []))
unfolding empty_plan lay_out no_plan rules.plan_of rules.only rules.the_bus rules.things rules.is_kind rules.is_bus_record is_bus with_record with_bus with_nodes
begun b n plain = refl
begun b n framed = refl

-- Gathered from nothing, the records of a plan make that plan.
pub gathered-whole : {rs : List Rec} → Planned rs → with_records empty_plan rs ≡ lay_out (rules.plan_of rs)
gathered-whole (planned {k} bus b n {rs} h) =
    ap (λ (p : memory.Plan). with_records p rs) (begun b n bus) ∙ things-gathered (rec k b ∷ rec 2 n ∷ []) h

-- ---- over a file

thing : (k : ℕ) → 3 ≤ k → k ≤ 7 → Thing k
thing zero h w = absurd (omega arith)
thing (suc zero) h w = absurd (omega arith)
thing (suc (suc zero)) h w = absurd (omega arith)
thing (suc (suc (suc zero))) h w = a-module
thing (suc (suc (suc (suc zero)))) h w = a-mode
thing (suc (suc (suc (suc (suc zero))))) h w = a-task
thing (suc (suc (suc (suc (suc (suc zero)))))) h w = an_invocation
thing (suc (suc (suc (suc (suc (suc (suc zero))))))) h w = a-connection
thing (suc (suc (suc (suc (suc (suc (suc (suc k)))))))) h w = absurd (omega arith)

thing-between : {k : ℕ} → Thing k → (2 ≤ k) × (k ≤ 7)
thing-between a-module = (omega arith, omega arith)
thing-between a-mode = (omega arith, omega arith)
thing-between a-task = (omega arith, omega arith)
thing-between an_invocation = (omega arith, omega arith)
thing-between a-connection = (omega arith, omega arith)

a-bus : (kind : ℕ) → is_bus kind ≡ true → ABus kind
unfolding is_bus
a-bus kind e = by_kind ((by_or (by_eq kind 1) (by_eq kind 9)).says e)
  where
    by_kind : (kind ≡ 1) ⊎ (kind ≡ 9) → ABus kind
    by_kind (inl one) = subst ABus (sym one) plain
    by_kind (inr nine) = subst ABus (sym nine) framed

-- behind a bus stands the number of nodes, not the end
nodes_second : {previous : ℕ} (kind : ℕ) → ABus previous → plan_follows previous kind ≡ true → kind ≡ 2
unfolding plan_follows is_bus
nodes_second kind plain e = eqb-true kind 2 e
nodes_second kind framed e = eqb-true kind 2 e

module _ (previous kind : ℕ) (e : plan_follows previous kind ≡ true) where
  -- behind the number of nodes only things stand
  thing-behind : (2 ≤ previous) × (previous ≤ 7) → eqb kind 0 ≡ false → Thing kind
  unfolding plan_follows is_bus
  thing-behind h z =
      let other : (k : ℕ) → (previous ≡ k → ⊥) → eqb previous k ≡ false = ne_eqb previous in
      let low = h.0 in
      let high = h.1 in
      let a : (eqb kind 0 || (leb 3 kind && (leb previous kind && leb kind 7))) ≡ true
      = rw (other 0 (λ x. omega arith), other 1 (λ x. omega arith), other 9 (λ x. omega arith)) at e in
      let b : (leb 3 kind && (leb previous kind && leb kind 7)) ≡ true = rw z at a in
      let c : (leb previous kind && leb kind 7) ≡ true = both_right (leb 3 kind) (leb previous kind && leb kind 7) b in
      thing kind (leb-true 3 kind (both_left (leb 3 kind) (leb previous kind && leb kind 7) b))
      (leb-true kind 7 (both_right (leb previous kind) (leb kind 7) c))

before-ok : {C : Type 0} (order : ℕ → ℕ → Bool) (n : ℕ) (r : Rec) (w : Res (List Rec)) (rs : List Rec) → before order n r w ≡ ok rs
    → ((tail : List Rec) → w ≡ ok tail → rs ≡ r ∷ tail → C) → C
before-ok order n r (ok tail) rs e go = go tail refl (sym (ok_injective e))
before-ok order n r (refuse m p) rs e go = refuse≢ok e

module _ (s : List ℕ) where
  -- what the records from a place on are, if the step there and what follows it are of this shape
  by_step : (previous at : ℕ) (rs : List Rec) (P : List Rec → Type 0)
      → ((kind body next : ℕ) (tail : List Rec) → Found Plan s previous at kind body next → from Plan 1 s kind next ≡ ok tail → P (record_of kind (drop body s) ∷ tail))
      → (next_at Plan s previous at ≡ End → P [])
      → (step : Step) → next_at Plan s previous at ≡ step → onward Plan 1 s step ≡ ok rs → P rs
  by_step previous at rs P here end (Record kind body next) q e =
      before-ok plan_follows 1 (record_of kind (drop body s)) (from Plan 1 s kind next) rs e
      (λ tail w r. subst P (sym r) (here kind body next tail (found Plan s previous at kind body next q) w))
  by_step previous at rs P here end End q e = subst P (ok_injective e) (end q)
  by_step previous at rs P here end (Wrong place) q e = refuse≢ok e

  things-behind : (n previous at : ℕ) (rs : List Rec) → length s ≤ n + at → (2 ≤ previous) × (previous ≤ 7) → at ≤ length s
      → from Plan 1 s previous at ≡ ok rs → Things rs
  unfolding record_of
  things-behind zero previous at rs m h w e =
      by_step previous at rs Things (λ kind body next tail f r. absurd (omega (arith, f.fits, f.further))) (λ q. none)
      (next_at Plan s previous at) refl (sym (one-step Plan 1 s previous at w) ∙ e)
  things-behind (suc n) previous at rs m h w e =
      by_step previous at rs Things
      (λ kind body next tail f r.
      let t : Thing kind = thing-behind previous kind f.in_order h f.no_end in
      more (decoded (fields kind) (drop body s)) t
      (things-behind n kind next tail (omega (arith, f.fits, f.further)) (thing-between t) f.fits r))
      (λ q. none)
      (next_at Plan s previous at) refl (sym (one-step Plan 1 s previous at w) ∙ e)

  -- a file does not end in front of the bus, nor in front of the number of nodes
  ends_if : (previous at : ℕ) (inside allowed is_end last whole : Bool)
      → (known (get_or s at 0) && plan_follows previous (get_or s at 0)) ≡ allowed → eqb (get_or s at 0) 0 ≡ is_end
      → either inside
      (either allowed
      (either is_end (either last End (wrong_at (at + 1)))
      (either whole (Record (get_or s at 0) (at + 1) (at + 1 + body_length (get_or s at 0))) (wrong_at (length s))))
      (wrong_at at))
      (wrong_at (length s))
      ≡ End
      → plan_follows previous 0 ≡ true
  ends_if previous at true true true last whole a z e =
      rw (eqb-true (get_or s at 0) 0 z) at (both_right (known (get_or s at 0)) (plan_follows previous (get_or s at 0)) a)
  ends_if previous at true true false last true a z e = let n : ◌≡◌ {A = ℕ} 0 1 = cc in absurd (omega arith)
  ends_if previous at true true false last false a z e = let n : ◌≡◌ {A = ℕ} 0 1 = cc in absurd (omega arith)
  ends_if previous at true false is_end last whole a z e = let n : ◌≡◌ {A = ℕ} 0 1 = cc in absurd (omega arith)
  ends_if previous at false allowed is_end last whole a z e = let n : ◌≡◌ {A = ℕ} 0 1 = cc in absurd (omega arith)

  ends : (previous at : ℕ) → next_at Plan s previous at ≡ End → plan_follows previous 0 ≡ true
  unfolding next_at
  ends previous at e =
      ends_if previous at (ltb at (length s)) (known (get_or s at 0) && plan_follows previous (get_or s at 0)) (eqb (get_or s at 0) 0)
      (eqb (at + 1) (length s)) (leb (body_length (get_or s at 0)) (length s - (at + 1)))
      refl refl e

  nodes-behind : {k : ℕ} → ABus k → (b : List ℕ) (at : ℕ) (rs : List Rec) → at ≤ length s → from Plan 1 s k at ≡ ok rs → Planned (rec k b ∷ rs)
  unfolding record_of
  nodes-behind {k} bus b at rs w e =
      by_step k at rs (λ l. Planned (rec k b ∷ l))
      (λ kind body next tail f r.
      let two : kind ≡ 2 = nodes_second kind bus f.in_order in
      let t : Things tail = things-behind (length s) kind next tail (omega arith) (omega arith, omega arith) f.fits r in
      rw two (planned bus b (decoded (fields 2) (drop body s)) t))
      (λ q. let end : 0 ≡ 2 = nodes_second 0 bus (ends k at q) in absurd (omega arith))
      (next_at Plan s k at) refl (sym (one-step Plan 1 s k at w) ∙ e)

  -- The records of a plan: a bus, the number of nodes, then things.
  pub file_planned : (rs : List Rec) → records plan_follows 1 s ≡ ok rs → Planned rs
  unfolding record_of plan_follows is_bus records from
  file_planned rs e =
      by_step 0 0 rs Planned
      (λ kind body next tail f r. nodes-behind (a-bus kind f.in_order) (decoded (fields kind) (drop body s)) next tail f.fits r)
      (λ q. true-false (sym (ends 0 0 q)))
      (next_at Plan s 0 0) refl (sym (one-step Plan 1 s 0 0 (omega arith)) ∙ e)
