-- Fair runs; the runs as they wait in a tree; and the messages of one place of the frames' order taken one after the other: the start,
-- a turn, the end.
use mathlib.Core.Path.{◌≡◌, sym, ap, ◌∙◌}
use mathlib.Core.Bool.{Bool, true, false, ◌&&◌}
use mathlib.Core.List.{List, [], ◌∷◌, map}
use mathlib.Core.Logic.{◌⊎◌, inl, inr}
use native.Mathlib.Nat.{zero-add, eq-or-lt_of_le}
use native.Mathlib.Omega.{arith}
use borrow.Author.Tests.{eq-eqb, eqb-true, ltb-true, leb-true, lt-ltb, le-ltb}
use lib.Dec.{eqb, ltb, leb}
use lib.ListN.{get_or, length, set, replicate, length-set, length-replicate, get_or-replicate}
use lib.Seq.{get_or-set_same, get_or-set_other}
use Prim.Native.Nat.{ℕ, zero, suc, ◌+◌, ◌-◌, ◌*◌, ◌%◌, ◌≤◌, ◌<◌, ◌∣◌, max}
use Rattle.laws.specs.Lists.{keep, all, tab, up_to}
use Rattle.laws.specs.Numbers.{least}
use Rattle.laws.proofs.Lists.{both_left, both_right, both, all_true, length-tab, length-keep, get_or-tab, tested, as_many, one_less}
use Rattle.laws.proofs.Members.{All, empty, also, all_weaker, all_member, keep-nothing, all-tab, member_tab}
use Rattle.laws.proofs.Orders.{le-or-lt}
use Rattle.laws.proofs.Divisors.{divides-true}
use Rattle.rules.specs.Traffic.{Run}
use Rattle.rules.specs.Direct.{read_after, is_end, deadline_after, place_of, is_due, due_at, release_for}
use Rattle.rules.proofs.Grid.{ends, latest}
use Rattle.rules.proofs.Direct.{Goes, is-after, after-least}
use Rattle.rules.proofs.ReadersGo.{ReadersGo}
use Rattle.tree.specs.Tree.{Grown, Raised}
use Rattle.frames.specs.Walk.{run_at, runs_in, is_fair, AreRead, Readable, latest_deadline, Ready, key_of, limit_of, Planted, Waits, Waiting, CellMet}
use Rattle.frames.proofs.Reading.{readable, read-within}
use Rattle.tree.proofs.Trees.{AtLeaf, root_under, root_leaf}

-- ---- fair runs

pub record Fair (task period worst : List ℕ) (cycle i : ℕ) : Type 0 where
  pub place : get_or task i 0 < 32
  pub positive : 0 < get_or period i 0
  pub within : get_or period i 0 ≤ cycle
  pub slow : get_or worst i 0 ≤ get_or period i 0

pub fair-run : (cycle : ℕ) (r : Run) → is_fair cycle r ≡ true → (r.task < 32) × (0 < r.period) × (r.period ≤ cycle) × (r.worst ≤ r.period)
unfolding is_fair
fair-run cycle r h =
    let a : (ltb r.task 32 && ltb 0 r.period) ≡ true = both_left (ltb r.task 32 && ltb 0 r.period) (leb r.period cycle && leb r.worst r.period) h in
    let b : (leb r.period cycle && leb r.worst r.period) ≡ true = both_right (ltb r.task 32 && ltb 0 r.period) (leb r.period cycle && leb r.worst r.period) h in (
      ltb-true r.task 32 (both_left (ltb r.task 32) (ltb 0 r.period) a),
      ltb-true 0 r.period (both_right (ltb r.task 32) (ltb 0 r.period) a),
      leb-true r.period cycle (both_left (leb r.period cycle) (leb r.worst r.period) b),
      leb-true r.worst r.period (both_right (leb r.period cycle) (leb r.worst r.period) b),
    )

pub run_goes : (readers : ℕ → List ℕ) (cycle : ℕ) (r : Run) → is_fair cycle r ≡ true → ReadersGo cycle (readers r.task) → Goes readers r
run_goes readers cycle r h g =
    let f = fair-run cycle r h in
    record { task = f.0; again = f.1; some = g.some; each = all_weaker (λ u k. k.0) g.each }

pub fair_go : (readers : ℕ → List ℕ) (cycle : ℕ) (rs : List Run) → all (is_fair cycle) rs ≡ true → AreRead readers cycle rs → All (Goes readers) rs
fair_go readers cycle [] h empty = empty
fair_go readers cycle (r ∷ rs) h (also g a) =
    also (run_goes readers cycle r (both_left (is_fair cycle r) (all (is_fair cycle) rs) h) g)
    (fair_go readers cycle rs (both_right (is_fair cycle r) (all (is_fair cycle) rs) h) a)

module _ (task period worst : List ℕ) where
  pub fair-at : (cycle n i : ℕ) → all (is_fair cycle) (runs_in task period worst n) ≡ true → i < n → Fair task period worst cycle i
  unfolding runs_in run_at
  fair-at cycle n i h w =
      let k : i < length (tab (run_at task period worst) 0 n) = rw (length-tab (run_at task period worst) 0 n) w in
      let e : get_or (tab (run_at task period worst) 0 n) i (run_at task period worst i) ≡ run_at task period worst i
      = get_or-tab (run_at task period worst) 0 n i (run_at task period worst i) w ∙ ap (run_at task period worst) (zero-add i) in
      let f = fair-run cycle (run_at task period worst i) (ap (is_fair cycle) (sym e) ∙ all_true (is_fair cycle) (tab (run_at task period worst) 0 n) (run_at task period worst i) i h k) in
      record { place = f.0; positive = f.1; within = f.2; slow = f.3 }

module _ (readers : ℕ → List ℕ) (task period worst : List ℕ) where
  -- ---- the greatest release of a place

  ends-here : (i d t : ℕ) → is_end readers d (run_at task period worst i) ≡ true → get_or task i 0 ≡ t
      → ends readers (run_at task period worst i) d t ≡ suc (d - get_or period i 0 + get_or worst i 0)
  unfolding run_at is_due release_for
  ends-here i d t h e = rw (h, eq-eqb (get_or task i 0) t e)

  latest_over : (d t lo n i : ℕ) → lo ≤ i → i < lo + n → ends readers (run_at task period worst i) d t ≤ latest readers (tab (run_at task period worst) lo n) d t
  latest_over d t lo zero i a b = absurd (omega arith)
  latest_over d t lo (suc n) i a b = which (latest_over d t (suc lo) n i) (eq-or-lt_of_le a)
    where
      which : (suc lo ≤ i → i < suc lo + n → ends readers (run_at task period worst i) d t ≤ latest readers (tab (run_at task period worst) (suc lo) n) d t)
          → (lo ≡ i) ⊎ (lo < i) → ends readers (run_at task period worst i) d t ≤ max (ends readers (run_at task period worst lo) d t) (latest readers (tab (run_at task period worst) (suc lo) n) d t)
      which go (inl e) = rw e (omega arith)
      which go (inr l) = let h : ends readers (run_at task period worst i) d t ≤ latest readers (tab (run_at task period worst) (suc lo) n) d t = go l (omega arith) in omega arith

  latest-under : (d t b lo n : ℕ) → ((i : ℕ) → lo ≤ i → i < lo + n → ends readers (run_at task period worst i) d t ≤ b) → latest readers (tab (run_at task period worst) lo n) d t ≤ b
  latest-under d t b lo zero h = omega arith
  latest-under d t b lo (suc n) h =
      let x : ends readers (run_at task period worst lo) d t ≤ b = h lo (omega arith) (omega arith) in
      let y : latest readers (tab (run_at task period worst) (suc lo) n) d t ≤ b = latest-under d t b (suc lo) n (λ i u v. h i (omega arith) (omega arith)) in
      omega arith

  -- ---- the first messages at the leaves

  module _ (runs size cycle : ℕ) where
    pub read_at : Ready readers task period worst runs size cycle → (i : ℕ) → i < runs → ReadersGo cycle (readers (get_or task i 0))
    unfolding runs_in run_at
    read_at r i h = all_member r.read (member_tab (run_at task period worst) 0 runs i (omega arith) (omega arith))

    pub goes_at : Ready readers task period worst runs size cycle → (i : ℕ) → i < runs → Goes readers (run_at task period worst i)
    unfolding run_at
    goes_at r i h =
        let f = fair-at task period worst cycle runs i r.fair h in
        let g = read_at r i h in
        record { task = f.place; again = f.positive; some = g.some; each = all_weaker (λ u k. k.0) g.each }

    pub readable_at : Ready readers task period worst runs size cycle → (i : ℕ) → i < runs → Readable (readers (get_or task i 0))
    readable_at r i h =
        let f = fair-at task period worst cycle runs i r.fair h in
        readable (omega (arith, f.positive, f.within)) r.short (read_at r i h)

    -- so far ahead a key does not wrap
    pub next-within : {d i x : ℕ} → Ready readers task period worst runs size cycle → d ≤ cycle → i < runs
        → x ≡ least (map (read_after (get_or period i 0) d) (readers (get_or task i 0))) → x ≤ latest_deadline
    next-within {d} {i} r l h e =
        let f = fair-at task period worst cycle runs i r.fair h in
        rw e (omega (arith, read-within cycle (get_or period i 0) d (read_at r i h) f.within l, r.short))

    pub record Planting (tree : List ℕ) (i : ℕ) : Type 0 where
      pub within : i ≤ runs
      pub places : length tree ≡ 128
      pub firsts : (j : ℕ) → j < i → get_or tree (size + j) 0 ≡ key_of (deadline_after readers 0 (run_at task period worst j)) (get_or task j 0) j
      pub rest : (k : ℕ) → size + i ≤ k → k < 128 → get_or tree k 0 ≡ limit_of cycle

    pub planting_none : (v : ℕ) → v ≡ limit_of cycle → Planting (replicate 128 v) 0
    planting_none v e =
        record {
          within = omega arith;
          places = length-replicate 128 v;
          firsts = λ j a. absurd (omega arith);
          rest = λ k a b. get_or-replicate 128 k v 0 b ∙ e;
        }

    pub planting_more : {tree : List ℕ} {i x v : ℕ} → Planting tree i → Ready readers task period worst runs size cycle → i < runs
        → x ≡ least (map (read_after (get_or period i 0) 0) (readers (get_or task i 0))) → v ≡ key_of x (get_or task i 0) i → Planting (set tree (size + i) v) (i + 1)
    unfolding deadline_after run_at
    planting_more {tree} {i} {x} {v} p r h ex ev =
        record {
          within = omega arith;
          places = length-set tree (size + i) v ∙ p.places;
          firsts = λ j a. which j (eq-or-lt_of_le (omega arith));
          rest = λ k a b. get_or-set_other tree (size + i) k v 0 (λ q. omega arith) ∙ p.rest k (omega arith) b;
        }
      where
        which : (j : ℕ) → (j ≡ i) ⊎ (j < i) → get_or (set tree (size + i) v) (size + j) 0 ≡ key_of (deadline_after readers 0 (run_at task period worst j)) (get_or task j 0) j
        which j (inl q) = rw q (get_or-set_same tree (size + i) v 0 (omega (arith, p.places, r.few, r.small)) ∙ rw ex at ev)
        which j (inr q) = get_or-set_other tree (size + i) (size + j) v 0 (λ u. omega arith) ∙ p.firsts j q

    pub planting_all : {tree : List ℕ} {i : ℕ} → Planting tree i → Ready readers task period worst runs size cycle → runs ≤ i → Planted readers task period worst runs size cycle tree
    planting_all p r h =
        record {
          places = p.places;
          firsts = λ j a. p.firsts j (omega arith);
          rest = λ k a b. p.rest (size + k) (omega (arith, p.within)) (omega (arith, r.small));
        }

    pub waiting-start : {old tree : List ℕ} → Ready readers task period worst runs size cycle → Planted readers task period worst runs size cycle old → Grown old size tree → Waiting readers task period worst runs size cycle 32 32 tree
    waiting-start {old} {tree} r p g =
        record {
          whole = g.whole;
          each = λ i h. each i h (goes_at r i h);
          rest = λ i a b. g.leaves (size + i) (omega arith) ∙ p.rest i a b;
        }
      where
        each : (i : ℕ) → i < runs → Goes readers (run_at task period worst i) → Waits readers task period worst 32 32 i (get_or tree (size + i) 0)
        each i h go =
            let a = is-after readers 0 (run_at task period worst i) go in
            record {
              next = deadline_after readers 0 (run_at task period worst i);
              is = g.leaves (size + i) (omega arith) ∙ p.firsts i h;
              end = a.0;
              reached = omega (arith, a.1);
              first = λ y e l. after-least readers 0 (run_at task period worst i) go y e (omega (arith, (fair-at task period worst cycle runs i r.fair h).place));
            }

    -- ---- the run at the root

    pub record AtRoot (tree : List ℕ) (root i : ℕ) : Type 0 where
      pub run : i < runs
      pub here : get_or tree (size + i) 0 ≡ root

    pub at_root : {lo hi : ℕ} {tree : List ℕ} {root i : ℕ} → Ready readers task period worst runs size cycle → Waiting readers task period worst runs size cycle lo hi tree
        → root ≡ get_or tree 1 0 → root < limit_of cycle → i ≡ root % 64 → AtRoot tree root i
    at_root {lo} {hi} {tree} {root} {i} r w e l q = which (le-or-lt runs leaf.place)
      where
        leaf : AtLeaf tree size (get_or tree 1 0)
        leaf = root_leaf w.whole r.some

        is : get_or tree (size + leaf.place) 0 ≡ root
        is = leaf.is ∙ sym e

        which : (runs ≤ leaf.place) ⊎ (leaf.place < runs) → AtRoot tree root i
        which (inl h) = let z : get_or tree (size + leaf.place) 0 ≡ limit_of cycle = w.rest leaf.place h leaf.within in absurd (omega (arith, is, z))
        which (inr h) =
            let v : get_or tree (size + leaf.place) 0 ≡ key_of (w.each leaf.place h).next (get_or task leaf.place 0) leaf.place = (w.each leaf.place h).is in
            let j : i ≡ leaf.place = omega (arith, is, v, q, leaf.within, r.small) in
            record { run = omega arith; here = rw j is }

    -- ---- the messages of one place

    -- a run whose message comes later has none at this place
    not-due : {lo hi i key : ℕ} (d t : ℕ) (w : Waits readers task period worst lo hi i key) → hi ≤ place_of d t → place_of d t < place_of w.next (get_or task i 0)
        → is_due readers d t (run_at task period worst i) ≡ false
    unfolding is_due run_at
    not-due {i = i} d t w h l = which (tested (is_end readers d (run_at task period worst i))) (tested (eqb (get_or task i 0) t))
      where
        which : (is_end readers d (run_at task period worst i) ≡ true) ⊎ (is_end readers d (run_at task period worst i) ≡ false)
            → (eqb (get_or task i 0) t ≡ true) ⊎ (eqb (get_or task i 0) t ≡ false)
            → (is_end readers d (run_at task period worst i) && eqb (get_or task i 0) t) ≡ false
        which (inl p) (inl q) =
            let e : get_or task i 0 ≡ t = eqb-true (get_or task i 0) t q in
            let n : w.next ≤ d = w.first d p (omega arith) in
            absurd (omega arith)
        which (inl p) (inr q) = rw (p, q)
        which (inr p) q = rw p

    none-ends : {lo hi i key : ℕ} (d t : ℕ) (w : Waits readers task period worst lo hi i key) → hi ≤ place_of d t → place_of d t < place_of w.next (get_or task i 0)
        → ends readers (run_at task period worst i) d t ≡ 0
    none-ends d t w h l = rw (not-due d t w h l)

    module _ (d t : ℕ) where
      -- the run's message at this place is still to be taken
      abbrev is_ahead : List ℕ → ℕ → Bool
      is_ahead tree i = ltb (get_or tree (size + i) 0) (suc (place_of d t) * 64)

      abbrev ahead : List ℕ → ℕ
      ahead tree = length (keep (is_ahead tree) (up_to runs))

      -- the messages that come before the root are taken
      pub record Taking (tree : List ℕ) (root best taken : ℕ) : Type 0 where
        pub waiting : Waiting readers task period worst runs size cycle (place_of d t) (suc (place_of d t)) tree
        pub root_is : root ≡ get_or tree 1 0
        pub counted : (i : ℕ) → i < runs → suc (place_of d t) * 64 ≤ get_or tree (size + i) 0 → ends readers (run_at task period worst i) d t ≤ best
        pub under : best ≤ latest readers (runs_in task period worst runs) d t
        pub so_far : taken + ahead tree ≡ length (due_at readers (runs_in task period worst runs) d t)

      -- a run has a message at this place exactly where it waits with it
      due_ahead : {tree : List ℕ} → Ready readers task period worst runs size cycle → Waiting readers task period worst runs size cycle (place_of d t) (place_of d t) tree → t < 32 → (i : ℕ) → i < runs
          → is_due readers d t (run_at task period worst i) ≡ is_ahead tree i
      unfolding is_due run_at
      due_ahead {tree} r w short i h = which (le-or-lt (suc (place_of d t) * 64) (get_or tree (size + i) 0))
        where
          v : get_or tree (size + i) 0 ≡ key_of (w.each i h).next (get_or task i 0) i
          v = (w.each i h).is

          which : (suc (place_of d t) * 64 ≤ get_or tree (size + i) 0) ⊎ (get_or tree (size + i) 0 < suc (place_of d t) * 64)
              → is_due readers d t (run_at task period worst i) ≡ ltb (get_or tree (size + i) 0) (suc (place_of d t) * 64)
          which (inl a) =
              not-due d t (w.each i h) (omega arith) (omega (arith, v, r.few, r.small))
              ∙ sym (le-ltb (get_or tree (size + i) 0) (suc (place_of d t) * 64) a)
          which (inr a) =
              let f = fair-at task period worst cycle runs i r.fair h in
              let c : place_of d t ≤ place_of (w.each i h).next (get_or task i 0) = (w.each i h).reached in
              let n : (w.each i h).next ≡ d = omega (arith, v, f.place) in
              let e : get_or task i 0 ≡ t = omega (arith, v, f.place) in
              both (rw n at (w.each i h).end) (eq-eqb (get_or task i 0) t e) ∙ sym (lt-ltb (get_or tree (size + i) 0) (suc (place_of d t) * 64) a)

      pub taking_start : {tree : List ℕ} {root : ℕ} → Ready readers task period worst runs size cycle → Waiting readers task period worst runs size cycle (place_of d t) (place_of d t) tree → t < 32 → root ≡ get_or tree 1 0 → Taking tree root 0 0
      unfolding runs_in due_at
      taking_start {tree} {root} r w short e =
          record {
            waiting = record { whole = w.whole; each = λ i h. later (w.each i h); rest = w.rest };
            root_is = e;
            counted = counted;
            under = omega arith;
            so_far = sym (as_many (run_at task period worst) (λ k. k) (is_due readers d t) (is_ahead tree) 0 runs (λ k a b. due_ahead r w short k (omega arith)) ∙ sym (zero-add (ahead tree)));
          }
        where
          later : {i key : ℕ} → Waits readers task period worst (place_of d t) (place_of d t) i key → Waits readers task period worst (place_of d t) (suc (place_of d t)) i key
          later v = record { next = v.next; is = v.is; end = v.end; reached = v.reached; first = λ y e h. v.first y e (omega arith) }

          counted : (i : ℕ) → i < runs → suc (place_of d t) * 64 ≤ get_or tree (size + i) 0 → ends readers (run_at task period worst i) d t ≤ 0
          counted i h l =
              let v : get_or tree (size + i) 0 ≡ key_of (w.each i h).next (get_or task i 0) i = (w.each i h).is in
              let z : ends readers (run_at task period worst i) d t ≡ 0 = none-ends d t (w.each i h) (omega arith) (omega (arith, v, r.few, r.small)) in
              omega arith

      -- no more are taken than there are runs
      pub taken-few : {tree : List ℕ} {root best taken : ℕ} → Taking tree root best taken → taken ≤ runs
      unfolding runs_in due_at
      taken-few g = omega (arith, g.so_far, length-keep (is_due readers d t) (tab (run_at task period worst) 0 runs), length-tab (run_at task period worst) 0 runs)

      -- the run at the root ends at this place
      pub record Ending (root i : ℕ) : Type 0 where
        pub run : i < runs
        pub key_is : root ≡ key_of d t i
        pub task_is : get_or task i 0 ≡ t
        pub end : is_end readers d (run_at task period worst i) ≡ true
        pub multiple : get_or period i 0 ∣ d
        pub fair : Fair task period worst cycle i

      module _ {tree : List ℕ} {root best taken i : ℕ} (r : Ready readers task period worst runs size cycle) (inside : d ≤ cycle) (short : t < 32) (g : Taking tree root best taken) (l : root < suc (place_of d t) * 64)
          (q : i ≡ root % 64) where
        found : AtRoot tree root i
        found = at_root r g.waiting g.root_is (omega arith) q

        waits : Waits readers task period worst (place_of d t) (suc (place_of d t)) i (get_or tree (size + i) 0)
        waits = g.waiting.each i found.run

        fair : Fair task period worst cycle i
        fair = fair-at task period worst cycle runs i r.fair found.run

        pub ending : Ending root i
        unfolding is_end run_at
        ending =
            let v : root ≡ key_of waits.next (get_or task i 0) i = sym found.here ∙ waits.is in
            let c : place_of d t ≤ place_of waits.next (get_or task i 0) = waits.reached in
            let s : get_or task i 0 < 32 = fair.place in
            let n : waits.next ≡ d = omega arith in
            let e : get_or task i 0 ≡ t = omega arith in
            record {
              run = found.run;
              key_is = rw (n, e) at v;
              task_is = e;
              end = rw n at waits.end;
              multiple = divides-true (get_or period i 0) d (both_left _ _ (rw n at waits.end));
              fair = fair;
            }

        pub next_readable : Readable (readers t)
        next_readable = rw ending.task_is at (readable_at r i found.run)

        pub next-short : {x : ℕ} → x ≡ least (map (read_after (get_or period i 0) d) (readers t)) → x ≤ latest_deadline
        next-short e = next-within r inside found.run (rw ending.task_is e)

        module _ {x key root' : ℕ} {tree' : List ℕ} (ex : x ≡ least (map (read_after (get_or period i 0) d) (readers t))) (ek : key ≡ key_of x t i)
            (u : Raised tree size (size + i) key tree' root') where
          next-is : x ≡ deadline_after readers d (run_at task period worst i)
          unfolding deadline_after run_at
          next-is = rw ending.task_is ex

          next-end : is_end readers x (run_at task period worst i) ≡ true
          next-end = rw next-is (is-after readers d (run_at task period worst i) (goes_at r i found.run)).0

          next-behind : d < x
          next-behind = rw next-is (is-after readers d (run_at task period worst i) (goes_at r i found.run)).1

          next-first : (y : ℕ) → is_end readers y (run_at task period worst i) ≡ true → d < y → x ≤ y
          next-first y e h = rw next-is (after-least readers d (run_at task period worst i) (goes_at r i found.run) y e h)

          leaf_here : get_or tree' (size + i) 0 ≡ key_of x t i
          leaf_here = u.leaves (size + i) (omega arith) ∙ get_or-set_same tree (size + i) key 0 (omega (arith, g.waiting.whole.places, found.run, r.few, r.small)) ∙ ek

          leaf_other : (k : ℕ) → (k ≡ i → ⊥) → get_or tree' (size + k) 0 ≡ get_or tree (size + k) 0
          leaf_other k n = u.leaves (size + k) (omega arith) ∙ get_or-set_other tree (size + i) (size + k) key 0 (λ e. n (omega arith))

          -- each turn goes on to a later message
          pub root_rises : root < root'
          root_rises = which (le-or-lt leaf.place i) (le-or-lt i leaf.place)
            where
              leaf : AtLeaf tree' size (get_or tree' 1 0)
              leaf = root_leaf u.whole r.some

              is : get_or tree' (size + leaf.place) 0 ≡ root'
              is = leaf.is ∙ sym u.root_is

              other : (leaf.place ≡ i → ⊥) → root < root'
              other n = below (le-or-lt runs leaf.place)
                where
                  o : get_or tree (size + leaf.place) 0 ≡ root'
                  o = sym (leaf_other leaf.place n) ∙ is

                  v : root ≤ get_or tree (size + leaf.place) 0
                  v = rw g.root_is (root_under g.waiting.whole leaf.place leaf.within)

                  below : (runs ≤ leaf.place) ⊎ (leaf.place < runs) → root < root'
                  below (inl h) = let z : get_or tree (size + leaf.place) 0 ≡ limit_of cycle = g.waiting.rest leaf.place h leaf.within in omega (arith, o, z, l, inside, short)
                  below (inr h) = less (eq-or-lt_of_le v)
                    where
                      less : (root ≡ get_or tree (size + leaf.place) 0) ⊎ (root < get_or tree (size + leaf.place) 0) → root < root'
                      less (inl e) = absurd (n (omega (arith, (g.waiting.each leaf.place h).is, ending.key_is, e, leaf.within, found.run, r.few, r.small)))
                      less (inr w) = omega (arith, o)

              which : (leaf.place ≤ i) ⊎ (i < leaf.place) → (i ≤ leaf.place) ⊎ (leaf.place < i) → root < root'
              which (inl a) (inl b) =
                  let e : leaf.place ≡ i = omega arith in
                  let y : get_or tree' (size + i) 0 ≡ root' = rw e at is in
                  omega (arith, y, leaf_here, ending.key_is, next-behind)
              which (inl a) (inr b) = other (λ e. omega arith)
              which (inr a) (inl b) = other (λ e. omega arith)
              which (inr a) (inr b) = other (λ e. omega arith)

          one-taken : ahead tree ≡ suc (ahead tree')
          one-taken =
              one_less (is_ahead tree) (is_ahead tree') i 0 runs (omega arith) (omega (arith, found.run))
              (lt-ltb (get_or tree (size + i) 0) (suc (place_of d t) * 64) (omega (arith, found.here)))
              (le-ltb (get_or tree' (size + i) 0) (suc (place_of d t) * 64) (omega (arith, leaf_here, next-behind, short)))
              (λ k n. ap (λ (x : ℕ). ltb x (suc (place_of d t) * 64)) (sym (leaf_other k n)))

          pub taking_turn : {b best' : ℕ} → b ≡ suc (d - get_or period i 0 + get_or worst i 0) → best' ≡ max best b → Taking tree' root' best' (taken + 1)
          unfolding runs_in
          taking_turn {b} {best'} eb em =
              record {
                waiting =
                    record {
                      whole = u.whole;
                      each = λ k h. each k h (le-or-lt k i) (le-or-lt i k);
                      rest = λ k h a. leaf_other k (λ e. omega (arith, found.run)) ∙ g.waiting.rest k h a;
                    };
                root_is = u.root_is;
                counted = λ k h a. counted k h a (le-or-lt k i) (le-or-lt i k);
                under = omega (arith, g.under, top, eb, em, is-end);
                so_far = omega (arith, g.so_far, one-taken);
              }
            where
              is-end : ends readers (run_at task period worst i) d t ≡ suc (d - get_or period i 0 + get_or worst i 0)
              is-end = ends-here i d t ending.end ending.task_is

              top : ends readers (run_at task period worst i) d t ≤ latest readers (tab (run_at task period worst) 0 runs) d t
              top = latest_over d t 0 runs i (omega arith) (omega (arith, found.run))

              again : Waits readers task period worst (place_of d t) (suc (place_of d t)) i (get_or tree' (size + i) 0)
              again =
                  record {
                    next = x;
                    is = omega (arith, leaf_here, ending.task_is);
                    end = next-end;
                    reached = omega (arith, ending.task_is, next-behind, short);
                    first = λ y e h. next-first y e (omega (arith, ending.task_is));
                  }

              as_before : (k : ℕ) → k < runs → (k ≡ i → ⊥) → Waits readers task period worst (place_of d t) (suc (place_of d t)) k (get_or tree' (size + k) 0)
              as_before k h n = rw (leaf_other k n) (g.waiting.each k h)

              each : (k : ℕ) → k < runs → (k ≤ i) ⊎ (i < k) → (i ≤ k) ⊎ (k < i) → Waits readers task period worst (place_of d t) (suc (place_of d t)) k (get_or tree' (size + k) 0)
              each k h (inl a) (inl c) = let e : k ≡ i = omega arith in rw e again
              each k h (inl a) (inr c) = as_before k h (λ e. omega arith)
              each k h (inr a) c = as_before k h (λ e. omega arith)

              still : (k : ℕ) → k < runs → suc (place_of d t) * 64 ≤ get_or tree' (size + k) 0 → (k ≡ i → ⊥) → ends readers (run_at task period worst k) d t ≤ best'
              still k h a n =
                  let z : ends readers (run_at task period worst k) d t ≤ best = g.counted k h (rw (leaf_other k n) at a) in
                  omega arith

              counted : (k : ℕ) → k < runs → suc (place_of d t) * 64 ≤ get_or tree' (size + k) 0 → (k ≤ i) ⊎ (i < k) → (i ≤ k) ⊎ (k < i) → ends readers (run_at task period worst k) d t ≤ best'
              counted k h a (inl x) (inl y) = let e : k ≡ i = omega arith in rw e (omega (arith, is-end, eb, em))
              counted k h a (inl x) (inr y) = still k h a (λ e. omega arith)
              counted k h a (inr x) y = still k h a (λ e. omega arith)

      pub taking_end : {tree : List ℕ} {root best taken : ℕ} → Ready readers task period worst runs size cycle → Taking tree root best taken → suc (place_of d t) * 64 ≤ root
          → CellMet readers task period worst runs size cycle d t tree best root taken
      unfolding runs_in
      taking_end {tree} {root} {best} r g l =
          record {
            is = omega (arith, g.under, all-counted);
            took = omega (arith, g.so_far, none_ahead);
            waiting = record { whole = g.waiting.whole; each = each; rest = g.waiting.rest };
            root_is = g.root_is;
            past = l;
          }
        where
          later : (i : ℕ) → i < runs → suc (place_of d t) * 64 ≤ get_or tree (size + i) 0
          later i h =
              let u : get_or tree 1 0 ≤ get_or tree (size + i) 0 = root_under g.waiting.whole i (omega (arith, r.few)) in
              omega (arith, u, g.root_is)

          none_ahead : ahead tree ≡ 0
          none_ahead =
              ap length
              (keep-nothing (is_ahead tree) (all-tab (λ k. k) 0 runs (λ k a b. le-ltb (get_or tree (size + k) 0) (suc (place_of d t) * 64) (later k (omega arith)))))

          all-counted : latest readers (tab (run_at task period worst) 0 runs) d t ≤ best
          all-counted = latest-under d t best 0 runs (λ i a b. g.counted i (omega arith) (later i (omega arith)))

          each : (i : ℕ) → i < runs → Waits readers task period worst (suc (place_of d t)) (suc (place_of d t)) i (get_or tree (size + i) 0)
          each i h =
              let w = g.waiting.each i h in
              let v : get_or tree (size + i) 0 ≡ key_of w.next (get_or task i 0) i = w.is in
              let u : suc (place_of d t) * 64 ≤ get_or tree (size + i) 0 = later i h in
              record { next = w.next; is = w.is; end = w.end; reached = omega (arith, u, v, r.few, r.small); first = w.first }
