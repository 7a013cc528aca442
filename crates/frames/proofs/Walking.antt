-- The walk from message to message in a tree is the rules' walk: the place that the root names is the next place of all runs, so each turn
-- takes what the rules take there. What the walk keeps, with its start, a turn and its two ends.
use mathlib.Core.Path.{◌≡◌, refl, sym, ap, ◌∙◌}
use mathlib.Core.Bool.{true}
use mathlib.Core.List.{List, [], ◌∷◌, ◌++◌, append_assoc, append-nil}
use native.Mathlib.Omega.{arith}
use lib.ListN.{get_or, length, length-append}
use Prim.Native.Nat.{ℕ, zero, suc, ◌+◌, ◌-◌, ◌*◌, ◌/◌, ◌%◌, ◌≤◌, ◌<◌}
use Rattle.laws.specs.Lists.{all, tab}
use Rattle.laws.proofs.Lists.{length-tab}
use Rattle.laws.proofs.Members.{all-tab, member_tab}
use Rattle.rules.specs.Limits.{most_frames}
use Rattle.rules.specs.Traffic.{Run}
use Rattle.rules.specs.Frames.{Pair}
use Rattle.rules.specs.Direct.{place_of, behind_all, next_of, next_place, pair_at, nothing_found, found_then, walk_runs_from, walk_runs}
use Rattle.rules.proofs.Direct.{IsNext, next-is, next-least, next-most, next-pair, walk_on, walk_end, few-steps}
use Rattle.tree.specs.Tree.{Grown}
use Rattle.frames.specs.Walk.{run_at, runs_in, is_fair, AreRead, Ready, key_of, limit_of, Planted, Waits, Waiting, CellMet, frame_at, Stored, Derived}
use Rattle.tree.proofs.Trees.{root_under}
use Rattle.frames.proofs.Meeting.{fair_go, goes_at, at_root, waiting-start}
use Rattle.frames.proofs.Storing.{stored-nothing, stored_then, derived}

module _ (readers : ℕ → List ℕ) (task period worst : List ℕ) (runs size cycle : ℕ) where
  pub ready : (runs ≤ size) × (0 < size) × (size ≤ 64) → cycle ≤ 1000000 → all (is_fair cycle) (runs_in task period worst runs) ≡ true
      → AreRead readers cycle (runs_in task period worst runs) → Ready readers task period worst runs size cycle
  ready h s f g = record { few = h.0; some = h.1; small = h.2; short = s; fair = f; read = g }

  abbrev lent : List Run
  lent = runs_in task period worst runs

  lent-few : length lent ≡ runs
  unfolding runs_in
  lent-few = length-tab (run_at task period worst) 0 runs

  -- ---- the root names the next place

  module _ (d t : ℕ) (short : t < 32) {tree : List ℕ} (r : Ready readers task period worst runs size cycle)
      (w : Waiting readers task period worst runs size cycle (suc (place_of d t)) (suc (place_of d t)) tree) where
    -- a run waits with its next message
    leaf_next : (i : ℕ) → i < runs → next_of readers d t (run_at task period worst i) * 64 + i ≡ get_or tree (size + i) 0
    unfolding run_at
    leaf_next i h =
        let v = w.each i h in
        let n : IsNext readers d t (run_at task period worst i) v.next
        = record { end = v.end; behind = omega (arith, v.reached); first = λ y e l. v.first y e (omega arith) } in
        omega (arith, next-is readers d t short (goes_at readers task period worst runs size cycle r i h) n, v.is)

    under_next : (b : ℕ) → b ≤ behind_all cycle → b * 64 ≤ get_or tree 1 0 → b ≤ next_place readers cycle lent d t
    unfolding runs_in
    under_next b h l =
        next-least readers cycle d t short h (all-tab (run_at task period worst) 0 runs (λ k u v. each k (omega arith)))
      where
        each : (i : ℕ) → i < runs → b ≤ next_of readers d t (run_at task period worst i)
        each i h =
            omega (arith, leaf_next i h, root_under w.whole i (omega (arith, r.few)), r.few, r.small)

    next-at_root : {root : ℕ} → root ≡ get_or tree 1 0 → root < limit_of cycle → root / 64 ≡ next_place readers cycle lent d t
    unfolding runs_in
    next-at_root {root} e l =
        let o = at_root readers task period worst runs size cycle r w e l refl in
        let m : next_place readers cycle (tab (run_at task period worst) 0 runs) d t ≤ next_of readers d t (run_at task period worst (root % 64))
        = next-most readers cycle d t short (member_tab (run_at task period worst) 0 runs (root % 64) (omega arith) (omega (arith, o.run))) in
        let u : root / 64 ≤ next_place readers cycle (tab (run_at task period worst) 0 runs) d t = under_next (root / 64) (omega arith) (omega arith) in
        omega (arith, leaf_next (root % 64) o.run, o.here)

  -- ---- the walk

  module _ (tasks₀ releases₀ deadlines₀ : List ℕ) where
    -- The pairs of the places up to that of `deadline` and the task `number`, the last one taken, are stored; what the rules' walk finds from there on,
    -- with the places that are left, is the rest of what it finds, and its steps are the rest of all steps.
    pub record Walked (tasks releases deadlines tree : List ℕ) (root count steps : ℕ) : Type 0 where
      pub deadline : ℕ
      pub number : ℕ
      pub short : number < 32
      pub begun : 31 ≤ place_of deadline number
      pub waiting : Waiting readers task period worst runs size cycle (suc (place_of deadline number)) (suc (place_of deadline number)) tree
      pub root_is : root ≡ get_or tree 1 0
      pub front : List Pair
      pub so_far : Stored tasks₀ releases₀ deadlines₀ 0 front tasks releases deadlines count
      pub left : ℕ
      pub room : count + left ≡ suc most_frames
      pub counted : count ≡ length front
      pub found : (walk_runs readers cycle lent).found ≡ front ++ (walk_runs_from readers left cycle lent deadline number).found
      pub stepped : (walk_runs readers cycle lent).steps ≡ steps + (walk_runs_from readers left cycle lent deadline number).steps

    pub walked_start : {old tree : List ℕ} {root : ℕ} → Ready readers task period worst runs size cycle → Planted readers task period worst runs size cycle old → Grown old size tree → root ≡ get_or tree 1 0
        → Walked tasks₀ releases₀ deadlines₀ tree root 0 0
    unfolding walk_runs
    walked_start r p g e =
        record {
          deadline = 0;
          number = 31;
          short = omega arith;
          begun = omega arith;
          waiting = waiting-start readers task period worst runs size cycle r p g;
          root_is = e;
          front = [];
          so_far = stored-nothing tasks₀ releases₀ deadlines₀ 0 (omega arith);
          left = suc most_frames;
          room = refl;
          counted = refl;
          found = refl;
          stepped = omega arith;
        }

    -- the steps are few, so their number cannot wrap
    pub steps-few : {tasks releases deadlines tree : List ℕ} {root count steps : ℕ} → Walked tasks releases deadlines tree root count steps → steps ≤ suc most_frames * runs
    unfolding walk_runs
    steps-few w = omega (arith, w.stepped, few-steps readers cycle lent (suc most_frames) 0 31, lent-few)

    -- the place of the message at the root
    pub record Place (tree : List ℕ) (root d t : ℕ) : Type 0 where
      pub begun : 0 < d
      pub inside : d ≤ cycle
      pub short : t < 32
      pub waiting : Waiting readers task period worst runs size cycle (place_of d t) (place_of d t) tree

    module _ {tasks releases deadlines tree : List ℕ} {root count steps d t : ℕ} (r : Ready readers task period worst runs size cycle) (w : Walked tasks releases deadlines tree root count steps) (l : root < limit_of cycle)
        (ed : d ≡ root / 2048) (et : t ≡ root / 64 % 32) where
      code_is : place_of d t ≡ root / 64
      code_is = omega arith

      reached : suc (place_of w.deadline w.number) ≤ place_of d t
      reached =
          let o = at_root readers task period worst runs size cycle r w.waiting w.root_is l refl in
          let v = w.waiting.each (root % 64) o.run in
          let k : root ≡ key_of v.next (get_or task (root % 64) 0) (root % 64) = sym o.here ∙ v.is in
          omega (arith, v.reached, k, code_is)

      pub place-of : Place tree root d t
      place-of =
          record {
            begun = omega (arith, reached, w.begun);
            inside = omega arith;
            short = omega arith;
            waiting = record { whole = w.waiting.whole; each = each; rest = w.waiting.rest };
          }
        where
          each : (i : ℕ) → i < runs → Waits readers task period worst (place_of d t) (place_of d t) i (get_or tree (size + i) 0)
          each i h =
              let v = w.waiting.each i h in
              let u : get_or tree 1 0 ≤ get_or tree (size + i) 0 = root_under w.waiting.whole i (omega (arith, r.few)) in
              let y : get_or tree (size + i) 0 ≡ key_of v.next (get_or task i 0) i = v.is in
              record {
                next = v.next;
                is = v.is;
                end = v.end;
                reached = omega (arith, u, y, code_is, w.root_is, h, r.few, r.small);
                first = λ y e l. v.first y e (omega (arith, reached));
              }

      -- and the rules' walk goes there next
      next_here : next_place readers cycle lent w.deadline w.number ≡ place_of d t
      next_here = sym (next-at_root w.deadline w.number w.short r w.waiting w.root_is l) ∙ sym code_is

      rest-is : (left : ℕ) → walk_runs_from readers (suc left) cycle lent w.deadline w.number ≡ found_then readers lent d t (walk_runs_from readers left cycle lent d t)
      rest-is left =
          let a : next_place readers cycle lent w.deadline w.number / 32 ≡ d = omega (arith, next_here, place-of.short) in
          let b : next_place readers cycle lent w.deadline w.number % 32 ≡ t = omega (arith, next_here, place-of.short) in
          rw (a, b) at (walk_on readers cycle lent left w.deadline w.number (omega (arith, next_here, place-of.inside, place-of.short)))

      module _ {tasks' releases' deadlines' tree' : List ℕ} {best root' count' taken : ℕ} (m : CellMet readers task period worst runs size cycle d t tree' best root' taken)
          (s : Stored tasks releases deadlines count (frame_at t d best) tasks' releases' deadlines' count') where
        pair-here : frame_at t d best ≡ pair_at readers lent d t ∷ []
        unfolding frame_at
        pair-here =
            let a : place_of d t / 32 ≡ d = omega (arith, place-of.short) in
            let b : place_of d t % 32 ≡ t = omega (arith, place-of.short) in
            rw m.is
            (rw (a, b) at (next-pair readers cycle w.deadline w.number (place_of d t) lent w.short (fair_go readers cycle lent r.fair r.read) (sym next_here) (omega (arith, place-of.inside, place-of.short))))

        pub walked_turn : count ≤ most_frames → Walked tasks' releases' deadlines' tree' root' count' (steps + taken)
        unfolding found_then
        walked_turn h =
            let k : w.left ≡ suc (w.left - 1) = omega (arith, w.room) in
            let e = ap (λ (n : ℕ). walk_runs_from readers n cycle lent w.deadline w.number) k ∙ rest-is (w.left - 1) in
            let s' = rw pair-here at s in
            let c : count' ≡ count + 1 = omega (arith, s'.count) in
            record {
              deadline = d;
              number = t;
              short = place-of.short;
              begun = omega (arith, place-of.begun);
              waiting = m.waiting;
              root_is = m.root_is;
              front = w.front ++ (pair_at readers lent d t ∷ []);
              so_far = stored_then w.so_far s';
              left = w.left - 1;
              room = omega (arith, w.room);
              counted = rw (length-append w.front (pair_at readers lent d t ∷ [])) (omega (arith, w.counted));
              found = rw e at w.found ∙ sym (append_assoc w.front (pair_at readers lent d t ∷ []) (walk_runs_from readers (w.left - 1) cycle lent d t).found);
              stepped = omega (arith, rw e at w.stepped, m.took);
            }

        -- each turn goes on to a later message
        pub walk_less : limit_of cycle - root' < limit_of cycle - root
        walk_less = omega (arith, m.past, code_is)

    module _ {tasks releases deadlines tree : List ℕ} {root count steps : ℕ} (w : Walked tasks releases deadlines tree root count steps) where
      walked-done : walk_runs_from readers w.left cycle lent w.deadline w.number ≡ nothing_found → Derived tasks₀ releases₀ deadlines₀ (walk_runs readers cycle lent) tasks releases deadlines count steps
      walked-done e = derived w.so_far w.counted (rw e at w.found ∙ append-nil w.front) (omega (arith, rw e at w.stepped))

      pub walked-full : most_frames < count → Derived tasks₀ releases₀ deadlines₀ (walk_runs readers cycle lent) tasks releases deadlines count steps
      unfolding walk_runs_from
      walked-full h = let z : w.left ≡ 0 = omega (arith, w.room) in walked-done (ap (λ (n : ℕ). walk_runs_from readers n cycle lent w.deadline w.number) z)

      pub walked_all : Ready readers task period worst runs size cycle → limit_of cycle ≤ root → Derived tasks₀ releases₀ deadlines₀ (walk_runs readers cycle lent) tasks releases deadlines count steps
      unfolding walk_runs_from
      walked_all r h = walked-done (which w.left)
        where
          which : (left : ℕ) → walk_runs_from readers left cycle lent w.deadline w.number ≡ nothing_found
          which zero = refl
          which (suc left) =
              walk_end readers cycle lent left w.deadline w.number
              (under_next w.deadline w.number w.short r w.waiting (behind_all cycle) (omega arith) (omega (arith, w.root_is)))
