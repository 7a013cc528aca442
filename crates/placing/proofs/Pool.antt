-- The latest-release rule as a machine that keeps its candidates in a pool: frames enter from the back of the numbering as the end
-- falls, and the pool stands in falling order of (release, number). The machine's run is the rule's.
use mathlib.Core.Path.{◌≡◌, refl, sym, ap, ◌∙◌, subst}
use mathlib.Core.Bool.{Bool, true, false, cond, ◌&&◌, ◌||◌}
use mathlib.Core.List.Memᴰ
use mathlib.Core.List.{List, [], ◌∷◌, Memᴰ}
use mathlib.Core.Logic.{◌⊎◌, inl, inr}
use native.Mathlib.Nat.{le_trans, min-eq_left, max-le, le_refl, eq-or-lt_of_le, le_of_suc-le-suc, not-suc-le-zero, min-le_left, min-le_right}
use native.Mathlib.Omega.{arith}
use lib.Dec.{eqb, leb, ltb}
use lib.ListN.{length}
use borrow.Author.Tests.{not-true, ltb-true, ltb-false, lt-ltb, le-ltb, leb-true, leb-false, le-leb, eqb-true, eqb-false, eq-eqb, ne_eqb}
use Prim.Native.Nat.{ℕ, zero, suc, ◌+◌, ◌*◌, ◌-◌, ◌≤◌, ◌<◌, min}
use Rattle.laws.specs.Res.{Res, ok, refuse}
use Rattle.laws.specs.Lists.{keep}
use Rattle.laws.specs.Numbers.{down}
use Rattle.laws.proofs.Divisors.{down-below}
use Rattle.laws.proofs.Members.{All, empty, also, Pairs, alone, before, all_head, all_tail, all_member, all_of_members, all_weaker, pairs-head, pairs_tail, keep_member, keep-from, keep-passes}
use Rattle.rules.specs.Frames.{Pair}
use Rattle.rules.specs.LatestRelease.{Numbered, Placed, is_candidate, is_later, is_other, latest_of, latest, with_deadline, greatest_deadline, lowered, taken, start_of, fits, place}
use Rattle.rules.proofs.RuleSteps.{greatest-above}

-- ---- what `latest` and `greatest_deadline` give depends on the members alone

-- y is x, or x is later than y
data Below (x : Numbered) : Numbered → Type 0 where
  same : {y : Numbered} → y ≡ x → is_later y x ≡ false → Below x y
  under : {y : Numbered} → is_later x y ≡ true → is_later y x ≡ false → Below x y

module _ (x : Numbered) where
  below_pick : (b : Bool) (y c : Numbered) → Below x y → Below x c → Below x (cond b y c)
  below_pick true y c p q = p
  below_pick false y c p q = q

  either_x : (b : Bool) (y c : Numbered) → y ≡ x → c ≡ x → cond b y c ≡ x
  either_x true y c p q = p
  either_x false y c p q = q

  pick_x : (y : Numbered) {c : Numbered} → Below x c → y ≡ x → cond (is_later y c) y c ≡ x
  pick_x y {c} (same e n) q = either_x (is_later y c) y c q e
  pick_x y {c} (under e n) q = rw (q, e)

  keep_x : {y : Numbered} (c : Numbered) → Below x y → c ≡ x → cond (is_later y c) y c ≡ x
  keep_x {y} c (same e n) q = either_x (is_later y c) y c e q
  keep_x {y} c (under e n) q = rw (q, n)

  latest_of_top : (c : Numbered) {l : List Numbered} → Below x c → All (Below x) l → (c ≡ x) ⊎ Memᴰ x l → latest_of c l ≡ x
  unfolding latest_of
  latest_of_top c p empty (inl e) = e
  latest_of_top c p empty (inr m) = elim m [ ]
  latest_of_top c p (also {x = y} q r) (inl e) =
      latest_of_top (cond (is_later y c) y c) (below_pick (is_later y c) y c q p) r (inl (keep_x c q e))
  latest_of_top c p (also {x = y} q r) (inr (Memᴰ.head e)) =
      latest_of_top (cond (is_later y c) y c) (below_pick (is_later y c) y c q p) r (inl (pick_x y p (sym e)))
  latest_of_top c p (also {x = y} q r) (inr (Memᴰ.tail m)) =
      latest_of_top (cond (is_later y c) y c) (below_pick (is_later y c) y c q p) r (inr m)

  latest_top : {l : List Numbered} → All (Below x) l → Memᴰ x l → latest l ≡ x
  latest_top (also {x = y} q r) (Memᴰ.head e) = latest_of_top y q r (inl (sym e))
  latest_top (also {x = y} q r) (Memᴰ.tail m) = latest_of_top y q r (inr m)
  latest_top empty x4 = elim x4 [ ]

greatest-le : (b : ℕ) {l : List Numbered} → All (λ y. y.pair.deadline ≤ b) l → greatest_deadline l ≤ b
unfolding greatest_deadline with_deadline
greatest-le b empty = omega arith
greatest-le b (also p r) = max-le p (greatest-le b r)

-- ---- the machine

module _ (F : ℕ → Pair) where
  -- frame k with its number, and its key: release and number in one number
  abbrev pub numbered : ℕ → Numbered
  numbered k = record { number = k; pair = F k }

  abbrev pub key_of : ℕ → ℕ
  key_of k = (F k).release * 65536 + k

  -- k into a pool that stands in falling order of keys
  abbrev pub entered : ℕ → List ℕ → List ℕ
  entered k [] = k ∷ []
  entered k (j ∷ js) = elim (ltb (key_of k) (key_of j)) [ true ↦ j ∷ entered k js | false ↦ k ∷ j ∷ js ]

  -- the frames from the back of the numbering whose deadline is not before the end enter the pool; how many stay outside
  abbrev pub outside_at : ℕ → ℕ → ℕ
  outside_at end zero = zero
  outside_at end (suc m) = elim (leb end (F m).deadline) [ true ↦ outside_at end m | false ↦ suc m ]

  abbrev pub pool_at : ℕ → ℕ → List ℕ → List ℕ
  pool_at end zero pool = pool
  pool_at end (suc m) pool = elim (leb end (F m).deadline) [ true ↦ pool_at end m (entered m pool) | false ↦ pool ]

  -- the end, lowered to the greatest deadline left
  abbrev pub low_end : ℕ → ℕ → List ℕ → ℕ
  low_end e m [] = min e (F (m - 1)).deadline
  low_end e m (k ∷ pool) = e

  abbrev pub top_of : List ℕ → ℕ
  top_of [] = 0
  top_of (k ∷ pool) = k

  abbrev pub rest_of : List ℕ → List ℕ
  rest_of [] = []
  rest_of (k ∷ pool) = pool

  -- ---- keys and is_later

  later_if : (i j : ℕ) → i < 65536 → j < 65536 → key_of i < key_of j → is_later (numbered j) (numbered i) ≡ true
  unfolding is_later
  later_if i j hi hj h = by (ltb (F i).release (F j).release) refl
    where
      by : (b : Bool) → ltb (F i).release (F j).release ≡ b
          → (ltb (F i).release (F j).release || (eqb (F i).release (F j).release && ltb i j)) ≡ true
      by true e = rw e
      by false e =
          let l : (F j).release ≤ (F i).release = ltb-false _ _ e in
          let q : (F i).release ≡ (F j).release = omega arith in
          let r : i < j = omega arith in
          rw (e, eq-eqb _ _ q, lt-ltb _ _ r)

  not-later : (i j : ℕ) → i < 65536 → j < 65536 → key_of j ≤ key_of i → is_later (numbered j) (numbered i) ≡ false
  unfolding is_later
  not-later i j hi hj h =
      let l : (F j).release ≤ (F i).release = omega arith in
      by (eqb (F i).release (F j).release) refl l
    where
      by : (b : Bool) → eqb (F i).release (F j).release ≡ b → (F j).release ≤ (F i).release
          → (ltb (F i).release (F j).release || (eqb (F i).release (F j).release && ltb i j)) ≡ false
      by true e l =
          let q : (F i).release ≡ (F j).release = eqb-true _ _ e in
          let r : j ≤ i = omega arith in
          rw (le-ltb _ _ l, e, le-ltb _ _ r)
      by false e l = rw (le-ltb _ _ l, e)

  -- ---- a pool in order

  unfoldable pub Falling : List ℕ → Type 0
  Falling pool = Pairs (λ i j. key_of j < key_of i) pool

  -- what holds of both ways of entering holds of entering
  entered_case : (P : List ℕ → Type 0) (k j : ℕ) (js : List ℕ)
      → (ltb (key_of k) (key_of j) ≡ true → P (j ∷ entered k js))
      → (ltb (key_of k) (key_of j) ≡ false → P (k ∷ j ∷ js))
      → P (entered k (j ∷ js))
  entered_case P k j js f g = go (ltb (key_of k) (key_of j)) f g
    where
      go : (b : Bool) → (b ≡ true → P (j ∷ entered k js)) → (b ≡ false → P (k ∷ j ∷ js))
          → P (elim b [ true ↦ j ∷ entered k js | false ↦ k ∷ j ∷ js ])
      go true f g = f refl
      go false f g = g refl

  pub entered_all : {P : ℕ → Type 0} (k : ℕ) {pool : List ℕ} → P k → All P pool → All P (entered k pool)
  entered_all k p empty = also p empty
  entered_all {P} k p (also {x = j} {l = js} q r) =
      entered_case (All P) k j js (λ _. also q (entered_all k p r)) (λ _. also p (also q r))

  entered_new : (k : ℕ) (pool : List ℕ) → Memᴰ k (entered k pool)
  entered_new k [] = Memᴰ.head refl
  entered_new k (j ∷ js) =
      entered_case (Memᴰ k) k j js (λ _. Memᴰ.tail (entered_new k js)) (λ _. Memᴰ.head refl)

  entered_old : (k i : ℕ) {pool : List ℕ} → Memᴰ i pool → Memᴰ i (entered k pool)
  entered_old k i (Memᴰ.head {x = j} {xs = js} e) =
      entered_case (Memᴰ i) k j js (λ _. Memᴰ.head e) (λ _. Memᴰ.tail (Memᴰ.head e))
  entered_old k i (Memᴰ.tail {x = j} {xs = js} m) =
      entered_case (Memᴰ i) k j js (λ _. Memᴰ.tail (entered_old k i m)) (λ _. Memᴰ.tail (Memᴰ.tail m))

  entered_length : (k : ℕ) (pool : List ℕ) → length (entered k pool) ≡ suc (length pool)
  entered_length k [] = refl
  entered_length k (j ∷ js) =
      entered_case (λ l. length l ≡ suc (suc (length js))) k j js (λ _. ap suc (entered_length k js)) (λ _. refl)

  entered_falling : (k : ℕ) {pool : List ℕ} → k < 65536 → All (λ j. j < 65536) pool → All (λ j. k < j) pool → Falling pool → Falling (entered k pool)
  unfolding Falling
  entered_falling k hk s a alone = before empty alone
  entered_falling k hk (also sj s) (also aj a) (before {x = j} {l = js} b p) =
      entered_case (Pairs (λ i j. key_of j < key_of i)) k j js
      (λ e. before (entered_all k (ltb-true _ _ e) b) (entered_falling k hk s a p))
      (λ e.
      let h : key_of j < key_of k =
      let l : key_of j ≤ key_of k = ltb-false _ _ e in
      omega arith
      in
      before (also h (all_weaker (λ i w. omega arith) b)) (before b p))

  module _ (N : ℕ) (small : N ≤ 65536) (sorted : (i j : ℕ) → i ≤ j → j < N → (F i).deadline ≤ (F j).deadline) where
    -- The rule's frames left are those outside (numbers below m) and those in the pool; the pool is in order, its deadlines are not
    -- before the end.
    pub record Same (left : List Numbered) (m : ℕ) (pool : List ℕ) (end : ℕ) : Type 0 where
      pub from : (y : Numbered) → Memᴰ y left → (k : ℕ) × (y ≡ numbered k) × ((k < m) ⊎ Memᴰ k pool)
      pub outs : (k : ℕ) → k < m → Memᴰ (numbered k) left
      pub ins : (k : ℕ) → Memᴰ k pool → Memᴰ (numbered k) left
      pub falling : Falling pool
      pub within : m ≤ N
      pub below : All (λ k. k < N) pool
      pub above : All (λ k. m ≤ k) pool
      pub late : All (λ k. end ≤ (F k).deadline) pool

    same_lower : {left : List Numbered} {m : ℕ} {pool : List ℕ} {end : ℕ} (lower : ℕ) → lower ≤ end → Same left m pool end → Same left m pool lower
    same_lower lower h s =
        record {
          from = s.from;
          outs = s.outs;
          ins = s.ins;
          falling = s.falling;
          within = s.within;
          below = s.below;
          above = s.above;
          late = all_weaker (λ k w. le_trans h w) s.late;
        }

    -- where frame k stands once frame m has entered
    place_after : (m k : ℕ) (pool : List ℕ) → (k < suc m) ⊎ Memᴰ k pool → (k < m) ⊎ Memᴰ k (entered m pool)
    place_after m k pool (inl w) = by (eq-or-lt_of_le (le_of_suc-le-suc w))
      where
        by : (k ≡ m) ⊎ (k < m) → (k < m) ⊎ Memᴰ k (entered m pool)
        by (inl e) = inr (Memᴰ.cast e (entered_new m pool))
        by (inr l) = inl l
    place_after m k pool (inr w) = inr (entered_old m k w)

    -- frame m enters
    enters : {left : List Numbered} {m : ℕ} {pool : List ℕ} {end : ℕ} → end ≤ (F m).deadline → Same left (suc m) pool end → Same left m (entered m pool) end
    enters {left} {m} {pool} {end} h s =
        record {
          from = λ y w. let t = s.from y w in (t.0, t.1, place_after m t.0 pool t.2);
          outs = λ k w. s.outs k (omega arith);
          ins =
              λ k w.
              all_member {P = λ k. Memᴰ (numbered k) left}
              (entered_all m (s.outs m (le_refl (suc m))) (all_of_members pool s.ins)) w;
          falling =
              entered_falling m (omega (arith, s.within)) (all_weaker (λ k w. omega arith) s.below) s.above
              s.falling;
          within = omega (arith, s.within);
          below = entered_all m s.within s.below;
          above = entered_all m (le_refl m) (all_weaker (λ k w. omega arith) s.above);
          late = entered_all m h s.late;
        }

    -- all that may enter have entered: those outside have their deadlines before the end
    record Ready (left : List Numbered) (m : ℕ) (pool : List ℕ) (end : ℕ) : Type 0 where
      same : Same left m pool end
      early : (k : ℕ) → k < m → (F k).deadline < end

    all_entered : (left : List Numbered) (end m : ℕ) (pool : List ℕ) → Same left m pool end → Ready left (outside_at end m) (pool_at end m pool) end
    all_entered left end zero pool s = record { same = s; early = λ k h. absurd (not-suc-le-zero h) }
    all_entered left end (suc m) pool s =
        go (leb end (F m).deadline) refl (λ h. all_entered left end m (entered m pool) (enters h s))
      where
        go : (b : Bool) → leb end (F m).deadline ≡ b → (end ≤ (F m).deadline → Ready left (outside_at end m) (pool_at end m (entered m pool)) end)
            → Ready left (elim b [ true ↦ outside_at end m | false ↦ suc m ]) (elim b [ true ↦ pool_at end m (entered m pool) | false ↦ pool ]) end
        go true e f = f (leb-true _ _ e)
        go false e f =
            let d : (F m).deadline < end = leb-false _ _ e in
            record {
              same = s;
              early = λ k h. let q : (F k).deadline ≤ (F m).deadline = sorted k m (le_of_suc-le-suc h) s.within in omega arith;
            }

    -- the number of frames left stays the same
    all_entered_count : (end m : ℕ) (pool : List ℕ) → outside_at end m + length (pool_at end m pool) ≡ m + length pool
    all_entered_count end zero pool = refl
    all_entered_count end (suc m) pool =
        go (leb end (F m).deadline) (all_entered_count end m (entered m pool))
      where
        go : (b : Bool) → outside_at end m + length (pool_at end m (entered m pool)) ≡ m + length (entered m pool)
            → (elim b [ true ↦ outside_at end m | false ↦ suc m ]) + length {A = ℕ} (elim b [ true ↦ pool_at end m (entered m pool) | false ↦ pool ]) ≡ suc m + length pool
        go true e = let l = entered_length m pool in omega arith
        go false e = refl

    -- ---- one step of the rule

    -- the end that the rule lowers to is the machine's
    lowered_is : {left : List Numbered} (e m : ℕ) (pool : List ℕ) → Same left m pool e → 0 < m + length pool → min e (greatest_deadline left) ≡ low_end e m pool
    lowered_is {left} e m (k ∷ pool) s h =
        let d : e ≤ (F k).deadline = all_head s.late in
        let g : (F k).deadline ≤ greatest_deadline left = greatest-above (s.ins k (Memᴰ.head refl)) in
        min-eq_left (le_trans d g)
    lowered_is {left} e zero [] s h = absurd (not-suc-le-zero h)
    lowered_is {left} e (suc m) [] s h =
        let g : (F m).deadline ≤ greatest_deadline left = greatest-above (s.outs m (le_refl (suc m))) in
        let l : greatest_deadline left ≤ (F m).deadline = greatest-le (F m).deadline (all_of_members left (λ y w. at_most y (s.from y w))) in
        let q : suc m - 1 ≡ m = omega arith in
        let r : greatest_deadline left ≡ (F m).deadline = omega arith in
        rw (q, r)
      where
        at_most : (y : Numbered) → (k : ℕ) × (y ≡ numbered k) × ((k < suc m) ⊎ Memᴰ k []) → y.pair.deadline ≤ (F m).deadline
        at_most y t = by t.2
          where
            by : (t.0 < suc m) ⊎ Memᴰ t.0 [] → y.pair.deadline ≤ (F m).deadline
            by (inl w) = rw t.1 (sorted t.0 m (le_of_suc-le-suc w) s.within)
            by (inr w) = elim w [ ]

    -- the rule takes the pool's top
    module _ {left : List Numbered} (end m k : ℕ) (pool : List ℕ) (r : Ready left m (k ∷ pool) end) where
      is_below : (j : ℕ) → Memᴰ j (k ∷ pool) → Below (numbered k) (numbered j)
      unfolding Falling
      is_below j (Memᴰ.head e) =
          let b : k < N = all_head r.same.below in
          same (ap numbered e) (rw e (not-later k k (omega arith) (omega arith) (le_refl _)))
      is_below j (Memᴰ.tail w) =
          let b : k < N = all_head r.same.below in
          let c : j < N = all_member (all_tail r.same.below) w in
          let o : key_of j < key_of k = all_member (pairs-head r.same.falling) w in
          under (later_if j k (omega arith) (omega arith) o) (not-later k j (omega arith) (omega arith) (omega arith))

      candidate-is-below : (y : Numbered) (j : ℕ) → y ≡ numbered j → is_candidate end y ≡ true → (j < m) ⊎ Memᴰ j (k ∷ pool) → Below (numbered k) y
      unfolding is_candidate
      candidate-is-below y j e c (inl l) =
          let d : (F j).deadline < end = r.early j l in
          let c' : end ≤ y.pair.deadline = leb-true _ _ c in
          let q : y.pair.deadline ≡ (F j).deadline = ap (λ (z : Numbered). z.pair.deadline) e in
          absurd (omega arith)
      candidate-is-below y j e c (inr l) = subst (Below (numbered k)) (sym e) (is_below j l)

      takes_top : latest (keep (is_candidate end) left) ≡ numbered k
      unfolding is_candidate
      takes_top =
          latest_top (numbered k)
          (all_of_members (keep (is_candidate end) left)
          (λ y w.
          let t = r.same.from y (keep-from (is_candidate end) left w) in
          candidate-is-below y t.0 t.1 (all_member (keep-passes (is_candidate end) left) w) t.2))
          (keep_member (is_candidate end) is-candidate (r.same.ins k (Memᴰ.head refl)))
        where
          is-candidate : is_candidate end (numbered k) ≡ true
          is-candidate = le-leb _ _ (all_head r.same.late)

      -- and what is left then
      goes_on : (lower : ℕ) → lower ≤ end → Same (keep (is_other k) left) m pool lower
      unfolding Falling is_other
      goes_on lower h =
          same_lower lower h
          (record {
            from = λ y w. let t = s.from y (keep-from (is_other k) left w) in
                (t.0, t.1, still t.0 y t.1 (all_member (keep-passes (is_other k) left) w) t.2);
            outs = λ j l. keep_member (is_other k) (other j (let a : m ≤ k = all_head s.above in omega arith)) (s.outs j l);
            ins = λ j w. keep_member (is_other k) (other j (not_top j w)) (s.ins j (Memᴰ.tail w));
            falling = pairs-rest s.falling;
            within = s.within;
            below = all_tail s.below;
            above = all_tail s.above;
            late = all_tail s.late;
          })
        where
          s : Same left m (k ∷ pool) end
          s = r.same

          pairs-rest : Falling (k ∷ pool) → Falling pool
          pairs-rest p = pairs_tail p

          not_top : (j : ℕ) → Memᴰ j pool → j ≡ k → ⊥
          not_top j w e =
              let o : key_of j < key_of k = all_member (pairs-head s.falling) w in
              let q : key_of j ≡ key_of k = ap key_of e in
              omega arith

          other : (j : ℕ) → (j ≡ k → ⊥) → is_other k (numbered j) ≡ true
          other j n = rw (ne_eqb j k n)

          still : (j : ℕ) (y : Numbered) → y ≡ numbered j → is_other k y ≡ true → (j < m) ⊎ Memᴰ j (k ∷ pool) → (j < m) ⊎ Memᴰ j pool
          still j y e o (inl l) = inl l
          still j y e o (inr (Memᴰ.head q)) =
              let n : y.number ≡ k = ap (λ (z : Numbered). z.number) e ∙ q in
              absurd (eqb-false _ _ (not-true _ o) n)
          still j y e o (inr (Memᴰ.tail l)) = inr l

  -- ---- the whole run

  module _ (resolution gap floor : ℕ) (sending : Pair → ℕ) where
    abbrev pub placed_at : ℕ → ℕ → Placed
    placed_at end k = record { number = k; pair = F k; start = start_of resolution gap floor sending end (F k) }

    -- n frames left: m outside and the pool; `done` as in the rule
    unfoldable pub machine : ℕ → ℕ → ℕ → List ℕ → List Placed → Res (List Placed)
    machine zero e m pool done = ok done
    machine (suc n) e m pool done =
        let end = low_end e m pool in
        let pool' = pool_at end m pool in
        let k = top_of pool' in
        elim (fits resolution gap floor sending end (F k)) [
          | true ↦ machine n (start_of resolution gap floor sending end (F k) - gap) (outside_at end m) (rest_of pool') (placed_at end k ∷ done)
          | false ↦ refuse 12 k
        ]

    low_end_le : (e m : ℕ) (pool : List ℕ) → low_end e m pool ≤ e
    low_end_le e m [] = min-le_left e (F (m - 1)).deadline
    low_end_le e m (k ∷ pool) = le_refl e

    start-le : (end : ℕ) (f : Pair) → start_of resolution gap floor sending end f - gap ≤ end
    unfolding start_of
    start-le end f =
        let d : down resolution (end - sending f) ≤ end - sending f = down-below resolution (end - sending f) in
        omega arith

    module _ (N : ℕ) (small : N ≤ 65536) (sorted : (i j : ℕ) → i ≤ j → j < N → (F i).deadline ≤ (F j).deadline) where
      -- a pool into which all that may enter has entered is not empty while frames are left
      not_empty : {left : List Numbered} (n m end : ℕ) → Ready N small sorted left m [] end → m + 0 ≡ suc n → end ≤ greatest_deadline left → ⊥
      not_empty {left} n m end r c h =
          let d : (F n).deadline < end = r.early n (omega arith) in
          let g : greatest_deadline left ≤ end - 1 =
          greatest-le (end - 1) (all_of_members left (λ y w. let t = r.same.from y w in at_most y t.0 t.1 t.2))
          in
          omega arith
        where
          at_most : (y : Numbered) (k : ℕ) → y ≡ numbered k → (k < m) ⊎ Memᴰ k [] → y.pair.deadline ≤ end - 1
          at_most y k e (inl l) =
              let d : (F k).deadline < end = r.early k l in
              let q : y.pair.deadline ≡ (F k).deadline = ap (λ (z : Numbered). z.pair.deadline) e in
              omega arith
          at_most y k e (inr w) = elim w [ ]

      -- the rule's step, once the end and the frame taken are known
      step_with : ℕ → List Numbered → List Placed → ℕ → Numbered → Res (List Placed)
      step_with n left done end x =
          elim (fits resolution gap floor sending end x.pair) [
            | true ↦ place resolution gap floor sending n (start_of resolution gap floor sending end x.pair - gap) (keep (is_other x.number) left)
                (record { number = x.number; pair = x.pair; start = start_of resolution gap floor sending end x.pair } ∷ done)
            | false ↦ refuse 12 x.number
          ]

      place-step : (n e : ℕ) (left : List Numbered) (done : List Placed) (end : ℕ) (x : Numbered)
          → min e (greatest_deadline left) ≡ end → latest (keep (is_candidate end) left) ≡ x
          → place resolution gap floor sending (suc n) e left done ≡ step_with n left done end x
      unfolding place taken lowered step_with
      place-step n e left done end x q t =
          ap (λ (z : ℕ). step_with n left done z (latest (keep (is_candidate z) left))) q ∙ ap (step_with n left done end) t

      -- one turn, with the pool's top at hand
      turn : (n e end m : ℕ) (pool : List ℕ) (left : List Numbered) (done : List Placed)
          → min e (greatest_deadline left) ≡ end
          → Ready N small sorted left m pool end
          → m + length pool ≡ suc n
          → ((e' : ℕ) (pool' : List ℕ) (left' : List Numbered) (done' : List Placed) → Same N small sorted left' m pool' e' → m + length pool' ≡ n
          → place resolution gap floor sending n e' left' done' ≡ machine n e' m pool' done')
          → place resolution gap floor sending (suc n) e left done
          ≡ (elim (fits resolution gap floor sending end (F (top_of pool))) [
            | true ↦ machine n (start_of resolution gap floor sending end (F (top_of pool)) - gap) m (rest_of pool) (placed_at end (top_of pool) ∷ done)
            | false ↦ refuse 12 (top_of pool)
          ])
      unfolding step_with
      turn n e end m [] left done q r c go =
          absurd (not_empty n m end r c (subst (λ (z : ℕ). z ≤ greatest_deadline left) q (min-le_right e (greatest_deadline left))))
      turn n e end m (k ∷ pool) left done q r c go =
          place-step n e left done end (numbered k) q (takes_top N small sorted end m k pool r)
          ∙ by (fits resolution gap floor sending end (F k))
        where
          by : (b : Bool)
              → ◌≡◌ {A = Res (List Placed)}
              (elim b [
                | true ↦ place resolution gap floor sending n (start_of resolution gap floor sending end (F k) - gap) (keep (is_other k) left) (placed_at end k ∷ done)
                | false ↦ refuse 12 k
              ])
              (elim b [
                | true ↦ machine n (start_of resolution gap floor sending end (F k) - gap) m pool (placed_at end k ∷ done)
                | false ↦ refuse 12 k
              ])
          by true =
              go (start_of resolution gap floor sending end (F k) - gap) pool (keep (is_other k) left) (placed_at end k ∷ done)
              (goes_on N small sorted end m k pool r _ (start-le end (F k))) (omega arith)
          by false = refl

      pub machine_is : (n e m : ℕ) (pool : List ℕ) (left : List Numbered) (done : List Placed) → Same N small sorted left m pool e → m + length pool ≡ n
          → place resolution gap floor sending n e left done ≡ machine n e m pool done
      unfolding place machine
      machine_is zero e m pool left done s c = refl
      machine_is (suc n) e m pool left done s c =
          let end = low_end e m pool in
          turn n e end (outside_at end m) (pool_at end m pool) left done
          (lowered_is N small sorted e m pool s (omega arith))
          (all_entered N small sorted left end m pool (same_lower N small sorted end (low_end_le e m pool) s))
          (all_entered_count N small sorted end m pool ∙ c)
          (λ e' pool' left' done' s' c'. machine_is n e' (outside_at end m) pool' left' done' s' c')
