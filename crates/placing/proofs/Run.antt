-- The rule's loop over arrays: what stands at its head, and that each turn is a step of the machine with a pool.
use mathlib.Core.Path.{◌≡◌, refl, sym, ap, ◌∙◌, subst}
use mathlib.Core.Bool.{Bool, true, false, ◌&&◌}
use mathlib.Core.List.{List, [], ◌∷◌, map, nil≢cons, head-eq_of_cons-eq, tail-eq_of_cons-eq, Memᴰ}
use mathlib.Core.Logic.{◌⊎◌, inl, inr}
use native.Mathlib.Nat.{le_refl, not-suc-le-zero, sub_self, sub-zero, mod-eq_of_lt, mul-add-mod_self_right, zero-add, add-zero, add-suc, suc-add}
use native.Mathlib.Omega.{arith}
use lib.Dec.{leb, ltb}
use lib.ListN.{length, get_or, set, replicate, length-set, length-replicate, get_or-replicate, get_or-eq_default, length-map}
use lib.Seq.{get_or-set_same, get_or-set_other, ext_get_or}
use borrow.Author.Tests.{leb-true, leb-false, ltb-true, ltb-false, ne_eqb}
use Prim.Native.Nat.{ℕ, zero, suc, ◌+◌, ◌*◌, ◌-◌, ◌%◌, ◌≤◌, ◌<◌}
use Rattle.rules.specs.Limits.{most_frames}
use Rattle.laws.specs.Res.{Res, refuse}
use Rattle.laws.specs.Lists.{tab}
use Rattle.laws.specs.Numbers.{down}
use Rattle.laws.specs.Loops.{pad_to}
use Rattle.laws.proofs.Lists.{length-pad_to, get_or-pad_to, length-tab, get_or-tab, map-tab}
use Rattle.laws.proofs.Orders.{le-or-lt}
use Rattle.laws.proofs.Members.{All, empty, also, all_weaker, alone}
use Rattle.rules.specs.Frames.{Pair}
use Rattle.rules.specs.LatestRelease.{Numbered, Placed, numbered_from, place, fits}
use Rattle.rules.specs.LatestRelease as rule
use Rattle.laws.proofs.Laid.{tab-same}
use Rattle.std.specs.Prelude.{Ok}
use Rattle.placing.specs.Placing.{frame_at, time_of, inserted, outside_at, admitted, low_end_at, placed, laid, number_of, start_of}
use Rattle.placing.proofs.Pool.{numbered, key_of, entered, pool_at, low_end, top_of, rest_of, placed_at, machine, machine_is, Falling}
use Rattle.placing.proofs.Pool as pool
use Rattle.placing.proofs.Keys.{top_down, put, top_down_inserted, length_inserted, some_enter}

-- ---- general

-- an array with zeros behind its first n places is those places, filled up
padded : (l : List ℕ) (c n : ℕ) → length l ≡ c → n ≤ c → ((j : ℕ) → n ≤ j → get_or l j 0 ≡ 0) → pad_to c 0 (tab (λ j. get_or l j 0) 0 n) ≡ l
padded l c n e h z =
    ext_get_or 0 _ _ (length-pad_to c 0 (tab (λ j. get_or l j 0) 0 n) ∙ sym e) λ i w.
    let w' : i < c = rw (length-pad_to c 0 (tab (λ j. get_or l j 0) 0 n)) at w in
    get_or-pad_to c 0 (tab (λ j. get_or l j 0) 0 n) i w' ∙ by i (le-or-lt n i)
  where
    by : (i : ℕ) → (n ≤ i) ⊎ (i < n) → get_or (tab (λ j. get_or l j 0) 0 n) i 0 ≡ get_or l i 0
    by i (inl w) =
        let q : length (tab (λ j. get_or l j 0) 0 n) ≤ i = rw (length-tab (λ j. get_or l j 0) 0 n) w in
        get_or-eq_default (tab (λ j. get_or l j 0) 0 n) 0 q ∙ sym (z i w)
    by i (inr w) = get_or-tab (λ j. get_or l j 0) 0 n i 0 w ∙ rw zero-add

-- the frames of a numbering are those of its places
module _ (F : ℕ → Pair) where
  numbering_from : (lo n : ℕ) (y : Numbered) → Memᴰ y (numbered_from lo (tab F lo n)) → (k : ℕ) × (y ≡ numbered F k) × (lo ≤ k) × (k < lo + n)
  unfolding numbered_from
  numbering_from lo (suc n) y (Memᴰ.head e) = (lo, e, le_refl lo, omega arith)
  numbering_from lo (suc n) y (Memᴰ.tail m) =
      let t = numbering_from (suc lo) n y m in
      (t.0, t.1, (let a : suc lo ≤ t.0 = t.2 in omega arith), (let b : t.0 < suc lo + n = t.3 in omega arith))
  numbering_from lo zero y x' = elim x' [ ]

  numbering_has : (lo n k : ℕ) → k < n → Memᴰ (numbered F (lo + k)) (numbered_from lo (tab F lo n))
  unfolding numbered_from
  numbering_has lo zero k h = absurd (not-suc-le-zero h)
  numbering_has lo (suc n) zero h = Memᴰ.head (ap (numbered F) (add-zero lo))
  numbering_has lo (suc n) (suc k) h =
      Memᴰ.tail (subst (λ (i : ℕ). Memᴰ (numbered F i) (numbered_from (suc lo) (tab F (suc lo) n))) (suc-add lo k ∙ sym (add-suc lo k)) (numbering_has (suc lo) n k (omega arith)))

-- the number in a key
unfoldable pub number_in : ℕ → ℕ
number_in x = x % 65536

-- ---- the pool in the array of keys

module _ (task release deadline : List ℕ) where
  abbrev pub F : ℕ → Pair
  F = frame_at task release deadline

  outside-same : (end m : ℕ) → pool.outside_at F end m ≡ outside_at deadline end m
  unfolding frame_at
  outside-same end zero = refl
  outside-same end (suc m) = go (leb end (get_or deadline m 0)) (outside-same end m)
    where
      go : (b : Bool) → pool.outside_at F end m ≡ outside_at deadline end m
          → ◌≡◌ {A = ℕ} (elim b [ true ↦ pool.outside_at F end m | false ↦ suc m ]) (elim b [ true ↦ outside_at deadline end m | false ↦ suc m ])
      go true e = e
      go false e = refl

  put_entered : (k : ℕ) (js : List ℕ) → put (key_of F k) (map (key_of F) js) ≡ map (key_of F) (entered F k js)
  put_entered k [] = refl
  put_entered k (j ∷ js) = go (leb (key_of F j) (key_of F k)) (ltb (key_of F k) (key_of F j)) refl refl (put_entered k js)
    where
      go : (b c : Bool) → leb (key_of F j) (key_of F k) ≡ b → ltb (key_of F k) (key_of F j) ≡ c → put (key_of F k) (map (key_of F) js) ≡ map (key_of F) (entered F k js)
          → ◌≡◌ {A = List ℕ} (elim b [ true ↦ key_of F k ∷ key_of F j ∷ map (key_of F) js | false ↦ key_of F j ∷ put (key_of F k) (map (key_of F) js) ])
          (map (key_of F) (elim c [ true ↦ j ∷ entered F k js | false ↦ k ∷ j ∷ js ]))
      go true true p q e =
          let l : key_of F j ≤ key_of F k = leb-true _ _ p in
          let r : key_of F k < key_of F j = ltb-true _ _ q in
          absurd (omega arith)
      go true false p q e = refl
      go false true p q e = ap (λ (l : List ℕ). key_of F j ∷ l) e
      go false false p q e =
          let l : key_of F k < key_of F j = leb-false _ _ p in
          let r : key_of F j ≤ key_of F k = ltb-false _ _ q in
          absurd (omega arith)

  -- what the keys are from the top down, once all that may enter has entered; s is how many they are then
  keys_pool : (end m n s : ℕ) (keys : List ℕ) (js : List ℕ) → n + m ≤ length keys → top_down keys n ≡ map (key_of F) js → s + outside_at deadline end m ≡ n + m
      → top_down (admitted release deadline end m n keys) s ≡ map (key_of F) (pool_at F end m js)
  unfolding frame_at
  keys_pool end zero n s keys js h e c =
      let q : s ≡ n = omega arith in
      rw q e
  keys_pool end (suc m) n s keys js h e c =
      go (leb end (get_or deadline m 0)) c
      (λ c'. keys_pool end m (suc n) s (inserted keys n (get_or release m 0 * 65536 + m)) (entered F m js)
      (rw (length_inserted keys n (get_or release m 0 * 65536 + m)) (omega arith))
      (top_down_inserted keys n (get_or release m 0 * 65536 + m) (omega arith) ∙ ap (put (get_or release m 0 * 65536 + m)) e ∙ put_entered m js)
      (omega arith))
    where
      go : (b : Bool) → s + (elim b [ true ↦ outside_at deadline end m | false ↦ suc m ]) ≡ n + suc m
          → (s + outside_at deadline end m ≡ n + suc m → top_down (admitted release deadline end m (suc n) (inserted keys n (get_or release m 0 * 65536 + m))) s ≡ map (key_of F) (pool_at F end m (entered F m js)))
          → top_down (elim b [ true ↦ admitted release deadline end m (suc n) (inserted keys n (get_or release m 0 * 65536 + m)) | false ↦ keys ]) s
          ≡ map (key_of F) (elim b [ true ↦ pool_at F end m (entered F m js) | false ↦ js ])
      go true c f = f c
      go false c f =
          let q : s ≡ n = omega arith in
          rw q e

  length-admitted : (end m n : ℕ) (keys : List ℕ) → length (admitted release deadline end m n keys) ≡ length keys
  length-admitted end zero n keys = refl
  length-admitted end (suc m) n keys =
      go (leb end (get_or deadline m 0)) (length-admitted end m (suc n) (inserted keys n (get_or release m 0 * 65536 + m)) ∙ length_inserted keys n (get_or release m 0 * 65536 + m))
    where
      go : (b : Bool) → length (admitted release deadline end m (suc n) (inserted keys n (get_or release m 0 * 65536 + m))) ≡ length keys
          → length {A = ℕ} (elim b [ true ↦ admitted release deadline end m (suc n) (inserted keys n (get_or release m 0 * 65536 + m)) | false ↦ keys ]) ≡ length keys
      go true e = e
      go false e = refl

  -- ---- at the loop's head

  -- the numbers that keys hold
  unfoldable pub numbers_in : List ℕ → ℕ → List ℕ
  numbers_in keys n = map number_in (top_down keys n)

  numbers_of_keys : (js : List ℕ) → All (λ k. k < 65536) js → map number_in (map (key_of F) js) ≡ js
  unfolding number_in
  numbers_of_keys [] h = refl
  numbers_of_keys (j ∷ js) (also b h) =
      let e : key_of F j % 65536 ≡ j = mul-add-mod_self_right (F j).release 65536 j ∙ mod-eq_of_lt b in
      rw (e, numbers_of_keys js h)

  numbers-in : (keys : List ℕ) (n : ℕ) (js : List ℕ) → All (λ k. k < 65536) js → top_down keys n ≡ map (key_of F) js → numbers_in keys n ≡ js
  unfolding numbers_in
  numbers-in keys n js h e = ap (map number_in) e ∙ numbers_of_keys js h

  length_top_down : (keys : List ℕ) (n : ℕ) → length (top_down keys n) ≡ n
  length_top_down keys zero = refl
  length_top_down keys (suc n) = ap suc (length_top_down keys n)

  length-numbers_in : (keys : List ℕ) (n : ℕ) → length (numbers_in keys n) ≡ n
  unfolding numbers_in
  length-numbers_in keys n = length-map (top_down keys n) number_in ∙ length_top_down keys n

  pool_at_all : {P : ℕ → Type 0} (end m : ℕ) (js : List ℕ) → ((k : ℕ) → k < m → P k) → All P js → All P (pool_at F end m js)
  pool_at_all end zero js h a = a
  pool_at_all {P} end (suc m) js h a =
      go (leb end (F m).deadline) (pool_at_all end m (entered F m js) (λ k l. h k (omega arith)) (pool.entered_all F m (h m (le_refl (suc m))) a))
    where
      go : (b : Bool) → All P (pool_at F end m (entered F m js)) → All P (elim b [ true ↦ pool_at F end m (entered F m js) | false ↦ js ])
      go true r = r
      go false r = a

  module _ (time : List ℕ) (count resolution gap floor e₀ : ℕ) where
    abbrev pub run_from : ℕ → ℕ → ℕ → List ℕ → List Placed → Res (List Placed)
    run_from = machine F resolution gap floor (time_of time)

    -- what was placed, read off the arrays
    abbrev pub placed_in : List ℕ → List ℕ → ℕ → Placed
    placed_in number start j = record { number = get_or number j 0; pair = F (get_or number j 0); start = get_or start j 0 }

    abbrev pub done_in : List ℕ → List ℕ → ℕ → List Placed
    done_in number start left = tab (placed_in number start) left (count - left)

    pub record Going (keys number start : List ℕ) (left outside low : ℕ) : Type 0 where
      pub few : count ≤ most_frames
      pub keys_long : length keys ≡ most_frames
      pub number_long : length number ≡ most_frames
      pub start_long : length start ≡ most_frames
      pub left_le : left ≤ count
      pub outside_le : outside ≤ left
      pub keyed : top_down keys (left - outside) ≡ map (key_of F) (numbers_in keys (left - outside))
      pub below : All (λ k. k < count) (numbers_in keys (left - outside))
      pub zero_number : (j : ℕ) → count ≤ j → get_or number j 0 ≡ 0
      pub zero_start : (j : ℕ) → count ≤ j → get_or start j 0 ≡ 0
      pub whole : run_from count e₀ count [] [] ≡ run_from left low outside (numbers_in keys (left - outside)) (done_in number start left)

    zeros : (j : ℕ) → get_or {A = ℕ} (replicate most_frames 0) j 0 ≡ 0
    zeros j = by (le-or-lt most_frames j)
      where
        by : (most_frames ≤ j) ⊎ (j < most_frames) → get_or {A = ℕ} (replicate most_frames 0) j 0 ≡ 0
        by (inl w) =
            let q : length {A = ℕ} (replicate most_frames 0) ≤ j = w in
            get_or-eq_default (replicate most_frames 0) 0 q
        by (inr w) = get_or-replicate most_frames j 0 0 w

    pub going_none : count ≤ most_frames → Going (replicate most_frames 0) (replicate most_frames 0) (replicate most_frames 0) count count e₀
    unfolding numbers_in
    going_none few =
        record {
          few = few;
          keys_long = length-replicate {A = ℕ} most_frames 0;
          number_long = length-replicate {A = ℕ} most_frames 0;
          start_long = length-replicate {A = ℕ} most_frames 0;
          left_le = le_refl count;
          outside_le = le_refl count;
          keyed = rw (sub_self count);
          below = rw (sub_self count) empty;
          zero_number = λ j l. zeros j;
          zero_start = λ j l. zeros j;
          whole = rw (sub_self count);
        }

    -- ---- one turn: what `take_next` found is the machine's

    module _
        {keys number start : List ℕ} {left outside low : ℕ} (g : Going keys number start left outside low) (more : 0 < left)
        {keys' : List ℕ} {size low' outside' k : ℕ}
        (size_is : size ≡ left - outside)
        (low_is : low' ≡ low_end_at deadline low outside size)
        (outside_is : outside' ≡ outside_at deadline low' outside)
        (keys_are : keys' ≡ admitted release deadline low' outside size keys)
        (k_is : k ≡ get_or keys' (outside + size - outside' - 1) 0 % 65536)
      where
        js : List ℕ
        js = numbers_in keys (left - outside)

        js' : List ℕ
        js' = pool_at F low' outside js

        length_js : length js ≡ left - outside
        unfolding js
        length_js = length-numbers_in keys (left - outside)

        low_same : low_end F low outside js ≡ low'
        unfolding frame_at low_end_at
        low_same = go js length_js ∙ sym (rw size_is at low_is)
          where
            go : (l : List ℕ) → length l ≡ left - outside → low_end F low outside l ≡ low_end_at deadline low outside (left - outside)
            go [] e = rw (← e)
            go (x ∷ l) e = rw (ne_eqb (left - outside) 0 (λ q. omega arith))

        outside_less : outside' < left
        outside_less =
            let h = some_enter deadline low outside (left - outside) (let o : outside ≤ left = g.outside_le in omega arith) in
            let o : outside ≤ left = g.outside_le in
            let q : outside + (left - outside) ≡ left = omega arith in
            rw (outside_is, low_is, size_is) (rw q at h)

        below' : All (λ j. j < count) js'
        unfolding js js'
        below' =
            pool_at_all low' outside (numbers_in keys (left - outside))
            (λ j l. let o : outside ≤ left = g.outside_le in let c : left ≤ count = g.left_le in omega arith) g.below

        top_down' : top_down keys' (left - outside') ≡ map (key_of F) js'
        unfolding js js'
        top_down' =
            rw (keys_are, size_is)
            (keys_pool low' outside (left - outside) (left - outside') keys (numbers_in keys (left - outside))
            (let f : count ≤ most_frames = g.few in let o : outside ≤ left = g.outside_le in let c : left ≤ count = g.left_le in let l : length keys ≡ most_frames = g.keys_long in omega arith)
            g.keyed
            (let o : outside ≤ left = g.outside_le in let p = outside_less in rw (← outside_is) (omega arith)))

        small : {l : List ℕ} → All (λ j. j < count) l → All (λ j. j < 65536) l
        small a = let f : count ≤ most_frames = g.few in all_weaker (λ j h. omega arith) a

        -- the pool's top and the rest of it
        split : (l : List ℕ) (n : ℕ) → top_down keys' (suc n) ≡ map (key_of F) l → All (λ j. j < count) l
            → (top_of F l ≡ get_or keys' n 0 % 65536) × (top_down keys' n ≡ map (key_of F) (rest_of F l)) × All (λ j. j < count) (rest_of F l) × (top_of F l < count)
        split [] n e a = absurd (nil≢cons (sym e))
        split (j ∷ l) n e (also b a) =
            let h : get_or keys' n 0 ≡ key_of F j = head-eq_of_cons-eq e in
            let f : count ≤ most_frames = g.few in
            let m : key_of F j % 65536 ≡ j = mul-add-mod_self_right (F j).release 65536 j ∙ mod-eq_of_lt (omega arith) in
            (sym (ap (λ (x : ℕ). x % 65536) h ∙ m), tail-eq_of_cons-eq e, a, b)

        n : ℕ
        n = left - 1 - outside'

        parts : (top_of F js' ≡ get_or keys' n 0 % 65536) × (top_down keys' n ≡ map (key_of F) (rest_of F js')) × All (λ j. j < count) (rest_of F js') × (top_of F js' < count)
        unfolding n
        parts =
            let o = outside_less in
            let q : left - outside' ≡ suc (left - 1 - outside') = omega arith in
            split js' (left - 1 - outside') (rw q at top_down') below'

        top_is : top_of F js' ≡ k
        unfolding n
        top_is =
            let o = outside_less in
            let p : outside ≤ left = g.outside_le in
            let q : outside + (left - outside) - outside' - 1 ≡ left - 1 - outside' = omega arith in
            parts.0 ∙ sym (rw (size_is, q) at k_is)

        rest-is : rest_of F js' ≡ numbers_in keys' (left - 1 - outside')
        unfolding n
        rest-is = sym (numbers-in keys' (left - 1 - outside') (rest_of F js') (small parts.2) parts.1)

        pub k_below : k < count
        k_below = subst (λ (j : ℕ). j < count) top_is parts.3

        abbrev step_as : ℕ → ℕ → ℕ → List ℕ → Res (List Placed)
        step_as end m j rest =
            elim (fits resolution gap floor (time_of time) end (F j)) [
              | true ↦ run_from (left - 1) (rule.start_of resolution gap floor (time_of time) end (F j) - gap) m rest
                  (placed_at F resolution gap floor (time_of time) end j ∷ done_in number start left)
              | false ↦ refuse 12 j
            ]

        -- the machine's step
        step : run_from left low outside js (done_in number start left) ≡ step_as low' outside' k (numbers_in keys' (left - 1 - outside'))
        unfolding machine js'
        step =
            let q : left ≡ suc (left - 1) = omega arith in
            ap (λ (x : ℕ). run_from x low outside js (done_in number start left)) q
            ∙ ap (λ (x : ℕ). step_as x (pool.outside_at F x outside) (top_of F (pool_at F x outside js)) (rest_of F (pool_at F x outside js))) low_same
            ∙ ap (λ (x : ℕ). step_as low' x (top_of F js') (rest_of F js')) (outside-same low' outside ∙ sym outside_is)
            ∙ ap (λ (x : ℕ). step_as low' outside' x (rest_of F js')) top_is
            ∙ ap (λ (x : List ℕ). step_as low' outside' k x) rest-is

        pub going_refused : fits resolution gap floor (time_of time) low' (F k) ≡ false → run_from count e₀ count [] [] ≡ refuse 12 k
        unfolding js
        going_refused f = g.whole ∙ step ∙ rw (f, step_as)

        module _ {begin : ℕ} {number' start' : List ℕ}
            (fit : fits resolution gap floor (time_of time) low' (F k) ≡ true)
            (begin_is : begin ≡ rule.start_of resolution gap floor (time_of time) low' (F k))
            (number_is : number' ≡ set number (left - 1) k)
            (start_is : start' ≡ set start (left - 1) begin)
          where
            in_number : left - 1 < length number
            in_number = let f : count ≤ most_frames = g.few in let l : length number ≡ most_frames = g.number_long in let c : left ≤ count = g.left_le in omega arith

            in_start : left - 1 < length start
            in_start = let f : count ≤ most_frames = g.few in let l : length start ≡ most_frames = g.start_long in let c : left ≤ count = g.left_le in omega arith

            number-at : get_or number' (left - 1) 0 ≡ k
            number-at = rw number_is (get_or-set_same number (left - 1) k 0 in_number)

            start-at : get_or start' (left - 1) 0 ≡ begin
            start-at = rw start_is (get_or-set_same start (left - 1) begin 0 in_start)

            number-above : (j : ℕ) → left ≤ j → get_or number' j 0 ≡ get_or number j 0
            number-above j h =
                let q : j ≡ left - 1 → ⊥ = λ e. omega arith in
                rw number_is (get_or-set_other number (left - 1) j k 0 q)

            start-above : (j : ℕ) → left ≤ j → get_or start' j 0 ≡ get_or start j 0
            start-above j h =
                let q : j ≡ left - 1 → ⊥ = λ e. omega arith in
                rw start_is (get_or-set_other start (left - 1) j begin 0 q)

            done_more : placed_at F resolution gap floor (time_of time) low' k ∷ done_in number start left ≡ done_in number' start' (left - 1)
            done_more =
                let c : left ≤ count = g.left_le in
                let q : count - (left - 1) ≡ suc (count - left) = omega arith in
                let r : suc (left - 1) ≡ left = omega arith in
                sym
                (rw q
                (rw (number-at, start-at, begin_is, r)
                (ap (λ (l : List Placed). placed_at F resolution gap floor (time_of time) low' k ∷ l)
                (tab-same (placed_in number' start') (placed_in number start) left (count - left) (λ j h below. rw (number-above j h, start-above j h))))))

            pub going_turn : Going keys' number' start' (left - 1) outside' (begin - gap)
            unfolding js n
            going_turn =
                record {
                  few = g.few;
                  keys_long = rw (keys_are, size_is) (length-admitted low' outside (left - outside) keys ∙ g.keys_long);
                  number_long = rw (number_is, length-set) g.number_long;
                  start_long = rw (start_is, length-set) g.start_long;
                  left_le = let c : left ≤ count = g.left_le in omega arith;
                  outside_le = let o = outside_less in omega arith;
                  keyed = parts.1 ∙ ap (map (key_of F)) rest-is;
                  below = subst (All (λ j. j < count)) rest-is parts.2;
                  zero_number = λ j l. number-above j (let c : left ≤ count = g.left_le in omega arith) ∙ g.zero_number j l;
                  zero_start = λ j l. start-above j (let c : left ≤ count = g.left_le in omega arith) ∙ g.zero_start j l;
                  whole =
                      g.whole ∙ step
                      ∙ rw (fit, step_as)
                      (ap (λ (b : ℕ). run_from (left - 1) (b - gap) outside' (numbers_in keys' (left - 1 - outside')) (placed_at F resolution gap floor (time_of time) low' k ∷ done_in number start left)) (sym begin_is)
                      ∙ ap (run_from (left - 1) (begin - gap) outside' (numbers_in keys' (left - 1 - outside'))) done_more);
                }

    -- ---- the loop's end, and its beginning

    pub going_end : {keys number start : List ℕ} {left outside low : ℕ} → Going keys number start left outside low → left ≤ 0
        → placed (Ok tt) number start ≡ laid (run_from count e₀ count [] [])
    unfolding machine
    going_end {keys} {number} {start} {left = zero} {outside} {low} g h =
        rw g.whole
        (rw (
          map-tab (placed_in number start) number_of 0 (count - 0),
          map-tab (placed_in number start) start_of 0 (count - 0),
          sub-zero,
          padded number most_frames count g.number_long g.few g.zero_number,
          padded start most_frames count g.start_long g.few g.zero_start,
        ))
    going_end {keys} {number} {start} {left = suc left} {outside} {low} g h = absurd (not-suc-le-zero h)

    -- the rule over the frames of the arrays is the machine's run
    pub rule-is : count ≤ most_frames → ((i j : ℕ) → i ≤ j → j < count → get_or deadline i 0 ≤ get_or deadline j 0)
        → place resolution gap floor (time_of time) count e₀ (numbered_from 0 (tab F 0 count)) [] ≡ run_from count e₀ count [] []
    unfolding frame_at Falling
    rule-is few sorted =
        machine_is F resolution gap floor (time_of time) count (omega arith) sorted count e₀ count [] (numbered_from 0 (tab F 0 count)) []
        (record {
          from = λ y m. let t = numbering_from F 0 count y m in (t.0, t.1, inl (let h : t.0 < 0 + count = t.3 in omega arith));
          outs = λ k h. subst (λ (i : ℕ). Memᴰ (numbered F i) (numbered_from 0 (tab F 0 count))) (zero-add k) (numbering_has F 0 count k h);
          ins = λ k m. elim m [ ];
          falling = alone;
          within = le_refl count;
          below = empty;
          above = empty;
          late = empty;
        }) (add-zero count)

    -- what the code computes is the rule's own
    pub begin-is : (low k at begin : ℕ) → at ≡ get_or time (get_or task k 0) 0 → begin ≡ down resolution (low - at)
        → begin ≡ rule.start_of resolution gap floor (time_of time) low (F k)
    unfolding frame_at time_of rule.start_of
    begin-is low k at begin p q = q ∙ ap (λ (x : ℕ). down resolution (low - x)) p

    pub fits-is : (low k at begin : ℕ) (r : Bool) → at ≡ get_or time (get_or task k 0) 0 → begin ≡ down resolution (low - at)
        → r ≡ (leb at low && (leb (get_or release k 0) begin && leb floor begin)) → fits resolution gap floor (time_of time) low (F k) ≡ r
    unfolding frame_at time_of rule.start_of fits
    fits-is low k at begin r p q e =
        sym (e ∙ rw (q, p))
