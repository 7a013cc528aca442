-- The frames that rows name, as the rules say it: marks find the rows that name a frame again, and the starts laid by number are the
-- starts that the table gives.
use mathlib.Core.Path.{◌≡◌, refl, sym, ap, ◌∙◌}
use mathlib.Core.Bool.{Bool, true, false, cond, not, ◌&&◌}
use mathlib.Core.List.{List, [], ◌∷◌, ◌++◌, map}
use mathlib.Core.Logic.{◌⊎◌, inl, inr}
use native.Mathlib.Nat.{zero-add, eq-or-lt_of_le}
use native.Mathlib.Numerals.{add-one}
use native.Mathlib.Omega.{arith}
use lib.Dec.{eqb, ltb}
use lib.ListN.{length, get_or, set, take, length-replicate, length-set, get_or-replicate, length-map, get_or-eq_default}
use lib.Seq.{get_or-set_same, get_or-set_other, ext_get_or}
use borrow.Author.Tests.{ltb-true, ltb-false, eqb-true, eqb-false, eq-eqb, not-true}
use Prim.Native.Nat.{ℕ, zero, suc, ◌+◌, ◌≤◌, ◌<◌}
use Rattle.rules.specs.Limits.{most_frames}
use Rattle.laws.specs.Lists.{any, tab}
use Rattle.laws.specs.Loops.{pad_to}
use Rattle.laws.proofs.Lists.{both, both_left, both_right, neither_left, neither_right, true-false, any-up_to_hit, take-tab, length-tab, get_or-tab, tab_more, map-tab, length-pad_to, get_or-pad_to}
use Rattle.rules.specs.Frames.{Pair}
use Rattle.rules.specs.Checker.{Named, Row, TableRead, no_row, row_at, is_pair_of, same_name, named_in, holds_pair, row_holding}
use Rattle.rules.proofs.SingleRows.{OpensAlone, holds_single}
use Rattle.naming.specs.Places.{place_from, Numbered, is_pair, number_of, marks, is_new, spread}
use Rattle.judging.specs.Judged.{frame_in, frames_in, same_pair, names_new, start_in}
use Rattle.laws.proofs.Arrays.{placed-set}
use Rattle.laws.proofs.Turns.{same-any}
use Rattle.naming.proofs.Places.{any_place, names, marked}
use Rattle.naming.proofs.Names.{pair_key, number-passes, number-only}

-- ---- the frame of a row

module _ (tasks releases deadlines : List ℕ) (frames : ℕ) (r : Named) where
  pub any_frame : any (is_pair_of r) (frames_in tasks releases deadlines frames) ≡ ltb (number_of tasks deadlines frames r.task r.deadline) frames
  unfolding frames_in frame_in is_pair_of is_pair number_of
  any_frame =
      any_place (is_pair tasks deadlines r.task r.deadline) (is_pair_of r) (frame_in tasks releases deadlines) (λ k. refl) 0 frames
      ∙ ap (ltb (place_from (is_pair tasks deadlines r.task r.deadline) 0 frames)) (zero-add frames)

  named-from : (low n : ℕ) → place_from (is_pair tasks deadlines r.task r.deadline) low n < low + n
      → named_in (tab (frame_in tasks releases deadlines) low n) r
      ≡ frame_in tasks releases deadlines (place_from (is_pair tasks deadlines r.task r.deadline) low n)
  unfolding is_pair_of is_pair named_in frame_in
  named-from low zero h = absurd (omega arith)
  named-from low (suc n) h = here (is_pair tasks deadlines r.task r.deadline low) h (named-from (suc low) n)
    where
      here : {later : ℕ} (b : Bool) → cond b low later < low + suc n
          → (later < suc low + n → named_in (tab (frame_in tasks releases deadlines) (suc low) n) r ≡ frame_in tasks releases deadlines later)
          → cond b (frame_in tasks releases deadlines low) (named_in (tab (frame_in tasks releases deadlines) (suc low) n) r)
          ≡ frame_in tasks releases deadlines (cond b low later)
      here true v next = refl
      here false v next = next (omega arith)

  pub named_frame : number_of tasks deadlines frames r.task r.deadline < frames
      → named_in (frames_in tasks releases deadlines frames) r ≡ frame_in tasks releases deadlines (number_of tasks deadlines frames r.task r.deadline)
  unfolding frames_in number_of
  named_frame h = named-from 0 frames (rw (zero-add frames) h)

  -- its frame has the row's task
  pub named-task : number_of tasks deadlines frames r.task r.deadline < frames
      → (named_in (frames_in tasks releases deadlines frames) r).task ≡ r.task
  unfolding frame_in
  named-task h =
      ap (λ (f : Pair). f.task) (named_frame h)
      ∙ sym (pair_key tasks deadlines r.task r.deadline (number_of tasks deadlines frames r.task r.deadline)
      (number-passes tasks deadlines r.task r.deadline frames h)).0

-- ---- rows that name frames

module _ (tasks releases deadlines : List ℕ) (frames : ℕ) (n : Numbered tasks deadlines frames) (row : ℕ → Row) (count : ℕ)
    (numbers : List ℕ) (given : (j : ℕ) → j < count → get_or numbers j 0 ≡ number_of tasks deadlines frames (row j).opens.task (row j).opens.deadline) where
  -- two rows have the same number where they name the same pair
  same_number : (k j : ℕ) → k < count → j < count → get_or numbers k 0 < frames
      → names numbers (get_or numbers k 0) j ≡ same_pair (row k) (row j)
  unfolding names same_pair same_name
  same_number k j h w v = here (same_pair (row k) (row j)) refl (eqb (get_or numbers j 0) (get_or numbers k 0)) refl
    where
      here : (b : Bool) → same_pair (row k) (row j) ≡ b → (c : Bool) → eqb (get_or numbers j 0) (get_or numbers k 0) ≡ c
          → eqb (get_or numbers j 0) (get_or numbers k 0) ≡ same_pair (row k) (row j)
      here true e c f =
          let t : (row k).opens.task ≡ (row j).opens.task = eqb-true (row k).opens.task (row j).opens.task (both_left (eqb (row k).opens.task (row j).opens.task) (eqb (row k).opens.deadline (row j).opens.deadline) e) in
          let d : (row k).opens.deadline ≡ (row j).opens.deadline = eqb-true (row k).opens.deadline (row j).opens.deadline (both_right (eqb (row k).opens.task (row j).opens.task) (eqb (row k).opens.deadline (row j).opens.deadline) e) in
          let s : get_or numbers j 0 ≡ get_or numbers k 0 = given j w ∙ rw (sym t, sym d) (sym (given k h)) in
          eq-eqb (get_or numbers j 0) (get_or numbers k 0) s ∙ sym e
      here false e false f = f ∙ sym e
      here false e true f =
          let s : get_or numbers j 0 ≡ get_or numbers k 0 = eqb-true (get_or numbers j 0) (get_or numbers k 0) f in
          let a = pair_key tasks deadlines (row k).opens.task (row k).opens.deadline (get_or numbers k 0)
          (rw (given k h) (number-passes tasks deadlines (row k).opens.task (row k).opens.deadline frames (rw (given k h) at v))) in
          let b = pair_key tasks deadlines (row j).opens.task (row j).opens.deadline (get_or numbers k 0)
          (rw (sym s, given j w) (number-passes tasks deadlines (row j).opens.task (row j).opens.deadline frames (rw (sym s, given j w) at v))) in
          true-false (sym (both (eq-eqb (row k).opens.task (row j).opens.task (a.0 ∙ sym b.0)) (eq-eqb (row k).opens.deadline (row j).opens.deadline (a.1 ∙ sym b.1))) ∙ e)

  new_if : (k : ℕ) → k < count → (b : Bool) → ltb (get_or numbers k 0) frames ≡ b
      → (b && not (get_or (marks numbers k) (get_or numbers k 0) false)) ≡ (b && not (any (same_pair (row k)) (tab row 0 k)))
  new_if k h true e =
      let w : get_or numbers k 0 < frames = ltb-true (get_or numbers k 0) frames e in
      let v : get_or numbers k 0 < most_frames = omega (arith, n.room) in
      ap not (marked numbers k (get_or numbers k 0) v
      ∙ same-any (names numbers (get_or numbers k 0)) (same_pair (row k)) row k (λ j u. same_number k j h (omega arith) w))
  new_if k h false e = refl

  pub new_row : (k : ℕ) → k < count
      → is_new numbers frames k ≡ (any (is_pair_of (row k).opens) (frames_in tasks releases deadlines frames) && not (any (same_pair (row k)) (tab row 0 k)))
  unfolding is_new
  new_row k h =
      rw (any_frame tasks releases deadlines frames (row k).opens, sym (given k h)) (new_if k h (ltb (get_or numbers k 0) frames) refl)

  module _ (t : TableRead) (rows : t.rows ≡ tab row 0 count) where
    pub row-at : (k : ℕ) → k < count → row_at t k ≡ row k
    unfolding row_at
    row-at k h = rw rows (get_or-tab row 0 count k no_row h ∙ ap row (zero-add k))

    -- Rule 23 by marks is rule 23.
    pub new-names : (k : ℕ) → k < count → is_new numbers frames k ≡ names_new (frames_in tasks releases deadlines frames) t k
    unfolding names_new
    new-names k h =
        let u : take k t.rows ≡ tab row 0 k = ap (take k) rows ∙ take-tab row 0 count k (omega arith) in
        rw (row-at k h, u) (new_row k h)

  -- ---- the starts by number

  frame_row : (f k : ℕ) → f < frames → k < count → names numbers f k ≡ is_pair_of (row k).opens (frame_in tasks releases deadlines f)
  unfolding names is_pair_of frame_in is_pair
  frame_row f k h w = here (is_pair tasks deadlines (row k).opens.task (row k).opens.deadline f) refl (eqb (get_or numbers k 0) f) refl
    where
      here : (b : Bool) → is_pair tasks deadlines (row k).opens.task (row k).opens.deadline f ≡ b → (c : Bool) → eqb (get_or numbers k 0) f ≡ c
          → eqb (get_or numbers k 0) f ≡ is_pair tasks deadlines (row k).opens.task (row k).opens.deadline f
      here true e c q =
          eq-eqb (get_or numbers k 0) f (given k w ∙ number-only tasks deadlines (row k).opens.task (row k).opens.deadline frames f n h e) ∙ sym e
      here false e false q = q ∙ sym e
      here false e true q =
          let s : number_of tasks deadlines frames (row k).opens.task (row k).opens.deadline ≡ f = sym (given k w) ∙ eqb-true (get_or numbers k 0) f q in
          let v : number_of tasks deadlines frames (row k).opens.task (row k).opens.deadline < frames = rw s h in
          true-false (sym (rw s at (number-passes tasks deadlines (row k).opens.task (row k).opens.deadline frames v)) ∙ e)

-- a row behind others gives the start where none of those holds the frame
module _ (f : Pair) (r : Row) where
  row-behind : (l : List Row) → any (holds_pair f) l ≡ false → holds_pair f r ≡ true → row_holding (l ++ (r ∷ [])) f ≡ r
  unfolding row_holding
  row-behind [] e q = rw q
  row-behind (s ∷ l) e q =
      rw (neither_left (holds_pair f s) (any (holds_pair f) l) e) (row-behind l (neither_right (holds_pair f s) (any (holds_pair f) l) e) q)

  row_same : (l : List Row) → holds_pair f r ≡ false → row_holding (l ++ (r ∷ [])) f ≡ row_holding l f
  unfolding row_holding
  row_same [] q = rw q
  row_same (s ∷ l) q = ap (λ (x : Row). cond (holds_pair f s) s x) (row_same l q)

  pub start-behind : (l : List Row) → any (holds_pair f) l ≡ false → holds_pair f r ≡ true → start_in (l ++ (r ∷ [])) f ≡ r.start
  unfolding start_in
  start-behind l e q = ap (λ (x : Row). x.start) (row-behind l e q)

  pub start-same : (l : List Row) → holds_pair f r ≡ false → start_in (l ++ (r ∷ [])) f ≡ start_in l f
  unfolding start_in
  start-same l q = ap (λ (x : Row). x.start) (row_same l q)

module _ (numbers starts : List ℕ) where
  pub length-spread : (k : ℕ) → length (spread numbers starts k) ≡ most_frames
  length-spread zero = length-replicate {A = ℕ} most_frames 0
  length-spread (suc k) =
      ap length (placed-set most_frames (spread numbers starts k) (get_or numbers k 0) (get_or starts k 0) (length-spread k))
      ∙ length-set (spread numbers starts k) (get_or numbers k 0) (get_or starts k 0) ∙ length-spread k

  spread-set : (k : ℕ) → spread numbers starts (suc k) ≡ set (spread numbers starts k) (get_or numbers k 0) (get_or starts k 0)
  spread-set k = placed-set most_frames (spread numbers starts k) (get_or numbers k 0) (get_or starts k 0) (length-spread k)

  spread-here : (k f : ℕ) → f < most_frames → get_or numbers k 0 ≡ f → get_or (spread numbers starts (suc k)) f 0 ≡ get_or starts k 0
  spread-here k f h e =
      ap (λ (l : List ℕ). get_or l f 0) (spread-set k ∙ ap (λ (i : ℕ). set (spread numbers starts k) i (get_or starts k 0)) e)
      ∙ get_or-set_same (spread numbers starts k) f (get_or starts k 0) 0 (rw (length-spread k) h)

  spread-there : (k f : ℕ) → (get_or numbers k 0 ≡ f → ⊥) → get_or (spread numbers starts (suc k)) f 0 ≡ get_or (spread numbers starts k) f 0
  spread-there k f n =
      ap (λ (l : List ℕ). get_or l f 0) (spread-set k)
      ∙ get_or-set_other (spread numbers starts k) (get_or numbers k 0) f (get_or starts k 0) 0 (λ e. n (sym e))

  -- a number that no row has
  pub spread-free : (k f : ℕ) → f < most_frames → ((j : ℕ) → j < k → get_or numbers j 0 ≡ f → ⊥) → get_or (spread numbers starts k) f 0 ≡ 0
  spread-free zero f h n = get_or-replicate most_frames f 0 0 h
  spread-free (suc k) f h n = spread-there k f (n k (omega arith)) ∙ spread-free k f h (λ j w. n j (omega arith))

-- rows that name new frames
module _ (numbers : List ℕ) (frames : ℕ) where
  pub new-within : (k : ℕ) → is_new numbers frames k ≡ true → get_or numbers k 0 < frames
  unfolding is_new
  new-within k e = ltb-true (get_or numbers k 0) frames (both_left (ltb (get_or numbers k 0) frames) (not (get_or (marks numbers k) (get_or numbers k 0) false)) e)

  -- no row before has the number
  pub new-other : (j k : ℕ) → frames ≤ most_frames → j < k → is_new numbers frames k ≡ true → get_or numbers j 0 ≡ get_or numbers k 0 → ⊥
  unfolding is_new names
  new-other j k room h e q =
      true-false (sym (any-up_to_hit (names numbers (get_or numbers k 0)) k j h (eq-eqb (get_or numbers j 0) (get_or numbers k 0) q))
      ∙ sym (marked numbers k (get_or numbers k 0) (omega (arith, new-within k e, room)))
      ∙ not-true (get_or (marks numbers k) (get_or numbers k 0) false)
      (both_right (ltb (get_or numbers k 0) frames) (not (get_or (marks numbers k) (get_or numbers k 0) false)) e))

  -- the start at the number of a row is the row's
  pub spread_row : (starts : List ℕ) → frames ≤ most_frames → (count : ℕ) → ((i : ℕ) → i < count → is_new numbers frames i ≡ true)
      → (k : ℕ) → k < count → get_or (spread numbers starts count) (get_or numbers k 0) 0 ≡ get_or starts k 0
  spread_row starts room zero new k h = absurd (omega arith)
  spread_row starts room (suc c) new k h =
      here (eq-or-lt_of_le (omega arith)) (λ l. spread_row starts room c (λ i u. new i (omega arith)) k l)
    where
      here : (k ≡ c) ⊎ (k < c) → (k < c → get_or (spread numbers starts c) (get_or numbers k 0) 0 ≡ get_or starts k 0)
          → get_or (spread numbers starts (suc c)) (get_or numbers k 0) 0 ≡ get_or starts k 0
      here (inl e) before =
          spread-here numbers starts c (get_or numbers k 0) (omega (arith, new-within k (new k h), room)) (ap (λ (i : ℕ). get_or numbers i 0) (sym e))
          ∙ ap (λ (i : ℕ). get_or starts i 0) (sym e)
      here (inr l) before =
          spread-there numbers starts c (get_or numbers k 0) (λ q. new-other k c room l (new c (omega arith)) (sym q)) ∙ before l

module _ (tasks releases deadlines : List ℕ) (frames : ℕ) (n : Numbered tasks deadlines frames) (row : ℕ → Row) (count : ℕ)
    (numbers : List ℕ) (given : (j : ℕ) → j < count → get_or numbers j 0 ≡ number_of tasks deadlines frames (row j).opens.task (row j).opens.deadline)
    (alone : (j : ℕ) → OpensAlone (row j)) (starts : List ℕ) (begins : (j : ℕ) → j < count → get_or starts j 0 ≡ (row j).start)
    (passed : (j : ℕ) → j < count → is_new numbers frames j ≡ true) where
  within : (j : ℕ) → j < count → get_or numbers j 0 < frames
  within j h = new-within numbers frames j (passed j h)

  -- the rows that hold a frame are those with its number
  frame_held : (f k : ℕ) → f < frames → k < count → names numbers f k ≡ holds_pair (frame_in tasks releases deadlines f) (row k)
  frame_held f k h w =
      frame_row tasks releases deadlines frames n row count numbers given f k h w
      ∙ sym (holds_single (frame_in tasks releases deadlines f) (row k) (alone k))

  -- no row before holds the frame of a row
  first-named : (k : ℕ) → k < count → any (holds_pair (frame_in tasks releases deadlines (get_or numbers k 0))) (tab row 0 k) ≡ false
  unfolding is_new
  first-named k h =
      sym (same-any (names numbers (get_or numbers k 0)) (holds_pair (frame_in tasks releases deadlines (get_or numbers k 0))) row k
      (λ j w. frame_held (get_or numbers k 0) j (within k h) (omega arith)))
      ∙ sym (marked numbers k (get_or numbers k 0) (omega (arith, within k h, n.room)))
      ∙ not-true (get_or (marks numbers k) (get_or numbers k 0) false)
      (both_right (ltb (get_or numbers k 0) frames) (not (get_or (marks numbers k) (get_or numbers k 0) false)) (passed k h))

  tab_snoc : (k : ℕ) → tab row 0 (suc k) ≡ tab row 0 k ++ (row k ∷ [])
  tab_snoc k =
      ap (tab row 0) (sym (add-one k)) ∙ tab_more row 0 k ∙ ap (λ (i : ℕ). tab row 0 k ++ (row i ∷ [])) (zero-add k)

  start-at : (k f : ℕ) → k ≤ count → f < frames → get_or (spread numbers starts k) f 0 ≡ start_in (tab row 0 k) (frame_in tasks releases deadlines f)
  unfolding start_in row_holding names
  start-at zero f h w = get_or-replicate most_frames f 0 0 (omega (arith, n.room))
  start-at (suc k) f h w =
      here (eqb (get_or numbers k 0) f) refl (start-at k f (omega arith) w)
      ∙ ap (λ (l : List Row). start_in l (frame_in tasks releases deadlines f)) (sym (tab_snoc k))
    where
      here : (b : Bool) → eqb (get_or numbers k 0) f ≡ b
          → get_or (spread numbers starts k) f 0 ≡ start_in (tab row 0 k) (frame_in tasks releases deadlines f)
          → get_or (spread numbers starts (suc k)) f 0 ≡ start_in (tab row 0 k ++ (row k ∷ [])) (frame_in tasks releases deadlines f)
      here true e before =
          let s : get_or numbers k 0 ≡ f = eqb-true (get_or numbers k 0) f e in
          spread-here numbers starts k f (omega (arith, n.room)) s ∙ begins k (omega arith)
          ∙ sym (start-behind (frame_in tasks releases deadlines f) (row k) (tab row 0 k) (rw s at (first-named k (omega arith)))
          (sym (frame_held f k w (omega arith)) ∙ e))
      here false e before =
          spread-there numbers starts k f (eqb-false (get_or numbers k 0) f e) ∙ before
          ∙ sym (start-same (frame_in tasks releases deadlines f) (row k) (tab row 0 k)
          (sym (frame_held f k w (omega arith)) ∙ e))

  -- The starts laid by number are the starts that the table gives to its frames.
  pub starts-laid : spread numbers starts count ≡ pad_to most_frames 0 (map (start_in (tab row 0 count)) (frames_in tasks releases deadlines frames))
  unfolding frames_in
  starts-laid =
      ext_get_or 0 (spread numbers starts count) (pad_to most_frames 0 (map (start_in (tab row 0 count)) (tab (frame_in tasks releases deadlines) 0 frames)))
      (length-spread numbers starts count ∙ sym (length-pad_to most_frames 0 (map (start_in (tab row 0 count)) (tab (frame_in tasks releases deadlines) 0 frames))))
      (λ i h. let w : i < most_frames = rw (length-spread numbers starts count) at h in each i w (ltb i frames) refl
      ∙ sym (get_or-pad_to most_frames 0 (map (start_in (tab row 0 count)) (tab (frame_in tasks releases deadlines) 0 frames)) i w))
    where
      each : (i : ℕ) → i < most_frames → (b : Bool) → ltb i frames ≡ b
          → get_or (spread numbers starts count) i 0 ≡ get_or (map (start_in (tab row 0 count)) (tab (frame_in tasks releases deadlines) 0 frames)) i 0
      each i w true e =
          let v : i < frames = ltb-true i frames e in
          start-at count i (omega arith) v
          ∙ ap (λ (j : ℕ). start_in (tab row 0 count) (frame_in tasks releases deadlines j)) (sym (zero-add i))
          ∙ sym (get_or-tab (λ j. start_in (tab row 0 count) (frame_in tasks releases deadlines j)) 0 frames i 0 v)
          ∙ ap (λ (l : List ℕ). get_or l i 0) (sym (map-tab (frame_in tasks releases deadlines) (start_in (tab row 0 count)) 0 frames))
      each i w false e =
          let v : frames ≤ i = ltb-false i frames e in
          spread-free numbers starts count i w (λ j u s. omega (arith, within j u))
          ∙ sym (get_or-eq_default (map (start_in (tab row 0 count)) (tab (frame_in tasks releases deadlines) 0 frames)) 0
          (rw (length-map (tab (frame_in tasks releases deadlines) 0 frames) (start_in (tab row 0 count)), length-tab (frame_in tasks releases deadlines) 0 frames) v))
