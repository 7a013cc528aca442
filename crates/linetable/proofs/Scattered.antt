-- The starts stored by number are those of the frame rows, and the rows in arrays are those of the layout.
use mathlib.Core.Path.{◌≡◌, refl, sym, ap, ◌∙◌}
use mathlib.Core.Bool.{Bool, true, false, cond, or-false}
use mathlib.Core.List.{List, [], ◌∷◌, ◌++◌, map}
use mathlib.Core.Logic.{◌⊎◌, inl, inr}
use native.Mathlib.Nat.{zero-add}
use native.Mathlib.Numerals.{add-one}
use native.Mathlib.Omega.{arith}
use borrow.Author.Tests.{eqb-true, eqb-false, ne_eqb}
use lib.Dec.{eqb}
use lib.ListN.{length, get_or, set, take, replicate, length-set, get_or-replicate, get_or-eq_default}
use lib.Seq.{ext_get_or, get_or-set_same, get_or-set_other, take_all}
use Prim.Native.Nat.{ℕ, zero, suc, ◌≤◌, ◌<◌}
use Rattle.rules.specs.Limits.{most_frames}
use Rattle.laws.specs.Lists.{tab}
use Rattle.laws.specs.Loops.{pad_to}
use Rattle.laws.proofs.Lists.{take_more, length-tab, get_or-tab, length-pad_to, get_or-pad_to}
use Rattle.laws.proofs.Arrays.{get_or-laid}
use Rattle.laws.proofs.Orders.{le-or-lt}
use Rattle.laws.proofs.Members.{All, empty, also}
use Rattle.rules.specs.Frames.{Pair}
use Rattle.rules.specs.LatestRelease.{Placed, no_pair}
use Rattle.rules.specs.Table.{held_in, alone, is_number, start_for, rows_from}
use Rattle.placing.specs.Placing.{number_of, start_of}
use Rattle.line.specs.Line.{task_of, release_of, deadline_of}
use Rattle.rows.specs.Rows.{row_task, row_release, row_deadline, row_start, scattered}

abbrev pub no_placed : Placed
no_placed = record { number = 0; pair = no_pair; start = 0 }

-- ---- starts by number

-- the start of the first frame of this number, else d
abbrev start_or : List Placed → ℕ → ℕ → ℕ
start_or [] k d = d
start_or (x ∷ xs) k d = cond (eqb x.number k) x.start (start_or xs k d)

start-or : (xs : List Placed) (k : ℕ) → start_for (map alone xs) k ≡ start_or xs k 0
unfolding start_for held_in is_number alone
start-or [] k = refl
start-or (x ∷ xs) k = rw (or-false (eqb x.number k), start-or xs k)

start_snoc : (xs : List Placed) (x : Placed) (k d : ℕ) → start_or (xs ++ (x ∷ [])) k d ≡ start_or xs k (cond (eqb x.number k) x.start d)
start_snoc [] x k d = refl
start_snoc (y ∷ xs) x k d = rw (start_snoc xs x k d)

stored : (by : List ℕ) (n s k : ℕ) → k < length by → get_or (set by n s) k 0 ≡ cond (eqb n k) s (get_or by k 0)
stored by n s k w = go (eqb n k) refl
  where
    go : (b : Bool) → eqb n k ≡ b → get_or (set by n s) k 0 ≡ cond b s (get_or by k 0)
    go true e = rw (eqb-true n k e) (get_or-set_same by k s 0 w)
    go false e = get_or-set_other by n k s 0 (λ q. eqb-false n k e (sym q))

length-scattered : (number start : List ℕ) (n : ℕ) (by : List ℕ) → length (scattered number start n by) ≡ length by
length-scattered number start zero by = refl
length-scattered number start (suc n) by =
    length-scattered number start n (set by (get_or number n 0) (get_or start n 0)) ∙ length-set by (get_or number n 0) (get_or start n 0)

module _ (placed : List Placed) (number start : List ℕ)
    (numbers : (j : ℕ) → j < length placed → get_or number j 0 ≡ (get_or placed j no_placed).number)
    (starts : (j : ℕ) → j < length placed → get_or start j 0 ≡ (get_or placed j no_placed).start)
  where
    scattered-at : (n : ℕ) (by : List ℕ) (k : ℕ) → n ≤ length placed → k < length by
        → get_or (scattered number start n by) k 0 ≡ start_or (take n placed) k (get_or by k 0)
    scattered-at zero by k h w = refl
    scattered-at (suc n) by k h w =
        let v : n < length placed = omega arith in
        let x : Placed = get_or placed n no_placed in
        scattered-at n (set by (get_or number n 0) (get_or start n 0)) k (omega arith) (rw (length-set by (get_or number n 0) (get_or start n 0)) w)
        ∙ ap (start_or (take n placed) k) (stored by (get_or number n 0) (get_or start n 0) k w)
        ∙ rw (numbers n v, starts n v)
        (sym (start_snoc (take n placed) x k (get_or by k 0)))
        ∙ ap (λ (l : List Placed). start_or l k (get_or by k 0)) (sym (take_more placed n no_placed v) ∙ ap (λ (m : ℕ). take m placed) (add-one n))

-- a number that no frame has
start_none : (m k : ℕ) {xs : List Placed} → All (λ x. x.number < m) xs → m ≤ k → start_for (map alone xs) k ≡ 0
unfolding start_for held_in is_number alone
start_none m k empty h = refl
start_none m k (also {x} {l = xs} q r) h =
    let other : x.number ≡ k → ⊥ = omega arith in
    rw (ne_eqb x.number k other, start_none m k r h)

-- ---- the frame rows, number by number

module _ (placed : List Placed) where
  pub tasks_are : (k : ℕ) (fs : List Pair) → map row_task (rows_from (map alone placed) k fs) ≡ map task_of fs
  unfolding rows_from
  tasks_are k [] = refl
  tasks_are k (f ∷ fs) = ap (λ (r : List ℕ). f.task ∷ r) (tasks_are (suc k) fs)

  pub releases_are : (k : ℕ) (fs : List Pair) → map row_release (rows_from (map alone placed) k fs) ≡ map release_of fs
  unfolding rows_from
  releases_are k [] = refl
  releases_are k (f ∷ fs) = ap (λ (r : List ℕ). f.release ∷ r) (releases_are (suc k) fs)

  pub deadlines_are : (k : ℕ) (fs : List Pair) → map row_deadline (rows_from (map alone placed) k fs) ≡ map deadline_of fs
  unfolding rows_from
  deadlines_are k [] = refl
  deadlines_are k (f ∷ fs) = ap (λ (r : List ℕ). f.deadline ∷ r) (deadlines_are (suc k) fs)

  starts_are : (k : ℕ) (fs : List Pair) → map row_start (rows_from (map alone placed) k fs) ≡ tab (start_for (map alone placed)) k (length fs)
  unfolding rows_from
  starts_are k [] = refl
  starts_are k (f ∷ fs) = ap (λ (r : List ℕ). start_for (map alone placed) k ∷ r) (starts_are (suc k) fs)

  pub rows-count : (k : ℕ) (fs : List Pair) → length (rows_from (map alone placed) k fs) ≡ length fs
  unfolding rows_from
  rows-count k [] = refl
  rows-count k (f ∷ fs) = ap suc (rows-count (suc k) fs)

  module _ (fs : List Pair) (few : length fs ≤ most_frames) (count : length placed ≡ length fs) (below : All (λ x. x.number < length fs) placed) where
    abbrev number : List ℕ
    number = pad_to most_frames 0 (map number_of placed)

    abbrev start : List ℕ
    start = pad_to most_frames 0 (map start_of placed)

    rows_start : (k : ℕ) → (length fs ≤ k) ⊎ (k < length fs) → get_or (tab (start_for (map alone placed)) 0 (length fs)) k 0 ≡ start_for (map alone placed) k
    rows_start k (inl h) =
        let past : length (tab (start_for (map alone placed)) 0 (length fs)) ≤ k = rw (length-tab (start_for (map alone placed)) 0 (length fs)) h in
        get_or-eq_default (tab (start_for (map alone placed)) 0 (length fs)) 0 past ∙ sym (start_none (length fs) k below h)
    rows_start k (inr h) = get_or-tab (start_for (map alone placed)) 0 (length fs) k 0 h ∙ rw zero-add

    starts-at : (k : ℕ) → k < most_frames → get_or (scattered number start (length fs) (replicate most_frames 0)) k 0 ≡ start_for (map alone placed) k
    starts-at k w =
        scattered-at placed number start
        (λ j v. get_or-laid number_of placed no_placed most_frames j refl (omega arith))
        (λ j v. get_or-laid start_of placed no_placed most_frames j refl (omega arith))
        (length fs) (replicate most_frames 0) k (omega arith) w
        ∙ ap (start_or (take (length fs) placed) k) (get_or-replicate most_frames k 0 0 w) ∙ ap (λ (l : List Placed). start_or l k 0) (take_all (length fs) placed (omega arith)) ∙ sym (start-or placed k)

    pub starts-scattered : scattered number start (length fs) (replicate most_frames 0) ≡ pad_to most_frames 0 (map row_start (rows_from (map alone placed) 0 fs))
    starts-scattered =
        let l : List ℕ = map row_start (rows_from (map alone placed) 0 fs) in
        ext_get_or 0 _ _ (length-scattered number start (length fs) (replicate most_frames 0) ∙ sym (length-pad_to most_frames 0 l)) λ k w.
        let v : k < most_frames = rw (length-scattered number start (length fs) (replicate most_frames 0)) at w in
        starts-at k v ∙ sym (get_or-pad_to most_frames 0 l k v ∙ ap (λ (x : List ℕ). get_or x k 0) (starts_are 0 fs) ∙ rows_start k (le-or-lt (length fs) k))
