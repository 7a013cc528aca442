-- Direct: the walk of rules 13.1 to 13.4 finds the pairs of rule 4.7, in their order, as far as it has room; and it makes no more steps than
-- its room times the number of runs, whatever the bus period.
use mathlib.Core.Path.{◌≡◌, refl, sym, ap, ap₂, ◌∙◌}
use mathlib.Core.Bool.{Bool, true, false, cond, ◌&&◌}
use mathlib.Core.List.{List, [], ◌∷◌, ◌++◌, map, append_assoc, Memᴰ}
use mathlib.Core.Logic.{◌⊎◌, inl, inr}
use native.Mathlib.Nat.{suc-mul, suc-max-suc, zero-max, eq-or-lt_of_le, le_trans, dvd_refl, dvd-mul_left, dvd-add, div-add-mod', mod-lt, mod-le}
use native.Mathlib.Omega.{arith}
use borrow.Author.Tests.{eq-eqb, eqb-true, lt-ltb, le-ltb, ltb-true, ltb-false, le-leb, lt-leb}
use lib.Dec.{eqb, ltb, leb}
use lib.ListN.{length, length-map, take, length-take}
use lib.Seq.{take_all}
use Prim.Native.Nat.{ℕ, zero, suc, ◌+◌, ◌*◌, ◌-◌, ◌/◌, ◌%◌, ◌≤◌, ◌<◌, ◌∣◌, min, max}
use Rattle.laws.specs.Lists.{cons_if, keep, all}
use Rattle.laws.specs.Numbers.{divides, up, down, greatest}
use Rattle.laws.proofs.Lists.{tested, true-false, both, both_left, both_right, length-keep}
use Rattle.laws.proofs.Orders.{le-or-lt}
use Rattle.laws.proofs.Divisors.{divides-true, divides-is, down-multiple}
use Rattle.laws.proofs.Readers.{not_behind, first-reached, first_read, first-least, least-below, least-has}
use Rattle.laws.proofs.Members.{All, empty, also, all_weaker, all_keep, all_map, all_get_d, all_both, keep-passes, all_of_members, all_member, any_member, any-among, member_map}
use Rattle.rules.specs.Limits.{most_frames, most_tasks}
use Rattle.rules.specs.Plan.{Plan, Invocation, no_task, the_task}
use Rattle.rules.specs.Traffic.{Run, is_bus_task, run_of, of_bus_task, bus_runs, Message, traffic, read_in}
use Rattle.rules.specs.Frames.{Pair, pairs_of, pairs}
use Rattle.rules.specs.Readers.{is_read, is_read_by, readers_of, read_messages}
use Rattle.rules.specs.Direct.{
  multiple_after,
  read_after,
  is_end,
  deadline_after,
  place_of,
  behind_all,
  is_still_ahead,
  next_of,
  next_place,
  is_due,
  due_at,
  release_for,
  pair_at,
  nothing_found,
  found_then,
  walk_runs_from,
  walk_runs,
}
use Rattle.rules.proofs.PlanKept.{PlanKept, InvocationKept}
use Rattle.rules.proofs.ReadersGo.{ReadersGo, edition-kept}
use Rattle.rules.proofs.Grid.{cell, row, grid, ends, latest, below, pairs-grid}
use Rattle.rules.proofs.Editions.{readable_kept_in}
use Rattle.rules.proofs.Needed.{readers_go, needed_exact}
use Rattle.laws.specs.Res.{ok}

-- ---- the grid as one row of places

module _ (f : ℕ → ℕ → ℕ) where
  -- the pair of a place, and the pairs of the places lo, .., lo + n - 1
  abbrev place : ℕ → List Pair
  place y = cell (y % most_tasks) (y / most_tasks) (f (y / most_tasks) (y % most_tasks))

  abbrev places : ℕ → ℕ → List Pair
  places lo zero = []
  places lo (suc n) = place lo ++ places (suc lo) n

  place_is : (d t y : ℕ) → t < most_tasks → y ≡ place_of d t → place y ≡ cell t d (f d t)
  place_is d t y h e =
      let p : y / most_tasks ≡ d = omega arith in
      let q : y % most_tasks ≡ t = omega arith in
      rw (p, q)

  places-append : (lo j k : ℕ) → places lo (j + k) ≡ places lo j ++ places (lo + j) k
  places-append lo zero k =
      let p : zero + k ≡ k = omega arith in
      let q : lo + zero ≡ lo = omega arith in
      rw (p, q)
  places-append lo (suc j) k =
      let p : suc j + k ≡ suc (j + k) = omega arith in
      let q : lo + suc j ≡ suc lo + j = omega arith in
      rw (p, q) (ap (λ (l : List Pair). place lo ++ l) (places-append (suc lo) j k) ∙ sym (append_assoc (place lo) (places (suc lo) j) (places (suc lo + j) k)))

  places-nothing : (lo n : ℕ) → ((y : ℕ) → lo ≤ y → y < lo + n → f (y / most_tasks) (y % most_tasks) ≡ 0) → places lo n ≡ []
  places-nothing lo zero h = refl
  places-nothing lo (suc n) h =
      rw (h lo (omega arith) (omega arith)) (places-nothing (suc lo) n (λ y a b. h y (omega arith) (omega arith)))

  row-places : (d t n : ℕ) → t + n ≤ most_tasks → row (f d) d t n ≡ places (place_of d t) n
  row-places d t zero h = refl
  row-places d t (suc n) h =
      let e : place_of d (suc t) ≡ suc (place_of d t) = omega arith in
      ap₂ (λ (a b : List Pair). a ++ b) (sym (place_is d t (place_of d t) (omega arith) refl)) (row-places d (suc t) n (omega arith) ∙ ap (λ (y : ℕ). places y n) e)

  grid-places : (d k : ℕ) → grid f most_tasks d k ≡ places (d * most_tasks) (k * most_tasks)
  grid-places d zero = refl
  grid-places d (suc k) =
      let a : place_of d 0 ≡ d * most_tasks = omega arith in
      let b : suc d * most_tasks ≡ d * most_tasks + most_tasks = omega arith in
      let c : suc k * most_tasks ≡ most_tasks + k * most_tasks = omega arith in
      ap₂ (λ (l m : List Pair). l ++ m) (row-places d 0 most_tasks (omega arith) ∙ ap (λ (y : ℕ). places y most_tasks) a)
      (grid-places (suc d) k ∙ ap (λ (y : ℕ). places y (k * most_tasks)) b)
      ∙ sym (ap (places (d * most_tasks)) c ∙ places-append (d * most_tasks) most_tasks (k * most_tasks))

-- ---- the releases of a place

-- one more than the greatest release of these runs' messages, or 0
abbrev tops : ℕ → List Run → ℕ
tops d [] = 0
tops d (r ∷ rs) = suc (greatest (map (release_for d) (r ∷ rs)))

tops_more : (d : ℕ) (r : Run) (rs : List Run) → max (suc (release_for d r)) (tops d rs) ≡ tops d (r ∷ rs)
tops_more d r [] = omega arith
tops_more d r (q ∷ rs) = suc-max-suc (release_for d r) (greatest (map (release_for d) (q ∷ rs)))

cell_tops : (d t : ℕ) (rs : List Run) → 0 < tops d rs → cell t d (tops d rs) ≡ record { task = t; release = greatest (map (release_for d) rs); deadline = d } ∷ []
cell_tops d t [] h = absurd (omega arith)
cell_tops d t (r ∷ rs) h = refl

-- ---- the next place of a run

module _ (readers : ℕ → List ℕ) where
  -- what is asked of a run: its task is one that a plan can have, it comes again, and it has readers, each of which comes again
  pub record Goes (r : Run) : Type 0 where
    pub task : r.task < most_tasks
    pub again : 0 < r.period
    pub some : 0 < length (readers r.task)
    pub each : All (λ u. 0 < u) (readers r.task)

  -- x is the run's first end behind the place of d and t
  pub record IsNext (d t : ℕ) (r : Run) (x : ℕ) : Type 0 where
    pub end : is_end readers x r ≡ true
    pub behind : place_of d t < place_of x r.task
    pub first : (y : ℕ) → is_end readers y r ≡ true → place_of d t < place_of y r.task → x ≤ y

  next_unique : {d t : ℕ} {r : Run} {x y : ℕ} → IsNext d t r x → IsNext d t r y → x ≡ y
  next_unique {x = x} {y} a b = omega (arith, a.first y b.end b.behind, b.first x a.end a.behind)

  -- a run has no message between a place and its next one
  none_between : {d t : ℕ} {r : Run} {x : ℕ} (y : ℕ) → IsNext d t r x → place_of d t < y → y < place_of x r.task → ends readers r (y / most_tasks) (y % most_tasks) ≡ 0
  unfolding is_due
  none_between {d} {t} {r} {x} y n a b = which (tested (is_end readers (y / most_tasks) r)) (tested (eqb r.task (y % most_tasks)))
    where
      which : (is_end readers (y / most_tasks) r ≡ true) ⊎ (is_end readers (y / most_tasks) r ≡ false) → (eqb r.task (y % most_tasks) ≡ true) ⊎ (eqb r.task (y % most_tasks) ≡ false)
          → ends readers r (y / most_tasks) (y % most_tasks) ≡ 0
      which (inl p) (inl q) =
          let e : r.task ≡ y % most_tasks = eqb-true r.task (y % most_tasks) q in
          let h : x ≤ y / most_tasks = n.first (y / most_tasks) p (omega arith) in
          absurd (omega arith)
      which (inl p) (inr q) = rw (p, q)
      which (inr p) q = rw p

  -- at it the run has one
  some_at : (r : Run) (d : ℕ) → is_end readers d r ≡ true → 0 < ends readers r d r.task
  unfolding is_due
  some_at r d h = rw (h, eq-eqb r.task r.task refl) (omega arith)

  -- ---- the first end behind a deadline

  module _ (d : ℕ) (r : Run) (g : Goes r) where
    abbrev after : ℕ
    after = multiple_after r.period d

    after-multiple : r.period ∣ after
    unfolding multiple_after
    after-multiple =
        let e : d / r.period * r.period + d % r.period ≡ d = div-add-mod' d r.period in
        let f : d - d % r.period ≡ d / r.period * r.period = omega arith in
        dvd-add r.period (rw f (dvd-mul_left r.period (d / r.period))) (dvd_refl r.period)

    after-behind : d < after
    unfolding multiple_after
    after-behind =
        let m : d % r.period < r.period = mod-lt d g.again in
        let l : d % r.period ≤ d = mod-le d r.period in
        omega arith

    -- a multiple of the period behind d is not before the first one
    after_first : (x : ℕ) → r.period ∣ x → d < x → after ≤ x
    unfolding multiple_after
    after_first x m h = not_behind r.period after x after-multiple m (let l : d % r.period ≤ d = mod-le d r.period in omega arith)

    -- with each reader there is an end behind d, not behind any other that is read with it
    read-end : (u : ℕ) → 0 < u → Memᴰ u (readers r.task) → (is_end readers (read_after r.period d u) r ≡ true) × (d < read_after r.period d u)
    unfolding read_after is_end is_read_by is_read
    read-end u p m = (
      both (divides-is r.period (down r.period (up u after)) (down-multiple r.period (up u after)))
          (any-among (is_read r.period (down r.period (up u after))) m (lt-ltb _ _ (first_read r.period u after g.again p after-multiple))),
      omega (arith, after-behind, first-reached r.period u after g.again p after-multiple),
    )

    -- the first end behind d
    pub is-after : (is_end readers (deadline_after readers d r) r ≡ true) × (d < deadline_after readers d r)
    unfolding deadline_after
    is-after =
        least-has {P = λ x. (is_end readers x r ≡ true) × (d < x)} (rw (length-map (readers r.task) (read_after r.period d)) g.some)
        (all_map (read_after r.period d) (all_of_members (readers r.task) (λ u m. read-end u (all_member g.each m) m)))

    pub after-least : (x : ℕ) → is_end readers x r ≡ true → d < x → deadline_after readers d r ≤ x
    unfolding deadline_after is_end is_read_by is_read read_after
    after-least x e h =
        let m : r.period ∣ x = divides-true r.period x (both_left (divides r.period x) (is_read_by (readers r.task) r.period x) e) in
        let f = any_member (is_read r.period x) (readers r.task) (both_right (divides r.period x) (is_read_by (readers r.task) r.period x) e) in
        le_trans (least-below (member_map (read_after r.period d) f.among))
        (first-least r.period f.one after g.again (all_member g.each f.among) after-multiple x m (after_first x m h) (ltb-true _ _ f.passes))

  module _ (d t : ℕ) (short : t < most_tasks) where
    is-next : (r : Run) → Goes r → IsNext d t r (cond (is_still_ahead readers d t r) d (deadline_after readers d r))
    unfolding is_still_ahead
    is-next r g = which (tested (is_end readers d r)) (tested (ltb t r.task))
      where
        a : d < deadline_after readers d r
        a = (is-after d r g).1

        later : ((y : ℕ) → is_end readers y r ≡ true → place_of d t < place_of y r.task → d < y) → IsNext d t r (deadline_after readers d r)
        later h = record { end = (is-after d r g).0; behind = omega (arith, a, g.task); first = λ y e l. after-least d r g y e (h y e l) }

        which : (is_end readers d r ≡ true) ⊎ (is_end readers d r ≡ false) → (ltb t r.task ≡ true) ⊎ (ltb t r.task ≡ false)
            → IsNext d t r (cond (is_end readers d r && ltb t r.task) d (deadline_after readers d r))
        which (inl p) (inl q) =
            let l : t < r.task = ltb-true t r.task q in
            rw (p, q) (record { end = p; behind = omega arith; first = λ y e h. omega (arith, g.task) })
        which (inl p) (inr q) =
            let l : r.task ≤ t = ltb-false t r.task q in
            rw (p, q) (later (λ y e h. omega arith))
        which (inr p) q = rw p (later (λ y e h. strictly y e (omega (arith, g.task))))
          where
            strictly : (y : ℕ) → is_end readers y r ≡ true → d ≤ y → d < y
            strictly y e l = other (eq-or-lt_of_le l)
              where
                other : (d ≡ y) ⊎ (d < y) → d < y
                other (inl s) = true-false (sym e ∙ ap (λ (x : ℕ). is_end readers x r) (sym s) ∙ p)
                other (inr s) = s

    -- so wherever a run's first end behind the place is known, it is the one that is computed
    pub next-is : {r : Run} {x : ℕ} → Goes r → IsNext d t r x → next_of readers d t r ≡ place_of x r.task
    unfolding next_of
    next-is {r} {x} g n = ap (λ (y : ℕ). place_of y r.task) (next_unique (is-next r g) n)

    next-has : (r : Run) → Goes r → (x : ℕ) × (next_of readers d t r ≡ place_of x r.task) × IsNext d t r x
    unfolding next_of
    next-has r g = (cond (is_still_ahead readers d t r) d (deadline_after readers d r), refl, is-next r g)

  -- ---- the next place of all runs

  pub next-none : (cycle d t : ℕ) → next_place readers cycle [] d t ≡ behind_all cycle
  unfolding next_place
  next-none cycle d t = refl

  pub next-step : (cycle d t : ℕ) (r : Run) (rs : List Run) → next_place readers cycle (r ∷ rs) d t ≡ min (next_of readers d t r) (next_place readers cycle rs d t)
  unfolding next_place
  next-step cycle d t r rs = refl

  module _ (cycle d t : ℕ) (short : t < most_tasks) where
    -- it is the least of theirs
    pub next-least : {b : ℕ} {rs : List Run} → b ≤ behind_all cycle → All (λ r. b ≤ next_of readers d t r) rs → b ≤ next_place readers cycle rs d t
    next-least h empty = rw (next-none cycle d t) h
    next-least h (also {x = r} {l = rs} g a) = rw (next-step cycle d t r rs) (omega (arith, g, next-least h a))

    pub next-most : {r : Run} {rs : List Run} → Memᴰ r rs → next_place readers cycle rs d t ≤ next_of readers d t r
    next-most (Memᴰ.head {x = q} {xs = rs} e) = rw (next-step cycle d t q rs, e) (omega arith)
    next-most (Memᴰ.tail {x = q} {xs = rs} m) = rw (next-step cycle d t q rs) (omega (arith, next-most m))

    next-behind : {rs : List Run} → All Goes rs → place_of d t < behind_all cycle → place_of d t < next_place readers cycle rs d t
    next-behind empty h = rw (next-none cycle d t) h
    next-behind (also {x = r} {l = rs} g a) h =
        let n = next-has d t short r g in
        rw (next-step cycle d t r rs) (omega (arith, next-behind a h, n.1, n.2.behind))

    -- between a place and the next one no run has a message
    nothing-between : {rs : List Run} (y : ℕ) → All Goes rs → place_of d t < y → y < next_place readers cycle rs d t → latest readers rs (y / most_tasks) (y % most_tasks) ≡ 0
    nothing-between y empty h l = refl
    nothing-between y (also {x = r} {l = rs} g a) h l =
        let n = next-has d t short r g in
        let m : y < min (next_of readers d t r) (next_place readers cycle rs d t) = rw (next-step cycle d t r rs) at l in
        rw (none_between y n.2 h (omega (arith, n.1)), nothing-between y a h (omega arith))

    -- and at the next one some run has
    some-at-next : {rs : List Run} (y : ℕ) → All Goes rs → y ≡ next_place readers cycle rs d t → y < behind_all cycle → 0 < latest readers rs (y / most_tasks) (y % most_tasks)
    some-at-next y empty e l = absurd (omega (arith, next-none cycle d t))
    some-at-next y (also {x = r} {l = rs} g a) e l = which (λ h. some-at-next y a h l) (le-or-lt (next_of readers d t r) (next_place readers cycle rs d t))
      where
        m : y ≡ min (next_of readers d t r) (next_place readers cycle rs d t)
        m = e ∙ next-step cycle d t r rs

        which : (y ≡ next_place readers cycle rs d t → 0 < latest readers rs (y / most_tasks) (y % most_tasks)) → (next_of readers d t r ≤ next_place readers cycle rs d t) ⊎ (next_place readers cycle rs d t < next_of readers d t r)
            → 0 < max (ends readers r (y / most_tasks) (y % most_tasks)) (latest readers rs (y / most_tasks) (y % most_tasks))
        which later (inl h) =
            let n = next-has d t short r g in
            let s : r.task < most_tasks = g.task in
            let p : y ≡ place_of n.0 r.task = omega (arith, m, n.1) in
            let v : y / most_tasks ≡ n.0 = omega arith in
            let u : y % most_tasks ≡ r.task = omega arith in
            let w : 0 < ends readers r n.0 r.task = some_at r n.0 n.2.end in
            rw (v, u) (omega arith)
        which later (inr h) = omega (arith, later (omega (arith, m)))

  -- ---- what a place holds

  latest_tops : (d t : ℕ) (rs : List Run) → latest readers rs d t ≡ tops d (due_at readers rs d t)
  unfolding due_at
  latest_tops d t [] = refl
  latest_tops d t (r ∷ rs) = which (is_due readers d t r) (latest_tops d t rs)
    where
      which : (b : Bool) → latest readers rs d t ≡ tops d (keep (is_due readers d t) rs) → max (cond b (suc (release_for d r)) 0) (latest readers rs d t) ≡ tops d (cons_if b r (keep (is_due readers d t) rs))
      which true e = rw e (tops_more d r (keep (is_due readers d t) rs))
      which false e = zero-max (latest readers rs d t) ∙ e

  cell_pair : (d t : ℕ) (rs : List Run) → 0 < latest readers rs d t → cell t d (latest readers rs d t) ≡ pair_at readers rs d t ∷ []
  unfolding pair_at
  cell_pair d t rs h =
      let e : latest readers rs d t ≡ tops d (due_at readers rs d t) = latest_tops d t rs in
      rw e (cell_tops d t (due_at readers rs d t) (rw e at h))

  -- at the next place stands the pair that the walk takes there
  pub next-pair : (cycle d t y : ℕ) (rs : List Run) → t < most_tasks → All Goes rs → y ≡ next_place readers cycle rs d t → y < behind_all cycle
      → cell (y % most_tasks) (y / most_tasks) (latest readers rs (y / most_tasks) (y % most_tasks)) ≡ pair_at readers rs (y / most_tasks) (y % most_tasks) ∷ []
  next-pair cycle d t y rs short goes e l = cell_pair (y / most_tasks) (y % most_tasks) rs (some-at-next cycle d t short y goes e l)

  -- ---- the walk

  module _ (cycle : ℕ) (rs : List Run) (room d t : ℕ) where
    pub walk_on : next_place readers cycle rs d t < behind_all cycle
        → walk_runs_from readers (suc room) cycle rs d t
        ≡ found_then readers rs (next_place readers cycle rs d t / most_tasks) (next_place readers cycle rs d t % most_tasks) (walk_runs_from readers room cycle rs (next_place readers cycle rs d t / most_tasks) (next_place readers cycle rs d t % most_tasks))
    unfolding walk_runs_from
    walk_on h = rw (lt-ltb (next_place readers cycle rs d t) (behind_all cycle) h, walk_runs_from)

    pub walk_end : behind_all cycle ≤ next_place readers cycle rs d t → walk_runs_from readers (suc room) cycle rs d t ≡ nothing_found
    unfolding walk_runs_from
    walk_end h = rw (le-ltb (next_place readers cycle rs d t) (behind_all cycle) h, walk_runs_from)

  -- No more steps than the room times the number of runs, whatever the cycle.
  pub few-steps : (cycle : ℕ) (rs : List Run) (room d t : ℕ) → (walk_runs_from readers room cycle rs d t).steps ≤ room * length rs
  unfolding walk_runs_from found_then due_at
  few-steps cycle rs zero d t = omega arith
  few-steps cycle rs (suc room) d t =
      let next = next_place readers cycle rs d t in
      which (few-steps cycle rs room (next / most_tasks) (next % most_tasks)) (le-or-lt (behind_all cycle) next)
    where
      next : ℕ
      next = next_place readers cycle rs d t

      which : (walk_runs_from readers room cycle rs (next / most_tasks) (next % most_tasks)).steps ≤ room * length rs → (behind_all cycle ≤ next) ⊎ (next < behind_all cycle)
          → (walk_runs_from readers (suc room) cycle rs d t).steps ≤ suc room * length rs
      which rest (inl h) = rw (walk_end cycle rs room d t h) (omega arith)
      which rest (inr h) =
          rw (walk_on cycle rs room d t h)
          (omega (arith, suc-mul room (length rs), length-keep (is_due readers (next / most_tasks) (next % most_tasks)) rs))

  module _ (cycle : ℕ) (rs : List Run) (goes : All Goes rs) where
    -- the places from the next one on, where there is one, are its pair and the places behind it
    places_on : (d t y : ℕ) → t < most_tasks → place_of d t < behind_all cycle → y ≡ next_place readers cycle rs d t → y < behind_all cycle
        → places (latest readers rs) (suc (place_of d t)) (behind_all cycle - suc (place_of d t))
        ≡ pair_at readers rs (y / most_tasks) (y % most_tasks) ∷ places (latest readers rs) (suc y) (behind_all cycle - suc y)
    places_on d t y short h e l =
        let b : place_of d t < y = omega (arith, e, next-behind cycle d t short goes h) in
        let p : behind_all cycle - suc (place_of d t) ≡ (y - suc (place_of d t)) + suc (behind_all cycle - suc y) = omega arith in
        let q : suc (place_of d t) + (y - suc (place_of d t)) ≡ y = omega arith in
        ap (places (latest readers rs) (suc (place_of d t))) p ∙ places-append (latest readers rs) (suc (place_of d t)) (y - suc (place_of d t)) (suc (behind_all cycle - suc y))
        ∙ ap₂ (λ (a : List Pair) (k : ℕ). a ++ places (latest readers rs) k (suc (behind_all cycle - suc y)))
        (places-nothing (latest readers rs) (suc (place_of d t)) (y - suc (place_of d t)) (λ k u v. nothing-between cycle d t short k goes u (omega arith))) q
        ∙ ap (λ (a : List Pair). a ++ places (latest readers rs) (suc y) (behind_all cycle - suc y))
        (next-pair cycle d t y rs short goes e l)

    places-end : (d t : ℕ) → t < most_tasks → behind_all cycle ≤ next_place readers cycle rs d t → places (latest readers rs) (suc (place_of d t)) (behind_all cycle - suc (place_of d t)) ≡ []
    places-end d t short h =
        places-nothing (latest readers rs) (suc (place_of d t)) (behind_all cycle - suc (place_of d t)) (λ k u v. nothing-between cycle d t short k goes u (omega arith))

    walk-found : (room d t : ℕ) → t < most_tasks → place_of d t < behind_all cycle
        → (walk_runs_from readers room cycle rs d t).found ≡ take room (places (latest readers rs) (suc (place_of d t)) (behind_all cycle - suc (place_of d t)))
    unfolding walk_runs_from found_then
    walk-found zero d t short h = refl
    walk-found (suc room) d t short h =
        let next = next_place readers cycle rs d t in
        which (walk-found room (next / most_tasks) (next % most_tasks) (omega arith)) (le-or-lt (behind_all cycle) next)
      where
        next : ℕ
        next = next_place readers cycle rs d t

        from : ℕ → List Pair
        from y = places (latest readers rs) (suc y) (behind_all cycle - suc y)

        which : (place_of (next / most_tasks) (next % most_tasks) < behind_all cycle → (walk_runs_from readers room cycle rs (next / most_tasks) (next % most_tasks)).found ≡ take room (from (place_of (next / most_tasks) (next % most_tasks))))
            → (behind_all cycle ≤ next) ⊎ (next < behind_all cycle) → (walk_runs_from readers (suc room) cycle rs d t).found ≡ take (suc room) (from (place_of d t))
        which rest (inl l) = rw (walk_end cycle rs room d t l, places-end d t short l)
        which rest (inr l) =
            let e : place_of (next / most_tasks) (next % most_tasks) ≡ next = omega arith in
            rw (walk_on cycle rs room d t l, places_on d t next short h refl l)
            (ap (λ (l : List Pair). pair_at readers rs (next / most_tasks) (next % most_tasks) ∷ l) (rest (omega arith) ∙ ap (λ (y : ℕ). take room (from y)) e))

    goes_below : {l : List Run} → All Goes l → all (below most_tasks) l ≡ true
    goes_below empty = refl
    goes_below (also {x = r} g a) = rw (lt-ltb r.task most_tasks g.task, goes_below a)

    -- The pairs found step by step are those of rule 4.7, as far as there is room.
    pub frames_direct : (walk_runs readers cycle rs).found ≡ take (suc most_frames) (pairs_of (read_messages readers cycle rs))
    unfolding walk_runs
    frames_direct =
        let e : cycle * most_tasks ≡ behind_all cycle - suc (place_of 0 (most_tasks - 1)) = omega arith in
        walk-found (suc most_frames) 0 (most_tasks - 1) (omega arith) (omega arith)
        ∙ ap (take (suc most_frames))
        (sym (pairs-grid readers cycle most_tasks rs (goes_below goes) ∙ grid-places (latest readers rs) 1 cycle ∙ ap (places (latest readers rs) most_tasks) e))

-- ---- of a plan

-- Refusal 9 is settled by what the walk finds; the pairs of a plan that passes 9 are what it finds; and its steps are few, whatever P.
pub record FoundDirectly (p : Plan) : Type 0 where
  pub nine : leb (length (pairs p)) most_frames ≡ leb (length (walk_runs (readers_of p) (traffic p).period (bus_runs p)).found) most_frames
  pub pairs_are : length (pairs p) ≤ most_frames → (walk_runs (readers_of p) (traffic p).period (bus_runs p)).found ≡ pairs p
  pub few : (walk_runs (readers_of p) (traffic p).period (bus_runs p)).steps ≤ suc most_frames * length (bus_runs p)

settled : (n : ℕ) → leb n most_frames ≡ leb (min (suc most_frames) n) most_frames
settled n = which (le-or-lt n most_frames)
  where
    which : (n ≤ most_frames) ⊎ (most_frames < n) → leb n most_frames ≡ leb (min (suc most_frames) n) most_frames
    which (inl h) = rw (le-leb n most_frames h, le-leb (min (suc most_frames) n) most_frames (omega arith))
    which (inr h) = rw (lt-leb n most_frames h, lt-leb (min (suc most_frames) n) most_frames (omega arith))

pub run-comes : (p : Plan) → PlanKept p → (i : Invocation) → InvocationKept p i → ((run_of p i).task < most_tasks) × (0 < (run_of p i).period)
unfolding run_of the_task
run-comes p k i h =
    let t = all_get_d no_task k.tasks i.task h.task in
    (omega (arith, h.task, k.task_count.most), omega (arith, t.worst.least, h.worst))

module _ (p : Plan) (k : PlanKept p) (read : (t : ℕ) → is_bus_task p t ≡ true → ReadersGo (traffic p).period (readers_of p t)) where
  run_goes : (i : Invocation) → InvocationKept p i → of_bus_task p i ≡ true → Goes (readers_of p) (run_of p i)
  unfolding run_of of_bus_task
  run_goes i h b =
      let c = run-comes p k i h in
      let g = read i.task b in
      record {
        task = c.0;
        again = c.1;
        some = g.some;
        each = all_weaker (λ u w. w.0) g.each;
      }

  runs_go : All (Goes (readers_of p)) (bus_runs p)
  unfolding bus_runs
  runs_go =
      all_map (run_of p) (all_weaker (λ i h. run_goes i h.0 h.1) (all_both (all_keep (of_bus_task p) k.invocations) (keep-passes (of_bus_task p) p.invocations)))

  found : (traffic p).messages ≡ read_messages (readers_of p) (traffic p).period (bus_runs p) → FoundDirectly p
  unfolding pairs walk_runs
  found e =
      let f = frames_direct (readers_of p) (traffic p).period (bus_runs p) runs_go ∙ ap (λ (ms : List Message). take (suc most_frames) (pairs_of ms)) (sym e) in
      record {
        nine = settled (length (pairs p)) ∙ ap (λ (n : ℕ). leb n most_frames) (sym (ap length f ∙ length-take (suc most_frames) (pairs p)));
        pairs_are = λ h. f ∙ take_all (suc most_frames) (pairs p) (omega arith);
        few = few-steps (readers_of p) (traffic p).period (bus_runs p) (suc most_frames) 0 (most_tasks - 1);
      }

-- The pairs of a plan that is read, in either edition, are found directly.
pub found_directly : (consumers : Bool) (file : List ℕ) (p : Plan) → read_in consumers file ≡ ok p → FoundDirectly p
found_directly consumers file p e =
    let kept = readable_kept_in consumers file p e in
    let left = edition-kept consumers file p e in
    found p kept (λ t. readers_go p kept left t) (needed_exact p kept)
