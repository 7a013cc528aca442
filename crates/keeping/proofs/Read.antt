-- Which messages are read: by one reader, told from what is left of the deadline behind a read; and by some reader of a task, one reader
-- after the other. A task has no more readers than there may be invocations.
use mathlib.Core.Path.{◌≡◌, refl, sym, ap, ◌∙◌}
use mathlib.Core.Bool.{Bool, true, false}
use mathlib.Core.List.{List}
use mathlib.Core.Logic.{◌⊎◌, inl, inr}
use native.Mathlib.Nat.{div-add-mod', dvd-mul_left, dvd_of_mod-eq-zero, le_refl, mod-lt}
use native.Mathlib.Omega.{arith}
use borrow.Author.Tests.{lt-ltb}
use lib.Dec.{lit≤, ltb}
use lib.ListN.{length, get_or, get_or-eq_default}
use Prim.Native.Nat.{ℕ, zero, suc, ◌+◌, ◌*◌, ◌-◌, ◌/◌, ◌%◌, ◌≤◌, ◌<◌, ◌∣◌}
use Rattle.laws.specs.Lists.{any, tab, up_to}
use Rattle.laws.specs.Numbers.{up}
use Rattle.laws.proofs.Bus.{table_at}
use Rattle.laws.proofs.Divisors.{up-enough, up_tight}
use Rattle.laws.proofs.Lists.{any-up_to_more, any-up_to_hit}
use Rattle.laws.proofs.Orders.{le-or-lt}
use Rattle.laws.proofs.Readers.{up_least, up_multiple, not_behind}
use Rattle.laws.proofs.Tests.{by_lt, by_same}
use Rattle.laws.proofs.Turns.{same-any}
use Rattle.rules.specs.Limits.{most_invocations, most_tasks}
use Rattle.rules.specs.Plan.{Plan}
use Rattle.rules.specs.Readers.{is_read, is_read_by, readers_of}
use Rattle.rules.proofs.PlanKept.{PlanKept}
use Rattle.bus.specs.Readers.{reader_at, readers_laid, readers_seen}
use Rattle.bus.proofs.Rows.{few_readers}
use Rattle.keeping.specs.Keeping.{FewReaders}

-- ---- one reader

module _ (period d : ℕ) (runs : 0 < period) where
  near : (u : ℕ) → u ≤ period → up u d < d + period
  unfolding up
  near zero h = omega arith
  near (suc u) h = let t : up (suc u) d < d + suc u = up_tight (suc u) d (omega arith) in omega arith

  pub read_often : (u : ℕ) → u ≤ period → true ≡ is_read period d u
  unfolding is_read
  read_often u h = sym (lt-ltb (up u d) (d + period) (near u h))

  pub read_now : (u : ℕ) → d % u ≡ 0 → true ≡ is_read period d u
  unfolding is_read
  read_now u e =
      let l : up u d ≤ d = up_least u d d (dvd_of_mod-eq-zero u e) (le_refl d) in
      sym (lt-ltb (up u d) (d + period) (omega arith))

  module _ (u : ℕ) (behind : 0 < d % u) (some : 0 < u) where
    -- the next read
    next-read : up u d + d % u ≡ d + u
    next-read =
        let parts : d / u * u + d % u ≡ d = div-add-mod' d u in
        let next : suc (d / u) * u ≡ d / u * u + u = omega arith in
        let m : u ∣ suc (d / u) * u = dvd-mul_left u (suc (d / u)) in
        let short : d % u < u = mod-lt d some in
        let l : up u d ≤ suc (d / u) * u = up_least u d (suc (d / u) * u) m (omega arith) in
        let w : d ≤ up u d = up-enough u d some in
        let g : suc (d / u) * u ≤ up u d = not_behind u (suc (d / u) * u) (up u d) m (up_multiple u d) (omega arith) in
        omega arith

    pub read_next : ltb (u - d % u) period ≡ is_read period d u
    unfolding is_read
    read_next =
        by_same (by_lt (u - d % u) period) (by_lt (up u d) (d + period)) (λ h. omega (arith, next-read, mod-lt d some))
        (λ h. omega (arith, next-read, mod-lt d some))

-- ---- the readers of a task

module _ (counts periods : List ℕ) (t period d : ℕ) where
  abbrev test : ℕ → Bool
  test k = is_read period d (reader_at periods t k)

  -- none of the first n reads the message
  pub record Unread (n : ℕ) : Type 0 where
    pub says : any test (up_to n) ≡ false

  pub unread-none : Unread 0
  unread-none = record { says = refl }

  same : any test (up_to (get_or counts t 0)) ≡ is_read_by (readers_seen counts periods t) period d
  unfolding is_read_by readers_seen
  same = same-any test (is_read period d) (reader_at periods t) (get_or counts t 0) (λ k w. refl)

  module _ (k : ℕ) {u : ℕ} {b : Bool} (is : u ≡ get_or periods (t * most_invocations + k) 0) (tests : b ≡ is_read period d u) where
    here : b ≡ test k
    unfolding reader_at
    here = tests ∙ ap (is_read period d) is

    pub unread_turn : Unread k → b ≡ false → Unread (k + 1)
    unread_turn so_far e = record { says = any-up_to_more test k ∙ rw (so_far.says, sym here ∙ e) }

    pub read_here : {count : ℕ} → count ≡ get_or counts t 0 → k < count → b ≡ true → true ≡ is_read_by (readers_seen counts periods t) period d
    read_here n w e = sym (any-up_to_hit test (get_or counts t 0) k (rw n at w) (sym here ∙ e)) ∙ same

  pub unread-end : {k count : ℕ} → count ≡ get_or counts t 0 → Unread k → k ≤ count → count ≤ k
      → false ≡ is_read_by (readers_seen counts periods t) period d
  unread-end {k} n so_far w h =
      let e : k ≡ get_or counts t 0 = omega arith in
      sym so_far.says ∙ ap (λ x. any test (up_to x)) e ∙ same

-- ---- how many readers a task has

pub few-counted : (p : Plan) → PlanKept p → FewReaders (readers_laid (readers_of p)).counts
unfolding FewReaders readers_laid
few-counted p kept t = which (le-or-lt most_tasks t)
  where
    counts : List ℕ
    counts = tab (λ k. length (readers_of p k)) 0 most_tasks

    which : (most_tasks ≤ t) ⊎ (t < most_tasks) → get_or counts t 0 ≤ most_invocations
    which (inl h) = rw (get_or-eq_default counts 0 h) (lit≤ tt)
    which (inr w) = rw (table_at most_tasks (λ k. length (readers_of p k)) t 0 w) (few_readers p kept t)
