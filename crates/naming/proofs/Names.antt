-- Which frame a data row names: binary search finds its number, marks find the rows that name a frame again, and the starts laid by
-- number are the starts that the table gives.
use mathlib.Core.Path.{◌≡◌, refl, sym, ◌∙◌}
use mathlib.Core.Bool.{Bool, true, false, ◌&&◌}
use mathlib.Core.List.{List}
use native.Mathlib.Nat.{zero-add}
use native.Mathlib.Omega.{arith}
use lib.Dec.{eqb, ltb}
use lib.ListN.{get_or}
use borrow.Author.Tests.{ltb-true, ltb-false, lt-ltb, eqb-true, eqb-false, eq-eqb}
use Prim.Native.Nat.{ℕ, ◌+◌, ◌≤◌, ◌<◌}
use Rattle.laws.proofs.Lists.{both, both_left, both_right, true-false}
use Rattle.naming.specs.Places.{key_of, key_at, Numbered, Parted, has_key, is_pair, number_of}
use Rattle.naming.proofs.Places.{place_hit, place_none, place-passes}

-- ---- the number of a pair

module _ (tasks deadlines : List ℕ) (task deadline : ℕ) where
  pub pair_key : (k : ℕ) → is_pair tasks deadlines task deadline k ≡ true → (task ≡ get_or tasks k 0) × (deadline ≡ get_or deadlines k 0)
  unfolding is_pair
  pair_key k e = (
    eqb-true task (get_or tasks k 0) (both_left (eqb task (get_or tasks k 0)) (eqb deadline (get_or deadlines k 0)) e),
    eqb-true deadline (get_or deadlines k 0) (both_right (eqb task (get_or tasks k 0)) (eqb deadline (get_or deadlines k 0)) e),
  )

  key_pair : (k : ℕ) → get_or tasks k 0 < 256 → task < 256 → key_at tasks deadlines k ≡ key_of deadline task
      → is_pair tasks deadlines task deadline k ≡ true
  unfolding is_pair key_at
  key_pair k h w e =
      both (eq-eqb task (get_or tasks k 0) (omega arith)) (eq-eqb deadline (get_or deadlines k 0) (omega arith))

  off_pair : (k : ℕ) → (key_at tasks deadlines k ≡ key_of deadline task → ⊥) → is_pair tasks deadlines task deadline k ≡ false
  unfolding key_at
  off_pair k n = here (is_pair tasks deadlines task deadline k) refl
    where
      here : (b : Bool) → is_pair tasks deadlines task deadline k ≡ b → is_pair tasks deadlines task deadline k ≡ false
      here true e = absurd (n (let p = pair_key k e in omega (arith, p.0, p.1)))
      here false e = e

  -- what binary search parts is where the pair would stand
  number_missed : (frames k : ℕ) → Numbered tasks deadlines frames → Parted tasks deadlines frames (key_of deadline task) k
      → (k < frames → key_at tasks deadlines k ≡ key_of deadline task → ⊥) → frames ≡ number_of tasks deadlines frames task deadline
  unfolding number_of
  number_missed frames k n p off =
      sym (place_none (is_pair tasks deadlines task deadline) 0 frames (λ j v u. off_pair j (λ q. here j (omega arith) q (ltb j k) refl (eqb j k) refl))
      ∙ zero-add frames)
    where
      here : (j : ℕ) → j < frames → key_at tasks deadlines j ≡ key_of deadline task
          → (b : Bool) → ltb j k ≡ b → (c : Bool) → eqb j k ≡ c → ⊥
      here j u q true e c f = omega (arith, p.below j (ltb-true j k e))
      here j u q false e true f = off (rw (sym (eqb-true j k f)) u) (rw (sym (eqb-true j k f)) q)
      here j u q false e false f =
          let v : k < j = omega (arith, ltb-false j k e, eqb-false j k f) in
          let w : k < frames = omega arith in
          omega (arith, n.rising k j v u, p.above k (omega arith) w)

  pub number-passes : (frames : ℕ) → number_of tasks deadlines frames task deadline < frames
      → is_pair tasks deadlines task deadline (number_of tasks deadlines frames task deadline) ≡ true
  unfolding number_of
  number-passes frames h = place-passes (is_pair tasks deadlines task deadline) 0 frames (rw (zero-add frames) h)

  -- no two frames have one pair
  pub number-only : (frames k : ℕ) → Numbered tasks deadlines frames → k < frames → is_pair tasks deadlines task deadline k ≡ true
      → number_of tasks deadlines frames task deadline ≡ k
  unfolding number_of key_at
  number-only frames k n h e =
      place_hit (is_pair tasks deadlines task deadline) 0 frames k (omega arith) (omega arith) e
      (λ j v u. off_pair j (λ q. let p = pair_key k e in omega (arith, n.rising j k u h, p.0, p.1)))

  -- the ways out of a look-up: the pair stands at a place that was tried, or nowhere
  module _ (frames : ℕ) {wanted : ℕ} (n : Numbered tasks deadlines frames) (e : wanted ≡ key_of deadline task) where
    pub look_found : (k : ℕ) {r : Bool} → task < 256 → r ≡ has_key tasks deadlines frames wanted k → r ≡ true
        → k ≡ number_of tasks deadlines frames task deadline
    unfolding has_key
    look_found k w q s =
        let both : (ltb k frames && eqb (key_at tasks deadlines k) wanted) ≡ true = sym q ∙ s in
        let h : k < frames = ltb-true k frames (both_left (ltb k frames) (eqb (key_at tasks deadlines k) wanted) both) in
        let f : key_at tasks deadlines k ≡ wanted = eqb-true (key_at tasks deadlines k) wanted (both_right (ltb k frames) (eqb (key_at tasks deadlines k) wanted) both) in
        sym (number-only frames k n h (key_pair k (n.small k h) w (f ∙ e)))

    pub look_missed : {k : ℕ} {r : Bool} → Parted tasks deadlines frames wanted k → r ≡ has_key tasks deadlines frames wanted k → r ≡ false
        → frames ≡ number_of tasks deadlines frames task deadline
    unfolding has_key
    look_missed {k} p q s =
        number_missed frames k n (rw e at p)
        (λ h f. true-false (sym (both (lt-ltb k frames h) (eq-eqb (key_at tasks deadlines k) wanted (f ∙ sym e))) ∙ sym q ∙ s))

-- ---- binary search

-- the place that parts the frames lies from `low` to `high`
pub record Bracket (tasks deadlines : List ℕ) (frames wanted low high : ℕ) : Type 0 where
  pub ordered : low ≤ high
  pub within : high ≤ frames
  pub below : (j : ℕ) → j < low → key_at tasks deadlines j < wanted
  pub above : (j : ℕ) → high ≤ j → j < frames → wanted ≤ key_at tasks deadlines j

module _ (tasks deadlines : List ℕ) (frames wanted : ℕ) where
  module _ (n : Numbered tasks deadlines frames) (low high middle : ℕ) (b : Bracket tasks deadlines frames wanted low high)
      (above : low ≤ middle) (below : middle < high) where
    pub bracket_up : key_at tasks deadlines middle < wanted → Bracket tasks deadlines frames wanted (middle + 1) high
    bracket_up h =
        record { ordered = omega arith; within = b.within; below = λ j w. here j (eqb j middle) refl w; above = b.above }
      where
        here : (j : ℕ) (c : Bool) → eqb j middle ≡ c → j < middle + 1 → key_at tasks deadlines j < wanted
        here j true e w = rw (eqb-true j middle e) h
        here j false e w =
            omega (arith, n.rising j middle (omega (arith, eqb-false j middle e)) (omega (arith, b.within)))

    pub bracket_down : wanted ≤ key_at tasks deadlines middle → Bracket tasks deadlines frames wanted low middle
    bracket_down h =
        record { ordered = above; within = omega (arith, b.within); below = b.below; above = λ j v w. here j (eqb j middle) refl v w }
      where
        here : (j : ℕ) (c : Bool) → eqb j middle ≡ c → middle ≤ j → j < frames → wanted ≤ key_at tasks deadlines j
        here j true e v w = rw (eqb-true j middle e) h
        here j false e v w = omega (arith, n.rising middle j (omega (arith, eqb-false j middle e)) w)
