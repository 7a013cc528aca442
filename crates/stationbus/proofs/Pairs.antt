-- By task: what one pair more adds to the flags and to the words of modes, and that no pair of any task has a time that no pair has.
use mathlib.Core.Path.{◌≡◌, refl, sym, ◌∙◌}
use mathlib.Core.Bool.{Bool, true, false, cond, ◌&&◌, ◌||◌}
use mathlib.Core.List.{List}
use native.Mathlib.Omega.{arith}
use borrow.Author.Tests.{eqb-true, ltb-false, ne_eqb, not-true}
use lib.Bits.{bit_or}
use lib.Dec.{eqb, leb, ltb}
use lib.ListN.{length, get_or, set, replicate, length-replicate, get_or-replicate}
use Prim.Native.Nat.{ℕ, ◌+◌, ◌^◌, ◌≤◌, ◌<◌}
use Rattle.laws.specs.Lists.{all, up_to}
use Rattle.laws.specs.Loops.{stores}
use Rattle.laws.proofs.Lists.{true-false, and-true, or-false, both_left, both_right, any-up_to_more, any-up_to-none, all-up_to-true}
use Rattle.laws.proofs.Stores.{stores_same, stores-idle, stores-within, stores-changed}
use Rattle.places.specs.Bits.{bit_at, bits_of}
use Rattle.places.proofs.Bits.{or-bits, bits_agree}
use Rattle.stationbus.specs.Bus.{number_at, truth_at, has_other, is_pair_at, some_pair_at, is_message_at, some_message_at, modes_at, full_from, load_from}

-- ---- one pair more

and-false : (b : Bool) → (b && false) ≡ false
and-false true = refl
and-false false = refl

or_picked : (b c : Bool) → (b || c) ≡ cond c true b
or_picked true true = refl
or_picked true false = refl
or_picked false true = refl
or_picked false false = refl

module _ (pair_tasks times : List ℕ) (time q : ℕ) {task : ℕ} {hit : Bool}
    (is : task ≡ get_or pair_tasks q 0) (tests : hit ≡ (eqb (get_or times q 0) time && ltb task 32)) where
  abbrev now : Bool
  now = eqb (get_or times q 0) time

  -- the pair has the time, and is a task's
  pair_met : hit ≡ true → (k : ℕ) → is_pair_at pair_tasks times time k q ≡ eqb task k
  pair_met e k = rw (both_left now (ltb task 32) (sym tests ∙ e), is) (and-true (eqb (get_or pair_tasks q 0) k))

  -- it has another, or is of no task
  pair_missed : hit ≡ false → (k : ℕ) → k < 32 → is_pair_at pair_tasks times time k q ≡ false
  pair_missed e k w = rw (← is) (go now (ltb task 32) refl (sym tests ∙ e))
    where
      go : (b c : Bool) → ltb task 32 ≡ c → (b && c) ≡ false → (eqb task k && b) ≡ false
      go false c f g = and-false (eqb task k)
      go true true f g = true-false g
      go true false f g = let l : 32 ≤ task = ltb-false task 32 f in rw (ne_eqb task k (λ x. omega arith))

  more : (k : ℕ) → some_pair_at pair_tasks times (q + 1) time k ≡ (some_pair_at pair_tasks times q time k || is_pair_at pair_tasks times time k q)
  more k = any-up_to_more (is_pair_at pair_tasks times time k) q

  module _ {a b : List Bool} (so_far : a ≡ stores (replicate 32 false) (some_pair_at pair_tasks times q time) 32) where
    pub flag_met : hit ≡ true → b ≡ set a task true → b ≡ stores (replicate 32 false) (some_pair_at pair_tasks times (q + 1) time) 32
    flag_met e h =
        h
        ∙ stores-changed false 32 (replicate 32 false) (length-replicate 32 false) (some_pair_at pair_tasks times q time)
        (some_pair_at pair_tasks times (q + 1) time) task true so_far
        (λ k w. more k ∙ rw (pair_met e k) (or_picked (some_pair_at pair_tasks times q time k) (eqb task k)))

    pub flag_missed : hit ≡ false → b ≡ a → b ≡ stores (replicate 32 false) (some_pair_at pair_tasks times (q + 1) time) 32
    flag_missed e h =
        h ∙ so_far
        ∙ stores_same (replicate 32 false) (some_pair_at pair_tasks times q time) (some_pair_at pair_tasks times (q + 1) time) 32
        (λ k w. sym (more k ∙ rw (pair_missed e k w) (or-false (some_pair_at pair_tasks times q time k))))

  module _ (pair_modes : List ℕ) where
    abbrev sends : ℕ → ℕ → Bool
    sends k μ = some_message_at pair_tasks times pair_modes q time k μ

    -- what the pair adds to the word of a task, by whether it is a pair of it
    word_more : (k : ℕ) (own : Bool) → is_pair_at pair_tasks times time k q ≡ own
        → modes_at pair_tasks times pair_modes (q + 1) time k ≡ bits_of (λ μ. sends k μ || (own && bit_at (get_or pair_modes q 0) μ)) 32
    unfolding modes_at
    word_more k own e =
        bits_agree (some_message_at pair_tasks times pair_modes (q + 1) time k) (λ μ. sends k μ || (own && bit_at (get_or pair_modes q 0) μ)) 32
        (λ μ w. any-up_to_more (is_message_at pair_tasks times pair_modes time k μ) q ∙ rw e)

    word-still : (k : ℕ) → is_pair_at pair_tasks times time k q ≡ false
        → modes_at pair_tasks times pair_modes (q + 1) time k ≡ modes_at pair_tasks times pair_modes q time k
    unfolding modes_at
    word-still k e = word_more k false e ∙ bits_agree (λ μ. sends k μ || false) (sends k) 32 (λ μ w. or-false (sends k μ))

    word-joined : (k : ℕ) → is_pair_at pair_tasks times time k q ≡ true → get_or pair_modes q 0 < 2 ^ 32
        → modes_at pair_tasks times pair_modes (q + 1) time k ≡ bit_or (modes_at pair_tasks times pair_modes q time k) (get_or pair_modes q 0)
    unfolding modes_at
    word-joined k e small = word_more k true e ∙ sym (or-bits (sends k) 32 (get_or pair_modes q 0) small)

    module _ {a b : List ℕ} (so_far : a ≡ stores (replicate 32 0) (modes_at pair_tasks times pair_modes q time) 32) where
      pub word_met : hit ≡ true → {v modes : ℕ} → modes ≡ get_or pair_modes q 0 → (v ≡ bit_or (get_or a task 0) modes) × (modes < 2 ^ 32)
          → b ≡ set a task v → b ≡ stores (replicate 32 0) (modes_at pair_tasks times pair_modes (q + 1) time) 32
      word_met e {v} {modes} m j h =
          h
          ∙ stores-changed 0 32 (replicate 32 0) (length-replicate {A = ℕ} 32 0) (modes_at pair_tasks times pair_modes q time)
          (modes_at pair_tasks times pair_modes (q + 1) time) task v so_far (λ k w. go k w (eqb task k) refl)
        where
          go : (k : ℕ) → k < 32 → (own : Bool) → eqb task k ≡ own
              → modes_at pair_tasks times pair_modes (q + 1) time k ≡ cond own v (modes_at pair_tasks times pair_modes q time k)
          go k w true f =
              let same : task ≡ k = eqb-true task k f in
              let read : get_or a k 0 ≡ modes_at pair_tasks times pair_modes q time k =
              stores-within (replicate 32 0) (modes_at pair_tasks times pair_modes q time) 32 0 (length-replicate {A = ℕ} 32 0) so_far k w in
              rw (j.0, same, read, m) (word-joined k (pair_met e k ∙ f) (rw (← m) j.1))
          go k w false f = word-still k (pair_met e k ∙ f)

      pub word_missed : hit ≡ false → b ≡ a → b ≡ stores (replicate 32 0) (modes_at pair_tasks times pair_modes (q + 1) time) 32
      word_missed e h =
          h ∙ so_far
          ∙ stores_same (replicate 32 0) (modes_at pair_tasks times pair_modes q time) (modes_at pair_tasks times pair_modes (q + 1) time) 32
          (λ k w. sym (word-still k (pair_missed e k w)))

-- ---- no pair

no_bits : bits_of (λ μ. false) 32 ≡ 0
unfolding bits_of
no_bits = refl

-- where no pair has the time, none of a task has, and no mode has a message of one
module _ (pair_tasks times : List ℕ) (pairs time : ℕ) (none : (q : ℕ) → q < pairs → eqb (get_or times q 0) time ≡ false) where
  no-pair : (q : ℕ) → q < pairs → (k : ℕ) → is_pair_at pair_tasks times time k q ≡ false
  no-pair q w k = rw (none q w) (and-false (eqb (get_or pair_tasks q 0) k))

  pub none-some : (k : ℕ) → some_pair_at pair_tasks times pairs time k ≡ false
  none-some k = any-up_to-none (is_pair_at pair_tasks times time k) pairs (λ q w. no-pair q w k)

  pub none-modes : (pair_modes : List ℕ) (k : ℕ) → modes_at pair_tasks times pair_modes pairs time k ≡ 0
  unfolding modes_at
  none-modes pair_modes k =
      bits_agree (some_message_at pair_tasks times pair_modes pairs time k) (λ μ. false) 32
      (λ μ v. any-up_to-none (is_message_at pair_tasks times pair_modes time k μ) pairs (λ q w. rw (no-pair q w k)))
      ∙ no_bits

  -- so the flags are not set, and the words are zero
  pub no_flags : replicate 32 false ≡ stores (replicate 32 false) (some_pair_at pair_tasks times pairs time) 32
  no_flags =
      stores-idle (replicate 32 false) (some_pair_at pair_tasks times pairs time) 32 false
      (λ k w. none-some k ∙ sym (get_or-replicate 32 k false false w))

  pub no_words : (pair_modes : List ℕ) → replicate 32 0 ≡ stores (replicate 32 0) (modes_at pair_tasks times pair_modes pairs time) 32
  no_words pair_modes =
      stores-idle (replicate 32 0) (modes_at pair_tasks times pair_modes pairs time) 32 0
      (λ k w. none-modes pair_modes k ∙ sym (get_or-replicate 32 k 0 0 w))

-- where `lacks` says yes, no pair has the time
pub lacking : (times : List ℕ) (pairs time : ℕ) {x : Bool} → x ≡ (leb pairs (length times) && all (has_other times time) (up_to pairs)) → x ≡ true
    → (q : ℕ) → q < pairs → eqb (get_or times q 0) time ≡ false
lacking times pairs time e t q w =
    not-true (eqb (get_or times q 0) time)
    (all-up_to-true (has_other times time) pairs q (both_right (leb pairs (length times)) (all (has_other times time) (up_to pairs)) (sym e ∙ t)) w)

-- ---- what was gathered is read back

module _ (f : ℕ → Bool) {starting : List Bool} (is_starting : starting ≡ stores (replicate 32 false) f 32) where
  starts-read : (k : ℕ) → k < 32 → truth_at starting k ≡ f k
  starts-read = stores-within (replicate 32 false) f 32 false (length-replicate 32 false) is_starting

  pub full-gathered : (g : ℕ → ℕ) {sent : List ℕ} → sent ≡ stores (replicate 32 0) g 32 → (homes : List ℕ) (modes : ℕ → ℕ) (full : List ℕ) {r : List ℕ}
      → r ≡ stores full (full_from (truth_at starting) (number_at sent) homes modes full) 32 → r ≡ stores full (full_from f g homes modes full) 32
  full-gathered g {sent} is_sent homes modes full h =
      h
      ∙ stores_same full (full_from (truth_at starting) (number_at sent) homes modes full) (full_from f g homes modes full) 32
      (λ k w. rw (starts-read k w, stores-within (replicate 32 0) g 32 0 (length-replicate {A = ℕ} 32 0) is_sent k w))

  pub loads-gathered : (out : ℕ → ℕ) (loads : List ℕ) {r : List ℕ} → r ≡ stores loads (load_from (truth_at starting) out loads) 32
      → r ≡ stores loads (load_from f out loads) 32
  loads-gathered out loads h =
      h ∙ stores_same loads (load_from (truth_at starting) out loads) (load_from f out loads) 32 (λ k w. rw (starts-read k w))
