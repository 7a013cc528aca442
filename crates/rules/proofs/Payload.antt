-- Payload: what a frame carries. Of one pair the pair's size; of pairs of one module with no mode in common the greatest of their sizes,
-- since in each mode at most one of them has its message. So a row of one pair takes the sending time of the task's size.
use mathlib.Core.Path.{◌≡◌, refl, sym, ap, ◌∙◌}
use mathlib.Core.Bool.{true}
use mathlib.Core.List.{List, [], ◌∷◌, map, Memᴰ}
use native.Mathlib.Nat.{le_trans, le_antisymm, le_of_eq, max-zero}
use native.Mathlib.Omega.{arith}
use borrow.Author.Tests.{eqb-true, eq-eqb}
use lib.ListN.{length}
use Prim.Native.Nat.{ℕ, ◌≤◌, ◌<◌, zero-le}
use Rattle.laws.specs.Lists.{keep, up_to}
use Rattle.laws.specs.Numbers.{greatest}
use Rattle.laws.proofs.Tests.{by_itself}
use Rattle.laws.proofs.Faults.{by_fails}
use Rattle.laws.proofs.Members.{All, empty, also, Pairs, alone, before, all_weaker, all_member, all_get_d, all_of_members, all_map, keep-passes, keep-nothing, keep_member, member_map, member_tab, pairs_weaker}
use Rattle.laws.proofs.Sums.{greatest-least, greatest-above, sum_one, kept_above, kept-one}
use Rattle.rules.specs.Plan.{Plan, no_task, the_mode, the_task}
use Rattle.rules.specs.Traffic.{Message, traffic}
use Rattle.rules.specs.Frames.{Pair, pairs, pair_size, has_of, bytes_in, is_mode_in, block, payload, sending_time, row_time, layout_of}
use Rattle.rules.specs.LatestRelease.{time_alone}
use Rattle.rules.proofs.PlanKept.{PlanKept}
use Rattle.rules.proofs.LaidOut.{pairs-kept}
use Rattle.rules.proofs.Sent.{own-mode, some-mode}

-- no mode has a message of both
abbrev pub Apart : List Message → Pair → Pair → Type 0
Apart ms f g = (μ : ℕ) → has_of ms μ f ≡ true → has_of ms μ g ≡ true → ⊥

-- a pair of the plan, of a task of module m
pub record IsOf (p : Plan) (m : ℕ) (f : Pair) : Type 0 where
  pub among : Memᴰ f (pairs p)
  pub home : (the_task p f.task).home ≡ m

module _ (p : Plan) (kept : PlanKept p) where
  abbrev sent : List Message
  sent = (traffic p).messages

  -- in a mode of another module there is nothing of them
  nothing_in : {m : ℕ} {fs : List Pair} → All (IsOf p m) fs → (μ : ℕ) → ((the_mode p μ).home ≡ m → ⊥) → bytes_in p sent fs μ ≡ 0
  unfolding bytes_in has_of
  nothing_in {m} {fs} own μ other =
      rw (keep-nothing (has_of sent μ) (all_weaker (λ f h. by_fails (by_itself (has_of sent μ f)) (λ e. other (home f h e))) own))
    where
      home : (f : Pair) → IsOf p m f → has_of sent μ f ≡ true → (the_mode p μ).home ≡ m
      home f h e = (own-mode p kept μ f.task f.deadline e).own ∙ h.home

  other_block : {m : ℕ} {fs : List Pair} → All (IsOf p m) fs → (k : ℕ) → (k ≡ m → ⊥) → block p sent fs k ≡ 0
  unfolding block is_mode_in
  other_block {m} {fs} own k other =
      le_antisymm
      (greatest-least
      (all_map (bytes_in p sent fs)
      (all_weaker {P = λ μ. is_mode_in p k μ ≡ true}
      (λ μ e. le_of_eq (nothing_in own μ (λ q. other (sym (eqb-true (the_mode p μ).home k e) ∙ q))))
      (keep-passes (is_mode_in p k) (up_to (length p.modes))))))
      zero-le

  -- the modes of a module
  abbrev modes_in : ℕ → List ℕ
  modes_in m = keep (is_mode_in p m) (up_to (length p.modes))

  one_in : {fs : List Pair} → Pairs (Apart sent) fs → (μ : ℕ) → bytes_in p sent fs μ ≤ greatest (map (pair_size p) fs)
  unfolding bytes_in
  one_in apart μ = kept-one (pair_size p) (has_of sent μ) (pairs_weaker (λ f g h. h μ) apart)

  -- each pair has a mode of its module
  some_in : {m : ℕ} (fs : List Pair) (f : Pair) → IsOf p m f → Memᴰ f fs → pair_size p f ≤ greatest (map (bytes_in p sent fs) (modes_in m))
  unfolding bytes_in is_mode_in has_of
  some_in {m} fs f own a =
      let μ = some-mode p kept f own.among in
      let h = own-mode p kept μ.0 f.task f.deadline μ.1 in
      let among =
      keep_member (is_mode_in p m) (eq-eqb _ m (h.own ∙ own.home))
      (member_tab (λ k. k) 0 (length p.modes) μ.0 zero-le (omega (arith, h.there))) in
      le_trans (kept_above (pair_size p) (has_of sent μ.0) μ.1 a) (greatest-above (member_map (bytes_in p sent fs) among))

  own_block : {m : ℕ} {fs : List Pair} → All (IsOf p m) fs → Pairs (Apart sent) fs → block p sent fs m ≡ greatest (map (pair_size p) fs)
  unfolding block
  own_block {m} {fs} own apart =
      le_antisymm
      (greatest-least (all_map (bytes_in p sent fs) (all_of_members (modes_in m) (λ μ a. one_in apart μ))))
      (greatest-least (all_map (pair_size p) (all_of_members fs (λ f a. some_in fs f (all_member own a) a))))

  -- pairs of one module, no two with a mode in common
  pub payload-modes : (m : ℕ) (fs : List Pair) → m < length p.modules → All (IsOf p m) fs → Pairs (Apart (traffic p).messages) fs
      → payload p (traffic p).messages fs ≡ greatest (map (pair_size p) fs)
  unfolding payload
  payload-modes m fs w own apart = sum_one (block p sent fs) m (length p.modules) w (other_block own) ∙ own_block own apart

  -- one pair
  pub payload-one : (f : Pair) → Memᴰ f (pairs p) → payload p (traffic p).messages (f ∷ []) ≡ (the_task p f.task).size
  unfolding pair_size the_task
  payload-one f a =
      let home = (all_get_d no_task kept.tasks f.task (all_member (pairs-kept p kept) a).task).home in
      payload-modes (the_task p f.task).home (f ∷ []) home (also (record { among = a; home = refl }) empty) (before empty alone)
      ∙ max-zero (the_task p f.task).size

  -- the sending time of a row that holds one pair
  pub time-alone : (f : Pair) → Memᴰ f (pairs p) → time_alone (layout_of p) f ≡ sending_time p.bus (the_task p f.task).size
  unfolding time_alone layout_of row_time
  time-alone f a = ap (sending_time p.bus) (payload-one f a)
