-- The station that quiet ticks leave.
use mathlib.Core.Path.{◌≡◌, refl, sym, ap, ◌∙◌}
use mathlib.Core.List.{List}
use native.Mathlib.Omega.{arith}
use lib.ListN.{length}
use lib.Seq.{length-sets, sets}
use Prim.Native.Nat.{ℕ, zero, suc, ◌+◌, ◌-◌, ◌≤◌, ◌<◌}
use Rattle.station.specs.declared.Station.{Station}
use Rattle.hearing.specs.Heard.{after_nothing, after_quiet}

still : (st : Station) → after_nothing st ≡ st → (n : ℕ) → after_quiet st n ≡ st
unfolding after_quiet
still st e zero = refl
still st e (suc n) = ap (λ (x : Station). after_quiet x n) e ∙ still st e n

-- k ticks are done, and those that are left give the station after all of them
pub record Going (first : Station) (ticks : ℕ) (st : Station) (k : ℕ) : Type 0 where
  pub same : after_quiet st (ticks - k) ≡ after_quiet first ticks

pub going_none : {first : Station} {ticks : ℕ} → Going first ticks first 0
going_none {first} {ticks} = let n : ticks - 0 ≡ ticks = omega arith in record { same = ap (after_quiet first) n }

module _ {first : Station} {ticks : ℕ} {st : Station} {k : ℕ} (g : Going first ticks st k) where
  more : k < ticks → after_quiet (after_nothing st) (ticks - (k + 1)) ≡ after_quiet first ticks
  unfolding after_quiet
  more h =
      let n : ticks - k ≡ suc (ticks - (k + 1)) = omega arith in
      let whole = g.same in
      rw n at whole

  pub going_turn : {next : Station} → k < ticks → next ≡ after_nothing st → Going first ticks next (k + 1)
  going_turn h e = record { same = ap (λ (x : Station). after_quiet x (ticks - (k + 1))) e ∙ more h }

  pub going_refused : {next : Station} → next ≡ after_nothing st → next ≡ st → next ≡ after_quiet first ticks
  going_refused e q = q ∙ sym (still st (sym e ∙ q) (ticks - k)) ∙ g.same

  pub going_end : ticks ≤ k → st ≡ after_quiet first ticks
  unfolding after_quiet
  going_end h =
      let n : ticks - k ≡ 0 = omega arith in
      let whole = g.same in
      rw n at whole

-- the room for answers keeps its length
pub same-room : (out text : List ℕ) {more : List ℕ} → more ≡ sets out 0 text → 16384 ≡ length out → 16384 ≡ length more
same-room out text e n = n ∙ sym (ap length e ∙ length-sets out 0 text)
