-- The record rules for a plan refuse with number 1 alone.
use mathlib.Core.Path.{◌≡◌, refl, sym, ◌∙◌}
use mathlib.Core.Bool.{Bool}
use mathlib.Core.List.{List}
use native.Mathlib.Omega.{arith}
use lib.ListN.{length, drop}
use Prim.Native.Nat.{ℕ, zero, suc, ◌+◌, ◌≤◌}
use Rattle.laws.specs.Res.{Res, ok, refuse}
use Rattle.laws.proofs.Res.{refuse≢ok, refuse-number}
use Rattle.rules.specs.Records.{Rec, record_of, plan_follows, before, records}
use Rattle.records.specs.Reader.{next_at}
use Rattle.records.specs.declared.Sort.TheVariants.{Plan}
use Rattle.records.specs.declared.Step.{Step}
use Rattle.records.specs.declared.Step.TheVariants.{Record, End, Wrong}
use Rattle.records.proofs.Steps.{from, onward, one-step, Found, found}

before-refuse : (order : ℕ → ℕ → Bool) (m : ℕ) (r : Rec) (w : Res (List Rec)) (n place : ℕ) → before order m r w ≡ refuse n place → w ≡ refuse n place
before-refuse order m r (ok rs) n place e = refuse≢ok (sym e)
before-refuse order m r (refuse k p) n place e = e

module _ (s : List ℕ) (n place : ℕ) where
  by_step : (previous at : ℕ)
      → ((kind body next : ℕ) → Found Plan s previous at kind body next → from Plan 1 s kind next ≡ refuse n place → n ≡ 1)
      → (step : Step) → next_at Plan s previous at ≡ step → onward Plan 1 s step ≡ refuse n place → n ≡ 1
  by_step previous at behind (Record kind body next) q e =
      behind kind body next (found Plan s previous at kind body next q)
      (before-refuse plan_follows 1 (record_of kind (drop body s)) (from Plan 1 s kind next) n place e)
  by_step previous at behind End q e = refuse≢ok (sym e)
  by_step previous at behind (Wrong p) q e = sym (refuse-number e)

  from-refuse : (m previous at : ℕ) → length s ≤ m + at → at ≤ length s → from Plan 1 s previous at ≡ refuse n place → n ≡ 1
  from-refuse zero previous at h w e =
      by_step previous at (λ kind body next f r. absurd (omega (arith, f.fits, f.further)))
      (next_at Plan s previous at) refl (sym (one-step Plan 1 s previous at w) ∙ e)
  from-refuse (suc m) previous at h w e =
      by_step previous at (λ kind body next f r. from-refuse m kind next (omega (arith, f.fits, f.further)) f.fits r)
      (next_at Plan s previous at) refl (sym (one-step Plan 1 s previous at w) ∙ e)

  pub records-refuse : records plan_follows 1 s ≡ refuse n place → n ≡ 1
  unfolding records from
  records-refuse e = from-refuse (length s) 0 0 (omega arith) (omega arith) e
