-- Refusal 5 at the lowest record at fault, by what the scans found.
use Rattle.std.proofs.Common.{◌≡◌, refl, sym, ap, ◌∙◌, ℕ, ◌+◌, ◌<◌, length, Bool, false}
use Rattle.std.specs.Prelude.{Option, None, Some}
use Rattle.std.proofs.Math.Option as definitions
use Rattle.std.proofs.Math.Option.{none, some}
use Rattle.laws.specs.Lists.{first_bad, up_to}
use Rattle.laws.proofs.Loops.{first_bad-up_to_hit}
use Rattle.rules.specs.Plan as rules
use Rattle.places.specs.Spot.{spot_of, spot_in}
use Rattle.planfits.specs.Scans.{unfit_of}

back : (o : definitions.Option ℕ) → spot_in (spot_of o) ≡ o
back none = refl
back (some k) = refl

-- what was found, as the definitions have it
pub is_at : {o : definitions.Option ℕ} {r : Option ℕ} {k : ℕ} → r ≡ spot_of o → r ≡ Some k → o ≡ some k
is_at {o} e h = sym (back o) ∙ ap spot_in (sym e ∙ h)

pub is_nowhere : {o : definitions.Option ℕ} {r : Option ℕ} → r ≡ spot_of o → r ≡ None → o ≡ none
is_nowhere {o} e h = sym (back o) ∙ ap spot_in (sym e ∙ h)

-- a scan that has come to k
pub met : {n k : ℕ} (p : ℕ → Bool) → k < n → first_bad p (up_to k) ≡ none → p k ≡ false → Some k ≡ spot_of (first_bad p (up_to n))
met {n} {k} p h e q = rw (first_bad-up_to_hit p n k h e q)

module _ (P : rules.Plan) where
  pub module_bad : {k : ℕ} → first_bad (rules.has_mode P) (up_to (length P.modules)) ≡ some k → unfit_of (Some (2 + k)) ≡ rules.rule5 P
  unfolding rules.rule5
  module_bad a = rw a

  pub mode_bad : {k : ℕ} → first_bad (rules.has_mode P) (up_to (length P.modules)) ≡ none
      → first_bad rules.switch_divides P.modes ≡ some k → unfit_of (Some (2 + length P.modules + k)) ≡ rules.rule5 P
  unfolding rules.rule5 rules.first_mode
  mode_bad a b = rw (a, b)

  pub invocation_bad : {k : ℕ} → first_bad (rules.has_mode P) (up_to (length P.modules)) ≡ none
      → first_bad rules.switch_divides P.modes ≡ none
      → first_bad (rules.invocation_keeps P) (up_to (length P.invocations)) ≡ some k
      → unfit_of (Some (2 + length P.modules + length P.modes + length P.tasks + k)) ≡ rules.rule5 P
  unfolding rules.rule5 rules.first_mode rules.first_invocation
  invocation_bad a b c = rw (a, b, c)

  pub connection_bad : {k : ℕ} → first_bad (rules.has_mode P) (up_to (length P.modules)) ≡ none
      → first_bad rules.switch_divides P.modes ≡ none
      → first_bad (rules.invocation_keeps P) (up_to (length P.invocations)) ≡ none
      → first_bad (rules.connection_keeps P.connections) (up_to (length P.connections)) ≡ some k
      → unfit_of (Some (2 + length P.modules + length P.modes + length P.tasks + length P.invocations + k)) ≡ rules.rule5 P
  unfolding rules.rule5 rules.first_mode rules.first_invocation rules.first_connection
  connection_bad a b c d = rw (a, b, c, d)

  pub all_fit : first_bad (rules.has_mode P) (up_to (length P.modules)) ≡ none
      → first_bad rules.switch_divides P.modes ≡ none
      → first_bad (rules.invocation_keeps P) (up_to (length P.invocations)) ≡ none
      → first_bad (rules.connection_keeps P.connections) (up_to (length P.connections)) ≡ none
      → unfit_of None ≡ rules.rule5 P
  unfolding rules.rule5
  all_fit a b c d = rw (a, b, c, d)
