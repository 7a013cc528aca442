-- Rule 8.3, by the contracts of `begin` and `tick`: what a refused beginning returns is zero, and each of its ticks gives 40 at 0.
use mathlib.Core.Path.{◌≡◌, refl, sym, ap, ◌∙◌}
use Rattle.laws.specs.Res.{Res, ok, refuse}
use Rattle.laws.proofs.Res.{refuse≢ok}
use Rattle.answers.specs.declared.Refusal.{Refusal}
use Rattle.rules.specs.Playing.{Input}
use Rattle.rules.specs.Station as rules
use Rattle.rules.specs.StationRange.{counts_in_range, in_range, is_between, kept_in_range, ticked}
use Rattle.stationruns.specs.Inputs.{input_of}
use Rattle.stationruns.specs.declared.Input as given
use Rattle.station.specs.Answers.{Answers, answer_of}
use Rattle.station.specs.Memory.{kept_of, not_begun, ruled, state_of}
use Rattle.station.specs.declared.Ticked.{Ticked}
use Rattle.std.specs.Prelude.{Err}
use Rattle.starting.specs.declared.Begun.{Begun}
use Rattle.beginning.specs.Begins.{Begins}
use Rattle.answers.specs.Answered.{judged}

not-begun-ticked : (i : Input) → ticked (kept_of not_begun) (state_of not_begun) i ≡ refuse 40 0
unfolding ticked in_range kept_in_range counts_in_range is_between kept_of not_begun
not-begun-ticked i = refl

module _ (r : Begun) (why : Refusal) (refused : r.answer ≡ Err why) where
  pub refused-zero : (rule : Res rules.Begun) → Begins r rule → r.station ≡ not_begun
  refused-zero (ok b) h = refuse≢ok (sym (ap judged refused) ∙ h.answered)
  refused-zero (refuse n p) h = h.left

  pub refused_forty : (rule : Res rules.Begun) → Begins r rule → (input : given.Input) (x : Ticked)
      → Answers r.station (ruled r.station input) x → answer_of x ≡ refuse 40 0
  refused_forty rule h input x a =
      a.says ∙ rw (refused-zero rule h, not-begun-ticked (input_of input))
