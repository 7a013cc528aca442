-- No second answer of a tick says of a station what the rules say of it.
use mathlib.Core.Path.{◌≡◌, refl, sym, ap, ◌∙◌}
use mathlib.Core.Bool.{true}
use Rattle.std.specs.Prelude.{Ok, Err}
use Rattle.laws.specs.Res.{Res, ok}
use Rattle.laws.proofs.Res.{refuse≢ok, ok_injective}
use Rattle.answers.specs.declared.Refusal.{Refusal}
use Rattle.answers.proofs.Said.{said-once}
use Rattle.rules.specs.Station as rules
use Rattle.station.specs.Answers.{Answers, Said, outcome, is_refused}
use Rattle.station.specs.declared.Station.{Station}
use Rattle.station.specs.declared.Ticked.{Ticked}

-- what was said is a row or none, or a refusal
data Sorted : Said → Type 0 where
  accepted : {w : Said} → ((r : Ticked) → outcome w r ≡ ok r) → Sorted w
  refused : {w : Said} (x : Refusal) → w ≡ Err x → Sorted w

sort : (w : Said) → Sorted w
sort (Ok row) = accepted (λ r. refl)
sort (Err x) = refused x refl

made : {v w : Said} {x y : Station} → v ≡ w → x ≡ y → ◌≡◌ {A = Ticked} (record { said = v; station = x }) (record { said = w; station = y })
made e f = rw (e, f)

module _ (st : Station) (a b : Ticked) where
  by_sort : Sorted a.said → Sorted b.said → outcome a.said a ≡ outcome b.said b
      → (is_refused a.said ≡ true → a.station ≡ st) → (is_refused b.said ≡ true → b.station ≡ st) → a ≡ b
  by_sort (accepted f) (accepted g) e p q = ok_injective (sym (f a) ∙ e ∙ g b)
  by_sort (accepted f) (refused y g) e p q = refuse≢ok (sym (ap (λ w. outcome w b) g) ∙ sym e ∙ f a)
  by_sort (refused x f) (accepted g) e p q = refuse≢ok (sym (ap (λ w. outcome w a) f) ∙ e ∙ g b)
  by_sort (refused x f) (refused y g) e p q =
      let same : x ≡ y = said-once x y (sym (ap (λ w. outcome w a) f) ∙ e ∙ ap (λ w. outcome w b) g) in
      made (f ∙ ap Err same ∙ sym g) (p (ap is_refused f) ∙ sym (q (ap is_refused g)))

  pub answers-once : (rule : Res rules.Ticked) → Answers st rule a → Answers st rule b → a ≡ b
  answers-once rule p q = by_sort (sort a.said) (sort b.said) (p.says ∙ sym q.says) p.unchanged q.unchanged
