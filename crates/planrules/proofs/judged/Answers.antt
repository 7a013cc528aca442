-- Five exits, one for each way of the rules: `way_count`, `way_names`, `way_ranges`, `way_unfit` and `way_sound`.
use Rattle.std.proofs.Common.{refl, sym, ap, ◌∙◌}
use Rattle.planfits.specs.Scans.{unfit_of}
use Rattle.planrules.proofs.Judging.{gathered-sound, way_count, way_names, way_ranges, way_unfit, way_sound}
use Rattle.planrules.proofs.judged.Goals as goal

pub returns-in-Some : goal.returns-in-Some
returns-in-Some c = way_count _ _ _ c.requires _ (sym c.in-Some.is ∙ c.first_bad.ensures) refl

pub first_bad-firsts-requires : goal.first_bad-firsts-requires
first_bad-firsts-requires c = gathered-sound _ _ c.requires

pub returns-in-Some-named : goal.returns-in-Some-named
returns-in-Some-named c =
    way_names _ _ _ c.requires (sym c.in_default.is ∙ c.first_bad.ensures) _
    (sym c.in-Some-named.is ∙ ap (λ f. f.named) c.first_bad-firsts.ensures) refl

pub returns-in-Some-ranged : goal.returns-in-Some-ranged
returns-in-Some-ranged c =
    way_ranges _ _ _ c.requires (sym c.in_default.is ∙ c.first_bad.ensures)
    (sym c.in_default-named.is ∙ ap (λ f. f.named) c.first_bad-firsts.ensures) _
    (sym c.in-Some-ranged.is ∙ ap (λ f. f.ranged) c.first_bad-firsts.ensures) refl

pub returns-in-Some-first_unfit : goal.returns-in-Some-first_unfit
returns-in-Some-first_unfit c =
    way_unfit _ _ _ c.requires (sym c.in_default.is ∙ c.first_bad.ensures)
    (sym c.in_default-named.is ∙ ap (λ f. f.named) c.first_bad-firsts.ensures)
    (sym c.in_default-ranged.is ∙ ap (λ f. f.ranged) c.first_bad-firsts.ensures) _
    (ap unfit_of (sym c.in-Some-first_unfit.is) ∙ c.first_unfit.ensures) refl

pub returns : goal.returns
returns c =
    way_sound _ _ _ c.requires (sym c.in_default.is ∙ c.first_bad.ensures)
    (sym c.in_default-named.is ∙ ap (λ f. f.named) c.first_bad-firsts.ensures)
    (sym c.in_default-ranged.is ∙ ap (λ f. f.ranged) c.first_bad-firsts.ensures)
    (ap unfit_of (sym c.in_default-first_unfit.is) ∙ c.first_unfit.ensures) refl
