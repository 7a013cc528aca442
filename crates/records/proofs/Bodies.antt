-- A body that is cut out of a file says what the file says there.
use mathlib.Core.Path.{◌≡◌, refl, sym, ap, ◌∙◌}
use mathlib.Core.List.{List, [], ◌∷◌}
use native.Mathlib.Omega.{arith}
use lib.ListN.{take, drop}
use lib.Seq.{take-take}
use Prim.Native.Nat.{ℕ, ◌+◌, ◌-◌}
use Rattle.laws.proofs.Gather.{drop-take}
use Rattle.rules.specs.Records.{Field, width, widths, fields, body_length, Rec, decoded, record_of}
use Rattle.rules.proofs.BodyNumbers.{laid, numbers-laid}

decoded-take : (fs : List Field) (l : List ℕ) → decoded fs (take (widths fs) l) ≡ decoded fs l
decoded-take [] l = refl
decoded-take (f ∷ fs) l =
    rw (take-take (width f) (width f + widths fs) l (omega arith), drop-take (width f) (widths fs) l, decoded-take fs (drop (width f) l))

pub record_cut : (kind : ℕ) (l : List ℕ) → record_of kind (take (body_length kind) l) ≡ record_of kind l
unfolding record_of body_length
record_cut kind l = rw (decoded-take (fields kind) l)

-- cut out by its kind's length, it holds the record's numbers, each at its offset
pub cut_numbers : (kind : ℕ) (s : List ℕ) (body : ℕ) {n : ℕ} {lent : List ℕ} → n ≡ body_length kind
    → lent ≡ take (body + n - body) (drop body s) → (record_of kind (drop body s)).numbers ≡ laid (fields kind) lent 0
cut_numbers kind s body {n} {lent} e is =
    let long : body + n - body ≡ body_length kind = omega arith in
    let cut : lent ≡ take (body_length kind) (drop body s) = is ∙ ap (λ (m : ℕ). take m (drop body s)) long in
    ap (λ (r : Rec). r.numbers) (sym (record_cut kind (drop body s)) ∙ ap (record_of kind) (sym cut)) ∙ numbers-laid lent 0 kind
