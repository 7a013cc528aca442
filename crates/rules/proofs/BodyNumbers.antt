-- The numbers of a record are the little-endian numbers at their offsets in the file.
use mathlib.Core.Path.{◌≡◌, refl}
use mathlib.Core.List.{List, [], ◌∷◌}
use Prim.Native.Nat.{ℕ, ◌+◌}
use native.Mathlib.Nat.{add_assoc}
use lib.ListN.{take, drop}
use lib.Seq.{drop-drop}
use Rattle.laws.specs.Numbers.{number}
use Rattle.rules.specs.Records.{Field, width, fields, decoded, record_of}

-- the numbers of fields that stand from `offset` bytes behind `body`
abbrev pub laid_from : List Field → List ℕ → ℕ → ℕ → List ℕ
laid_from [] s body offset = []
laid_from (f ∷ fs) s body offset = number (take (width f) (drop (body + offset) s)) ∷ laid_from fs s body (offset + width f)

-- the numbers of a body: for a kind that is written out, each with its width and offset as numerals
abbrev pub laid : List Field → List ℕ → ℕ → List ℕ
laid [] s body = []
laid (f ∷ fs) s body = number (take (width f) (drop body s)) ∷ laid_from fs s body (width f)

module _ (s : List ℕ) (body : ℕ) where
  decoded-from : (fs : List Field) (offset : ℕ) → decoded fs (drop (body + offset) s) ≡ laid_from fs s body offset
  decoded-from [] offset = refl
  decoded-from (f ∷ fs) offset =
      rw (drop-drop (width f) (body + offset) s, add_assoc body offset (width f), decoded-from fs (offset + width f))

  pub decoded-laid : (fs : List Field) → decoded fs (drop body s) ≡ laid fs s body
  decoded-laid [] = refl
  decoded-laid (f ∷ fs) = rw (drop-drop (width f) body s, decoded-from fs (width f))

  pub numbers-laid : (kind : ℕ) → (record_of kind (drop body s)).numbers ≡ laid (fields kind) s body
  unfolding record_of
  numbers-laid kind = decoded-laid (fields kind)
