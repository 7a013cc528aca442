-- NamedAlike: refusal 3's test asks for the numbers of nodes, modules, modes and tasks alone, so counts that agree on these pass the same records.
use mathlib.Core.Path.{◌≡◌, refl, sym, ap}
use mathlib.Core.Bool.{Bool, true, false, ◌&&◌, ◌||◌}
use mathlib.Core.List.{List, [], ◌∷◌}
use mathlib.Core.Option.{none}
use lib.Dec.{eqb, ltb}
use lib.ListN.{get_or-eq_default}
use borrow.Author.Tests.{eqb-true, ltb-true, ltb-false}
use Prim.Native.Nat.{ℕ, ◌≤◌, ◌<◌}
use Rattle.laws.proofs.Lists.{both_left, both_right, true-false}
use Rattle.laws.proofs.Table.{below}
use Rattle.rules.specs.Records.{Rec, Field, names, ranges, free, kinds, fields, or_none}
use Rattle.rules.specs.Plan.{each_number, is_there, names_are_there}

-- every name is that of a node, a module, a mode or a task
is_named : ℕ → Bool
is_named k = eqb k 2 || (eqb k 3 || (eqb k 4 || eqb k 5))

well_named : List Field → Bool
well_named [] = true
well_named (names k ∷ fs) = is_named k && well_named fs
well_named (ranges w low high ∷ fs) = well_named fs
well_named (free w ∷ fs) = well_named fs

-- a kind of which the table says nothing has no numbers
pub unlisted : (kind : ℕ) → 21 ≤ kind → fields kind ≡ []
unfolding fields kinds
unlisted kind h = ap or_none (get_or-eq_default kinds none h)

well-named : (k : ℕ) → k < 21 → well_named (fields k) ≡ true
unfolding well_named is_named fields kinds
well-named = below (λ k. well_named (fields k)) 21 refl

well_named_if : (k : ℕ) (c : Bool) → ltb k 21 ≡ c → well_named (fields k) ≡ true
unfolding well_named
well_named_if k true e = well-named k (ltb-true k 21 e)
well_named_if k false e = rw (unlisted k (ltb-false k 21 e))

module _ (f g : ℕ → ℕ) (nodes : f 2 ≡ g 2) (modules : f 3 ≡ g 3) (modes : f 4 ≡ g 4) (tasks : f 5 ≡ g 5) where
  same_if : (k : ℕ) (a b c d : Bool) → eqb k 2 ≡ a → eqb k 3 ≡ b → eqb k 4 ≡ c → eqb k 5 ≡ d → (a || (b || (c || d))) ≡ true → f k ≡ g k
  same_if k true b c d ea eb ec ed e = rw (eqb-true k 2 ea) nodes
  same_if k false true c d ea eb ec ed e = rw (eqb-true k 3 eb) modules
  same_if k false false true d ea eb ec ed e = rw (eqb-true k 4 ec) modes
  same_if k false false false true ea eb ec ed e = rw (eqb-true k 5 ed) tasks
  same_if k false false false false ea eb ec ed e = true-false (sym e)

  same : (k : ℕ) → is_named k ≡ true → f k ≡ g k
  unfolding is_named
  same k e = same_if k (eqb k 2) (eqb k 3) (eqb k 4) (eqb k 5) refl refl refl refl e

  passes_alike : (fs : List Field) (ns : List ℕ) → well_named fs ≡ true → each_number (is_there f) fs ns ≡ each_number (is_there g) fs ns
  unfolding well_named
  passes_alike [] ns e = refl
  passes_alike (h ∷ fs) [] e = refl
  passes_alike (names k ∷ fs) (x ∷ xs) e =
      rw (same k (both_left (is_named k) (well_named fs) e), passes_alike fs xs (both_right (is_named k) (well_named fs) e))
  passes_alike (ranges w low high ∷ fs) (x ∷ xs) e = passes_alike fs xs e
  passes_alike (free w ∷ fs) (x ∷ xs) e = passes_alike fs xs e

  pub named_alike : (r : Rec) → names_are_there f r ≡ names_are_there g r
  unfolding names_are_there
  named_alike r = passes_alike (fields r.kind) r.numbers (well_named_if r.kind (ltb r.kind 21) refl)
