-- Two nodes show the same where each place agrees.
use Rattle.std.proofs.Common.{◌≡◌, ◌∙◌, Bool, true, false, ℕ, refl, sym, List, length, get_or, ap}
use Rattle.std.proofs.lemmas.List.{ext_get_or}
use Rattle.laws.specs.Lists.{all, up_to}
use Rattle.laws.proofs.Lists.{all-up_to-each, all-up_to-true}
use Rattle.rules.specs.Limits.{most_tasks}
use Rattle.stationnodes.specs.Nodes.{no_node}
use Rattle.stationnodes.specs.declared.Node.{Node}
use Rattle.answerlines.specs.Writing.{same_on, same_place}
use borrow.Author.Tests.{eq-eqb, eqb-true}
use lib.Pointwise.{pointwise, bytes_decides}
use lib.Dec.{eqb}
use native.Mathlib.Omega.{arith}

pub same-places : (a b : List ℕ) (n : ℕ) → length a ≡ n → length b ≡ n → pointwise eqb a b ≡ all (same_place a b) (up_to n)
same-places a b n la lb = go (pointwise eqb a b) (all (same_place a b) (up_to n)) refl refl
  where
    go : (r s : Bool) → pointwise eqb a b ≡ r → all (same_place a b) (up_to n) ≡ s → r ≡ s
    go true true e f = refl
    go false false e f = refl
    go true false e f =
        let same : a ≡ b = (bytes_decides a b).0 e in
        sym (all-up_to-each (same_place a b) n (λ k w. eq-eqb (get_or a k 0) (get_or b k 0) (ap (λ (l : List ℕ). get_or l k 0) same))) ∙ f
    go false true e f =
        let same : a ≡ b = ext_get_or 0 a b (la ∙ sym lb) (λ i h. eqb-true (get_or a i 0) (get_or b i 0) (all-up_to-true (same_place a b) n i f (omega arith))) in
        sym e ∙ (bytes_decides a b).1 same

pub same-on : (a b : List Node) (n : ℕ) {r : Bool} → r ≡ all (same_place (get_or a n no_node).shown (get_or b n no_node).shown) (up_to most_tasks) → same_on a b n ≡ r
unfolding same_on
same-on a b n e = sym e
