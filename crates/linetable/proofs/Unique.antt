-- No second result, and no second buffer, says of a plan what the rules say of it.
use mathlib.Core.Path.{◌≡◌, sym, ap, ◌∙◌}
use mathlib.Core.List.{List}
use Prim.Native.Nat.{ℕ}
use Rattle.laws.specs.Res.{Res}
use Rattle.laws.proofs.Res.{refuse≢ok, ok_injective}
use Rattle.rules.specs.Table.{MadeTable}
use Rattle.answers.proofs.Said.{said-once}
use Rattle.rows.specs.Rows.{Rows}
use Rattle.std.specs.Prelude.{Result, Ok, Err}
use Rattle.answers.specs.declared.Refusal.{Refusal}
use Rattle.linetable.specs.Making.{Making, Makes, heard_made}

pub heard-once : (x y : Result ℕ Refusal) → heard_made x ≡ heard_made y → x ≡ y
heard-once (Ok m) (Ok n) e = ap Ok (ok_injective e)
heard-once (Ok m) (Err y) e = refuse≢ok (sym e)
heard-once (Err x) (Ok n) e = refuse≢ok e
heard-once (Err x) (Err y) e = ap Err (said-once x y e)

module _ (a b : Making) (before after after' : List ℕ) (rule : Res MadeTable) (p : Makes a before after rule) (q : Makes b before after' rule) where
  pub makes_once : a ≡ b
  makes_once =
      let answers : a.answer ≡ b.answer = heard-once a.answer b.answer (p.answered ∙ sym q.answered) in
      let rows : a.rows ≡ b.rows = p.left ∙ sym q.left in
      ap {B = Making} (λ (x : Result ℕ Refusal). record { answer = x; rows = a.rows }) answers
      ∙ ap {B = Making} (λ (x : Rows). record { answer = b.answer; rows = x }) rows

  pub leaves-once : after ≡ after'
  leaves-once = p.written ∙ sym q.written
