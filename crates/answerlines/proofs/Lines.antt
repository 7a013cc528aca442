-- Lines put piece by piece.
use mathlib.Core.Bool.{Bool, true}
use mathlib.Core.Path.{◌≡◌, refl, sym, ◌∙◌}
use mathlib.Core.List.{List, [], ◌∷◌, ◌++◌}
use native.Mathlib.Nat.{add-zero, zero-add}
use native.Mathlib.Omega.{arith}
use borrow.Author.Tests.{eq-eqb, ne_eqb}
use lib.ListN.{length}
use lib.Seq.{sets}
use Prim.Native.Nat.{ℕ, ◌+◌}
use Rattle.text.specs.Text.{ascii, at_word, line_feed, marked, numbered_line, refused_line, refused_word, texts}
use Rattle.text.proofs.Putting.{Put, both_put, at_front}
use Rattle.answers.specs.Refusals.{number_of, place_of}
use Rattle.answers.specs.declared.Refusal.{Refusal}
use Rattle.std.specs.Prelude.{Option, Some, Result, Ok, Err}
use Rattle.stationmoves.specs.declared.ControlRow.{ControlRow}
use Rattle.stationmoves.specs.declared.DataRow.{DataRow}
use Rattle.stationmoves.specs.declared.StartedRow.{StartedRow}
use Rattle.stationnodes.specs.declared.Node.{Node}
use Rattle.units.specs.declared.Ticks.{Ticks}
use Rattle.answerlines.specs.Writing.{Said, begun_text, control_line, data_line, node_shown, only_if, or_dash, place_shown, quiet_text, refusal_line, row_line, said_text, shown_line, shown_word, speaks, times_text}

-- a place, where it is zero and where not
pub zero-put : (old : List ℕ) (at n t v : ℕ) → v ≡ 0 → Put old at (place_shown n t v) old at
zero-put old at n t v e = rw (eq-eqb v 0 e) (refl, sym (add-zero at))

pub place-put : (b b₁ b₂ b₃ : List ℕ) (at k₁ k₂ k₃ n t v : ℕ) → (v ≡ 0 → ⊥) → Put b at (marked (32 ∷ []) n) b₁ k₁
    → Put b₁ k₁ (marked (47 ∷ []) t) b₂ k₂ → Put b₂ k₂ (marked (61 ∷ []) v) b₃ k₃ → Put b at (place_shown n t v) b₃ k₃
place-put b b₁ b₂ b₃ at k₁ k₂ k₃ n t v f p q r =
    rw (ne_eqb v 0 f)
    (both_put b b₁ b₃ (marked (32 ∷ []) n) (marked (47 ∷ []) t ++ marked (61 ∷ []) v) at k₁ k₃ p
    (both_put b₁ b₂ b₃ (marked (47 ∷ []) t) (marked (61 ∷ []) v) k₁ k₂ k₃ q r))

-- three pieces one behind the other
pub three_put : (b b₁ b₂ b₃ l m r : List ℕ) (at k₁ k₂ k₃ : ℕ) → Put b at l b₁ k₁ → Put b₁ k₁ m b₂ k₂ → Put b₂ k₂ r b₃ k₃ → Put b at (l ++ (m ++ r)) b₃ k₃
three_put b b₁ b₂ b₃ l m r at k₁ k₂ k₃ p q s = both_put b b₁ b₃ l (m ++ r) at k₁ k₃ p (both_put b₁ b₂ b₃ m r k₁ k₂ k₃ q s)

-- what is not asked for puts nothing
pub left_out : (old : List ℕ) (at : ℕ) → Put old at [] old at
left_out old at = (refl, sym (add-zero at))

-- a refusal
pub refusal_put : (b b₁ b₂ b₃ : List ℕ) (at k₁ k₂ k₃ : ℕ) (why : Refusal) {n p : ℕ} → n ≡ number_of why → p ≡ place_of why → Put b at (marked refused_word n) b₁ k₁
    → Put b₁ k₁ (marked at_word p) b₂ k₂ → Put b₂ k₂ line_feed b₃ k₃ → Put b at (refusal_line why) b₃ k₃
unfolding refusal_line refused_line
refusal_put b b₁ b₂ b₃ at k₁ k₂ k₃ why {n} {p} e f first second last =
    rw (← e, ← f) (three_put b b₁ b₂ b₃ (marked refused_word n) (marked at_word p) line_feed at k₁ k₂ k₃ first second last)

pub refused-begun : (b b₁ : List ℕ) (k : ℕ) {answer : Result (Unit {0}) Refusal} {why : Refusal} → answer ≡ Err why → Put b 0 (refusal_line why) b₁ k
    → (b₁ ≡ sets b 0 (begun_text answer)) × (k ≡ length (begun_text answer))
refused-begun b b₁ k {answer} {why} e p = rw e (at_front b (refusal_line why) b₁ k p)

-- a row
pub times-put : (b b₁ b₂ b₃ : List ℕ) (at k₁ k₂ k₃ : ℕ) (start stop : Ticks) → Put b at (marked (ascii " start ") start.0) b₁ k₁
    → Put b₁ k₁ (marked (ascii " stop ") stop.0) b₂ k₂ → Put b₂ k₂ line_feed b₃ k₃ → Put b at (times_text start stop) b₃ k₃
unfolding times_text
times-put b b₁ b₂ b₃ at k₁ k₂ k₃ start stop p q r =
    three_put b b₁ b₂ b₃ (marked (ascii " start ") start.0) (marked (ascii " stop ") stop.0) line_feed at k₁ k₂ k₃ p q r

pub control-put : (b b₁ b₂ : List ℕ) (at k₁ k₂ : ℕ) (row : ControlRow) → Put b at (marked (ascii "row control node ") row.node.0) b₁ k₁
    → Put b₁ k₁ (times_text row.start row.stop) b₂ k₂ → Put b at (control_line row) b₂ k₂
unfolding control_line
control-put b b₁ b₂ at k₁ k₂ row p q = both_put b b₁ b₂ (marked (ascii "row control node ") row.node.0) (times_text row.start row.stop) at k₁ k₂ p q

pub data_put : (b b₁ b₂ b₃ : List ℕ) (at k₁ k₂ k₃ : ℕ) (row : DataRow) → Put b at (marked (ascii "row data task ") row.task.0) b₁ k₁
    → Put b₁ k₁ (marked (ascii " deadline ") row.deadline.0) b₂ k₂ → Put b₂ k₂ (times_text row.start row.stop) b₃ k₃ → Put b at (data_line row) b₃ k₃
unfolding data_line
data_put b b₁ b₂ b₃ at k₁ k₂ k₃ row p q r =
    three_put b b₁ b₂ b₃ (marked (ascii "row data task ") row.task.0) (marked (ascii " deadline ") row.deadline.0) (times_text row.start row.stop) at k₁ k₂ k₃ p q r

-- what is said, where it is no refusal and a row starts
pub starts : {said : Said} (some : Option StartedRow) (row : StartedRow) → said ≡ Ok some → some ≡ Some row → said ≡ Ok (Some row)
starts some row e f = rw (e, f)

-- what is said of a tick at which a row starts
module _ (b b₁ b₂ : List ℕ) (at k₁ k₂ : ℕ) (rows shows : Bool) (nodes : List Node) {said : Said} where
  pub row-said : {row : StartedRow} → said ≡ Ok (Some row) → Put b at (only_if rows (row_line row)) b₁ k₁ → Put b₁ k₁ (only_if shows (shown_line nodes)) b₂ k₂
      → Put b at (said_text rows said shows nodes) b₂ k₂
  row-said {row} e p q = rw e (both_put b b₁ b₂ (only_if rows (row_line row)) (only_if shows (shown_line nodes)) at k₁ k₂ p q)

-- what is said of a quiet tick
pub quiet_put : (b b₁ b₂ : List ℕ) (k₁ k₂ k : ℕ) (rows : Bool) (said : Said) (shows : Bool) (nodes : List Node) → speaks rows said shows ≡ true
    → (b₁ ≡ sets b 0 (numbered_line (ascii "after ") k)) × (k₁ ≡ length (numbered_line (ascii "after ") k)) → Put b₁ k₁ (said_text rows said shows nodes) b₂ k₂
    → (b₂ ≡ sets b 0 (quiet_text k rows said shows nodes)) × (k₂ ≡ length (quiet_text k rows said shows nodes))
unfolding quiet_text
quiet_put b b₁ b₂ k₁ k₂ k rows said shows nodes e p q =
    rw e (at_front b (numbered_line (ascii "after ") k ++ said_text rows said shows nodes) b₂ k₂
    (both_put b b₁ b₂ (numbered_line (ascii "after ") k) (said_text rows said shows nodes) 0 k₁ k₂ (p.0, p.1 ∙ sym (zero-add (length (numbered_line (ascii "after ") k)))) q))

-- the line of what is shown
module _ (b b₁ b₂ b₃ : List ℕ) (at k₁ k₂ k₃ : ℕ) (first : Put b at shown_word b₁ k₁) where
  dash-put : (text : List ℕ) → Put b₁ k₁ text b₂ k₂ → k₂ ≡ k₁ → Put b₂ k₂ (32 ∷ 45 ∷ line_feed) b₃ k₃ → Put b at (shown_word ++ or_dash text) b₃ k₃
  dash-put [] p e q = both_put b b₁ b₃ shown_word (32 ∷ 45 ∷ line_feed) at k₁ k₃ first (both_put b₁ b₂ b₃ [] (32 ∷ 45 ∷ line_feed) k₁ k₂ k₃ p q)
  dash-put (x ∷ text) p e q = let n : k₂ ≡ k₁ + length (x ∷ text) = p.1 in absurd (omega arith)

  some-put : (text : List ℕ) → Put b₁ k₁ text b₂ k₂ → (k₂ ≡ k₁ → ⊥) → Put b₂ k₂ line_feed b₃ k₃ → Put b at (shown_word ++ or_dash text) b₃ k₃
  some-put [] p f q = absurd (f (p.1 ∙ add-zero k₁))
  some-put (x ∷ text) p f q =
      both_put b b₁ b₃ shown_word ((x ∷ text) ++ line_feed) at k₁ k₃ first (both_put b₁ b₂ b₃ (x ∷ text) line_feed k₁ k₂ k₃ p q)

  module _ (nodes : List Node) (all : Put b₁ k₁ (texts (node_shown nodes) 8) b₂ k₂) where
    pub none-shown : k₂ ≡ k₁ → Put b₂ k₂ (32 ∷ 45 ∷ line_feed) b₃ k₃ → Put b at (shown_line nodes) b₃ k₃
    unfolding shown_line
    none-shown e q = dash-put (texts (node_shown nodes) 8) all e q

    pub some-shown : (k₂ ≡ k₁ → ⊥) → Put b₂ k₂ line_feed b₃ k₃ → Put b at (shown_line nodes) b₃ k₃
    unfolding shown_line
    some-shown f q = some-put (texts (node_shown nodes) 8) all f q
