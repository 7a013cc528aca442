-- The answers, each with its status: the plan, the line for a text that cannot be read, the line for a long one; that more room is needed
-- never comes.
use mathlib.Core.Path.{◌≡◌, refl, sym, ap, ◌∙◌}
use mathlib.Core.Bool.{Bool, true, false}
use mathlib.Core.List.{List, ◌++◌}
use native.Mathlib.Omega.{arith}
use lib.Dec.{leb}
use lib.ListN.{length}
use lib.Seq.{sets}
use borrow.Author.Tests.{le-leb, leb-true}
use Prim.Native.Nat.{ℕ, ◌≤◌}
use Rattle.io.specs.Counts.{IsPrefixLen}
use Rattle.text.specs.Text.{ascii, is_short, line_feed, marked, too_long_line}
use Rattle.text.proofs.Fronts.{Front, front-counts}
use Rattle.text.proofs.Putting.{Put, at_front, both_put}
use Rattle.planwords.specs.declared.Reason.{Reason}
use Rattle.planwords.specs.TextPlan.{PlanBack, plan_file, read_text, reason_text, unreadable_line, unreadable_text}
use Rattle.std.specs.Prelude.{Result, Ok, Err}
use Rattle.planreader.specs.declared.Unread.{Unread}
use Rattle.planreader.specs.declared.Unreadable.{Unreadable as Line}
use Rattle.planreader.specs.declared.Unread.TheVariants.{Needs, TooLong, Unreadable}
use Rattle.planreader.specs.Memory.{back_for, left_by, longest_text, stopped}
use Rattle.planreader.proofs.Answers.{read_short}
use Rattle.textplan.specs.Answer.{answer_for, status_for}

-- ---- a line of four pieces

pub unreadable-put : (b b₁ b₂ b₃ b₄ : List ℕ) (k₁ k₂ k₃ k₄ line : ℕ) (why : Reason) → Put b 0 (marked (ascii "unreadable line ") line) b₁ k₁
    → Put b₁ k₁ (ascii ": ") b₂ k₂ → Put b₂ k₂ (reason_text why) b₃ k₃ → Put b₃ k₃ line_feed b₄ k₄ → Front (unreadable_text line why) b b₄ k₄
unfolding unreadable_text
unreadable-put b b₁ b₂ b₃ b₄ k₁ k₂ k₃ k₄ line why p₁ p₂ p₃ p₄ =
    let ended = both_put b₂ b₃ b₄ (reason_text why) line_feed k₂ k₃ k₄ p₃ p₄ in
    let because = both_put b₁ b₂ b₄ (ascii ": ") (reason_text why ++ line_feed) k₁ k₂ k₄ p₂ ended in
    at_front b (marked (ascii "unreadable line ") line ++ (ascii ": " ++ (reason_text why ++ line_feed))) b₄ k₄
    (both_put b b₁ b₄ (marked (ascii "unreadable line ") line) (ascii ": " ++ (reason_text why ++ line_feed)) 0 k₁ k₄ p₁ because)

-- ---- the answers

-- what `respond` says of its result
abbrev Responds : List ℕ → List ℕ → List ℕ → ℕ → ℕ → Type 0
Responds text old out n s = Front (answer_for text) old out n × ((s ≡ status_for text) × IsPrefixLen n out)

-- what `done` and `refused` say of the response: its length and its status
abbrev Says : ℕ → ℕ → ℕ → ℕ → Type 0
Says l t n s = (l ≡ n) × (t ≡ s)

module _ (text old : List ℕ) (room : 262145 ≤ length old) (back : Result ℕ Unread) (mid : List ℕ) (is : back ≡ back_for text old) (left : mid ≡ left_by text old) where
  -- By what the text comes to: a plan, which has room; a line that cannot be read; or too long, as it is.
  by_text : (C : Type 0)
      → ((file : List ℕ) → back ≡ Ok (length file) → mid ≡ sets old 0 file → length file ≤ length old → answer_for text ≡ file → status_for text ≡ 0 → C)
      → ((n : ℕ) (why : Reason) → back ≡ Err (Unreadable (stopped n why)) → mid ≡ old → answer_for text ≡ unreadable_text n why → status_for text ≡ 1 → C)
      → (back ≡ Err TooLong → mid ≡ old → answer_for text ≡ too_long_line → status_for text ≡ 1 → C) → C
  unfolding back_for left_by answer_for status_for is_short
  by_text C planned unread long = go (leb (length text) longest_text) refl
    where
      short : leb (length text) longest_text ≡ true → (b : PlanBack) → read_text text ≡ b → C
      short s (plan_file file) e =
          let few : length text ≤ longest_text = leb-true (length text) longest_text s in
          let fits : length file ≤ length old = omega (arith, read_short text file few e) in
          let yes : leb (length file) (length old) ≡ true = le-leb (length file) (length old) fits in
          planned file (is ∙ rw (s, e, yes)) (left ∙ rw (s, e, yes)) fits (rw (s, e)) (rw (s, e))
      short s (unreadable_line n why) e = unread n why (is ∙ rw (s, e)) (left ∙ rw (s, e)) (rw (s, e)) (rw (s, e))

      go : (b : Bool) → leb (length text) longest_text ≡ b → C
      go true s = short s (read_text text) refl
      go false s = long (is ∙ rw s) (left ∙ rw s) (rw s) (rw s)

  pub plan_response : {n l t : ℕ} → back ≡ Ok n → Says l t n 0 → Responds text old mid l t
  plan_response {n} {l} {t} q says =
      rw (says.0, says.1)
      (by_text (Responds text old mid n 0)
      (λ file b put fits answer status.
      let same : ◌≡◌ {A = Result ℕ Unread} (Ok n) (Ok (length file)) = sym q ∙ b in
      let long : n ≡ length file = cc in
      let a : Front file old mid n = (put, long) in
      (rw answer a, (sym status, front-counts file old mid n a fits)))
      (λ k why b put answer status. let same : ◌≡◌ {A = Result ℕ Unread} (Ok n) (Err (Unreadable (stopped k why))) = sym q ∙ b in let z : ◌≡◌ {A = ℕ} 0 1 = cc in absurd (omega arith))
      (λ b put answer status. let same : ◌≡◌ {A = Result ℕ Unread} (Ok n) (Err TooLong) = sym q ∙ b in let z : ◌≡◌ {A = ℕ} 0 1 = cc in absurd (omega arith)))

  pub line_response : {line : Line} {n l t : ℕ} {out : List ℕ} → back ≡ Err (Unreadable line) → Front (unreadable_text line.line line.why) mid out n
      → n ≤ 64 → Says l t n 1 → Responds text old out l t
  line_response {line} {n} {l} {t} {out} q a few says =
      rw (says.0, says.1)
      (by_text (Responds text old out n 1)
      (λ file b put fits answer status.
      let same : ◌≡◌ {A = Result ℕ Unread} (Err (Unreadable line)) (Ok (length file)) = sym q ∙ b in let z : ◌≡◌ {A = ℕ} 0 1 = cc in absurd (omega arith))
      (λ k because b put answer status.
      let same : ◌≡◌ {A = Result ℕ Unread} (Err (Unreadable line)) (Err (Unreadable (stopped k because))) = sym q ∙ b in
      let line-is : line ≡ stopped k because = cc in
      let words : unreadable_text line.line line.why ≡ unreadable_text k because = ap (λ (m : Line). unreadable_text m.line m.why) line-is in
      let line-put : Front (unreadable_text k because) old out n = rw (put, words) at a in
      (rw answer line-put, (sym status, front-counts (unreadable_text k because) old out n line-put (omega (arith, line-put.1)))))
      (λ b put answer status.
      let same : ◌≡◌ {A = Result ℕ Unread} (Err (Unreadable line)) (Err TooLong) = sym q ∙ b in let z : ◌≡◌ {A = ℕ} 0 1 = cc in absurd (omega arith)))

  pub long_response : {n l t : ℕ} {out : List ℕ} → back ≡ Err TooLong → Front too_long_line mid out n → Says l t n 1 → Responds text old out l t
  unfolding too_long_line
  long_response {n} {l} {t} {out} q a says =
      rw (says.0, says.1)
      (by_text (Responds text old out n 1)
      (λ file b put fits answer status.
      let same : ◌≡◌ {A = Result ℕ Unread} (Err TooLong) (Ok (length file)) = sym q ∙ b in let z : ◌≡◌ {A = ℕ} 0 1 = cc in absurd (omega arith))
      (λ k why b put answer status. let same : ◌≡◌ {A = Result ℕ Unread} (Err TooLong) (Err (Unreadable (stopped k why))) = sym q ∙ b in let z : ◌≡◌ {A = ℕ} 0 1 = cc in absurd (omega arith))
      (λ b put answer status.
      let line-put : Front too_long_line old out n = rw put at a in
      (rw answer line-put, (sym status, front-counts too_long_line old out n line-put (omega arith)))))

  pub never_needs : {C : Type 0} {bytes : ℕ} → back ≡ Err (Needs bytes) → C
  never_needs {C} {bytes} q =
      by_text C
      (λ file b put fits answer status. let same : ◌≡◌ {A = Result ℕ Unread} (Err (Needs bytes)) (Ok (length file)) = sym q ∙ b in let z : ◌≡◌ {A = ℕ} 0 1 = cc in absurd (omega arith))
      (λ k why b put answer status. let same : ◌≡◌ {A = Result ℕ Unread} (Err (Needs bytes)) (Err (Unreadable (stopped k why))) = sym q ∙ b in let z : ◌≡◌ {A = ℕ} 0 1 = cc in absurd (omega arith))
      (λ b put answer status. let same : ◌≡◌ {A = Result ℕ Unread} (Err (Needs bytes)) (Err TooLong) = sym q ∙ b in let z : ◌≡◌ {A = ℕ} 0 1 = cc in absurd (omega arith))
