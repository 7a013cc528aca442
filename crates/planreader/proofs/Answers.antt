-- What `read` gives and leaves, by what the text comes to; and how long a plan is that is read.
use mathlib.Core.Path.{◌≡◌, refl, sym, ap, ◌∙◌}
use mathlib.Core.Bool.{true, false}
use mathlib.Core.List.{List}
use native.Mathlib.Nat.{zero-add}
use native.Mathlib.Omega.{arith}
use borrow.Author.Tests.{le-leb, lt-leb}
use lib.Dec.{leb}
use lib.ListN.{length}
use lib.Seq.{sets}
use Prim.Native.Nat.{ℕ, ◌+◌, ◌≤◌, ◌<◌}
use Rattle.text.specs.Text.{is_short}
use Rattle.planwords.specs.TextPlan.{TextRead, plan, unreadable, plan_bytes, plan_file, plan_from, read_text, text_read}
use Rattle.planwords.proofs.Shorter.{plan-short}
use Rattle.std.specs.Prelude.{Result, Ok, Err}
use Rattle.planreader.specs.declared.Unreadable.{Unreadable}
use Rattle.planreader.specs.declared.Unread.{Unread}
use Rattle.planreader.specs.declared.Unread.TheVariants as unread
use Rattle.planreader.specs.Memory.{back_for, back_of, left_by, left_of, longest_text, reading_from, stopped, stored_text}
use Rattle.planreader.proofs.Stored.{text_stored}

-- what `read` says of its result
abbrev pub Answers : List ℕ → List ℕ → Result ℕ Unread → List ℕ → Type 0
Answers text lent r left = (r ≡ back_for text lent) × (left ≡ left_by text lent)

pub long-answer : (text lent : List ℕ) → longest_text < length text → Answers text lent (Err unread.TooLong) lent
unfolding back_for left_by is_short
long-answer text lent h = rw (lt-leb (length text) longest_text h) (refl, refl)

module _ (text lent : List ℕ) (h : length text ≤ longest_text) where
  by_text : (t : TextRead) → text_read text ≡ t → (r : Result ℕ Unread) (left : List ℕ) → (r ≡ back_of (plan_from t) lent) × (left ≡ left_of (plan_from t) lent)
      → Answers text lent r left
  unfolding back_for left_by is_short read_text
  by_text t e r left a = rw (le-leb (length text) longest_text h, e) a

  module _ {read : Result ℕ Unreadable} (is : read ≡ reading_from 0 (text_read text)) where
    pub unreadable-answer : {line : Unreadable} → read ≡ Err line → Answers text lent (Err (unread.Unreadable line)) lent
    unreadable-answer {line} q = go (text_read text) refl
      where
        go : (t : TextRead) → text_read text ≡ t → Answers text lent (Err (unread.Unreadable line)) lent
        go (plan rs) e =
            let same : ◌≡◌ {A = Result ℕ Unreadable} (Err line) (Ok (0 + length (plan_bytes rs))) = sym q ∙ is ∙ ap (reading_from 0) e in
            let z : ◌≡◌ {A = ℕ} 0 1 = cc in absurd (omega arith)
        go (unreadable n because) e =
            let same : ◌≡◌ {A = Result ℕ Unreadable} (Err line) (Err (stopped n because)) = sym q ∙ is ∙ ap (reading_from 0) e in
            let line-is : line ≡ stopped n because = cc in
            by_text (unreadable n because) e (Err (unread.Unreadable line)) lent (ap (λ (l : Unreadable). Err (unread.Unreadable l)) line-is, refl)

    module _ {needed : ℕ} (q : read ≡ Ok needed) where
      -- the plan's bytes are those that are stored, and so many
      by-plan : {C : Type 0} → ((file : List ℕ) → needed ≡ length file → stored_text text ≡ file
          → ((r : Result ℕ Unread) (left : List ℕ) → (r ≡ back_of (plan_file file) lent) × (left ≡ left_of (plan_file file) lent) → Answers text lent r left) → C) → C
      by-plan {C} told = go (text_read text) refl
        where
          go : (t : TextRead) → text_read text ≡ t → C
          go (plan rs) e =
              let same : ◌≡◌ {A = Result ℕ Unreadable} (Ok needed) (Ok (0 + length (plan_bytes rs))) = sym q ∙ is ∙ ap (reading_from 0) e in
              let long : needed ≡ 0 + length (plan_bytes rs) = cc in
              told (plan_bytes rs) (long ∙ zero-add (length (plan_bytes rs))) (text_stored text rs e) (λ r left a. by_text (plan rs) e r left a)
          go (unreadable n why) e =
              let same : ◌≡◌ {A = Result ℕ Unreadable} (Ok needed) (Err (stopped n why)) = sym q ∙ is ∙ ap (reading_from 0) e in
              let z : ◌≡◌ {A = ℕ} 0 1 = cc in absurd (omega arith)

      pub needs-answer : length lent < needed → Answers text lent (Err (unread.Needs needed)) lent
      needs-answer w =
          by-plan (λ file long stored answers.
          let no_room : leb (length file) (length lent) ≡ false = lt-leb (length file) (length lent) (omega arith) in
          answers (Err (unread.Needs needed)) lent (rw (no_room, long) (refl, refl)))

      pub plan-answer : {left : List ℕ} → needed ≤ length lent → left ≡ sets lent 0 (stored_text text) → Answers text lent (Ok needed) left
      plan-answer {left} w put =
          by-plan (λ file long stored answers.
          let room : leb (length file) (length lent) ≡ true = le-leb (length file) (length lent) (omega arith) in
          answers (Ok needed) left (rw (room, long, put, stored) (refl, refl)))

-- what is read from a text that is not too long has at most 262,145 bytes
pub read_short : (text file : List ℕ) → length text ≤ longest_text → read_text text ≡ plan_file file → length file ≤ 262145
read_short text file h e = omega (arith, plan-short text file e)
