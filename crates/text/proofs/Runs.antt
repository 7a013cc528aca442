-- Text parted into lines: a run of bytes sought byte by byte, the lines of a text, and a word compared byte by byte.
use mathlib.Core.Path.{◌≡◌, refl, sym, ap, ◌∙◌}
use mathlib.Core.Bool.{Bool, true, false, cond, not, ◌&&◌, true≢false}
use mathlib.Core.List.{List, [], ◌∷◌, ◌++◌, map, append_assoc}
use native.Mathlib.Numerals.{add-one}
use native.Mathlib.Omega.{arith}
use borrow.Author.Tests.{eq-eqb, ne_eqb, ltb-false}
use lib.Dec.{eqb, ltb}
use lib.ListN.{length, drop, take, get_or, length-drop}
use lib.Seq.{drop-cons, drop-length, drop-drop}
use Prim.Native.Nat.{ℕ, zero, suc, ◌+◌, ◌-◌, ◌≤◌, ◌<◌}
use Rattle.laws.specs.Lists.{all, joined}
use Rattle.laws.proofs.Members.{All, empty, also}
use Rattle.std.specs.Prelude.{nat_eq, take_while}
use Rattle.std.proofs.lemmas.Bool.Decides.{nat_tests}
use Rattle.std.specs.Cmp.Lexicographic.{pointwise}
use Rattle.std.proofs.lemmas.List.Sums.{take_while-cons}
use Rattle.text.specs.Text.{run_on, front, line_feed, ended}
use Rattle.text.specs.Lines.{run_end, is_other, one_line, line_end, in_front, or_feed, lines_of, behind_end, starts_with, behind_word}
use Rattle.std.specs.Prelude.{Some, None}

pub drop_all : (i : ℕ) (l : List ℕ) → length l ≤ i → drop i l ≡ []
drop_all zero [] h = refl
drop_all zero (x ∷ l) h = absurd (omega arith)
drop_all (suc i) [] h = refl
drop_all (suc i) (x ∷ l) h = drop_all i l (omega arith)

drop_here : (l : List ℕ) (i : ℕ) → i < length l → drop i l ≡ get_or l i 0 ∷ drop (i + 1) l
drop_here l i h = rw (add-one i) (drop-cons l i 0 h)

-- ---- a run, whatever the test

module _ (p : ℕ → Bool) where
  -- the bytes of the run stand at the front
  pub front-taken : (l : List ℕ) → take (length (front p l)) l ≡ front p l
  front-taken [] = refl
  front-taken (b ∷ l) = go (p b) (front-taken l)
    where
      go : (t : Bool) → take (length (front p l)) l ≡ front p l → take (length (run_on t b (front p l))) (b ∷ l) ≡ run_on t b (front p l)
      go true e = ap (λ (r : List ℕ). b ∷ r) e
      go false e = refl

  -- bytes that pass go on into the run behind them
  pub front_over : (l m : List ℕ) → all p l ≡ true → front p (l ++ m) ≡ l ++ front p m
  front_over [] m h = refl
  front_over (b ∷ l) m h = over (p b) h (λ e. front_over l m e)
    where
      over : (t : Bool) → (t && all p l) ≡ true → (all p l ≡ true → front p (l ++ m) ≡ l ++ front p m)
          → run_on t b (front p (l ++ m)) ≡ b ∷ l ++ front p m
      over true e f = ap (λ (r : List ℕ). b ∷ r) (f e)
      over false e f = absurd (true≢false (sym e))

  pub run_part : (s : List ℕ) (at : ℕ) → take (run_end p s at - at) (drop at s) ≡ front p (drop at s)
  unfolding run_end
  run_part s at =
      let n : (at + length (front p (drop at s))) - at ≡ length (front p (drop at s)) = omega arith in
      rw n (front-taken (drop at s))

  -- it is the library's
  pub front-while : (l : List ℕ) → front p l ≡ take_while p l
  front-while [] = refl
  front-while (b ∷ l) = go (p b) refl (front-while l)
    where
      go : (t : Bool) → p b ≡ t → front p l ≡ take_while p l → run_on t b (front p l) ≡ take_while p (b ∷ l)
      go true e h = rw (take_while-cons, e) (ap (λ (r : List ℕ). b ∷ r) h)
      go false e h = rw (take_while-cons, e)

  -- a run's end, as the library counts what it takes from the rest of a text
  pub run_counted : (s : List ℕ) (from : ℕ) {part : List ℕ} {n : ℕ} → part ≡ drop from s → n ≡ length (take_while p part) → from + n ≡ run_end p s from
  unfolding run_end
  run_counted s from e q = rw (front-while (drop from s), ← e, q)

pub is_stop : {stop b : ℕ} → b ≡ stop → is_other stop b ≡ false
is_stop {stop} {b} e = rw (eq-eqb b stop e)

pub is_no_stop : {stop b : ℕ} → (b ≡ stop → ⊥) → is_other stop b ≡ true
is_no_stop {stop} {b} e = rw (ne_eqb b stop e)

-- ---- the lines of a text

-- the first line, and those behind its line feed
pub lines_more : (l : List ℕ) → 0 < length l → lines_of l ≡ one_line l ∷ lines_of (drop (suc (length (one_line l))) l)
unfolding lines_of
lines_more [] h = absurd (omega arith)
lines_more (b ∷ l) h = feed (eqb b 10) (λ w. lines_more l w)
  where
    behind : (l : List ℕ) → (0 < length l → lines_of l ≡ one_line l ∷ lines_of (drop (suc (length (one_line l))) l))
        → in_front b (lines_of l) ≡ (b ∷ one_line l) ∷ lines_of (drop (suc (length (one_line l))) l)
    behind [] more = refl
    behind (x ∷ l) more = ap (in_front b) (more (omega arith))

    feed : (t : Bool) → (0 < length l → lines_of l ≡ one_line l ∷ lines_of (drop (suc (length (one_line l))) l))
        → or_feed t b (lines_of l) ≡ run_on (not t) b (one_line l) ∷ lines_of (drop (suc (length (run_on (not t) b (one_line l)))) (b ∷ l))
    feed true more = refl
    feed false more = behind l more

pub line_part : (s : List ℕ) (at : ℕ) → take (line_end s at - at) (drop at s) ≡ one_line (drop at s)
unfolding line_end run_end
line_part s at = run_part (is_other 10) s at

behind-end : (s : List ℕ) (end : ℕ) → drop (behind_end s end) s ≡ drop (suc end) s
behind-end s end = go (ltb end (length s)) refl
  where
    go : (b : Bool) → ltb end (length s) ≡ b → drop (cond b (suc end) (length s)) s ≡ drop (suc end) s
    go true e = refl
    go false e =
        let h : length s ≤ end = ltb-false end (length s) e in
        drop-length s ∙ sym (drop_all (suc end) s (omega arith))

pub lines-here : (s : List ℕ) (at : ℕ) → at < length s → lines_of (drop at s) ≡ one_line (drop at s) ∷ lines_of (drop (behind_end s (line_end s at)) s)
unfolding line_end
lines-here s at h =
    let some : 0 < length (drop at s) = rw (length-drop at s) (omega arith) in
    let further : at + suc (length (one_line (drop at s))) ≡ suc (at + length (one_line (drop at s))) = omega arith in
    lines_more (drop at s) some
    ∙ ap (λ (l : List ℕ). one_line (drop at s) ∷ lines_of l)
    (drop-drop (suc (length (one_line (drop at s)))) at s
    ∙ ap (λ (k : ℕ). drop k s) further
    ∙ sym (behind-end s (at + length (one_line (drop at s)))))

-- the next line begins further on
pub behind-later : (s : List ℕ) {at end next : ℕ} → at < length s → at ≤ end → next ≡ behind_end s end → at < next
behind-later s {at} {end} {next} w h e = go (ltb end (length s)) e
  where
    go : (b : Bool) → next ≡ cond b (suc end) (length s) → at < next
    go true q = omega arith
    go false q = omega arith

-- a line without a line feed in it, and what stands behind its line feed
abbrev pub is_feedless : List ℕ → Bool
is_feedless l = all (is_other 10) l

pub line_first : (l rest : List ℕ) → is_feedless l ≡ true → lines_of (l ++ 10 ∷ rest) ≡ l ∷ lines_of rest
unfolding lines_of
line_first [] rest h = refl
line_first (b ∷ l) rest h = go (eqb b 10) h (λ e. line_first l rest e)
  where
    go : (t : Bool) → (not t && is_feedless l) ≡ true → (is_feedless l ≡ true → lines_of (l ++ 10 ∷ rest) ≡ l ∷ lines_of rest)
        → or_feed t b (lines_of (l ++ 10 ∷ rest)) ≡ (b ∷ l) ∷ lines_of rest
    go true e f = absurd (true≢false (sym e))
    go false e f = ap (in_front b) (f e)

-- lines without a line feed, each ended by one, are the lines of their text
pub lines-joined : (ls : List (List ℕ)) → All (λ l. is_feedless l ≡ true) ls → lines_of (joined (map ended ls)) ≡ ls
unfolding lines_of
lines-joined [] empty = refl
lines-joined (l ∷ ls) (also h r) =
    ap lines_of (append_assoc l line_feed (joined (map ended ls))) ∙ line_first l (joined (map ended ls)) h
    ∙ ap (λ (ms : List (List ℕ)). l ∷ ms) (lines-joined ls r)

-- ---- a word at a place

-- the word stands at the front, as the library compares
starts-is : (word s : List ℕ) → starts_with word s ≡ pointwise nat_eq word (take (length word) s)
starts-is [] s = refl
starts-is (w ∷ ws) [] = refl
starts-is (w ∷ ws) (b ∷ s) = rw (turned b w, starts-is ws s)
  where
    turned : (a b : ℕ) → eqb a b ≡ eqb b a
    turned a b = grind (arith, nat_tests)

module _ (s : List ℕ) (at : ℕ) (word : List ℕ) {part : List ℕ} (e : part ≡ drop at s) where
  decided : (t : Bool) → t ≡ pointwise nat_eq word (take (length word) part) → behind_word s at word ≡ cond t (Some (at + length word)) None
  unfolding behind_word
  decided t h = rw (starts-is word (drop at s), ← e, ← h)

  pub word_stands : true ≡ pointwise nat_eq word (take (length word) part) → Some (at + length word) ≡ behind_word s at word
  word_stands h = sym (decided true h)

  pub word_lacks : false ≡ pointwise nat_eq word (take (length word) part) → None ≡ behind_word s at word
  word_lacks h = sym (decided false h)
