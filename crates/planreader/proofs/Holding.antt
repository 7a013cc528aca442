-- The words of a line, one after the other: counted, and held against the items of a kind.
use mathlib.Core.Path.{◌≡◌, refl, sym, ap, ◌∙◌}
use mathlib.Core.Bool.{Bool, true, false, cond}
use mathlib.Core.List.{List, [], ◌∷◌, ◌++◌}
use native.Mathlib.Nat.{add-zero, zero-add}
use native.Mathlib.Numerals.{add-one}
use native.Mathlib.Omega.{arith}
use lib.Dec.{ltb}
use lib.ListN.{length, drop, take, get_or, length-append}
use lib.Seq.{sets, drop-cons, length-sets}
use Prim.Native.Nat.{ℕ, zero, suc, ◌+◌, ◌-◌, ◌*◌, ◌^◌, ◌≤◌, ◌<◌}
use Rattle.laws.specs.Numbers.{bytes}
use Rattle.laws.proofs.Laid.{sets_append}
use Rattle.text.specs.Lines.{is_word, next_word, whole_number, words}
use Rattle.text.specs.declared.lines.Word.{Word}
use Rattle.text.proofs.Putting.{Put}
use Rattle.text.proofs.Words.{WordsFrom, later-found, none_found, part_found, word-found, words-from}
use Rattle.planwords.specs.declared.Item.{Item}
use Rattle.planwords.specs.declared.Item.TheVariants as item
use Rattle.planwords.specs.declared.Reason.{Reason}
use Rattle.planwords.specs.declared.Reason.TheVariants as reason
use Rattle.planwords.specs.Items.{spelled}
use Rattle.planwords.specs.TextPlan.{Matched, fits, fails, number_first, with_number, matched}
use Rattle.std.specs.Prelude.{Option, Some, None, Result, Ok, Err}
use Rattle.planreader.specs.declared.Number.{Number}
use Rattle.planreader.specs.declared.Passed.{Passed}
use Rattle.planreader.specs.Memory.{found_at, found_from, found_with, judged, judged_number, matching, missing, number_of, taken, taken_by}

-- ---- words counted

pub record Counting (s : List ℕ) (at next count : ℕ) : Type 0 where
  pub sum : count + length (words (drop next s)) ≡ length (words (drop at s))
  pub few : count ≤ next

pub counting_none : {s : List ℕ} {at : ℕ} → Counting s at at 0
counting_none {s} {at} = record { sum = zero-add (length (words (drop at s))); few = omega arith }

module _ {s : List ℕ} {at next count : ℕ} (g : Counting s at next count) {found : Option Word} (next-is : found ≡ next_word s next) where
  pub counting_end : found ≡ None → count ≡ length (words (drop at s))
  counting_end e =
      let none = none_found s next next-is e in
      let whole = g.sum in
      sym (add-zero count) ∙ (rw none at whole)

  module _ {w : Word} (e : found ≡ Some w) where
    pub counting_turn : Counting s at w.to (count + 1)
    counting_turn =
        let more = word-found s next next-is e in
        let whole = g.sum in
        let here : count + suc (length (words (drop w.to s))) ≡ length (words (drop at s)) = rw more at whole in
        record { sum = omega arith; few = omega (arith, g.few, later-found s next next-is e) }

    -- no count wraps, and less is left
    pub counting_less : (count + 1 ≤ length s) × (length s - w.to < length s - next)
    counting_less =
        let part = part_found s next next-is e in
        (omega (arith, g.few, later-found s next next-is e, part.1), omega (arith, later-found s next next-is e, part.1))

-- ---- words held against items

-- what is left to do behind a word
abbrev matching_on : List Item → List ℕ → ℕ → Result Passed Reason → Result ℕ Reason
matching_on items s end (Err why) = Err why
matching_on items s end (Ok p) = matching (matched items (words (drop p.next s))) end

abbrev taken_on : List Item → List ℕ → Result Passed Reason → List ℕ
taken_on items s (Err why) = []
taken_on items s (Ok p) = bytes p.number.wide p.number.value ++ taken items (words (drop p.next s))

module _ (s : List ℕ) (at : ℕ) (i : Item) (items : List Item) where
  number_step : (wide n end next : ℕ) (b : Bool)
      → matching (cond b (number_first n (matched items (words (drop next s)))) (fails reason.NumberTooLarge)) end
      ≡ matching_on items s end (found_with (cond b (Ok (number_of wide n)) (Err reason.NumberTooLarge)) next)
  number_step wide n end next true = go (matched items (words (drop next s)))
    where
      go : (m : Matched) → matching (number_first n m) end ≡ matching m end
      go (fits ns) = refl
      go (fails why) = refl
  number_step wide n end next false = refl

  matched-step : (j : Item) (w : List ℕ) (end next : ℕ)
      → matching (matched (j ∷ items) (w ∷ words (drop next s))) end ≡ matching_on items s end (found_with (judged j w) next)
  unfolding matched
  matched-step (item.Word name) w end next = go (is_word (spelled name) w)
    where
      go : (b : Bool) → matching (cond b (matched items (words (drop next s))) (fails (reason.Expected name))) end
          ≡ matching_on items s end (found_with (cond b (Ok (number_of 0 0)) (Err (reason.Expected name))) next)
      go true = refl
      go false = refl
  matched-step (item.Number wide columns) w end next = go (whole_number w)
    where
      go : (number : Option ℕ) → matching (with_number wide number (matched items (words (drop next s)))) end
          ≡ matching_on items s end (found_with (judged_number wide number) next)
      go None = refl
      go (Some n) = number_step wide n end next (ltb n (256 ^ wide))

  matched-none : (j : Item) (end : ℕ) → matching (matched (j ∷ items) []) end ≡ Err (missing j)
  unfolding matched
  matched-none (item.Word name) end = refl
  matched-none (item.Number wide columns) end = refl

  pub step-matched : (end : ℕ) → matching (matched (i ∷ items) (words (drop at s))) end ≡ matching_on items s end (found_at s at i)
  unfolding found_at
  step-matched end = go (next_word s at) (words-from s at)
    where
      go : (w : Option Word) → WordsFrom s at w → matching (matched (i ∷ items) (words (drop at s))) end ≡ matching_on items s end (found_from s i w)
      go None e = rw e (matched-none i end)
      go (Some w) e = rw e.0 (matched-step i (take (w.to - w.from) (drop w.from s)) end w.to)

  pub step-taken : taken (i ∷ items) (words (drop at s)) ≡ taken_on items s (found_at s at i)
  unfolding found_at taken
  step-taken = go (next_word s at) (words-from s at)
    where
      by : (j : Result Number Reason) (next : ℕ) → taken_by j (taken items (words (drop next s))) ≡ taken_on items s (found_with j next)
      by (Ok n) next = refl
      by (Err why) next = refl

      go : (w : Option Word) → WordsFrom s at w → taken (i ∷ items) (words (drop at s)) ≡ taken_on items s (found_from s i w)
      go None e = rw e
      go (Some w) e = rw e.0 (by (judged i (take (w.to - w.from) (drop w.from s))) w.to)

-- what matching words with items comes to, with the place behind the bytes
abbrev pub outcome : List Item → List (List ℕ) → ℕ → Result ℕ Reason
outcome items ws at = matching (matched items ws) (at + length (taken items ws))

-- What is stored, and what is left of the items and the words, come to what all of them do.
pub record Holding (s : List ℕ) (from : ℕ) (items : List Item) (old : List ℕ) (at : ℕ) (out : List ℕ) (next end k : ℕ) : Type 0 where
  pub result : outcome (drop k items) (words (drop next s)) end ≡ outcome items (words (drop from s)) at
  pub stored : sets out end (taken (drop k items) (words (drop next s))) ≡ sets old at (taken items (words (drop from s)))
  pub near : end ≤ at + 255 * k
  pub few : k ≤ length items
  pub long : length out ≡ length old

module _ {s : List ℕ} {from : ℕ} {items : List Item} {old : List ℕ} {at : ℕ} {out : List ℕ} {next end k : ℕ}
    (g : Holding s from items old at out next end k) where
  module _ (d : Item) {i : Item} {f : Result Passed Reason} (w : k < length items) (here : i ≡ get_or items k d) (read : f ≡ found_at s next i) where
    left : drop k items ≡ i ∷ drop (k + 1) items
    left = rw (add-one k, here) (drop-cons items k d w)

    taken_here : (told : Result Passed Reason) → f ≡ told → taken (drop k items) (words (drop next s)) ≡ taken_on (drop (k + 1) items) s told
    taken_here told q =
        ap (λ (l : List Item). taken l (words (drop next s))) left ∙ step-taken s next i (drop (k + 1) items)
        ∙ ap (taken_on (drop (k + 1) items) s) (sym read ∙ q)

    matched-here : (told : Result Passed Reason) → f ≡ told → (place : ℕ)
        → matching (matched (drop k items) (words (drop next s))) place ≡ matching_on (drop (k + 1) items) s place told
    matched-here told q place =
        ap (λ (l : List Item). matching (matched l (words (drop next s))) place) left ∙ step-matched s next i (drop (k + 1) items) place
        ∙ ap (matching_on (drop (k + 1) items) s place) (sym read ∙ q)

    pub holding_wrong : {why : Reason} → f ≡ Err why
        → (Err why ≡ outcome items (words (drop from s)) at) × (out ≡ sets old at (taken items (words (drop from s))))
    holding_wrong {why} q = (
      sym (matched-here (Err why) q (end + length (taken (drop k items) (words (drop next s))))) ∙ g.result,
      ap (sets out end) (sym (taken_here (Err why) q)) ∙ g.stored,
    )

    pub holding_turn : {p : Passed} {out' : List ℕ} {end' : ℕ} → f ≡ Ok p → Put out end (bytes p.number.wide p.number.value) out' end' × (end' ≤ end + 255)
        → Holding s from items old at out' p.next end' (k + 1)
    holding_turn {p} {out'} {end'} q put =
        let rest = taken (drop (k + 1) items) (words (drop p.next s)) in
        let all = taken_here (Ok p) q in
        let count : length (bytes p.number.wide p.number.value ++ rest) ≡ length (bytes p.number.wide p.number.value) + length rest = length-append (bytes p.number.wide p.number.value) rest in
        let same : end' + length rest ≡ end + length (taken (drop k items) (words (drop next s))) = rw all (omega (arith, count, put.0.1)) in
        record {
          result =
              ap (matching (matched (drop (k + 1) items) (words (drop p.next s)))) same
              ∙ sym (matched-here (Ok p) q (end + length (taken (drop k items) (words (drop next s))))) ∙ g.result;
          stored =
              rw (put.0.0, put.0.1) (sym (sets_append out end (bytes p.number.wide p.number.value) rest)) ∙ ap (sets out end) (sym all) ∙ g.stored;
          near = omega (arith, g.near, put.1);
          few = omega arith;
          long = ap length put.0.0 ∙ length-sets out end (bytes p.number.wide p.number.value) ∙ g.long;
        }

  pub holding_end : {r : Result ℕ Reason} → length items ≤ k → r ≡ matching (matched [] (words (drop next s))) end
      → (r ≡ outcome items (words (drop from s)) at) × (out ≡ sets old at (taken items (words (drop from s))))
  unfolding taken
  holding_end {r} w e =
      let none = over items k w in
      let result = g.result in
      let stored = g.stored in
      (e ∙ ap (matching (matched [] (words (drop next s)))) (sym (add-zero end)) ∙ (rw none at result), rw none at stored)
    where
      over : (l : List Item) (n : ℕ) → length l ≤ n → drop n l ≡ []
      over [] zero h = refl
      over [] (suc n) h = refl
      over (x ∷ l) zero h = absurd (omega arith)
      over (x ∷ l) (suc n) h = over l n (omega arith)
