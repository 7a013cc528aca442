-- The kinds that the rules list: no body of one of them is 255 bytes long, and every kind behind them is unknown.
use Rattle.std.proofs.Common.{◌≡◌, refl, sym, ◌∙◌, Bool, true, false, cond, ℕ, ◌≤◌, ◌<◌, arith, ltb, length, get_or}
use Rattle.std.specs.Prelude.{None, Some}
use mathlib.Core.Option.{none}
use lib.ListN.{get_or-eq_default}
use borrow.Author.Tests.{ltb-true, ltb-false}
use Rattle.laws.specs.Lists.{tab}
use Rattle.laws.proofs.Lists.{length-tab}
use Rattle.laws.proofs.Bus.{table_at}
use Rattle.laws.proofs.Table.{below}
use Rattle.rules.specs.Records.{kinds, known, fields, body_length}
use Rattle.records.specs.Kinds.{if_known, length_of, length_byte}

-- no body is 255 bytes long
is_short : ℕ → Bool
is_short k = ltb (body_length k) 255

listed-short : (k : ℕ) → k < length kinds → is_short k ≡ true
unfolding is_short body_length fields kinds
listed-short = below is_short (length kinds) refl

module _ (k : ℕ) where
  unlisted : length kinds ≤ k → get_or kinds k none ≡ none
  unlisted h = get_or-eq_default kinds none h

  pub above : length kinds ≤ k → length_byte k ≡ 255
  unfolding length_byte known
  above h = rw (unlisted h)

  short_if : (b : Bool) → ltb k (length kinds) ≡ b → body_length k < 255
  unfolding is_short body_length fields
  short_if true e = ltb-true (body_length k) 255 (listed-short k (ltb-true k (length kinds) e))
  short_if false e = rw (unlisted (ltb-false k (length kinds) e)) (omega arith)

  pub short : body_length k < 255
  short = short_if (ltb k (length kinds)) refl

  told-none : (b : Bool) (n : ℕ) → n < 255 → cond b n 255 ≡ 255 → None ≡ if_known b n
  told-none true n h e = absurd (omega arith)
  told-none false n h e = refl

  told-some : (b : Bool) (n : ℕ) → (cond b n 255 ≡ 255 → ⊥) → Some (cond b n 255) ≡ if_known b n
  told-some true n h = refl
  told-some false n h = absurd (h refl)

  pub unknown_none : length_byte k ≡ 255 → None ≡ length_of k
  unfolding length_byte length_of
  unknown_none = told-none (known k) (body_length k) short

  pub known_some : (length_byte k ≡ 255 → ⊥) → Some (length_byte k) ≡ length_of k
  unfolding length_byte length_of
  known_some = told-some (known k) (body_length k)

-- the table of the source, by kind; 255 behind its end
looked-up_if : (k : ℕ) (b : Bool) → ltb k (length kinds) ≡ b → get_or (tab length_byte 0 (length kinds)) k 255 ≡ length_byte k
looked-up_if k true e = table_at (length kinds) length_byte k 255 (ltb-true k (length kinds) e)
looked-up_if k false e =
    let h : length kinds ≤ k = ltb-false k (length kinds) e in
    let behind : length (tab length_byte 0 (length kinds)) ≤ k = rw (length-tab length_byte 0 (length kinds)) h in
    get_or-eq_default (tab length_byte 0 (length kinds)) 255 behind ∙ sym (above k h)

pub looked_up : (k : ℕ) → get_or (tab length_byte 0 (length kinds)) k 255 ≡ length_byte k
looked_up k = looked-up_if k (ltb k (length kinds)) refl
