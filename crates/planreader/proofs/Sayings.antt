-- What a line says and what is stored of it: by its kind, its words, and behind the last line.
use mathlib.Core.Path.{◌≡◌, refl, sym, ap, ◌∙◌}
use mathlib.Core.Bool.{Bool, true, false}
use mathlib.Core.List.{List, [], ◌∷◌}
use native.Mathlib.Nat.{add-zero}
use native.Mathlib.Numerals.{add-one}
use native.Mathlib.Omega.{arith}
use lib.ListN.{length}
use lib.Seq.{sets}
use Prim.Native.Nat.{ℕ, suc, ◌+◌, ◌%◌, ◌<◌}
use Rattle.laws.specs.Numbers.{bytes}
use Rattle.rules.specs.Records.{plan_follows}
use Rattle.planwords.specs.declared.Reason.{Reason}
use Rattle.planwords.specs.Items.{items_of}
use Rattle.planwords.specs.TextPlan.{Matched, fits, fails, as_record, kind_by, matched, may_come, of_kind, plan_bytes, read_lines, why_not, words_read}
use Rattle.std.specs.Prelude.{Result, Ok, Err}
use Rattle.planreader.specs.declared.Last.{Last}
use Rattle.planreader.specs.declared.Unreadable.{Unreadable}
use Rattle.planreader.specs.Memory.{kind_stored, last_of, matching, reading_from, said_of, stopped, stored_lines, taken, words_stored}
use Rattle.planreader.proofs.Holding.{outcome}

-- ---- a kind

module _ (previous kind : ℕ) (ws : List (List ℕ)) (at : ℕ) (old : List ℕ) where
  -- what is said of a line of the kind
  abbrev pub SaysKind : Result Last Reason → List ℕ → Type 0
  SaysKind x out = (x ≡ said_of previous (at + length (kind_stored previous kind ws)) (of_kind previous kind ws)) × (out ≡ sets old at (kind_stored previous kind ws))

  module _ {t : Bool} (test : t ≡ may_come previous kind) where
    pub kind-not : {why : Reason} → t ≡ false → why ≡ why_not previous kind → SaysKind (Err why) old
    unfolding of_kind kind_stored
    kind-not e q = rw (← test, e, q) (refl, refl)

    module _ {mid out : List ℕ} {m : Result ℕ Reason} (e : t ≡ true) (byte : kind < 256) (first : mid ≡ sets old at (bytes 1 kind))
        (told : (m ≡ outcome (items_of kind) ws (at + 1)) × (out ≡ sets mid (at + 1) (taken (items_of kind) ws))) where
      put : out ≡ sets old at (kind ∷ taken (items_of kind) ws)
      put =
          let same : kind % 256 ≡ kind = omega arith in
          let one : mid ≡ sets old at (kind ∷ []) = first ∙ ap (λ (b : ℕ). sets old at (b ∷ [])) same in
          told.1 ∙ rw (one, add-one at)

      by_matched : (x : Result Last Reason) → x ≡ said_of previous (at + suc (length (taken (items_of kind) ws))) (as_record kind (matched (items_of kind) ws)) → SaysKind x out
      unfolding of_kind kind_stored
      by_matched x q = rw (← test, e) (q, put)

      pub kind-fails : {why : Reason} → m ≡ Err why → SaysKind (Err why) out
      kind-fails {why} q = by_matched (Err why) (go (matched (items_of kind) ws) (sym q ∙ told.0))
        where
          go : (n : Matched) → Err why ≡ matching n (at + 1 + length (taken (items_of kind) ws))
              → Err why ≡ said_of previous (at + suc (length (taken (items_of kind) ws))) (as_record kind n)
          go (fits ns) w = let z : ◌≡◌ {A = ℕ} 0 1 = cc in absurd (omega arith)
          go (fails reason) w = let same : why ≡ reason = cc in ap Err same

      pub kind_fits : {end : ℕ} → m ≡ Ok end → SaysKind (Ok (last_of kind end)) out
      kind_fits {end} q = by_matched (Ok (last_of kind end)) (go (matched (items_of kind) ws) (sym q ∙ told.0))
        where
          go : (n : Matched) → Ok end ≡ matching n (at + 1 + length (taken (items_of kind) ws))
              → Ok (last_of kind end) ≡ said_of previous (at + suc (length (taken (items_of kind) ws))) (as_record kind n)
          go (fits ns) w =
              let same : end ≡ at + 1 + length (taken (items_of kind) ws) = cc in
              ap (λ (k : ℕ). Ok (last_of kind k)) (same ∙ omega arith)
          go (fails reason) w = let z : ◌≡◌ {A = ℕ} 0 1 = cc in absurd (omega arith)

-- ---- the words of a line

abbrev pub SaysWords : ℕ → List (List ℕ) → ℕ → List ℕ → Result Last Reason → List ℕ → Type 0
SaysWords previous ws at old x out = (x ≡ said_of previous (at + length (words_stored previous ws)) (words_read previous ws)) × (out ≡ sets old at (words_stored previous ws))

pub no_words : (previous : ℕ) (ws : List (List ℕ)) (at : ℕ) (old : List ℕ) → ws ≡ [] → SaysWords previous ws at old (Ok (last_of previous at)) old
unfolding words_read words_stored
no_words previous ws at old e = rw e (ap (λ (k : ℕ). Ok (last_of previous k)) (sym (add-zero at)), refl)

pub some_words : (previous : ℕ) (ws rest : List (List ℕ)) (w : List ℕ) (at : ℕ) (old : List ℕ) {more kind : ℕ} {x : Result Last Reason} {out : List ℕ}
    → ws ≡ w ∷ rest → more ≡ length rest → kind ≡ kind_by w more → SaysKind previous kind rest at old x out → SaysWords previous ws at old x out
unfolding words_read words_stored
some_words previous ws rest w at old e m k s = rw (e, ← m, ← k) s

-- ---- behind the last line

abbrev pub Finishes : ℕ → ℕ → ℕ → List ℕ → Result ℕ Unreadable → List ℕ → Type 0
Finishes previous line at old r out = (r ≡ reading_from at (read_lines line previous [])) × (out ≡ sets old at (stored_lines previous []))

module _ (previous line at : ℕ) (old : List ℕ) {t : Bool} (test : t ≡ plan_follows previous 0) where
  pub finish_plan : {out : List ℕ} → t ≡ true → out ≡ sets old at (bytes 1 0) → Finishes previous line at old (Ok (at + 1)) out
  unfolding read_lines stored_lines plan_bytes
  finish_plan e q = rw (← test, e) (refl, q)

  pub finish_short : {why : Reason} → t ≡ false → why ≡ why_not previous 0 → Finishes previous line at old (Err (stopped line why)) old
  unfolding read_lines stored_lines
  finish_short e q = rw (← test, e, q) (refl, refl)
