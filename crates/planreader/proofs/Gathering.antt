-- A text gathered line by line: what is stored and what the lines left come to are what the whole text comes to.
use mathlib.Core.Path.{◌≡◌, refl, sym, ap, ◌∙◌}
use mathlib.Core.Bool.{Bool, true, false, cond}
use mathlib.Core.List.{List, [], ◌∷◌, ◌++◌, map, append_assoc}
use native.Mathlib.Nat.{add-zero}
use native.Mathlib.Numerals.{add-one}
use native.Mathlib.Omega.{arith}
use borrow.Author.Tests.{ltb-true}
use lib.Dec.{ltb}
use lib.ListN.{length, drop, take, length-append}
use lib.Seq.{sets, length-sets}
use Prim.Native.Nat.{ℕ, suc, ◌+◌, ◌-◌, ◌≤◌, ◌<◌}
use Rattle.laws.specs.Lists.{joined}
use Rattle.laws.proofs.Laid.{sets_append}
use Rattle.rules.specs.Records.{Rec}
use Rattle.text.specs.Lines.{behind_end, line_end, lines_of, one_line}
use Rattle.text.proofs.Runs.{drop_all, line_part, lines-here, behind-later}
use Rattle.planwords.specs.declared.Reason.{Reason}
use Rattle.planwords.specs.TextPlan.{
  LineRead,
  blank,
  says,
  wrong,
  line_read,
  TextRead,
  plan,
  unreadable,
  before,
  goes_on,
  read_lines,
  text_read,
  bytes_of,
  plan_bytes,
}
use Rattle.planwords.proofs.Shorter.{record_short}
use Rattle.std.specs.Prelude.{Result, Ok, Err}
use Rattle.planreader.specs.declared.Last.{Last}
use Rattle.planreader.specs.declared.Unreadable.{Unreadable}
use Rattle.planreader.specs.Memory.{last_of, line_stored, longest_text, reading_from, said_of, stopped, stored_lines, stored_on, stored_text}
use Rattle.planreader.proofs.Stored.{blank-stored, says-stored}

-- What a text comes to: the reading, and what is left in the lent bytes.
abbrev pub Gathers : List ℕ → List ℕ → Result ℕ Unreadable → List ℕ → Type 0
Gathers text old r out = (r ≡ reading_from 0 (text_read text)) × (out ≡ sets old 0 (stored_text text))

pub record Gathering (text old out : List ℕ) (previous end at line : ℕ) : Type 0 where
  pub result : reading_from end (read_lines (suc line) previous (lines_of (drop at text))) ≡ reading_from 0 (text_read text)
  pub stored : sets out end (stored_lines previous (lines_of (drop at text))) ≡ sets old 0 (stored_text text)
  pub counted : line ≤ at
  pub within : at ≤ length text
  pub few : end ≤ at
  pub short : length text ≤ longest_text
  pub long : length out ≡ length old

pub gathering_none : {text old : List ℕ} → length text ≤ longest_text → Gathering text old old 0 0 0 0
unfolding text_read stored_text
gathering_none h =
    record { result = refl; stored = refl; counted = omega arith; within = omega arith; few = omega arith; short = h; long = refl }

-- less is left behind a line
pub line_less : (text : List ℕ) {at end next : ℕ} → at < length text → at ≤ end → next ≡ behind_end text end
    → length text - next < length text - at
line_less text w h e = let l = behind-later text w h e in omega arith

-- records behind one
before-reading : (r : Rec) (end : ℕ) (t : TextRead) → reading_from end (before r t) ≡ reading_from (end + length (bytes_of r)) t
unfolding plan_bytes
before-reading r end (plan rs) =
    let whole = append_assoc (bytes_of r) (joined (map bytes_of rs)) (0 ∷ []) in
    let long = length-append (bytes_of r) (joined (map bytes_of rs) ++ (0 ∷ [])) in
    ap Ok (ap (λ (l : List ℕ). end + length l) whole ∙ omega (arith, long))
before-reading r end (unreadable n why) = refl

abbrev kind_in : Result Last Reason → ℕ
kind_in (Ok last) = last.kind
kind_in (Err why) = 0

abbrev end_in : Result Last Reason → ℕ
end_in (Ok last) = last.end
end_in (Err why) = 0

-- what a line leads to: the kind behind it, and how many bytes of it are stored
record Leads (previous : ℕ) (line : List ℕ) (m : LineRead) (kind : ℕ) : Type 0 where
  result : (number end : ℕ) (rest : ℕ → TextRead) → reading_from end (goes_on number previous m rest) ≡ reading_from (end + length (line_stored previous line)) (rest kind)
  stored : (rest : ℕ → List ℕ) → stored_on previous m rest ≡ rest kind
  few : length (line_stored previous line) ≤ length line

leads : (previous : ℕ) (line : List ℕ) (m : LineRead) → line_read previous line ≡ m → (at kind end : ℕ) → said_of previous at m ≡ Ok (last_of kind end)
    → Leads previous line m kind
leads previous line blank q at kind end e =
    let same : previous ≡ kind = ap kind_in e in
    let none = blank-stored previous line q in
    record {
      result = λ number end rest. rw (none, add-zero end, same);
      stored = λ rest. ap rest same;
      few = rw none (omega arith);
    }
leads previous line (says r) q at kind end e =
    let same : r.kind ≡ kind = ap kind_in e in
    let bytes = says-stored previous line r q in
    record {
      result = λ number end rest. rw (bytes, ← same) (before-reading r end (rest r.kind));
      stored = λ rest. ap rest same;
      few = rw bytes (record_short previous line r q);
    }
leads previous line (wrong why) q at kind end e = let z : ◌≡◌ {A = ℕ} 0 1 = cc in absurd (omega arith)

goes_to : (previous : ℕ) (line : List ℕ) (m : LineRead) → (at kind end : ℕ) → said_of previous at m ≡ Ok (last_of kind end) → end ≡ at
goes_to previous line blank at kind end e = sym (ap end_in e)
goes_to previous line (says r) at kind end e = sym (ap end_in e)
goes_to previous line (wrong why) at kind end e = let z : ◌≡◌ {A = ℕ} 0 1 = cc in absurd (omega arith)

fails_with : (previous at number end : ℕ) (m : LineRead) (why : Reason) (rest : ℕ → TextRead) → said_of previous at m ≡ Err why
    → reading_from end (goes_on number previous m rest) ≡ Err (stopped number why)
fails_with previous at number end blank why rest e = let z : ◌≡◌ {A = ℕ} 0 1 = cc in absurd (omega arith)
fails_with previous at number end (says r) why rest e = let z : ◌≡◌ {A = ℕ} 0 1 = cc in absurd (omega arith)
fails_with previous at number end (wrong reason) why rest e = let same : reason ≡ why = cc in ap (λ (w : Reason). Err (stopped number w)) same

stops_with : (previous at : ℕ) (m : LineRead) (why : Reason) (rest : ℕ → List ℕ) → said_of previous at m ≡ Err why → stored_on previous m rest ≡ []
stops_with previous at blank why rest e = let z : ◌≡◌ {A = ℕ} 0 1 = cc in absurd (omega arith)
stops_with previous at (says r) why rest e = let z : ◌≡◌ {A = ℕ} 0 1 = cc in absurd (omega arith)
stops_with previous at (wrong reason) why rest e = refl

module _ {text old out : List ℕ} {previous end at line : ℕ} (g : Gathering text old out previous end at line) where
  -- the line that stands here, and what is stored with it
  module _ {stop : ℕ} {x : Result Last Reason} {out' : List ℕ} (w : at < length text) (ended : stop ≡ line_end text at)
      (told : (x ≡ said_of previous (end + length (line_stored previous (take (stop - at) (drop at text)))) (line_read previous (take (stop - at) (drop at text))))
      × (out' ≡ sets out end (line_stored previous (take (stop - at) (drop at text))))) where
    here : take (stop - at) (drop at text) ≡ one_line (drop at text)
    here = rw ended (line_part text at)

    said_here : x ≡ said_of previous (end + length (line_stored previous (one_line (drop at text)))) (line_read previous (one_line (drop at text)))
    said_here = rw (← here) told.0

    stored_here : out' ≡ sets out end (line_stored previous (one_line (drop at text)))
    stored_here = rw (← here) told.1

    -- the lent bytes stay as many
    pub gathering_kept : length out' ≡ length old
    gathering_kept = ap length stored_here ∙ length-sets out end (line_stored previous (one_line (drop at text))) ∙ g.long

    -- the lines behind it
    behind : List (List ℕ)
    behind = lines_of (drop (behind_end text (line_end text at)) text)

    result-here : reading_from end
        (goes_on (suc line) previous (line_read previous (one_line (drop at text))) (λ kind. read_lines (suc (suc line)) kind behind))
        ≡ reading_from 0 (text_read text)
    unfolding read_lines behind
    result-here = let whole = g.result in rw (lines-here text at w) at whole

    stored_on_lem : sets out' (end + length (line_stored previous (one_line (drop at text))))
        (stored_on previous (line_read previous (one_line (drop at text))) (λ kind. stored_lines kind behind))
        ≡ sets old 0 (stored_text text)
    unfolding stored_lines behind
    stored_on_lem =
        let whole = g.stored in
        let rest = stored_on previous (line_read previous (one_line (drop at text))) (λ kind. stored_lines kind behind) in
        ap (λ (l : List ℕ). sets l (end + length (line_stored previous (one_line (drop at text)))) rest) stored_here
        ∙ sym (sets_append out end (line_stored previous (one_line (drop at text))) rest)
        ∙ (rw (lines-here text at w) at whole)

    pub gathering_unreadable : {why : Reason} → x ≡ Err why → Gathers text old (Err (stopped (line + 1) why)) out'
    gathering_unreadable {why} q =
        let m = line_read previous (one_line (drop at text)) in
        let place = end + length (line_stored previous (one_line (drop at text))) in
        let wrong-here = sym said_here ∙ q in (
          ap (λ (n : ℕ). Err (stopped n why)) (add-one line)
              ∙ sym (fails_with previous place (suc line) end m why (λ kind. read_lines (suc (suc line)) kind behind) wrong-here) ∙ result-here,
          ap (sets out' place) (sym (stops_with previous place m why (λ kind. stored_lines kind behind) wrong-here)) ∙ stored_on_lem,
        )

    pub gathering_turn : {kind end' next : ℕ} → x ≡ Ok (last_of kind end') → (at ≤ length text → stop ≤ length text) × (at ≤ stop)
        → next ≡ behind_end text stop → Gathering text old out' kind end' next (line + 1)
    unfolding behind line_end
    gathering_turn {kind} {end'} {next} q inside z =
        let m = line_read previous (one_line (drop at text)) in
        let bytes = line_stored previous (one_line (drop at text)) in
        let l = leads previous (one_line (drop at text)) m refl (end + length bytes) kind end' (sym said_here ∙ q) in
        let place : end' ≡ end + length bytes = goes_to previous (one_line (drop at text)) m (end + length bytes) kind end' (sym said_here ∙ q) in
        let first : stop ≡ at + length (one_line (drop at text)) = ended in
        let before-stop : end' ≤ stop = omega (arith, l.few, g.few) in
        record {
          result = rw (add-one line, place, z, ended) (sym (l.result (suc line) end (λ kind. read_lines (suc (suc line)) kind behind)) ∙ result-here);
          stored =
              rw (place, z, ended)
              (ap (sets out' (end + length bytes)) (sym (l.stored (λ kind. stored_lines kind behind))) ∙ stored_on_lem);
          counted = let later : at < next = behind-later text w inside.1 z in omega (arith, g.counted);
          within = rw z (inside_too (ltb stop (length text)) refl);
          few = rw z (not-before (ltb stop (length text)) before-stop);
          short = g.short;
          long = gathering_kept;
        }
      where
        stop-inside : stop ≤ length text
        stop-inside = inside.0 (omega arith)

        inside_too : (b : Bool) → ltb stop (length text) ≡ b → cond b (suc stop) (length text) ≤ length text
        inside_too true t = let h : stop < length text = ltb-true stop (length text) t in omega arith
        inside_too false t = omega arith

        not-before : (b : Bool) → end' ≤ stop → end' ≤ cond b (suc stop) (length text)
        not-before true h = omega arith
        not-before false h = omega (arith, stop-inside)

  -- behind the last line
  pub gathering_end : {r : Result ℕ Unreadable} {out' : List ℕ} → length text ≤ at
      → (r ≡ reading_from end (read_lines (line + 1) previous [])) × (out' ≡ sets out end (stored_lines previous [])) → Gathers text old r out'
  unfolding lines_of
  gathering_end w e =
      let result = g.result in
      let stored = g.stored in
      let none = drop_all at text w in
      (e.0 ∙ rw (add-one line) (rw none at result), e.1 ∙ (rw none at stored))
