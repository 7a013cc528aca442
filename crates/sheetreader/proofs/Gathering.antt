-- A text gathered line by line: what is held is what the definition has read so far, and the lines left lead to the same end.
use mathlib.Core.Path.{◌≡◌, refl, sym, ap, ◌∙◌}
use mathlib.Core.Bool.{Bool, true, false, cond}
use mathlib.Core.List.{List}
use native.Mathlib.Numerals.{add-one}
use native.Mathlib.Omega.{arith}
use borrow.Author.Tests.{eq-eqb, ne_eqb, ltb-true}
use lib.Dec.{eqb, ltb}
use lib.ListN.{length, drop, take, replicate}
use Prim.Native.Nat.{ℕ, suc, ◌+◌, ◌-◌, ◌≤◌, ◌<◌}
use Rattle.laws.proofs.Lists.{pad_to-none}
use Rattle.rules.specs.Limits.{most_nodes, most_frames}
use Rattle.text.specs.Lines.{behind_end, line_end, lines_of, one_line}
use Rattle.text.proofs.Runs.{drop_all, line_part, lines-here, behind-later}
use Rattle.sheet.proofs.Pinned.{Fitting, line-fits, nothing-fits}
use Rattle.sheet.specs.Back as back
use Rattle.sheet.specs.Back.{SoFar, goes_on, nothing_yet, read_lines, read_sheet, with_line}
use Rattle.sheetreader.specs.declared.Said.{Said}
use Rattle.sheetreader.specs.declared.Held.{Held}
use Rattle.std.specs.Prelude as code
use Rattle.std.specs.Prelude.{None, Some, Result, Ok, Err}
use Rattle.sheetreader.specs.declared.NoTable.{NoTable}
use Rattle.sheetreader.specs.declared.NoTable.TheVariants.{Unreadable}
use Rattle.sheetreader.specs.Memory.{Few, Gathered, Laid, laid, lay_out, line_said, with_said}
use Rattle.sheetreader.proofs.Sayings.{laid_more, line-said, more, read_as, said_in}

-- nothing is held where each part is its zero
pub held_zero : (h : Held)
    → (h.stage ≡ 0) × ((h.consumers ≡ false) × ((h.period.0 ≡ 0) × ((h.controls ≡ 0) × (h.rows ≡ 0))))
    → h ≡ record { stage = 0; consumers = false; period = record { 0 = 0 }; controls = 0; rows = 0 }
held_zero h e = go h.stage h.consumers h.period.0 h.controls h.rows e.0 e.1.0 e.1.1.0 e.1.1.1.0 e.1.1.1.1
  where
    go : (stage : ℕ) (consumers : Bool) (period controls rows : ℕ) → stage ≡ 0 → consumers ≡ false → period ≡ 0 → controls ≡ 0 → rows ≡ 0
        → ◌≡◌ {A = Held} (record { stage = stage; consumers = consumers; period = record { 0 = period }; controls = controls; rows = rows })
        (record { stage = 0; consumers = false; period = record { 0 = 0 }; controls = 0; rows = 0 })
    go stage consumers period controls rows a b c d e = rw (a, b, c, d, e)

-- what gathering comes to, in the arrays of a memory
abbrev pub GatheredIn : Result Held NoTable → Laid → back.Back → Type 0
GatheredIn r m b = Gathered r m.nodes m.control_starts m.control_stops m.tasks m.deadlines m.starts m.stops b

-- What is held at a place behind some lines is what the definition has read so far, and from there it comes to what the whole text comes to.
pub record Gathering (text : List ℕ) (at line : ℕ) (m : Laid) : Type 0 where
  pub so_far : SoFar
  pub laid_out : m ≡ lay_out so_far
  pub fits : Fitting so_far
  pub counted : line ≤ at
  pub within : at ≤ length text
  pub run : read_lines (suc line) (lines_of (drop at text)) so_far ≡ read_sheet text

pub gathering_none : {text nodes control_starts control_stops tasks deadlines starts stops : List ℕ}
    → nodes ≡ replicate most_nodes 0 → control_starts ≡ replicate most_nodes 0 → control_stops ≡ replicate most_nodes 0
    → tasks ≡ replicate most_frames 0 → deadlines ≡ replicate most_frames 0 → starts ≡ replicate most_frames 0 → stops ≡ replicate most_frames 0
    → Gathering text 0 0 (laid (record { stage = 0; consumers = false; period = record { 0 = 0 }; controls = 0; rows = 0 }) nodes control_starts control_stops tasks deadlines starts stops)
unfolding read_sheet lay_out
gathering_none e1 e2 e3 e4 e5 e6 e7 =
    record {
      so_far = nothing_yet;
      laid_out = rw (e1, e2, e3, e4, e5, e6, e7, pad_to-none {A = ℕ} most_nodes 0, pad_to-none {A = ℕ} most_frames 0);
      fits = nothing-fits;
      counted = omega arith;
      within = omega arith;
      run = refl;
    }

-- no more rows were read than there are places
pub few-laid : {s : SoFar} → Fitting s → Few (lay_out s).held
unfolding lay_out
few-laid f = record { controls = f.controls; rows = f.datas }

-- less is left behind a line
pub line_less : (text : List ℕ) {at end next : ℕ} → at < length text → at ≤ end → next ≡ behind_end text end
    → length text - next < length text - at
line_less text w h e = let l = behind-later text w h e in omega arith

module _ {text : List ℕ} {at line : ℕ} {m : Laid} (g : Gathering text at line m) where
  -- the line that stands here
  module _ {end : ℕ} {said : code.Option Said} (w : at < length text) (ended : end ≡ line_end text at)
      (told : said ≡ line_said m.held.stage m.held.controls m.held.rows (take (end - at) (drop at text))) where
    -- it is the definition's line, said of what the definition has read
    said_here : said ≡ said_in g.so_far (one_line (drop at text))
    unfolding lay_out
    said_here =
        told
        ∙ ap (λ (h : Held). line_said h.stage h.controls h.rows (take (end - at) (drop at text))) (ap (λ (m : Laid). m.held) g.laid_out)
        ∙ ap (said_in g.so_far) (rw ended (line_part text at))

    line_read : (x : code.Option Said) → said ≡ x → with_line g.so_far (one_line (drop at text)) ≡ read_as x g.so_far
    line_read x e = line-said g.so_far (one_line (drop at text)) ∙ rw (← said_here, e)

    onward : (x : code.Option Said) → said ≡ x
        → goes_on (suc line) (read_as x g.so_far) (read_lines (suc (suc line)) (lines_of (drop (behind_end text (line_end text at)) text)))
        ≡ read_sheet text
    unfolding read_lines
    onward x e =
        let whole = g.run in
        rw (lines-here text at w, line_read x e) at whole

    pub gathering_unreadable : said ≡ None → GatheredIn (Err (Unreadable (line + 1))) m (read_sheet text)
    gathering_unreadable e = rw (← onward None e, add-one line)

    pub gathering_turn : {x : Said} {next : ℕ} {m' : Laid} → said ≡ Some x → (at ≤ length text → end ≤ length text) × (at ≤ end)
        → next ≡ behind_end text end → m' ≡ with_said x m → Gathering text next (line + 1) m'
    gathering_turn {x} {next} {m'} e inside q r =
        record {
          so_far = more x g.so_far;
          laid_out = r ∙ ap (with_said x) g.laid_out ∙ laid_more x g.so_far;
          fits = line-fits g.so_far (one_line (drop at text)) g.fits (line_read (Some x) e);
          counted = let l : at < next = behind-later text w inside.1 q in omega (arith, g.counted);
          within = rw q (inside_too (ltb end (length text)) refl);
          run = rw (add-one line, q, ended) (onward (Some x) e);
        }
      where
        inside_too : (b : Bool) → ltb end (length text) ≡ b → cond b (suc end) (length text) ≤ length text
        inside_too true z = let h : end < length text = ltb-true end (length text) z in omega arith
        inside_too false z = omega arith

  pub gathering_few : Few m.held
  gathering_few = rw g.laid_out (few-laid g.fits)

  -- behind the last line
  module _ (w : length text ≤ at) where
    at-end : cond (eqb m.held.stage 2) (back.sheet g.so_far) (back.unreadable (suc line)) ≡ read_sheet text
    unfolding read_lines lines_of lay_out
    at-end =
        let whole = g.run in
        ap (λ (m : Laid). cond (eqb m.held.stage 2) (back.sheet g.so_far) (back.unreadable (suc line))) g.laid_out
        ∙ (rw (drop_all at text w) at whole)

    pub gathering_sheet : m.held.stage ≡ 2 → GatheredIn (Ok m.held) m (read_sheet text)
    gathering_sheet e =
        let test : eqb m.held.stage 2 ≡ true = eq-eqb m.held.stage 2 e in
        let whole : back.sheet g.so_far ≡ read_sheet text = rw test at at-end in
        let held : m.held ≡ (lay_out g.so_far).held = ap (λ (m : Laid). m.held) g.laid_out in
        rw (← whole) (
          ap Ok held,
          ap (λ (h : Held). laid h m.nodes m.control_starts m.control_stops m.tasks m.deadlines m.starts m.stops) (sym held) ∙ g.laid_out,
        )

    pub gathering_short : (m.held.stage ≡ 2 → ⊥) → GatheredIn (Err (Unreadable (line + 1))) m (read_sheet text)
    gathering_short f =
        let test : eqb m.held.stage 2 ≡ false = ne_eqb m.held.stage 2 f in
        let whole : back.unreadable (suc line) ≡ read_sheet text = rw test at at-end in
        rw (← whole, add-one line)
