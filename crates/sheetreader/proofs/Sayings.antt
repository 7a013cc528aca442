-- What a line says: its numbers fit where they go, and it adds to what was read what the definition adds.
use mathlib.Core.Path.{◌≡◌, refl, sym, ap, ◌∙◌}
use mathlib.Core.Bool.{Bool, true, false, cond}
use mathlib.Core.List.{List, [], ◌∷◌, ◌++◌}
use mathlib.Core.Option.{Option, none, some}
use native.Mathlib.Omega.{arith}
use lib.ListN.{length}
use Prim.Native.Nat.{ℕ, ◌<◌}
use Rattle.laws.specs.Loops.{pad_to}
use Rattle.laws.proofs.Lists.{length_snoc, get_or-pad_to}
use Rattle.laws.proofs.Arrays.{placed-column}
use Rattle.rules.specs.Limits.{most_nodes, most_frames}
use Rattle.rules.specs.Plan.{nth}
use Rattle.rules.specs.Frames.{ControlRow}
use Rattle.rules.specs.Table.{DataRow}
use Rattle.text.specs.Lines.{uncommented, words}
use Rattle.sheet.specs.declared.Kind.{Kind}
use Rattle.sheet.specs.declared.Kind.TheVariants as kind
use Rattle.sheet.proofs.Pinned.{number-within}
use Rattle.sheet.specs.Back.{SoFar, forms_of, kind_of, may_stand, numbers_in, taken_by, where_it_may, with_kind, with_line, with_numbers, with_words}
use Rattle.std.specs.Prelude as code
use Rattle.std.specs.Prelude.{None, Some}
use Rattle.sheetreader.specs.declared.Said.{Said}
use Rattle.sheetreader.specs.declared.Said.TheVariants.{Blank, Refusal, Cycle, Control, Data}
use Rattle.sheetreader.specs.Memory.{Narrow, deadline_of, lay_out, line_said, numbers_laid, said_of, start_of, stop_of, task_of, with_said, words_said}
use Rattle.table.specs.Memory.{control_node_of, control_start_of, control_stop_of}

-- ---- the numbers that are taken

narrow : (k : Kind) (ws : List (List ℕ)) (ns : List ℕ) → numbers_in (forms_of k) ws ≡ some ns → Narrow k ns
narrow kind.Refused ws ns e = tt
narrow kind.Cycle ws ns e = number-within (forms_of kind.Cycle) ws ns e 0 4294967295 refl
narrow kind.Control ws ns e = (
  number-within (forms_of kind.Control) ws ns e 0 255 refl,
  (number-within (forms_of kind.Control) ws ns e 4 4294967295 refl, number-within (forms_of kind.Control) ws ns e 5 4294967295 refl),
)
narrow kind.Data ws ns e = (
  number-within (forms_of kind.Data) ws ns e 1 255 refl,
  (
    number-within (forms_of kind.Data) ws ns e 3 4294967295 refl,
    (number-within (forms_of kind.Data) ws ns e 4 4294967295 refl, number-within (forms_of kind.Data) ws ns e 5 4294967295 refl),
  ),
)
narrow kind.Other ws ns e = tt

-- ---- numbers filled up with zeros

module _ (ns : List ℕ) where
  filled : (k : ℕ) → k < 10 → nth (pad_to 10 0 ns) k ≡ nth ns k
  filled k h = get_or-pad_to 10 0 ns k h

  narrow_filled : (k : Kind) → Narrow k ns → Narrow k (pad_to 10 0 ns)
  narrow_filled kind.Refused h = tt
  narrow_filled kind.Cycle h = rw (filled 0 (omega arith)) h
  narrow_filled kind.Control h =
      (rw (filled 0 (omega arith)) h.0, (rw (filled 4 (omega arith)) h.1.0, rw (filled 5 (omega arith)) h.1.1))
  narrow_filled kind.Data h = (
    rw (filled 1 (omega arith)) h.0,
    (rw (filled 3 (omega arith)) h.1.0, (rw (filled 4 (omega arith)) h.1.1.0, rw (filled 5 (omega arith)) h.1.1.1)),
  )
  narrow_filled kind.Other h = tt

  said-filled : (k : Kind) → said_of k (some (pad_to 10 0 ns)) ≡ said_of k (some ns)
  said-filled kind.Refused = refl
  said-filled kind.Cycle = rw (filled 0 (omega arith), filled 1 (omega arith))
  said-filled kind.Control = rw (filled 0 (omega arith), filled 4 (omega arith), filled 5 (omega arith))
  said-filled kind.Data =
      rw (filled 1 (omega arith), filled 3 (omega arith), filled 4 (omega arith), filled 5 (omega arith))
  said-filled kind.Other = refl

module _ (k : Kind) (ws : List (List ℕ)) {r : code.Option (List ℕ)} (read : r ≡ numbers_laid (numbers_in (forms_of k) ws)) where
  read-is : (n : Option (List ℕ)) → numbers_in (forms_of k) ws ≡ n → r ≡ numbers_laid n
  read-is n q = read ∙ ap numbers_laid q

  module _ {values : List ℕ} (e : r ≡ Some values) where
    -- the numbers that were read, filled up, are the values
    by_numbers : (C : Option (List ℕ) → Type 0)
        → ((ns : List ℕ) → numbers_in (forms_of k) ws ≡ some ns → values ≡ pad_to 10 0 ns → C (some ns)) → C (numbers_in (forms_of k) ws)
    by_numbers C told = go (numbers_in (forms_of k) ws) refl
      where
        go : (n : Option (List ℕ)) → numbers_in (forms_of k) ws ≡ n → C n
        go none q = let p : r ≡ None = read-is none q in let z : ◌≡◌ {A = ℕ} 0 1 = cc in absurd (omega arith)
        go (some ns) q = let p : r ≡ Some (pad_to 10 0 ns) = read-is (some ns) q in let same : values ≡ pad_to 10 0 ns = cc in told ns q same

    pub said_narrow : Narrow k values
    said_narrow = by_numbers (λ n. Narrow k values) (λ ns q same. rw same (narrow_filled ns k (narrow k ws ns q)))

    pub said-some : {x : code.Option Said} → x ≡ said_of k (some values) → x ≡ said_of k (numbers_in (forms_of k) ws)
    said-some {x} h =
        by_numbers (λ n. x ≡ said_of k n) (λ ns q same. h ∙ ap (λ (l : List ℕ). said_of k (some l)) same ∙ said-filled ns k)

  pub said-none : r ≡ None → None ≡ said_of k (numbers_in (forms_of k) ws)
  said-none e = go (numbers_in (forms_of k) ws) refl
    where
      go : (n : Option (List ℕ)) → numbers_in (forms_of k) ws ≡ n → None ≡ said_of k n
      go none q = refl
      go (some ns) q = let p : r ≡ Some (pad_to 10 0 ns) = read-is (some ns) q in let z : ◌≡◌ {A = ℕ} 0 1 = cc in absurd (omega arith)

-- ---- what a line adds

-- what was read with what a line says
abbrev pub more : Said → SoFar → SoFar
more Blank s = s
more Refusal s = record { stage = 1; consumers = s.consumers; period = s.period; control = s.control; rows = s.rows }
more (Cycle consumers period) s =
    record { stage = 2; consumers = consumers; period = period.0; control = s.control; rows = s.rows }
more (Control node start stop) s =
    record {
      stage = s.stage;
      consumers = s.consumers;
      period = s.period;
      control = s.control ++ (record { node = node.0; start = start.0; stop = stop.0 } ∷ []);
      rows = s.rows;
    }
more (Data task deadline start stop) s =
    record {
      stage = s.stage;
      consumers = s.consumers;
      period = s.period;
      control = s.control;
      rows = s.rows ++ (record { task = task.0; deadline = deadline.0; start = start.0; stop = stop.0 } ∷ []);
    }

-- with a line, if it can be read
abbrev pub read_as : code.Option Said → SoFar → Option SoFar
read_as None s = none
read_as (Some said) s = some (more said s)

abbrev pub said_in : SoFar → List ℕ → code.Option Said
said_in s line = line_said s.stage (length s.control) (length s.rows) line

pub line-said : (s : SoFar) (line : List ℕ) → with_line s line ≡ read_as (said_in s line) s
unfolding with_line with_words with_kind with_numbers line_said may_stand
line-said s line = go (words (uncommented line))
  where
    may : (k : Kind) (b : Bool) (n : Option (List ℕ)) → ((ns : List ℕ) → some (with_numbers k s ns) ≡ read_as (said_of k (some ns)) s)
        → where_it_may b (taken_by k s n) ≡ read_as (cond b (said_of k n) None) s
    may k true none h = refl
    may k true (some ns) h = h ns
    may k false n h = refl

    by_kind : (k : Kind) (n : Option (List ℕ))
        → where_it_may (may_stand k s.stage (length s.control) (length s.rows)) (taken_by k s n)
        ≡ read_as (cond (may_stand k s.stage (length s.control) (length s.rows)) (said_of k n) None) s
    by_kind kind.Refused n = may kind.Refused (may_stand kind.Refused s.stage (length s.control) (length s.rows)) n (λ ns. refl)
    by_kind kind.Cycle n = may kind.Cycle (may_stand kind.Cycle s.stage (length s.control) (length s.rows)) n (λ ns. refl)
    by_kind kind.Control n = may kind.Control (may_stand kind.Control s.stage (length s.control) (length s.rows)) n (λ ns. refl)
    by_kind kind.Data n = may kind.Data (may_stand kind.Data s.stage (length s.control) (length s.rows)) n (λ ns. refl)
    by_kind kind.Other n = refl

    go : (ws : List (List ℕ)) → with_words s ws ≡ read_as (words_said s.stage (length s.control) (length s.rows) ws) s
    go [] = refl
    go (w ∷ ws) = by_kind (kind_of w) (numbers_in (forms_of (kind_of w)) ws)

-- what is laid out with what a line says is what was read with it, laid out
pub laid_more : (said : Said) (s : SoFar) → with_said said (lay_out s) ≡ lay_out (more said s)
unfolding lay_out
laid_more Blank s = refl
laid_more Refusal s = refl
laid_more (Cycle consumers period) s = refl
laid_more (Control node start stop) s =
    let r : ControlRow = record { node = node.0; start = start.0; stop = stop.0 } in
    rw (
      placed-column most_nodes control_node_of s.control r,
      placed-column most_nodes control_start_of s.control r,
      placed-column most_nodes control_stop_of s.control r,
      sym (length_snoc s.control r),
    )
laid_more (Data task deadline start stop) s =
    let r : DataRow = record { task = task.0; deadline = deadline.0; start = start.0; stop = stop.0 } in
    rw (
      placed-column most_frames task_of s.rows r,
      placed-column most_frames deadline_of s.rows r,
      placed-column most_frames start_of s.rows r,
      placed-column most_frames stop_of s.rows r,
      sym (length_snoc s.rows r),
    )
