-- Twin: a plan with kind 9 and the bits that kind 1 means gets the answer of its twin with kind 1, record numbers included; only the places
-- of refusal 1, which are offsets, lie a byte later (docs/RULES.md, section 16).
use mathlib.Core.Path.{◌≡◌, refl, sym, ap, ◌∙◌, fun_ext}
use mathlib.Core.Bool.{Bool, true, false, ◌&&◌}
use mathlib.Core.List.{List, [], ◌∷◌, ◌++◌, map, append_assoc}
use mathlib.Core.Option.{Option}
use native.Mathlib.Omega.{arith}
use borrow.Author.Tests.{ne_eqb}
use lib.Dec.{lit≤, eqb, leb}
use lib.ListN.{length, take, drop, length-append}
use lib.Seq.{drop-drop, drop_at}
use Prim.Native.Nat.{ℕ, zero, suc}
use Rattle.laws.specs.Res.{Res, ok, refuse, ◌>>=◌}
use Rattle.laws.specs.Lists.{first_bad, up_to}
use Rattle.laws.specs.Numbers.{number}
use Rattle.laws.proofs.Refusals.{Gives, gives-ok, gives_at, gives-unless, gives_then, gives_bind, gives-within}
use Rattle.rules.specs.Limits.{most_frames, plain_byte_bits}
use Rattle.rules.specs.Records.{Field, width, widths, ranges, kinds, known, fields, body_length, bus_then, is_bus, plan_follows, Rec, decoded, record_of, before, ended, walk, records}
use Rattle.rules.specs.Plan.{nth, bus_of, is_kind, is_bus_record, things, only, the_bus, plan_of, count, count_fits, names_are_there, payloads_ordered, numbers_are_within, plan_from, read_plan}
use Rattle.rules.specs.Traffic.{plan_in, read_in}
use Rattle.rules.specs.Table.{FrameRow, MadeTable, alone, made_table, table_for, Made, outcome, make}
use Rattle.rules.specs.Checker.{is_for_consumers, Passed, check_files, Checked, check_outcome, check}
use Rattle.rules.specs.Playing.{module_places}
use Rattle.rules.specs.Station.{kept_of, starts_well, begin}
use Rattle.rules.specs.Twin.{plain_plan, twin_plan, a_byte_later}
use Rattle.rules.proofs.RecordsExact.{decoded-front, walk-good}
use Rattle.rules.proofs.NamedAlike.{named_alike}
use Rattle.rules.proofs.RefusalNumbers.{from_gives, layout-gives, rule-gives, check-gives}

-- ---- answers

later_same : {A : Type 0} {high : ℕ} (m : Res A) → Gives 2 high m → a_byte_later m ≡ m
later_same (ok a) g = refl
later_same (refuse n p) g = rw (ne_eqb n 1 (λ e. let above = (g.number n p refl).0 in absurd (omega arith)))

later_bind : {A B : Type 0} {high : ℕ} (m : Res A) (f : A → Res B) → ((a : A) → Gives 2 high (f a))
    → ◌>>=◌ (a_byte_later m) f ≡ a_byte_later (◌>>=◌ m f)
later_bind (ok a) f g = sym (later_same (f a) (g a))
later_bind (refuse n p) f g = refl

-- ---- a walk that begins a byte later

abbrev reading : ℕ → ℕ → ℕ → List ℕ → Res (List Rec)
reading = walk plan_follows 1

later-before : (r : Rec) (m : Res (List Rec)) → before plan_follows 1 r (a_byte_later m) ≡ a_byte_later (before plan_follows 1 r m)
later-before r (ok rs) = refl
later-before r (refuse n p) = refl

later-ended : (at : ℕ) (bs : List ℕ) → ended plan_follows 1 (suc at) bs ≡ a_byte_later (ended plan_follows 1 at bs)
later-ended at [] = refl
later-ended at (b ∷ bs) = refl

-- a record, with what stands behind it
later_record : (previous at kind : ℕ) (bs : List ℕ)
    → reading kind (body_length kind) (suc (suc at)) bs ≡ a_byte_later (reading kind (body_length kind) (suc at) bs)
    → (allowed is_end : Bool) → (known kind && plan_follows previous kind) ≡ allowed → eqb kind 0 ≡ is_end
    → reading previous 0 (suc at) (kind ∷ bs) ≡ a_byte_later (reading previous 0 at (kind ∷ bs))
unfolding walk
later_record previous at kind bs behind true true e z = rw (e, z, walk) (later-ended (suc at) bs)
later_record previous at kind bs behind true false e z =
    rw (e, z, walk) (ap (before plan_follows 1 (record_of kind bs)) behind ∙ later-before (record_of kind bs) (reading kind (body_length kind) (suc at) bs))
later_record previous at kind bs behind false is_end e z = rw (e, walk)

later-walk : (previous inside at : ℕ) (bs : List ℕ) → reading previous inside (suc at) bs ≡ a_byte_later (reading previous inside at bs)
unfolding walk
later-walk previous zero at [] = refl
later-walk previous (suc inside) at [] = refl
later-walk previous (suc inside) at (b ∷ bs) = later-walk previous inside (suc at) bs
later-walk previous zero at (kind ∷ bs) =
    later_record previous at kind bs (later-walk kind (body_length kind) (suc at) bs) (known kind && plan_follows previous kind) (eqb kind 0) refl refl

-- behind either bus the same may stand
behind-bus : (at : ℕ) (bs : List ℕ) → reading 9 0 at bs ≡ reading 1 0 at bs
unfolding walk plan_follows is_bus
behind-bus at [] = refl
behind-bus at (kind ∷ bs) = refl

-- ---- the two bus records

module _ (rate overhead least most gap resolution : ℕ) where
  abbrev six : List ℕ
  six = rate ∷ overhead ∷ least ∷ most ∷ gap ∷ resolution ∷ []

  abbrev plain_bus : Rec
  plain_bus = record { kind = 1; numbers = six }

  abbrev twin_bus : Rec
  twin_bus = record { kind = 9; numbers = six ++ (plain_byte_bits ∷ []) }

  module _ (rs : List Rec) where
    same-counts : first_bad (count_fits (twin_bus ∷ rs)) (up_to 6) ≡ first_bad (count_fits (plain_bus ∷ rs)) (up_to 6)
    unfolding count_fits count only things is_kind
    same-counts = refl

    same_names : first_bad (names_are_there (count (twin_bus ∷ rs))) (twin_bus ∷ rs) ≡ first_bad (names_are_there (count (plain_bus ∷ rs))) (plain_bus ∷ rs)
    unfolding names_are_there fields kinds count only things is_kind
    same_names =
        ap (λ (test : Rec → Bool). first_bad test (plain_bus ∷ rs))
        (fun_ext (named_alike (count (twin_bus ∷ rs)) (count (plain_bus ∷ rs)) refl refl refl refl))

    same-ranges : first_bad numbers_are_within (twin_bus ∷ rs) ≡ first_bad numbers_are_within (plain_bus ∷ rs)
    unfolding numbers_are_within payloads_ordered is_bus_record is_bus fields kinds
    same-ranges = refl

    same-plan : plan_of (twin_bus ∷ rs) ≡ plan_of (plain_bus ∷ rs)
    unfolding plan_of the_bus is_bus_record is_bus bus_of only things is_kind
    same-plan = refl

    same-reading : plan_from (twin_bus ∷ rs) ≡ plan_from (plain_bus ∷ rs)
    same-reading = rw (same-counts, same_names, same-ranges, same-plan)

  -- whatever stands behind them
  bus-later : (m : Res (List Rec))
      → ◌>>=◌ (before plan_follows 1 twin_bus (a_byte_later m)) plan_from ≡ a_byte_later (◌>>=◌ (before plan_follows 1 plain_bus m) plan_from)
  bus-later (ok rs) = same-reading rs ∙ sym (later_same (plan_from (plain_bus ∷ rs)) (from_gives (plain_bus ∷ rs)))
  bus-later (refuse n p) = refl

-- ---- the two plans

-- fields one behind the other
decoded_more : (fs gs : List Field) (body : List ℕ) → decoded (fs ++ gs) body ≡ decoded fs body ++ decoded gs (drop (widths fs) body)
decoded_more [] gs body = refl
decoded_more (f ∷ fs) gs body =
    ap (λ (ns : List ℕ). number (take (width f) body) ∷ ns)
    (decoded_more fs gs (drop (width f) body) ∙ rw (drop-drop (widths fs) (width f) body))

-- what is left of lent memory is the same, and the answer is, but for the place of 1
pub record MadeAlike (plain twin : Made) : Type 0 where
  pub answer : twin.answer ≡ a_byte_later plain.answer
  pub rows : twin.rows ≡ plain.rows
  pub buffer : twin.buffer ≡ plain.buffer

pub record CheckedAlike (plain twin : Checked) : Type 0 where
  pub answer : twin.answer ≡ a_byte_later plain.answer
  pub rows : twin.rows ≡ plain.rows

made_alike : (m : Res MadeTable) (rows : List FrameRow) (buffer : List ℕ) → MadeAlike (outcome m rows buffer) (outcome (a_byte_later m) rows buffer)
made_alike (ok t) rows buffer = record { answer = refl; rows = refl; buffer = refl }
made_alike (refuse n p) rows buffer = record { answer = refl; rows = refl; buffer = refl }

checked_alike : (m : Res Passed) (rows : List FrameRow) → CheckedAlike (check_outcome m rows) (check_outcome (a_byte_later m) rows)
checked_alike (ok c) rows = record { answer = refl; rows = refl }
checked_alike (refuse n p) rows = record { answer = refl; rows = refl }

module _ (body rest : List ℕ) (whole : length body ≡ 16) where
  abbrev plain : List ℕ
  plain = plain_plan body rest

  abbrev twin : List ℕ
  twin = twin_plan body rest

  abbrev framed : List ℕ
  framed = body ++ (plain_byte_bits ∷ [])

  -- the k-th of the numbers that both have
  abbrev its : ℕ → ℕ
  its k = nth (decoded (bus_then []) body) k

  abbrev behind : Res (List Rec)
  behind = reading 1 0 17 rest

  twin_numbers : decoded (bus_then (ranges 1 8 12 ∷ [])) framed ≡ decoded (bus_then []) body ++ (plain_byte_bits ∷ [])
  twin_numbers =
      decoded_more (bus_then []) (ranges 1 8 12 ∷ []) framed
      ∙ ap (λ (ns : List ℕ). ns ++ decoded (ranges 1 8 12 ∷ []) (drop 16 framed))
      (decoded-front (bus_then []) body (plain_byte_bits ∷ []) (omega (arith, whole)))
      ∙ ap (λ (bytes : List ℕ). decoded (bus_then []) body ++ decoded (ranges 1 8 12 ∷ []) bytes) (drop_at body (plain_byte_bits ∷ []) 16 whole)

  plain-walked : records plan_follows 1 plain ≡ before plan_follows 1 (plain_bus (its 0) (its 1) (its 2) (its 3) (its 4) (its 5)) behind
  unfolding records plain_plan known body_length record_of fields kinds plan_follows is_bus
  plain-walked =
      walk-good plan_follows 1 0 1 0 body rest (record { is_known = refl; is_next = refl }) (λ e. absurd (omega (arith, e))) whole
      ∙ rw whole

  twin_walked : records plan_follows 1 twin ≡ before plan_follows 1 (twin_bus (its 0) (its 1) (its 2) (its 3) (its 4) (its 5)) (a_byte_later behind)
  unfolding records twin_plan known body_length record_of fields kinds plan_follows is_bus
  twin_walked =
      let long : length framed ≡ 17 = length-append body (plain_byte_bits ∷ []) ∙ rw whole in
      ap (λ (bytes : List ℕ). records plan_follows 1 (9 ∷ bytes)) (sym (append_assoc body (plain_byte_bits ∷ []) rest))
      ∙ walk-good plan_follows 1 0 9 0 framed rest (record { is_known = refl; is_next = refl }) (λ e. absurd (omega (arith, e))) long
      ∙ rw (long, behind-bus 18 rest, later-walk 1 0 17 rest, twin_numbers)

  twin-plan : read_plan twin ≡ a_byte_later (read_plan plain)
  unfolding read_plan
  twin-plan = rw (twin_walked, plain-walked) (bus-later (its 0) (its 1) (its 2) (its 3) (its 4) (its 5) behind)

  -- in either edition
  pub twin_read : (consumers : Bool) → read_in consumers twin ≡ a_byte_later (read_in consumers plain)
  unfolding read_in
  twin_read consumers = rw twin-plan (later_bind {high = 5} (read_plan plain) _ λ p. gives-ok (plan_in consumers p))

  twin_table : (consumers : Bool) (room : ℕ) → table_for consumers twin room ≡ a_byte_later (table_for consumers plain room)
  unfolding table_for
  twin_table consumers room =
      rw (twin_read consumers)
      (later_bind (read_in consumers plain) _ λ p.
      gives_bind {high = 13} (gives-within (lit≤ tt) (lit≤ tt) (layout-gives p)) λ l.
      gives_bind (gives-within (lit≤ tt) (lit≤ tt) (rule-gives l)) λ placed.
      let t = made_table l (map alone placed) in
      gives_then (gives-unless 13 (length t.table) (leb (length t.table) room) (lit≤ tt) (lit≤ tt)) (gives-ok t))

  pub twin_made : (consumers : Bool) (rows : List FrameRow) (buffer : List ℕ)
      → MadeAlike (make consumers plain rows buffer) (make consumers twin rows buffer)
  unfolding make
  twin_made consumers rows buffer = by_rows (leb most_frames (length rows)) refl
    where
      by_rows : (b : Bool) → leb most_frames (length rows) ≡ b → MadeAlike (make consumers plain rows buffer) (make consumers twin rows buffer)
      by_rows true e =
          rw (e, make, twin_table consumers (length buffer)) (made_alike (table_for consumers plain (length buffer)) rows buffer)
      by_rows false e = rw (e, make) (record { answer = refl; rows = refl; buffer = refl })

  module _ (table : List ℕ) where
    twin_files : check_files twin table ≡ a_byte_later (check_files plain table)
    unfolding check_files
    twin_files =
        rw (twin_read (is_for_consumers table))
        (later_bind (read_in (is_for_consumers table) plain) _ λ p. gives-within {high = 28} (lit≤ tt) (lit≤ tt) (check-gives p table))

    pub twin_checked : (rows : List FrameRow) → CheckedAlike (check plain table rows) (check twin table rows)
    unfolding check
    twin_checked rows = by_rows (leb most_frames (length rows)) refl
      where
        by_rows : (b : Bool) → leb most_frames (length rows) ≡ b → CheckedAlike (check plain table rows) (check twin table rows)
        by_rows true e = rw (e, check, twin_files) (checked_alike (check_files plain table) rows)
        by_rows false e = rw (e, check) (record { answer = refl; rows = refl })

    pub twin_begun : (starting : ℕ → Option ℕ) → begin twin table starting ≡ a_byte_later (begin plain table starting)
    unfolding begin
    twin_begun starting =
        rw twin_files
        (later_bind (check_files plain table) _ λ c.
        gives_then {high = 40} (gives_at 40 0 (first_bad (starts_well (kept_of c) starting) (up_to module_places)) (lit≤ tt) (lit≤ tt)) (gives-ok _))
