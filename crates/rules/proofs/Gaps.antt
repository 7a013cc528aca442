-- Gaps: in a table that passes no two frames stand closer than the gap (docs/RULES.md, 14.1). The rows of a cycle are a chain, control
-- rows first, each a gap behind the one before it; the next cycle's first row, at P, is its last link.
use mathlib.Core.Path.{◌≡◌, refl, sym, ap, ◌∙◌, subst}
use mathlib.Core.List.{List, [], ◌∷◌, ◌++◌, map}
use mathlib.Core.Logic.{inl, inr}
use native.Mathlib.Nat.{mul-le-mul_right, suc-mul}
use native.Mathlib.Omega.{arith}
use lib.ListN.{length, get_or, length-map, length-append, get_or-append}
use lib.Seq.{get_or-append_seam}
use Prim.Native.Nat.{ℕ, ◌+◌, ◌*◌, ◌≤◌, ◌<◌}
use Rattle.laws.specs.Res.{ok}
use Rattle.laws.specs.Lists.{last_d}
use Rattle.laws.proofs.Res.{ok_injective}
use Rattle.laws.proofs.Lists.{last-append, last-map, last-get_or}
use Rattle.laws.proofs.Orders.{compare_case}
use Rattle.laws.proofs.Members.{All, empty, also, Chain, last_link, Pairs, all_weaker, all_append, all_map, pairs-get_or, chain_append, chain_pairs, chain_map, map-get_or}
use Rattle.rules.specs.Records.{Rec, records, table_follows}
use Rattle.rules.specs.Plan.{Plan}
use Rattle.rules.specs.Frames.{gap_time, no_control_row, layout_of}
use Rattle.rules.specs.Table.{FrameRow}
use Rattle.rules.specs.Checker.{Row, no_row, TableRead, table_of, row_at, stop_before, check, is_for_consumers}
use Rattle.rules.specs.Obeys.{ObeysTable}
use Rattle.rules.specs.Gaps.{Stretch, of_control, of_data, in_cycle, no_stretch, stretch_in, GapBetween, GapsKept}
use Rattle.rules.proofs.PlanKept.{PlanKept}
use Rattle.rules.proofs.RecordsExact.{records_exact}
use Rattle.rules.proofs.LaidOut.{laid_out, control-kept, control_chain}
use Rattle.rules.proofs.CheckerExact.{checker_exact}
use Rattle.rules.proofs.PairRows.{rows_last, rows_chain}
use Rattle.rules.proofs.TransparentPlan.{control-same}
use Rattle.rules.specs.Traffic.{read_in}
use Rattle.rules.proofs.Editions.{readable_kept_in}

-- it does not stop before it starts
abbrev Lasts : Stretch → Type 0
Lasts s = s.start ≤ s.stop

-- the second starts a gap or more behind the stop of the first
abbrev Follows : ℕ → Stretch → Stretch → Type 0
Follows gap a b = a.stop + gap ≤ b.start

module _ (t : TableRead) where
  -- the last of a cycle is the row that 28 looks at
  last-stop : (last_d (in_cycle t) no_stretch).stop ≡ stop_before t (length t.rows)
  unfolding in_cycle of_control of_data row_at
  last-stop = ap (λ (s : Stretch). s.stop) (last-append (map of_control t.control) (map of_data t.rows) no_stretch) ∙ of_rows t.rows refl
    where
      first : last_d (map of_control t.control) no_stretch ≡ of_control (last_d t.control no_control_row)
      first = last-map of_control t.control no_control_row

      of_rows : (rs : List Row) → t.rows ≡ rs
          → (last_d (map of_data rs) (last_d (map of_control t.control) no_stretch)).stop ≡ stop_before t (length rs)
      of_rows [] e = ap (λ (s : Stretch). s.stop) first
      of_rows (r ∷ rs) e =
          let here : get_or t.rows (length rs) no_row ≡ last_d rs r = rw e (last-get_or r rs no_row) in
          ap (λ (s : Stretch). s.stop) (last-map of_data rs r) ∙ sym (ap (λ (x : Row). x.stop) here)

module _ (p : Plan) (kept : PlanKept p) (t : TableRead) (obeys : ObeysTable (layout_of p) t) where
  abbrev gap : ℕ
  gap = gap_time p.bus

  -- ---- the rows of one cycle

  all-last : All Lasts (in_cycle t)
  unfolding in_cycle of_control of_data
  all-last =
      let control : All (λ r. Lasts (of_control r)) t.control =
      rw (control-same p kept t obeys) (all_weaker (λ r k. k.start) (control-kept p)) in
      all_append (all_map of_control control) (all_map of_data (rows_last (layout_of p) t obeys))

  seam : 0 < length (map of_data t.rows) → Follows gap (last_d (map of_control t.control) no_stretch) (get_or (map of_data t.rows) 0 no_stretch)
  unfolding layout_of of_control of_data row_at
  seam w =
      let some : 0 < length t.rows = rw (length-map t.rows of_data) at w in
      rw (last-map of_control t.control no_control_row, map-get_or of_data t.rows no_row no_stretch 0 some) (obeys.spaced 0 some)

  cycle_chain : Chain (Follows gap) (in_cycle t)
  unfolding layout_of in_cycle of_control of_data
  cycle_chain =
      let control : Chain (λ a b. Follows gap (of_control a) (of_control b)) t.control = rw (control-same p kept t obeys) (control_chain p) in
      chain_append no_stretch (chain_map of_control control) (chain_map of_data (rows_chain (layout_of p) t obeys)) seam

  -- ---- and the next cycle behind them

  abbrev next : Stretch
  next = record { start = t.period; stop = t.period }

  closes : Follows gap (last_d (in_cycle t) no_stretch) next
  unfolding layout_of
  closes = omega (arith, last-stop t, obeys.header.period, obeys.ends)

  in_turn : Pairs (Follows gap) (in_cycle t ++ (next ∷ []))
  in_turn =
      chain_pairs {P = Lasts} (λ x y z a b c. omega arith) (all_append all-last (also (omega arith) empty))
      (chain_append no_stretch cycle_chain last_link (λ w. closes))

  count : length (in_cycle t ++ (next ∷ [])) ≡ length (in_cycle t) + 1
  count = length-append (in_cycle t) (next ∷ [])

  abbrev frame : ℕ → Stretch
  frame k = get_or (in_cycle t) k no_stretch

  of_one : (i j : ℕ) → i < j → j < length (in_cycle t) → (frame i).stop + gap ≤ (frame j).start
  of_one i j h w =
      let before = get_or-append (in_cycle t) (next ∷ []) no_stretch i (omega arith) in
      let behind = get_or-append (in_cycle t) (next ∷ []) no_stretch j w in
      rw (← before, ← behind) (pairs-get_or no_stretch in_turn i j h (omega (arith, count)))

  of_two : (i : ℕ) → i < length (in_cycle t) → (frame i).stop + gap ≤ t.period
  of_two i w =
      let here = ap (λ (s : Stretch). s.stop) (get_or-append (in_cycle t) (next ∷ []) no_stretch i w) in
      let there = ap (λ (s : Stretch). s.start) (get_or-append_seam (in_cycle t) next [] no_stretch) in
      omega (arith, here, there, pairs-get_or no_stretch in_turn i (length (in_cycle t)) w (omega (arith, count)))

  -- ---- any two frames

  -- an earlier cycle is over
  later : (c d : ℕ) → c < d → c * t.period + t.period ≤ d * t.period
  later c d h = rw (← suc-mul c t.period) (mul-le-mul_right t.period h)

  earlier_cycle : (c d i j : ℕ) → c < d → i < length (in_cycle t) → (stretch_in t c i).stop + gap ≤ (stretch_in t d j).start
  unfolding stretch_in
  earlier_cycle c d i j h w = omega (arith, later c d h, of_two i w)

  earlier_frame : (c i j : ℕ) → i < j → j < length (in_cycle t) → (stretch_in t c i).stop + gap ≤ (stretch_in t c j).start
  unfolding stretch_in
  earlier_frame c i j h w = omega (arith, of_one i j h w)

  pub gaps_kept : GapsKept gap t
  gaps_kept =
      record {
        between =
            λ c d i j v w other.
            compare_case c d
            (λ h _. inl (earlier_cycle c d i j h v))
            (λ e _.
            subst (λ (x : ℕ). GapBetween gap (stretch_in t c i) (stretch_in t x j)) e
            (compare_case i j
            (λ h _. inl (earlier_frame c i j h w))
            (λ q _. absurd (other (e, q)))
            (λ h _. inr (earlier_frame c j i h v))))
            (λ h _. inr (earlier_cycle d c j i h w));
      }

-- ---- a table that passes

pub frames-apart : (plan table : List ℕ) (rows : List FrameRow) → (check plan table rows).answer ≡ ok tt
    → (p : Plan) → read_in (is_for_consumers table) plan ≡ ok p → (rs : List Rec) → records table_follows 20 table ≡ ok rs → GapsKept (gap_time p.bus) (table_of rs)
frames-apart plan table rows passed p is_read rs are_rows =
    let h = ((checker_exact plan table rows).0 passed).1 in
    let plans : h.read ≡ p = ok_injective (sym h.is_read ∙ is_read) in
    let tables : h.rows ≡ rs = ok_injective (sym ((records_exact table_follows 20 table h.rows).1 h.are_rows) ∙ are_rows) in
    let laid : layout_of h.read ≡ h.laid = (laid_out h.read h.laid h.is_laid).is in
    let obeys : ObeysTable (layout_of h.read) (table_of h.rows) = rw laid h.obeys in
    rw (← plans, ← tables) (gaps_kept h.read (readable_kept_in (is_for_consumers table) plan h.read h.is_read) (table_of h.rows) obeys)
