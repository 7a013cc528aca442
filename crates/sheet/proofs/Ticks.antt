-- Bits and ticks of the rows that a sheet shows. A data row stops the ticks of its cell behind its start by rule 24, a control row by rule 22,
-- which fixes it; bits and ticks are bounded by the ranges of the bus and by what a message or a control frame can carry.
use mathlib.Core.Path.{◌≡◌, refl, sym, ap, ◌∙◌, subst}
use mathlib.Core.List.{List, [], ◌∷◌, map, Memᴰ}
use native.Mathlib.Nat.{le_trans, max-le, mul-le-mul_left, mul-le-mul_right}
use native.Mathlib.Omega.{arith}
use lib.ListN.{length}
use Prim.Native.Nat.{ℕ, ◌+◌, ◌-◌, ◌*◌, ◌≤◌, ◌<◌, max}
use Rattle.laws.specs.Res.{ok}
use Rattle.laws.specs.Lists.{up_to}
use Rattle.laws.specs.Numbers.{divides, ceil, up}
use Rattle.laws.proofs.Bus.{ceil-le, up_le}
use Rattle.laws.proofs.Lists.{length-keep, length-up_to}
use Rattle.laws.proofs.Members.{All, empty, also, all_get_d, all_member}
use Rattle.laws.proofs.Tests.{by_and, by_eq, by_itself}
use Rattle.rules.specs.Plan.{Bus, Plan, no_task, the_task}
use Rattle.rules.specs.Traffic.{Traffic, control_payload, senders_on, stands_on, traffic, sending_nodes}
use Rattle.rules.specs.Frames.{
  Pair,
  pairs,
  payload,
  Sending,
  of_bits,
  on_bus,
  sending_time,
  gap_time,
  ControlRow,
  no_control_row,
  control_from,
  control_rows,
  row_time,
  Layout,
  layout_of,
}
use Rattle.rules.specs.Checker.{Passed, control_at, row_at, named_in, pairs_of_row, time_kept, located}
use Rattle.rules.proofs.PlanKept.{PlanKept, BusKept}
use Rattle.rules.proofs.LaidOut.{pairs-kept}
use Rattle.rules.proofs.Payload.{payload-one}
use Rattle.rules.proofs.Located.{LocatedAs, located_as, plan-kept, plan-laid, located-header, located-control, located-rows, holds-one, opens-pair}
use Rattle.text.specs.Text.{decimal}
use Rattle.sheet.specs.Sheet.{control_cells, control_sent, data_cells, data_sent, held_by, word_at}

-- ---- how many

pub record FewBits (s : Sending) : Type 0 where
  pub bits : s.bits ≤ 3816
  pub ticks : s.ticks ≤ 3817000

bits-few : (b : Bus) → BusKept b → (s : ℕ) → s ≤ 254 → b.byte_bits * (b.overhead + max s b.least) ≤ 3816
bits-few b k s h =
    let carried : max s b.least ≤ 254 = max-le h k.least.most in
    let sent : b.overhead + max s b.least ≤ 318 = omega (arith, k.overhead.most) in
    le_trans (mul-le-mul_left b.byte_bits sent) (mul-le-mul_right 318 k.byte_bits.most)

ticks-few : (b : Bus) → BusKept b → (bits : ℕ) → bits ≤ 3816 → up b.resolution (ceil (bits * 1000) b.rate) ≤ 3817000
ticks-few b k bits h =
    let whole : ceil (bits * 1000) b.rate ≤ bits * 1000 = ceil-le (bits * 1000) b.rate in
    omega (arith, up_le b.resolution (ceil (bits * 1000) b.rate), k.resolution.most)

pub sent-few : (b : Bus) → BusKept b → (s : ℕ) → s ≤ 254 → FewBits (on_bus b s)
unfolding on_bus of_bits
sent-few b k s h =
    let few = bits-few b k s h in
    record { bits = few; ticks = ticks-few b k (b.byte_bits * (b.overhead + max s b.least)) few }

-- a control frame has at most as many bytes as there are modules
control-short : (p : Plan) → PlanKept p → (n : ℕ) → control_payload p n ≤ 254
unfolding control_payload senders_on
control-short p k n =
    omega (arith, length-keep (stands_on p n) (up_to (length p.modules)), length-up_to (length p.modules), k.module_count.most)

pub control-few : (p : Plan) → PlanKept p → (r : ControlRow) → FewBits (control_sent p r)
unfolding control_sent
control-few p k r = sent-few p.bus k.bus (control_payload p r.node) (control-short p k r.node)

-- a pair's message has at most 8 bytes
size_few : (p : Plan) → PlanKept p → (f : Pair) → Memᴰ f (pairs p) → (the_task p f.task).size ≤ 8
unfolding the_task
size_few p k f a = (all_get_d no_task k.tasks f.task (all_member (pairs-kept p k) a).task).size.most

module _ {plan table : List ℕ} {c : Passed} (h : LocatedAs plan table c) where
  held_one : (k : ℕ) → k < length c.table.rows
      → held_by c (row_at c.table k) ≡ named_in c.layout.pairs (row_at c.table k).opens ∷ []
  unfolding held_by
  held_one k w = ap (map (named_in c.layout.pairs)) (holds-one h k w)

  -- what a row carries is its one message
  carried : (k : ℕ) → k < length c.table.rows → payload c.plan c.traffic.messages (held_by c (row_at c.table k)) ≤ 254
  carried k w =
      let one = named_in c.layout.pairs (row_at c.table k).opens in
      let is : payload c.plan c.traffic.messages (held_by c (row_at c.table k)) ≡ (the_task c.plan one.task).size =
      ap (λ (t : Traffic). payload c.plan t.messages (held_by c (row_at c.table k))) (sym h.traffic)
      ∙ ap (payload c.plan (traffic c.plan).messages) (held_one k w)
      ∙ payload-one c.plan (plan-kept h) one (opens-pair h k w) in
      omega (arith, is, size_few c.plan (plan-kept h) one (opens-pair h k w))

  pub data_few : (k : ℕ) → k < length c.table.rows → FewBits (data_sent c (row_at c.table k))
  unfolding data_sent
  data_few k w = sent-few c.plan.bus (plan-kept h).bus _ (carried k w)

  -- ---- stops

  -- the layout's time of a row is the ticks that the sheet has for it
  time-is : (fs : List Pair) → c.layout.time fs ≡ (on_bus c.plan.bus (payload c.plan c.traffic.messages fs)).ticks
  unfolding layout_of row_time sending_time
  time-is fs =
      ap (λ (l : Layout). l.time fs) (sym (plan-laid h).is)
      ∙ ap (λ (t : Traffic). (on_bus c.plan.bus (payload c.plan t.messages fs)).ticks) h.traffic

  -- rule 24
  data_ends : (k : ℕ) → k < length c.table.rows
      → (row_at c.table k).stop ≡ (row_at c.table k).start + (data_sent c (row_at c.table k)).ticks
  unfolding time_kept pairs_of_row data_sent held_by
  data_ends k w =
      let row = row_at c.table k in
      let held = pairs_of_row c.layout c.table k in
      let kept =
      (by_and (by_eq row.stop (row.start + c.layout.time held)) (by_itself (divides c.layout.grid row.start))).says
      ((located-rows h).times k w) in
      kept.0 ∙ ap (λ (n : ℕ). row.start + n) (time-is held)

  -- rule 22
  abbrev Ends : ControlRow → Type 0
  Ends r = r.stop ≡ r.start + (control_sent c.plan r).ticks

  rows_end : (start : ℕ) (ns : List ℕ) → All Ends (control_from c.plan start ns)
  unfolding control_from control_sent sending_time
  rows_end start [] = empty
  rows_end start (n ∷ ns) =
      also
      {x = record { node = n; start = start; stop = start + sending_time c.plan.bus (control_payload c.plan n) }}
      refl
      (rows_end (start + sending_time c.plan.bus (control_payload c.plan n) + gap_time c.plan.bus) ns)

  all_end : All Ends c.layout.control
  unfolding layout_of control_rows
  all_end = subst (λ (l : Layout). All Ends l.control) (plan-laid h).is (rows_end 0 (sending_nodes c.plan))

  control-ends : (k : ℕ) → k < length c.table.control → Ends (control_at c.table.control k)
  unfolding control_at
  control-ends k w =
      subst Ends (sym (located-control h k w)) (all_get_d no_control_row all_end k (omega (arith, (located-header h).control_rows)))

-- ---- of every table that is located

module _ (plan table : List ℕ) (c : Passed) (e : located plan table ≡ ok c) (k : ℕ) where
  pub data_stop : k < length c.table.rows
      → (row_at c.table k).stop ≡ (row_at c.table k).start + (data_sent c (row_at c.table k)).ticks
  data_stop w = data_ends (located_as plan table c e) k w

  pub control-stop : k < length c.table.control
      → (control_at c.table.control k).stop
      ≡ (control_at c.table.control k).start + (control_sent c.plan (control_at c.table.control k)).ticks
  control-stop w = control-ends (located_as plan table c e) k w

  -- so the cell of the ticks says how long a row takes
  pub data_ticks-shown : k < length c.table.rows
      → word_at (data_cells c (row_at c.table k)) 7 ≡ decimal ((row_at c.table k).stop - (row_at c.table k).start)
  unfolding word_at data_cells
  data_ticks-shown w =
      let row = row_at c.table k in
      let long : (data_sent c row).ticks ≡ row.stop - row.start = omega (arith, data_stop w) in
      ap decimal long

  pub control-ticks-shown : k < length c.table.control
      → word_at (control_cells c.plan (control_at c.table.control k)) 7
      ≡ decimal ((control_at c.table.control k).stop - (control_at c.table.control k).start)
  unfolding word_at control_cells
  control-ticks-shown w =
      let row = control_at c.table.control k in
      let long : (control_sent c.plan row).ticks ≡ row.stop - row.start = omega (arith, control-stop w) in
      ap decimal long

  pub data_sent-few : k < length c.table.rows → FewBits (data_sent c (row_at c.table k))
  data_sent-few w = data_few (located_as plan table c e) k w

  pub control-sent-few : FewBits (control_sent c.plan (control_at c.table.control k))
  control-sent-few = control-few c.plan (plan-kept (located_as plan table c e)) (control_at c.table.control k)
