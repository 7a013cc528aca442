use mathlib.Core.Path.{◌≡◌, refl, ap}
use native.Mathlib.Omega.{arith}
use Prim.Native.Nat.{ℕ, ◌≤◌}
use Rattle.laws.proofs.Loops.{stores_turn}
use Rattle.plan.specs.Memory.{seen}
use Rattle.rules.specs.Plan.{Plan}
use Rattle.rules.specs.Readers.{readers_of}
use Rattle.rules.proofs.PlanKept.{PlanKept}
use Rattle.bus.specs.Readers.{row_laid, needs_every, is_producer}
use Rattle.bus.specs.declared.readers.Row.{Row}
use Rattle.bus.proofs.Tables.{at-number}
use Rattle.bus.proofs.Rows.{few_readers, rows_none, rows_turn, rows_are}
use Rattle.bus.proofs.readers.Readers.of.Invariants.{counted}
use Rattle.bus.proofs.readers.Readers.of.Goals as goal

-- a row that is laid is not longer than its places
few : (q : Plan) → PlanKept q → (t : ℕ) {row : Row} → row ≡ row_laid (readers_of q t) → (row.count ≡ counted q t) × (row.count ≤ 64)
unfolding row_laid
few q kept t e =
    let n = ap (λ (r : Row). r.count) e in
    (n, omega (arith, n, few_readers q kept t))

pub loop-t-init : goal.loop-t-init
loop-t-init c =
    let start = c.before in
    (refl, rows_none (seen start.args.p) start.requires)

pub row_of-row-requires : goal.row_of-row-requires
row_of-row-requires c =
    let start = c.before in
    let q = seen start.args.p in
    let t = c.loop-t.t in
    record {
      plan_kept = (start.requires, c.mode_periods-lasting.ensures);
      full_value =
          (rw c.tasks_in_full-full.ensures (at-number (needs_every q) t _ (omega arith)), rw c.producers-producing.ensures (at-number (is_producer q) t _ (omega arith)));
    }

pub put_row-requires : goal.put_row-requires
put_row-requires c =
    let start = c.before in
    (omega arith, (few (seen start.args.p) start.requires c.loop-t.t c.row_of-row.ensures).1)

pub loop-t-preserved : goal.loop-t-preserved
loop-t-preserved c =
    let start = c.before in
    let q = seen start.args.p in
    let l = c.loop-t in
    let row = c.row_of-row.ensures in (
      stores_turn _ _ l.t l.invariant.0 (few q start.requires l.t row).0,
      rows_turn q start.requires l.t (omega arith) row l.invariant.1 c.put_row.ensures,
    )

pub returns : goal.returns
returns c =
    let start = c.before in
    let l = c.loop-t in
    let e : l.t ≡ 32 = omega arith in
    rows_are (seen start.args.p) start.requires (rw e at l.invariant.0) (rw e at l.invariant.1)
