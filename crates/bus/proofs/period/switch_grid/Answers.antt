use mathlib.Core.Path.{refl}
use native.Mathlib.Omega.{arith}
use Prim.Native.Nat.{◌≤◌, ◌<◌}
use lib.ListN.{length, get_or}
use lib.Seq.{take_all}
use Rattle.plan.specs.Memory.{seen, mode_seen, mode_laid}
use Rattle.rules.specs.Plan.{no_mode}
use Rattle.bus.specs.Period.{grid_among, grid_marked}
use Rattle.bus.proofs.Marking.{seen_at}
use Rattle.bus.proofs.Multiples.{grid_turn}
use Rattle.bus.proofs.period.switch_grid.Goals as goal

pub loop-mode-init : goal.loop-mode-init
unfolding grid_among
loop-mode-init c = refl

pub loop-mode-preserved : goal.loop-mode-preserved
unfolding mode_seen mode_laid
loop-mode-preserved c =
    let q = seen c.args.p in
    let l = c.loop-mode in
    let items = c.modes-mode-items in
    let i = l.mode-index in
    let h : i < length q.modes = omega (arith, items.ensures.count.0) in
    grid_turn c.args.marks q.modes i (mode_seen (get_or items.result.now i (mode_laid no_mode))) h
    (seen_at mode_seen items.result.now items.ensures.things i (mode_laid no_mode) no_mode (omega arith)) c.from.ensures l.invariant c.with_mode-grid.ensures

pub returns : goal.returns
unfolding grid_marked
returns c =
    let q = seen c.args.p in
    let w : length q.modes ≤ c.loop-mode.mode-index = omega (arith, c.modes-mode-items.ensures.count.0) in
    rw (take_all c.loop-mode.mode-index q.modes w) at c.loop-mode.invariant
