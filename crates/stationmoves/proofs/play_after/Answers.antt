-- Each part is its step's promise (`play_made`); the frames take the modes and out-boxes after the tick (`bytes_same`).
use mathlib.Core.Path.{◌∙◌}
use Rattle.places.specs.Spot.{spot_in}
use Rattle.stationsteps.specs.Steps.{mode_rule, out_rule}
use Rattle.stationmoves.specs.Moving.{play_after}
use Rattle.stationmoves.proofs.Ways.{bytes_same, full-same, loads-same, play_made}
use Rattle.stationmoves.proofs.play_after.Goals as goal

pub returns : goal.returns
unfolding play_after
returns c =
    let a = c.args in
    let i = a.input in
    let p = a.play in
    let running = c.modes_after-running.ensures.reads in
    let out = c.out_after-out.ensures.reads in
    let modes = mode_rule i.modes i.changed p.running in record {
      value = play_made c.one_on.ensures c.modes_after-running.ensures.value c.ages_after-ages.ensures
          (c.bytes_after-bytes.ensures
          ∙ bytes_same _ modes running a.fixed.modules.sending a.fixed.modules.sites a.fixed.controls.nodes p.bytes (spot_in a.control))
          c.had_after-had.ensures c.out_after-out.ensures.value c.held_by-held.ensures.value
          ((rw c.from-pairs.ensures at c.full_after-full.ensures) ∙ full-same _ modes running a.pair_tasks.now a.pair_starts.now a.fixed.pairs a.time.0 (spot_in a.first)
          a.pair_modes.now a.fixed.tasks.homes p.full)
          ((rw c.from-pairs.ensures at c.loads_after-loads.ensures) ∙ loads-same _ (out_rule i.results i.given p.out) out a.pair_tasks.now a.pair_starts.now a.fixed.pairs
          a.time.0 (spot_in a.first) p.loads);
      reads = record { out = out; held = c.held_by-held.ensures.reads };
    }
