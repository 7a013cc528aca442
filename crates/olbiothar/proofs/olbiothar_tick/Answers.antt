-- An idle tick leaves the nodes, another changes them as told: the two halves of what `answer_before_nodes` promises.
use Rattle.std.proofs.Common.{◌∙◌, ap, List}
use Rattle.stationnodes.specs.declared.Node.{Node}
use Rattle.station.specs.Parts.{with_play_and_nodes}
use Rattle.olbiothar.proofs.olbiothar_tick.Goals as goal
use Rattle.olbiothar.proofs.olbiothar_tick.Goals.{then-first, else-first}

pub returns : goal.returns
returns c =
    let st = c.args.station.now in
    let first = c.answer_before_nodes-first in
    let completes = first.ensures st.nodes c.fits.ensures in
    elim c.if-first.branch [
      | then-first w ↦
          let both = completes.idle w.if-first.true in
          record { answers = both.0; leaves = w.station-is ∙ both.1 }
      | else-first w ↦
          let both = completes.busy w.if-first.false in
          record {
            answers = both.0;
            leaves = w.station-is ∙ ap (λ (nodes : List Node). with_play_and_nodes st first.result.part.play nodes) w.nodes_after_tick-station.ensures ∙ both.1;
          }
    ]
