-- The struct that is stored into is the plan laid out with the connections left (`consumers-laid`).
use Rattle.bus.proofs.Leaving.{consumers-laid}
use Rattle.bus.proofs.edition.for_consumers.Goals as goal

pub returns : goal.returns
returns c =
    let start = c.before in
    consumers-laid start.args.p start.requires c.connections_left-left.ensures
