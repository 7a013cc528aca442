-- The type's word for the station, field by field: the nodes are the ninth.
use Rattle.station.proofs.Values.{nodes-fit}
use Rattle.olbiothar.proofs.fits.Goals as goal

pub returns : goal.returns
returns c = nodes-fit c.args.station.now.nodes _ c.type_inv.station.1.1.1.1.1.1.1.1.0.1.1
