-- Where there are so many rows, the fold over them is the test of each (`front_all`); where there are not, the first test is false.
use mathlib.Core.Path.{◌≡◌, refl, ◌∙◌}
use mathlib.Core.Bool.{true, not, ◌&&◌}
use lib.Dec.{eqb}
use borrow.Author.Tests.{le-leb}
use Rattle.std.proofs.Common.{rules, tests}
use Rattle.std.specs.List.{fold}
use Rattle.std.proofs.lemmas.Iterator.{YieldsList-from_slice}
use Rattle.std.proofs.lemmas.Iterator.Consumers.{fold_from_yields_List}
use Rattle.stationbus.specs.Bus.{has_other}
use Rattle.stationbus.proofs.Chains.{front_all}
use Rattle.stationbus.proofs.lacks.Goals as goal

pub returns-in-Some : goal.returns-in-Some
returns-in-Some c =
    let times = c.args.times.now in
    let found = c.in-Some.ensures.lookup.0 in
    let folded : c.fold.result ≡ fold (λ other row. other && not (eqb row c.args.time.0)) true c.in-Some.rows.now =
    fold_from_yields_List _ (λ other row. other && not (eqb row c.args.time.0)) true c.fold.result c.fold.ensures.ran (YieldsList-from_slice c.in-Some.rows.now (cc))
    (λ a x b q k. search (rules, tests)) in
    rw (le-leb _ _ found.1) (rw found.2 at folded ∙ front_all (λ row. not (eqb row c.args.time.0)) (has_other times c.args.time.0) 0 times c.args.count found.1 (λ k w. refl))
