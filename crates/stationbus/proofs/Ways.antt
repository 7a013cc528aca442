-- What a function returns where no row has its time, over plain variables: the test x of the code is that of the definition.
use mathlib.Core.Path.{◌≡◌, sym, ◌∙◌}
use mathlib.Core.Bool.{Bool, true, ◌&&◌}
use mathlib.Core.List.{List}
use mathlib.Core.Option.{none}
use lib.Dec.{leb}
use lib.ListN.{length}
use Prim.Native.Nat.{ℕ}
use Rattle.laws.specs.Lists.{all, up_to}
use Rattle.laws.proofs.Lists.{both_right, all-up_to-true}
use Rattle.laws.proofs.Loops.{first_bad-up_to-none}
use Rattle.rules.specs.Station.{row_with}
use Rattle.rules.proofs.TransparentTick.{row_by_other}
use Rattle.stationbus.specs.Bus.{has_other, number_at}

-- no row has this time
pub none_with : (times : List ℕ) (count time : ℕ) {x : Bool}
    → x ≡ (leb count (length times) && all (has_other times time) (up_to count)) → x ≡ true → none ≡ row_with (number_at times) count time
none_with times count time e t =
    let p = has_other times time in
    let each = both_right (leb count (length times)) (all p (up_to count)) (sym e ∙ t) in
    sym (row_by_other (number_at times) count time ∙ first_bad-up_to-none p count (λ k w. all-up_to-true p count k each w))
