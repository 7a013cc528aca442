-- Invariant: what is stored and the bytes left are all the bytes (`Laying`).
use Prim.Native.Nat.{◌+◌, ◌-◌}
use Rattle.planreader.proofs.Numbers.{Laying}
use Rattle.planreader.proofs.put_number.Given as goal

abbrev pub invariant-loop-k : goal.invariant-loop-k
invariant-loop-k l = Laying l.initial.out l.at l.wide l.n l.out l.rest (l.wide - l.k) (l.at + l.k)
