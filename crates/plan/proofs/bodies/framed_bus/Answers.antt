-- `bus_with` promises the numbers of kind 1, which are the first of kind 9's; behind them stand the bits (`numbers-laid`).
use mathlib.Core.Path.{◌≡◌, sym, ap, ◌∙◌}
use mathlib.Core.List.{List}
use lib.ListN.{take, drop}
use Prim.Native.Nat.{ℕ}
use Rattle.laws.specs.Numbers.{number}
use Rattle.rules.specs.Records.{fields, kinds, record_of}
use Rattle.rules.specs.Plan.{nth, bus_of, is_kind}
use Rattle.rules.proofs.BodyNumbers.{numbers-laid}
use Rattle.plan.specs.Memory.{bus_laid, with_byte_bits}
use Rattle.plan.proofs.bodies.framed_bus.Goals as goal

with-its-bits : (body : List ℕ) (bits : ℕ) → bits ≡ number (take 1 (drop 16 body)) → with_byte_bits bits (bus_of (record_of 1 body)) ≡ bus_of (record_of 9 body)
unfolding with_byte_bits bus_of is_kind record_of fields kinds
with-its-bits body bits e =
    ap (λ (n : ℕ). with_byte_bits n (bus_of (record_of 1 body))) (e ∙ sym (ap (λ (ns : List ℕ). nth ns 6) (numbers-laid body 0 9)))

pub returns : goal.returns
returns c = c.bus_with.ensures ∙ ap bus_laid (with-its-bits c.args.body.now _ c.read8.ensures)
