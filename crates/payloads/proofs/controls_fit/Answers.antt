-- The payloads of the first nodes are the front of the table (`all_front`).
use mathlib.Core.Path.{sym, ◌∙◌}
use native.Mathlib.Omega.{arith}
use lib.Dec.{leb}
use Prim.Native.Nat.{ℕ}
use Rattle.payloads.specs.Tests.{payload_keeps}
use Rattle.payloads.proofs.Scans.{all_front}
use Rattle.payloads.proofs.controls_fit.Goals as goal

pub returns : goal.returns
unfolding payload_keeps
returns c = c.all_fit.ensures ∙ sym (all_front (λ (n : ℕ). leb n c.args.most.0) c.args.payloads 0 c.args.nodes (omega arith))
