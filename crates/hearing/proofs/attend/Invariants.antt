-- Invariant: what was heard is what the bytes in front of the place give (`Between`); a turn hears one line more, or one piece more comes.
use mathlib.Core.Path.{◌≡◌}
use lib.ListN.{length}
use Prim.Native.Nat.{◌+◌, ◌-◌, ◌≤◌}
use Rattle.hearing.proofs.Coming.{Between}
use Rattle.hearing.proofs.attend.Given as goal

abbrev pub invariant-loop-lines : goal.invariant-loop-lines
invariant-loop-lines g l = (l.came ≤ length l.buf) × (l.at ≤ l.came) × (l.at ≤ 262144) × Between l.plan l.table l.buf l.lines l.heard l.at × (length l.buf ≡ length l.initial.buf)

abbrev pub decreases-loop-lines : goal.decreases-loop-lines
decreases-loop-lines g l = (length l.buf + length l.buf) - (l.came + l.at)
