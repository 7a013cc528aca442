-- So many zeros have that length.
use mathlib.Core.Path.{◌≡◌, sym}
use lib.ListN.{length, length-replicate}
use Prim.Native.Nat.{ℕ}
use Rattle.input.specs.Room.{zeros}

pub zeros-length : (n : ℕ) → n ≡ length (zeros n)
unfolding zeros
zeros-length n = sym (length-replicate {A = ℕ} n 0)
