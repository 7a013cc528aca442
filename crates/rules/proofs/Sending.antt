-- Sending: a larger payload never takes fewer bits, nor fewer ticks, however many bits a byte takes and whatever the bus.
use native.Mathlib.Nat.{le_trans, max-le, le-max_left, le-max_right, mul-le-mul_left, mul-le-mul_right}
use native.Mathlib.Omega.{arith}
use Prim.Native.Nat.{ℕ, ◌+◌, ◌≤◌, max}
use Rattle.laws.proofs.Bus.{ceil_rises, up_rises}
use Rattle.rules.specs.Plan.{Bus}
use Rattle.rules.specs.Frames.{Sending, of_bits, on_bus}

-- neither bits nor ticks are more
pub record NoLonger (a b : Sending) : Type 0 where
  pub bits : a.bits ≤ b.bits
  pub ticks : a.ticks ≤ b.ticks

module _ (b : Bus) where
  more_bits : (x y : ℕ) → x ≤ y → NoLonger (of_bits b x) (of_bits b y)
  unfolding of_bits
  more_bits x y h =
      record { bits = h; ticks = up_rises b.resolution _ _ (ceil_rises _ _ b.rate (mul-le-mul_right 1000 h)) }

  pub monotone : (s t : ℕ) → s ≤ t → NoLonger (on_bus b s) (on_bus b t)
  unfolding on_bus
  monotone s t h =
      let larger : max s b.least ≤ max t b.least = max-le (le_trans h (le-max_left t b.least)) (le-max_right t b.least) in
      let more : b.overhead + max s b.least ≤ b.overhead + max t b.least = omega arith in
      more_bits _ _ (mul-le-mul_left b.byte_bits more)
