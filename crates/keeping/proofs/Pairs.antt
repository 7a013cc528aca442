-- What is kept of one pair: when its row stops, and whether a mode has its message.
use mathlib.Core.Path.{◌≡◌, sym, ◌∙◌}
use mathlib.Core.Bool.{Bool, true, false}
use mathlib.Core.List.{List}
use native.Mathlib.Omega.{arith}
use borrow.Author.Tests.{lt-ltb}
use lib.ListN.{get_or}
use Prim.Native.Nat.{ℕ, ◌+◌, ◌*◌, ◌^◌, ◌≤◌, ◌<◌}
use Rattle.laws.specs.Numbers.{divides}
use Rattle.rules.specs.Readers.{is_read_by}
use Rattle.bus.specs.Readers.{readers_seen}
use Rattle.keeping.specs.Keeping.{StopsFit, has_message, stop_at}

module _ (starts tasks times : List ℕ) (q : ℕ) {start task time : ℕ} (s : start ≡ get_or starts q 0) (t : task ≡ get_or tasks q 0) (w : time ≡ get_or times task 0) where
  pub stop_is : start + time ≡ stop_at starts tasks times q
  unfolding stop_at
  stop_is = rw (s, w, t)

  pub stop-fits : {pairs : ℕ} → StopsFit pairs starts tasks times → q < pairs → start + time < 2 ^ 32
  unfolding StopsFit
  stop-fits fit h = rw stop_is (fit q h)

module _ (runs counts periods : List ℕ) (task deadline mode : ℕ) {period : ℕ} (is : period ≡ get_or runs (mode * 32 + task) 0) where
  -- none where there is no run; none where no run ends; else what the readers say
  pub no_run : period ≤ 0 → false ≡ has_message runs counts periods task deadline mode
  unfolding has_message
  no_run h = let none : period ≡ 0 = omega arith in rw (← is, none)

  pub no_end : {b : Bool} → 0 < period → b ≡ divides period deadline → b ≡ false → false ≡ has_message runs counts periods task deadline mode
  unfolding has_message
  no_end h e f = rw (← is, lt-ltb 0 period h, sym e ∙ f)

  pub message_by : {b r : Bool} → 0 < period → b ≡ divides period deadline → b ≡ true
      → r ≡ is_read_by (readers_seen counts periods task) period deadline → r ≡ has_message runs counts periods task deadline mode
  unfolding has_message
  message_by h e f g = rw (g, ← is, lt-ltb 0 period h, sym e ∙ f)
