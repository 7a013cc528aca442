-- AllRead: of a task that is not thinned every message is read; in the basic edition no task is thinned.
use mathlib.Core.Path.{◌≡◌}
use mathlib.Core.Bool.{true, false}
use native.Mathlib.Nat.{div-one, mul-one}
use native.Mathlib.Omega.{arith}
use borrow.Author.Tests.{lt-ltb}
use Prim.Native.Nat.{ℕ, ◌+◌, ◌-◌, ◌<◌}
use Rattle.laws.specs.Numbers.{ceil, up}
use Rattle.rules.specs.Plan.{Plan}
use Rattle.rules.specs.Readers.{is_read, is_read_by, is_thinned, readers_of}

pub basic-whole : (p : Plan) (t : ℕ) → p.consumers ≡ false → is_thinned p t ≡ false
unfolding is_thinned
basic-whole p t e = rw e

up_one : (d : ℕ) → up 1 d ≡ d
unfolding up ceil
up_one d =
    let e : d + (1 - 1) ≡ d = omega arith in
    rw (e, div-one d, mul-one d)

pub all_read : (p : Plan) (t : ℕ) → is_thinned p t ≡ false → (T d : ℕ) → 0 < T → is_read_by (readers_of p t) T d ≡ true
unfolding is_read_by is_read readers_of
all_read p t whole T d pos = rw (whole, up_one d, lt-ltb d (d + T) (omega arith))
