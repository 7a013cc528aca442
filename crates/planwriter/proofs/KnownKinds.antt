-- What the table of lengths says of a kind: the byte 255 stands for those that are unknown, and a length for those that are known.
use Rattle.std.proofs.Common.{◌≡◌, refl, ap, Bool, true, false, cond, not, eqb, ℕ, ◌<◌, arith}
use Rattle.std.specs.Prelude.{is_some, Some}
use borrow.Author.Tests.{ne_eqb}
use Rattle.rules.specs.Records.{known, body_length}
use Rattle.records.specs.Kinds.{if_known, length_of, length_byte}
use Rattle.records.proofs.LengthTable.{short}

told : (b : Bool) (n : ℕ) → n < 255 → not (eqb (cond b n 255) 255) ≡ b
told true n h = ap not (ne_eqb n 255 (λ e. omega arith))
told false n h = refl

pub known-told : (k : ℕ) → not (eqb (length_byte k) 255) ≡ known k
unfolding length_byte
known-told k = told (known k) (body_length k) (short k)

answered : (b : Bool) (n : ℕ) → is_some (if_known b n) ≡ b
answered true n = refl
answered false n = refl

pub known-answered : (k : ℕ) → is_some (length_of k) ≡ known k
unfolding length_of
known-answered k = answered (known k) (body_length k)

pub known-length : (k : ℕ) → known k ≡ true → length_of k ≡ Some (body_length k)
unfolding length_of
known-length k e = rw e
