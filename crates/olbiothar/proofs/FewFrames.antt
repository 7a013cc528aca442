-- Refusal 9: a laid out plan has at most 1,024 frames.
use mathlib.Core.Path.{◌≡◌, subst}
use lib.ListN.{length}
use Prim.Native.Nat.{◌≤◌}
use Rattle.rules.specs.Limits.{most_frames}
use Rattle.laws.specs.Res.{ok}
use Rattle.rules.specs.Plan.{Plan}
use Rattle.rules.specs.Frames.{Layout, layout, layout_of, pairs}
use Rattle.rules.proofs.LaidOut.{laid_out}

pub few-laid : (p : Plan) (l : Layout) → layout p ≡ ok l → length l.pairs ≤ most_frames
unfolding layout_of pairs
few-laid p l e = let h = laid_out p l e in subst (λ (l : Layout). length l.pairs ≤ most_frames) h.is h.few
