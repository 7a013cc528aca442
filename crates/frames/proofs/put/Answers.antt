-- Three cases: no frame (`put-nothing`), no place left (`put_full`), and one frame stored (`put_one`).
use native.Mathlib.Omega.{arith}
use Rattle.frames.proofs.Storing.{put-nothing, put_full, put_one}
use Rattle.frames.proofs.put.Goals as goal

pub returns-then-b-eq0 : goal.returns-then-b-eq0
returns-then-b-eq0 c = put-nothing _ _ _ _ _ _ _ c.if-b-eq0.true (omega arith)

pub returns-then-n-eq-MOST : goal.returns-then-n-eq-MOST
returns-then-n-eq-MOST c = put_full _ _ _ _ _ _ _ c.if-b-eq0.false c.if-n-eq-MOST.true

pub returns : goal.returns
returns c = put_one _ _ _ _ _ _ _ c.if-b-eq0.false c.if-n-eq-MOST.false (omega arith)
