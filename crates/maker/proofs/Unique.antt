-- No second result and no second arrays of frame rows say of a plan what the rules say of it: as answer and rows they are one `Making`.
use mathlib.Core.Path.{◌≡◌, ap}
use mathlib.Core.List.{List}
use Prim.Native.Nat.{ℕ}
use Rattle.laws.specs.Res.{Res}
use Rattle.rules.specs.Table.{MadeTable}
use Rattle.linetable.specs.Making.{Making, Makes}
use Rattle.linetable.proofs.Unique.{makes_once}
use Rattle.maker.specs.declared.MadeRows.{MadeRows}
use Rattle.maker.specs.Making.{making}

pub made-once : (a b : MadeRows) {tasks releases deadlines starts tasks' releases' deadlines' starts' before after after' : List ℕ} (rule : Res MadeTable)
    → Makes (making a tasks releases deadlines starts) before after rule → Makes (making b tasks' releases' deadlines' starts') before after' rule
    → (a ≡ b) × (tasks ≡ tasks') × (releases ≡ releases') × (deadlines ≡ deadlines') × (starts ≡ starts')
made-once a b rule p q =
    let same = makes_once _ _ _ _ _ rule p q in (
      ap {B = MadeRows} (λ (m : Making). record { answer = m.answer; frames = m.rows.frames }) same,
      ap (λ (m : Making). m.rows.tasks) same,
      ap (λ (m : Making). m.rows.releases) same,
      ap (λ (m : Making). m.rows.deadlines) same,
      ap (λ (m : Making). m.rows.starts) same,
    )
