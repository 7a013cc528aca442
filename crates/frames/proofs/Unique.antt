-- No second result of `derive`, and no second arrays, satisfy its contract.
use mathlib.Core.Path.{◌≡◌, sym, ◌∙◌}
use mathlib.Core.List.{List}
use Prim.Native.Nat.{ℕ}
use Rattle.rules.specs.Direct.{Walk}
use Rattle.frames.specs.Walk.{Derived}

pub derives_once : {task₀ release₀ deadline₀ task release deadline task' release' deadline' : List ℕ} {w : Walk} {n k n' k' : ℕ}
    → Derived task₀ release₀ deadline₀ w task release deadline n k → Derived task₀ release₀ deadline₀ w task' release' deadline' n' k'
    → (task ≡ task') × (release ≡ release') × (deadline ≡ deadline') × (n ≡ n') × (k ≡ k')
derives_once a b =
    (a.tasks ∙ sym b.tasks, a.releases ∙ sym b.releases, a.deadlines ∙ sym b.deadlines, a.count ∙ sym b.count, a.steps ∙ sym b.steps)
