-- The cells that are computed are those of the definitions.
use mathlib.Core.Path.{◌≡◌, ap, ◌∙◌}
use mathlib.Core.List.{List, [], ◌∷◌}
use lib.ListN.{get_or}
use Prim.Native.Nat.{ℕ, ◌<◌}
use Rattle.rules.specs.Plan.{the_task}
use Rattle.rules.specs.Traffic.{control_payload, module_node, task_node}
use Rattle.rules.specs.Frames.{on_bus}
use Rattle.bus.specs.Senders.{by_number}
use Rattle.bus.proofs.Tables.{at-number}
use Rattle.plan.specs.declared.Plan.{Plan}
use Rattle.plan.specs.declared.Task.{Task}
use Rattle.plan.specs.declared.Module.{Module}
use Rattle.plan.specs.Memory.{bus_seen, module_laid, seen, task_laid}
use Rattle.times.specs.declared.Sending.{Sending}
use Rattle.times.specs.Sending.{sending_laid}
use Rattle.sheet.specs.declared.Cell.{Cell}
use Rattle.sheet.specs.declared.Cell.TheVariants.{Dash, Count}
use Rattle.sheet.specs.Sheet.{control_cells, control_sent, difference}
use Rattle.sheetwriter.specs.Memory.{data_cells_in}

pub control_cells_are : (p : Plan) (node start stop : ℕ) {payloads : List ℕ} {k w : ℕ} {sent : Sending} → payloads ≡ by_number (control_payload (seen p)) → k ≡ node → k < 256
    → w ≡ get_or payloads k 0 → sent ≡ sending_laid (on_bus (bus_seen p.bus) w)
    → ◌≡◌ {A = List Cell}
    (Count node ∷ Dash ∷ Dash ∷ Dash ∷ Count start ∷ Count stop ∷ Count sent.bits.0 ∷ Count sent.ticks.0 ∷ Dash ∷ Dash ∷ [])
    (control_cells (seen p) (record { node = node; start = start; stop = stop }))
unfolding control_cells control_sent sending_laid seen
control_cells_are p node start stop {payloads} {k} e n h r s =
    let is = r ∙ ap (λ (l : List ℕ). get_or l k 0) e ∙ at-number (control_payload (seen p)) k 0 h ∙ ap (control_payload (seen p)) n in
    rw (s, is)

pub data_cells_are : (p : Plan) (task release deadline start stop : ℕ) {k h : ℕ} {sender : Task} {home : Module} {sent : Sending} {early late : Cell} → k ≡ task
    → sender ≡ task_laid (the_task (seen p) k) → h ≡ sender.home.0 → home ≡ module_laid (get_or (seen p).modules h 0)
    → sent ≡ sending_laid (on_bus (bus_seen p.bus) sender.size.0) → early ≡ difference start release → late ≡ difference deadline stop
    → ◌≡◌ {A = List Cell}
    (Count home.node.0 ∷ Count task ∷ Count release ∷ Count deadline ∷ Count start ∷ Count stop ∷ Count sent.bits.0 ∷ Count sent.ticks.0 ∷ early ∷ late ∷ [])
    (data_cells_in (seen p) task release deadline start stop)
unfolding data_cells_in sending_laid task_laid module_laid task_node module_node seen
data_cells_are p task release deadline start stop a q r s t early late = rw (early, late, t, s, r, q, a)
