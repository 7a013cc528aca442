-- The line that is built from its parts is the line of the layout; with the frames that were laid it is the layout's drawing.
use mathlib.Core.Path.{◌≡◌, ap, ◌∙◌}
use mathlib.Core.List.{List}
use lib.ListN.{length}
use Prim.Native.Nat.{ℕ}
use Rattle.laws.specs.Lists.{tab}
use Rattle.rules.specs.Plan.{Plan}
use Rattle.rules.specs.Traffic.{traffic}
use Rattle.rules.specs.Frames.{layout_of, control_rows, control_end, gap_time}
use Rattle.rules.specs.Frames as rules
use Rattle.control.specs.declared.Control.{Control}
use Rattle.control.specs.Control.{control_laid}
use Rattle.frames.specs.Laid as frames
use Rattle.frames.specs.Laid.{Frames, frames_with, frames_laid}
use Rattle.line.specs.declared.Line.{Line}
use Rattle.line.specs.Line.{drawing, line_in, line_of}
use Rattle.payloads.specs.Tests.{task_time}
use Rattle.rules.specs.Records.{head_kind}

pub line-is : (p : Plan) {head period gap floor : ℕ} {time : List ℕ} {control : Control} {n : ℕ}
    → head ≡ head_kind p.consumers → period ≡ (traffic p).period → gap ≡ gap_time p.bus → floor ≡ control_end p → time ≡ tab (task_time p) 0 32
    → control ≡ control_laid (control_rows p) → n ≡ length (rules.pairs p)
    → ◌≡◌ {A = Line}
    (record {
      head = head;
      period = record { 0 = period };
      resolution = record { 0 = p.bus.resolution };
      gap = record { 0 = gap };
      floor = record { 0 = floor };
      times = time;
      controls = control.count;
      control_nodes = control.nodes;
      control_starts = control.starts;
      control_stops = control.stops;
      frames = n;
    })
    (line_in (line_of p))
unfolding line_of layout_of rules.pairs control_laid
line-is p e₀ e₁ e₂ e₃ e₄ c q = rw (e₀, e₁, e₂, e₃, e₄, c, q)

pub drawing-is : (p : Plan) {line : Line} {n : ℕ} {tasks releases deadlines : List ℕ}
    → line ≡ line_in (line_of p) → frames_with n tasks releases deadlines ≡ frames_laid (rules.pairs p) → drawing line tasks releases deadlines ≡ line_of p
unfolding line_of layout_of rules.pairs frames_laid frames.column
drawing-is p {tasks = tasks} {releases} {deadlines} e f =
    ap (λ (l : Line). drawing l tasks releases deadlines) e
    ∙ ap (λ (x : Frames). drawing (line_in (line_of p)) x.tasks x.releases x.deadlines) f
