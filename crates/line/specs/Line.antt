-- How the layout of a plan stands in arrays: those of the line, and those of the frames beside it.
use Rattle.std.specs.Prelude.{List, map, length, replicate, ℕ}
use Rattle.laws.specs.Res.{Res, ok, refuse}
use Rattle.laws.specs.Lists.{tab}
use Rattle.laws.specs.Loops.{pad_to}
use Rattle.rules.specs.Limits.{most_frames, most_nodes, most_tasks}
use Rattle.rules.specs.Plan.{Plan}
use Rattle.rules.specs.Frames.{Pair, layout_of}
use Rattle.control.specs.Control.{node_of, start_of, stop_of, column}
use Rattle.payloads.specs.Tests.{task_time}
use Rattle.units.specs.declared.Ticks.{Ticks}
use Rattle.line.specs.declared.Line.{Line}

abbrev pub task_of : Pair → ℕ
task_of f = f.task

abbrev pub release_of : Pair → ℕ
release_of f = f.release

abbrev pub deadline_of : Pair → ℕ
deadline_of f = f.deadline

-- The line and its frames as one: of the frames, in an array for each of their numbers, there are `frames`.
pub record Drawing : Type 0 where
  pub head : ℕ
  pub period : Ticks
  pub resolution : Ticks
  pub gap : Ticks
  pub floor : Ticks
  pub times : List ℕ
  pub controls : ℕ
  pub control_nodes : List ℕ
  pub control_starts : List ℕ
  pub control_stops : List ℕ
  pub frames : ℕ
  pub tasks : List ℕ
  pub releases : List ℕ
  pub deadlines : List ℕ

-- a line with the arrays of its frames
abbrev pub drawing : Line → List ℕ → List ℕ → List ℕ → Drawing
drawing l tasks releases deadlines =
    record {
      head = l.head;
      period = l.period;
      resolution = l.resolution;
      gap = l.gap;
      floor = l.floor;
      times = l.times;
      controls = l.controls;
      control_nodes = l.control_nodes;
      control_starts = l.control_starts;
      control_stops = l.control_stops;
      frames = l.frames;
      tasks = tasks;
      releases = releases;
      deadlines = deadlines;
    }

-- the line without them
abbrev pub line_in : Drawing → Line
line_in d =
    record {
      head = d.head;
      period = d.period;
      resolution = d.resolution;
      gap = d.gap;
      floor = d.floor;
      times = d.times;
      controls = d.controls;
      control_nodes = d.control_nodes;
      control_starts = d.control_starts;
      control_stops = d.control_stops;
      frames = d.frames;
    }

-- a plan's layout laid into arrays, zeros behind; of the time that a row takes, that of a row with one pair, by its task
unfoldable pub line_of : Plan → Drawing
line_of p =
    let l = layout_of p in
    record {
      head = l.head;
      period = record { 0 = l.period };
      resolution = record { 0 = l.grid };
      gap = record { 0 = l.gap };
      floor = record { 0 = l.floor };
      times = tab (task_time p) 0 most_tasks;
      controls = length l.control;
      control_nodes = column node_of l.control;
      control_starts = column start_of l.control;
      control_stops = column stop_of l.control;
      frames = length l.pairs;
      tasks = pad_to most_frames 0 (map task_of l.pairs);
      releases = pad_to most_frames 0 (map release_of l.pairs);
      deadlines = pad_to most_frames 0 (map deadline_of l.pairs);
    }

-- the line of no plan, and no frames
unfoldable pub no_line : Drawing
no_line =
    record {
      head = 0;
      period = record { 0 = 0 };
      resolution = record { 0 = 0 };
      gap = record { 0 = 0 };
      floor = record { 0 = 0 };
      times = replicate most_tasks 0;
      controls = 0;
      control_nodes = replicate most_nodes 0;
      control_starts = replicate most_nodes 0;
      control_stops = replicate most_nodes 0;
      frames = 0;
      tasks = replicate most_frames 0;
      releases = replicate most_frames 0;
      deadlines = replicate most_frames 0;
    }

-- what `lay_out` leaves of the line and its frames: those of the layout, or none where the plan is refused
abbrev pub line_for : Res Plan → Drawing
line_for (ok p) = line_of p
line_for (refuse n p) = no_line
