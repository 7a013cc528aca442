-- The frames of a plan that passed refusals 6 to 8, and refusal 9; behind them what refusals 10 and 11 leave.
use mathlib.Core.Path.{◌≡◌, refl, ap, ◌∙◌, sym, ap₂}
use mathlib.Core.Bool.{true}
use mathlib.Core.List.{List}
use native.Mathlib.Omega.{arith}
use lib.ListN.{length}
use borrow.Author.Tests.{le-leb, lt-leb}
use Prim.Native.Nat.{suc, ℕ, ◌≤◌, ◌<◌, ◌∣◌, min}
use Rattle.rules.specs.Limits.{most_frames, most_tasks}
use Rattle.laws.specs.Res.{Res, ok, refuse, ◌>>◌}
use Rattle.laws.proofs.Res.{refuse≢ok}
use Rattle.laws.specs.Lists.{all}
use Rattle.rules.specs.Plan.{Plan, Invocation}
use Rattle.rules.specs.Traffic.{bus_runs, traffic, Run, Message, run_of, of_bus_task}
use Rattle.rules.specs.Frames.{some_bus_task, pairs_of, pairs, Layout, layout}
use Rattle.rules.proofs.PlanKept.{PlanKept, InvocationKept}
use Rattle.bus.specs.declared.runs.Runs.{Runs}
use Rattle.bus.specs.Runs.{runs_laid, runs_seen}
use Rattle.frames.specs.Laid.{Frames, frames_with, frames_laid}
use Rattle.frames.specs.Walk.{is_fair, AreRead}
use Rattle.frames.proofs.FairRuns.{few-runs, short-period, runs-fair}
use Rattle.answers.specs.declared.Refusal.{Refusal}
use Rattle.answers.specs.Refusals.{said, number_of, place_of}
use Rattle.std.specs.Prelude.{Result, Ok, Err}
use Rattle.line.specs.declared.Line.{Line}
use Rattle.line.specs.Laying.{Closes, Lays, verdict, laid, framing, closing}
use Rattle.line.proofs.Ways.{verdict-refused}
use Rattle.line.proofs.Built.{drawing-is}
use Rattle.rules.specs.Readers.{readers_of, read_messages, read_messages_of}
use Rattle.rules.proofs.ReadersGo.{InEdition}
use Rattle.rules.proofs.Needed.{readers_go, needed_exact}
use Rattle.laws.proofs.Members.{All, empty, also, all_map, all_weaker, all_keep, all_both, keep-passes}
use Rattle.bus.proofs.Columns.{laid-seen}
use Rattle.bus.specs.declared.readers.Readers.{Readers}
use Rattle.bus.specs.Readers.{readers_laid, readers_seen}
use Rattle.bus.proofs.Rows.{plan_readers_seen}

-- readers that are the same for each run's task read the same messages
read_same : (f g : ℕ → List ℕ) (cycle : ℕ) {rs : List Run} → All (λ r. f r.task ≡ g r.task) rs → read_messages f cycle rs ≡ read_messages g cycle rs
unfolding read_messages read_messages_of
read_same f g cycle empty = refl
read_same f g cycle (also {x = r} {l = rs} e rest) = rw (e, read_same f g cycle rest)

-- the readers in memory are the plan's
pub readers_same : (p : Plan) → PlanKept p → (r : Readers) → r ≡ readers_laid (readers_of p) → (t : ℕ) → t < most_tasks
    → readers_seen r.counts r.periods t ≡ readers_of p t
readers_same p k r e t w = ap (λ (x : Readers). readers_seen x.counts x.periods t) e ∙ plan_readers_seen p k t w

module _ (p : Plan) (k : PlanKept p) (left : InEdition p) (runs : Runs) (period : ℕ) (r : runs ≡ runs_laid (bus_runs p)) (e : period ≡ (traffic p).period)
    (readers : ℕ → List ℕ) (same : (t : ℕ) → t < most_tasks → readers t ≡ readers_of p t) where
  pub runs-few : runs.count ≤ 64
  unfolding runs_laid
  runs-few = rw r (few-runs p k)

  seen-runs : runs_seen runs ≡ bus_runs p
  seen-runs = ap runs_seen r ∙ laid-seen (bus_runs p) (few-runs p k)

  bus-run : (i : Invocation) → InvocationKept p i → (i.task < most_tasks)
  bus-run i h = omega (arith, h.task, k.task_count.most)

  runs_same : All (λ (x : Run). readers x.task ≡ readers_of p x.task) (bus_runs p)
  unfolding bus_runs run_of
  runs_same = all_map (run_of p) (all_weaker (λ i h. same i.task (bus-run i h)) (all_keep (of_bus_task p) k.invocations))

  pub all_read : AreRead readers period (runs_seen runs)
  unfolding bus_runs run_of of_bus_task
  all_read =
      rw (seen-runs, e)
      (all_map (run_of p)
      (all_weaker (λ i h. rw (same i.task (bus-run i h.0)) (readers_go p k left i.task h.1))
      (all_both (all_keep (of_bus_task p) k.invocations) (keep-passes (of_bus_task p) p.invocations))))

  module _ (s : some_bus_task p ≡ true) (d : (traffic p).period ∣ (traffic p).grid) where
    pub period-short : period ≤ 1000000
    period-short = rw e (short-period p k s d).most

    pub all_fair : all (is_fair period) (runs_seen runs) ≡ true
    all_fair = rw e (runs-fair p k s d r)

  module _ (f : Frames) (is : f ≡ frames_laid (pairs_of (read_messages readers period (runs_seen runs)))) where
    pub frames-laid : f ≡ frames_laid (pairs p)
    unfolding pairs
    frames-laid =
        is
        ∙ ap (λ (ms : List Message). frames_laid (pairs_of ms))
        (ap₂ (read_messages readers) e seen-runs ∙ read_same readers (readers_of p) (traffic p).period runs_same ∙ sym (needed_exact p k))

    count-is : f.count ≡ min (suc most_frames) (length (pairs p))
    unfolding frames_laid
    count-is = rw frames-laid

    pub few-frames : f.count ≤ most_frames → f.count ≡ length (pairs p)
    few-frames h = let c : f.count ≡ min (suc most_frames) (length (pairs p)) = count-is in omega arith

    module _ (rest : layout p ≡ framing p) where
      pub nine : most_frames < f.count → layout p ≡ refuse 9 0
      unfolding framing
      nine h =
          let c : f.count ≡ min (suc most_frames) (length (pairs p)) = count-is in
          let l : most_frames < length (pairs p) = omega arith in
          rest ∙ rw (lt-leb (length (pairs p)) most_frames l)

      pub onward : f.count ≤ most_frames → layout p ≡ closing p
      unfolding framing
      onward h = rest ∙ rw (le-leb (length (pairs p)) most_frames (rw (few-frames h) at h))

-- ---- behind refusals 10 and 11: where they pass, the frames laid before are those of the line

verdict-laid : (p : Plan) (m : Res Layout) → verdict (◌>>◌ m (ok p)) ≡ ok tt → ◌>>◌ m (ok p) ≡ ok p
verdict-laid p (ok l) e = refl
verdict-laid p (refuse n k) e = refuse≢ok e

module _ (p : Plan) (r : Result Line Refusal) (c : Closes r (laid p)) where
  pub fine-laid : {n : ℕ} {l : Line} {tasks releases deadlines : List ℕ} → r ≡ Ok l → frames_with n tasks releases deadlines ≡ frames_laid (pairs p)
      → Lays r tasks releases deadlines (laid p)
  unfolding laid
  fine-laid e f =
      let s : laid p ≡ ok p = verdict-laid p (layout p) (rw (← c.answered, e)) in
      record { answered = c.answered; left = rw s (drawing-is p (rw s at c.left) f) }

  pub refused-is : (x : Refusal) → r ≡ Err x → laid p ≡ said x
  refused-is x e = verdict-refused (number_of x) (place_of x) (laid p) (rw (← c.answered, e))
