-- Each exit is a case of the rule's end: `ten_message`, `ten_control`, `eleven` or `sound`, by the tests failed and passed.
use mathlib.Core.Path.{refl, sym, ap, ◌∙◌}
use native.Mathlib.Omega.{arith}
use Rattle.plan.specs.Memory.{seen, count_seen, bus_seen}
use Rattle.answers.specs.declared.Refusal.TheVariants.{PayloadTooLarge, ControlTooLong}
use Rattle.bus.specs.declared.senders.Senders.{Senders}
use Rattle.bus.specs.Senders.{senders_of}
use Rattle.std.specs.Prelude.{Ok}
use Rattle.line.proofs.Ways.{closes_refused, closes_sound, ten_message, ten_control, eleven, sound}
use Rattle.line.proofs.closed.Goals as goal

pub returns-then-not-messages_fit : goal.returns-then-not-messages_fit
unfolding seen senders_of count_seen bus_seen
returns-then-not-messages_fit c =
    closes_refused PayloadTooLarge _ refl _
    (ten_message (seen c.args.p) _ _ (omega (arith, c.requires.plan_kept.task_count.most))
    (omega (arith, c.requires.plan_kept.node_count.most)) (ap (λ (x : Senders). x.tasks) c.requires.senders_value)
    (ap (λ (x : Senders). x.payloads) c.requires.senders_value) c.requires.p_value
    (sym c.messages_fit.ensures ∙ c.if-not-messages_fit.true))

pub controls_fit-requires : goal.controls_fit-requires
unfolding seen senders_of count_seen bus_seen
controls_fit-requires c =
    (omega (arith, c.requires.plan_kept.node_count.most))

pub returns-then-not-controls_fit : goal.returns-then-not-controls_fit
unfolding seen senders_of count_seen bus_seen
returns-then-not-controls_fit c =
    closes_refused PayloadTooLarge _ refl _
    (ten_control (seen c.args.p) _ _ (omega (arith, c.requires.plan_kept.task_count.most))
    (omega (arith, c.requires.plan_kept.node_count.most)) (ap (λ (x : Senders). x.tasks) c.requires.senders_value)
    (ap (λ (x : Senders). x.payloads) c.requires.senders_value) c.requires.p_value
    (sym c.messages_fit.ensures ∙ c.if-not-messages_fit.false)
    (sym c.controls_fit.ensures ∙ c.if-not-controls_fit.true))

pub control_end-end-requires : goal.control_end-end-requires
unfolding seen senders_of count_seen bus_seen
control_end-end-requires c =
    record { p_bound = c.requires.plan_kept.node_count.most; payloads_value = ap (λ (x : Senders). x.payloads) c.requires.senders_value }

pub returns-then-from-end : goal.returns-then-from-end
unfolding seen senders_of count_seen bus_seen
returns-then-from-end c =
    closes_refused ControlTooLong _ refl _
    (eleven (seen c.args.p) _ _ (omega (arith, c.requires.plan_kept.task_count.most))
    (omega (arith, c.requires.plan_kept.node_count.most)) (ap (λ (x : Senders). x.tasks) c.requires.senders_value)
    (ap (λ (x : Senders). x.payloads) c.requires.senders_value) c.requires.p_value
    (sym c.messages_fit.ensures ∙ c.if-not-messages_fit.false)
    (sym c.controls_fit.ensures ∙ c.if-not-controls_fit.false)
    (omega (arith, c.from.ensures, c.if-from-end.true, c.control_end-end.ensures, c.requires.period_value.0)))

pub control_rows-control-requires : goal.control_rows-control-requires
unfolding seen senders_of count_seen bus_seen
control_rows-control-requires c =
    record {
      p_bound = c.requires.plan_kept.node_count.most;
      payloads_value = ap (λ (x : Senders). x.payloads) c.requires.senders_value;
      p_bound_2 = omega (arith, c.from.ensures, c.if-from-end.false, c.control_end-end.ensures, c.requires.period_value.1);
    }

pub line_of-requires : goal.line_of-requires
unfolding seen senders_of count_seen bus_seen
line_of-requires c =
    record {
      plan_kept = c.requires.plan_kept;
      period_value = (
        c.requires.period_value.0,
        c.control_end-end.ensures,
        omega (arith, c.from.ensures, c.if-from-end.false, c.requires.period_value.1),
      );
      control_value = c.control_rows-control.ensures;
      count_value = c.requires.count_value;
    }

pub returns : goal.returns
unfolding seen senders_of count_seen bus_seen
returns c =
    let a = c.args in
    closes_sound (seen a.p) _ (ap Ok c.line_of.ensures)
    (sound (seen a.p) _ _ (omega (arith, c.requires.plan_kept.task_count.most)) (omega (arith, c.requires.plan_kept.node_count.most))
    (ap (λ (x : Senders). x.tasks) c.requires.senders_value) (ap (λ (x : Senders). x.payloads) c.requires.senders_value)
    c.requires.p_value (sym c.messages_fit.ensures ∙ c.if-not-messages_fit.false)
    (sym c.controls_fit.ensures ∙ c.if-not-controls_fit.false)
    (omega (arith, c.from.ensures, c.if-from-end.false, c.control_end-end.ensures, c.requires.period_value.0)))
