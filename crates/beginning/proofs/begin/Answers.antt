-- Two cases of `passed`: refused (`refused-begins`), or passed (`passed_begins`), where `kept_ready` is what `kept` requires.
use mathlib.Core.Path.{subst}
use Rattle.std.specs.Prelude.{Result}
use Rattle.answers.specs.declared.Refusal.{Refusal}
use Rattle.rules.specs.Checker.{check_files}
use Rattle.checker.specs.Passing.{Passes}
use Rattle.checker.specs.declared.Passing.{Passing}
use Rattle.beginning.proofs.Passing.{refused-begins, kept_ready, passed_begins}
use Rattle.beginning.proofs.begin.Goals as goal

pub kept-station-requires : goal.kept-station-requires
kept-station-requires c =
    let a = c.args in
    let w = c.passed.new in
    let says = subst (λ (r : Result Passing Refusal). Passes r w.tasks w.deadlines w.starts (check_files a.plan.now a.table.now)) c.in-Ok.is c.passed.ensures in
    let ready = kept_ready a.plan.now a.table.now c.in-Ok.passing says in
    record { plan_kept = ready.0; controls_le_most_nodes = ready.1.0; stops_fit = ready.1.1 }

pub returns-in-Err : goal.returns-in-Err
returns-in-Err c =
    let a = c.args in
    let w = c.passed.new in
    let says = subst (λ (r : Result Passing Refusal). Passes r w.tasks w.deadlines w.starts (check_files a.plan.now a.table.now)) c.in-Err.is c.passed.ensures in
    refused-begins a.plan.now a.table.now a.starting c.in-Err.why says c.refused.ensures

pub returns-in-Ok : goal.returns-in-Ok
returns-in-Ok c =
    let a = c.args in
    let w = c.passed.new in
    let says = subst (λ (r : Result Passing Refusal). Passes r w.tasks w.deadlines w.starts (check_files a.plan.now a.table.now)) c.in-Ok.is c.passed.ensures in
    passed_begins a.plan.now a.table.now c.in-Ok.passing says a.starting c.kept-station.ensures c.begin_with.ensures
