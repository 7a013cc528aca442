-- What the rules say where the code answers that there is nothing to refuse, or the first refusal.
use Rattle.std.specs.Prelude.{Result, Ok, Err}
use Rattle.laws.specs.Res.{Res, ok}
use Rattle.answers.specs.declared.Refusal.{Refusal}
use Rattle.answers.specs.Refusals.{said}

abbrev pub judged : Result (Unit {0}) Refusal → Res (Unit {0})
judged (Ok _) = ok tt
judged (Err x) = said x
