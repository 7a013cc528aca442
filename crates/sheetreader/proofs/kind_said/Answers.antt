-- Numbers that were read say what the kind makes of them (`said-some`), and are narrow; else nothing can be read (`said-none`).
use Rattle.std.proofs.Common.{drop}
use Rattle.text.specs.Lines.{words}
use Rattle.sheetreader.proofs.Sayings.{said_narrow, said-some}
use Rattle.sheetreader.proofs.kind_said.Goals as goal

pub said_by-requires : goal.said_by-requires
said_by-requires c =
    said_narrow c.args.kind (words (drop c.args.at c.args.s.now)) c.numbers_from.ensures (c.in_ok-values.was {u = tt})

pub returns : goal.returns
returns c =
    said-some c.args.kind (words (drop c.args.at c.args.s.now)) c.numbers_from.ensures (c.in_ok-values.was {u = tt}) c.said_by.ensures
