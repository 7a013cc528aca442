-- The table of the source is what `length_byte` computes to, kind by kind (`looked_up`); 255 stands there for the unknown kinds alone.
use Rattle.std.proofs.Common.{◌≡◌, ◌∙◌, get_or, length, rules}
use Rattle.laws.specs.Lists.{tab}
use Rattle.rules.specs.Records.{known, body_length, fields, kinds}
use Rattle.records.specs.Kinds.{length_byte}
use Rattle.records.proofs.LengthTable.{looked_up}
use Rattle.records.proofs.kinds.length_byte.Goals as goal

pub returns : goal.returns
unfolding length_byte known body_length fields kinds
returns c =
    let raw : c.unwrap_or.result ≡ get_or (tab length_byte 0 (length kinds)) c.args.kind 255 = search rules in
    raw ∙ looked_up c.args.kind
