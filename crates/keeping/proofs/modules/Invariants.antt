-- Invariant: both arrays are filled below m (`Filled`), the senders read by number (`by_number-at`); `filled-all` ends it.
use lib.ListN.{replicate}
use Rattle.laws.proofs.Turns.{Filled}
use Rattle.places.specs.Flags.{flag_bytes}
use Rattle.rules.specs.Traffic.{module_node, is_sending}
use Rattle.plan.specs.Memory.{seen}
use Rattle.keeping.proofs.modules.Given as goal

abbrev pub invariant-loop-m : goal.invariant-loop-m
invariant-loop-m l =
    Filled (replicate 16 0) (module_node (seen l.p)) l.m l.sites × Filled (replicate 16 0) (flag_bytes (is_sending (seen l.p))) l.m l.sending
