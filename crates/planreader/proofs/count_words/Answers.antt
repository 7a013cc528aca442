use native.Mathlib.Omega.{arith}
use Rattle.planreader.proofs.Holding.{counting_none, counting_turn, counting_less, counting_end}
use Rattle.planreader.proofs.count_words.Goals as goal

pub loop-word-init : goal.loop-word-init
loop-word-init c = counting_none

pub overflow_add-count : goal.overflow_add-count
overflow_add-count c =
    let less = counting_less c.loop-word.invariant c.next_word.ensures c.in-Some.is in
    omega (arith, less.0)

pub loop-word-smaller : goal.loop-word-smaller
loop-word-smaller c = (counting_less c.loop-word.invariant c.next_word.ensures c.in-Some.is).1

pub loop-word-preserved : goal.loop-word-preserved
loop-word-preserved c = counting_turn c.loop-word.invariant c.next_word.ensures c.in-Some.is

pub returns : goal.returns
returns c = counting_end c.loop-word.invariant c.next_word.ensures c.in_default.is
