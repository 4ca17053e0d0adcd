use Rattle.command_lang.proofs.Vocabulary.{sym, ap, ◌∙◌, arith, true, false, nat_tests, word_fault}
use Rattle.command_lang.proofs.WordFaults.{fault-found, fault-passed, fault-end}
use Rattle.command_lang.proofs.table.words_fault.Goals as goal

pub returns-then-is_some : goal.returns-then-is_some
returns-then-is_some c = fault-found _ _ _ _ _ _ _ c.loop-i.invariant c.loop-i-test.true c.index-words-i.is
    (c.word_fault-fault.ensures ∙ ap (λ k. word_fault k c.index-words-i.result) c.kind_at.ensures)
    (sym c.is_some.ensures ∙ c.if-is_some.true)

pub loop-i-preserved : goal.loop-i-preserved
loop-i-preserved c = fault-passed _ _ _ _ _ _ _ c.loop-i.invariant c.loop-i-test.true c.index-words-i.is
    (c.word_fault-fault.ensures ∙ ap (λ k. word_fault k c.index-words-i.result) c.kind_at.ensures)
    (sym c.is_some.ensures ∙ c.if-is_some.false)

pub returns-then-words-least : goal.returns-then-words-least
returns-then-words-least c = fault-end _ _ _ _ _ _ true c.loop-i.invariant c.loop-i.auto.i-end c.loop-i-test.false
    c.least.ensures (grind (arith, nat_tests))

pub returns-else-words-least : goal.returns-else-words-least
returns-else-words-least c = fault-end _ _ _ _ _ _ false c.loop-i.invariant c.loop-i.auto.i-end c.loop-i-test.false
    c.least.ensures (grind (arith, nat_tests))
