use Rattle.view.proofs.Vocabulary.{arith, IfOk-weaker}
use Rattle.view.proofs.Writing.{vacant_text, unread_text, read_text}
use Rattle.view.proofs.region_rows.caption_text.Goals as goal

pub returns-in-Empty : goal.returns-in-Empty
returns-in-Empty c = IfOk-weaker c.from_str.result _ _ (λ t e. vacant_text c.args.pane.now _ c.in-Empty.is e)
    c.from_str.ensures.ok

pub returns-in-Hidden : goal.returns-in-Hidden
returns-in-Hidden c = IfOk-weaker c.format.result _ _
    (λ t e. unread_text c.args.pane.now c.in-Hidden.number _ c.in-Hidden.is (omega arith) e) c.format.ensures.ok

pub returns-in-Readable : goal.returns-in-Readable
returns-in-Readable c = IfOk-weaker c.format-in-Readable.result _ _
    (λ t e. read_text c.args.pane.now c.in-Readable.contents _ c.in-Readable.is (omega arith) e)
    c.format-in-Readable.ensures.ok
