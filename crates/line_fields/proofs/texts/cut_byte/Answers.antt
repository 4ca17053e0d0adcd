use Rattle.std.proofs.Common.{sym, ◌∙◌, ap}
use Rattle.line_fields.specs.Texts.{put_before, spelled}
use Rattle.line_fields.proofs.Spelled.{spelled-plain, spelled-no_high, spelled-no_low, spelled-escape}
use Rattle.line_fields.proofs.texts.cut_byte.Goals as goal

pub returns-then-byte-ne92-clause-some : goal.returns-then-byte-ne92-clause-some
returns-then-byte-ne92-clause-some c = spelled-plain _ _ _ c.in_ok-byte.ensures.cases.0 c.if-byte-ne92.true

pub returns-in_err-high-clause-none : goal.returns-in_err-high-clause-none
returns-in_err-high-clause-none c = λ _ _. spelled-no_high _ _ _ c.in_ok-byte.ensures.cases.0 c.if-byte-ne92.false
    c.in_err-high.ensures.cases

pub returns-in_err-low-clause-none : goal.returns-in_err-low-clause-none
returns-in_err-low-clause-none c = λ _ _. spelled-no_low _ _ _ _ _ c.in_ok-byte.ensures.cases.0 c.if-byte-ne92.false
    c.in_ok-high.ensures.cases.0 c.in_err-low.ensures.cases

pub returns-in_err-read_byte-clause-none : goal.returns-in_err-read_byte-clause-none
returns-in_err-read_byte-clause-none c = λ _ _.
    spelled-escape _ _ _ _ _ _ _ c.in_ok-byte.ensures.cases.0 c.if-byte-ne92.false c.in_ok-high.ensures.cases.0
    c.in_ok-low.ensures.cases.0
    ∙ ap (λ byte. put_before byte (spelled c.in_ok-low.rest.now)) (sym c.in_err-read_byte.ensures)

pub returns-clause-some : goal.returns-clause-some
returns-clause-some c =
    spelled-escape _ _ _ _ _ _ _ c.in_ok-byte.ensures.cases.0 c.if-byte-ne92.false c.in_ok-high.ensures.cases.0
    c.in_ok-low.ensures.cases.0
    ∙ ap (λ byte. put_before byte (spelled c.in_ok-low.rest.now)) (sym c.in_ok-read_byte.ensures)
