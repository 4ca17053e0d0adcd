use Rattle.cells.proofs.Vocabulary.{◌≡◌, ◌++◌, length, take, drop, replicate, length-take, ap, ◌∙◌, arith, blank}
use Rattle.cells.proofs.Used.{cleared_is}
use Rattle.cells.proofs.OverPlain.{cleared_plain}
use Rattle.cells.proofs.line.clear_used.Goals as goal

pub blank_plain-requires-clause-plain : goal.blank_plain-requires-clause-plain
blank_plain-requires-clause-plain c = c.requires.plain c.if-is_plain.true

pub blank_plain-requires-clause-blank : goal.blank_plain-requires-clause-blank
blank_plain-requires-clause-blank c = λ k h. c.requires.blank k (omega arith)

pub returns-then-is_plain : goal.returns-then-is_plain
returns-then-is_plain c = cleared_plain c.args.used c.args.cells.now c.blank_plain.new.cells c.requires.inside
    c.requires.blank c.blank_plain.ensures

pub returns : goal.returns
returns c =
    let front : length (take c.args.used c.args.cells.now) ≡ c.args.used = simp length-take (omega arith) in
    ap (λ front. front ++ drop c.args.used c.args.cells.now)
    (c.blank_all.ensures ∙ ap (λ n. replicate n blank) front)
    ∙ cleared_is c.args.used c.args.cells.now c.requires.inside c.requires.blank
