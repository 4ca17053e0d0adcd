use Rattle.cells.proofs.Vocabulary.{◌≡◌, ◌+◌, length, min, ◌-◌, ap, ◌∙◌, arith, cut_of, blank}
use Rattle.cells.proofs.Cutting.{IsPaired-cut_of}
use Rattle.cells.proofs.Moves.{calls_are, moved_line}
use Rattle.cells.proofs.Splicing.{moved_line-is, cut_thrice, length-cut_thrice}
use Rattle.cells.proofs.edits.splice.Goals as goal

pub cut-requires-2 : goal.cut-requires-2
cut-requires-2 c = record { paired = rw c.cut.ensures (IsPaired-cut_of c.args.at _ c.requires.paired) }

pub cut-requires-3 : goal.cut-requires-3
cut-requires-3 c = record {
  paired = rw (c.cut-2.ensures, c.cut.ensures)
      (IsPaired-cut_of c.args.rest _ (IsPaired-cut_of c.args.at _ c.requires.paired));
}

pub returns : goal.returns
returns c =
    let m : c.min-moved.result ≡ min (length c.args.cells.now - c.args.rest)
    (length c.args.cells.now - (c.args.at + c.args.count)) = c.min-moved.ensures in
    let inside = c.requires.inside in let room = c.requires.room in
    let cut : c.cut-3.new.cells ≡ cut_thrice c.args.at c.args.count c.args.rest c.args.cells.now =
    c.cut-3.ensures
    ∙ ap (λ x. cut_of (c.args.rest + c.min-moved.result) x)
    (c.cut-2.ensures ∙ ap (λ x. cut_of c.args.rest x) c.cut.ensures)
    ∙ ap (λ n. cut_of (c.args.rest + n) (cut_of c.args.rest (cut_of c.args.at c.args.cells.now))) m in
    let same : length c.cut-3.new.cells ≡ length c.args.cells.now = ap length cut
    ∙ length-cut_thrice c.args.at c.args.count c.args.rest c.args.cells.now in
    calls_are blank c.cut-3.new.cells c.copy_to.new.cells c.fill.new.self c.fill-2.new.self c.args.at
    (c.args.at + c.args.count) c.args.rest c.min-moved.result
    (omega arith) (omega arith) (omega arith) c.copy_to.ensures (c.fill.ensures.after (λ y h. h))
    (c.fill-2.ensures.after (λ y h. h))
    ∙ ap (λ x. moved_line blank x c.args.at (c.args.at + c.args.count) c.args.rest c.min-moved.result) cut
    ∙ ap (λ n. moved_line blank (cut_thrice c.args.at c.args.count c.args.rest c.args.cells.now) c.args.at
    (c.args.at + c.args.count) c.args.rest n) m
    ∙ moved_line-is c.args.at c.args.count c.args.rest c.args.cells.now c.requires.order c.requires.inside
    c.requires.room c.requires.changes c.requires.paired
