use Rattle.std.proofs.Common.{◌≡◌, ◌+◌, ◌∙◌, length, false, sym, ap, subst, arith}
use Rattle.cells.specs.Line.{plain, cells_spliced, narrow_cells, ArePlainFrom, IsPaired}
use Rattle.cells.proofs.Splicing.{IsPaired-blanks}
use Rattle.cells.proofs.OverPlain.{blank_behind, cleared_behind, plain_blanks, plain_behind, put_over_plain}
use Rattle.cells.proofs.line.clear_behind_run.Goals as goal

pub put_run_over_plain-requires-clause-plain : goal.put_run_over_plain-requires-clause-plain
put_run_over_plain-requires-clause-plain c = c.requires.plain c.if-is_plain.true

pub blank_plain-requires-clause-plain : goal.blank_plain-requires-clause-plain
blank_plain-requires-clause-plain c = plain_behind c.args.codes.now c.args.cells.now c.put_run_over_plain.new.cells
    (c.requires.plain c.if-is_plain.true) c.put_run_over_plain.ensures

pub blank_plain-requires-clause-blank : goal.blank_plain-requires-clause-blank
blank_plain-requires-clause-blank c = blank_behind c.args.codes.now c.args.used c.args.cells.now
    c.put_run_over_plain.new.cells c.requires.blank c.put_run_over_plain.ensures

pub put_run_over_plain-requires-else-is_plain-clause-plain : goal.put_run_over_plain-requires-else-is_plain-clause-plain
put_run_over_plain-requires-else-is_plain-clause-plain c = subst (ArePlainFrom 0) (sym c.clear_used.ensures)
    (plain_blanks (length c.args.cells.now))

pub returns-else-is_plain : goal.returns-else-is_plain
returns-else-is_plain c =
    let n : 0 + length c.args.codes.now ≡ length c.args.codes.now = omega arith in
    put_over_plain 0 c.args.codes.now c.clear_used.new.cells c.put_run_over_plain-else-is_plain.new.cells
    (omega (arith, c.requires.room, c.clear_used.auto.cells))
    (subst IsPaired (sym c.clear_used.ensures) (IsPaired-blanks (length c.args.cells.now)))
    (subst (ArePlainFrom 0) (sym c.clear_used.ensures) (plain_blanks (length c.args.cells.now)))
    c.put_run_over_plain-else-is_plain.ensures
    ∙ ap (λ m. cells_spliced 0 (narrow_cells c.args.codes.now plain false) m c.clear_used.new.cells) n
    ∙ ap (cells_spliced 0 (narrow_cells c.args.codes.now plain false) (length c.args.codes.now)) c.clear_used.ensures

pub returns-then-is_plain : goal.returns-then-is_plain
returns-then-is_plain c = cleared_behind c.args.codes.now c.args.used c.args.cells.now c.put_run_over_plain.new.cells
    c.blank_plain.new.cells c.requires.room c.requires.blank c.put_run_over_plain.ensures c.blank_plain.ensures
