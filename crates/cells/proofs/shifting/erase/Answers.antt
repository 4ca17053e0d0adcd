use Rattle.cells.proofs.Vocabulary.{◌≡◌, ◌+◌, ◌-◌, List, length, replicate, sym, ap, ◌∙◌, subst, arith}
use Rattle.cells.proofs.Vocabulary.{length-replicate, Cell, blank, cells_from, cut_of, spliced, IsPut}
use Rattle.cells.proofs.Cutting.{IsPaired-cut_of}
use Rattle.cells.proofs.Settling.{length-cut_of}
use Rattle.cells.proofs.Putting.{put_narrow_is}
use Rattle.cells.proofs.UsedSplices.{blanks_at}
use Rattle.cells.proofs.shifting.erase.Goals as goal

pub cut-requires-2 : goal.cut-requires-2
cut-requires-2 c = record { paired = rw c.cut.ensures (IsPaired-cut_of c.args.at _ c.requires.paired) }

pub returns : goal.returns
returns c =
    let cells : List Cell = c.args.cells.now in
    let count = c.args.end - c.args.at in
    let fresh : List Cell = replicate count blank in
    let end : c.args.at + length fresh ≡ c.args.end = omega (arith, length-replicate count blank, c.requires.some) in
    let cut : c.cut-2.new.cells ≡ cut_of (c.args.at + length fresh) (cut_of c.args.at cells) =
    c.cut-2.ensures ∙ ap (cut_of c.args.end) c.cut.ensures ∙ ap (λ n. cut_of n (cut_of c.args.at cells)) (sym end) in
    put_narrow_is c.args.at fresh cells c.blank_out.new.cells (rw end c.requires.inside)
    (omega (arith, end, c.requires.some)) c.requires.paired
    (length-cut_of (c.args.at + length fresh) (cut_of c.args.at cells) ∙ length-cut_of c.args.at cells)
    (subst (λ (old : List Cell). IsPut c.args.at fresh old c.blank_out.new.cells) cut c.blank_out.ensures)
    (λ column h g. ap (λ (x : Cell). x.shape) (blanks_at count column))
    ∙ ap (λ n. cells_from (spliced c.args.at fresh n (length cells)) cells) end
