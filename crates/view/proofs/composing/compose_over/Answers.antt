use Rattle.view.proofs.Vocabulary.{map, refl, part_of}
use Rattle.view.proofs.FreePages.{lone_free}
use Rattle.view.proofs.composing.compose_over.Goals as goal

pub compose_on-requires-clause-free : goal.compose_on-requires-clause-free
compose_on-requires-clause-free c = λ s rows columns is.
    let covered = c.if-is_covered.ensures in
    lone_free c.args.rects.now (map part_of c.args.panes.now) c.args.status.now s rows columns is c.in-Some.view
    (covered.size refl) (covered.lone refl) (covered.grid refl)
