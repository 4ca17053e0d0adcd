use Rattle.cells.proofs.Vocabulary.{◌≡◌, true, sym, ap, ◌∙◌, refl, and_parts, eq-eqb, eqb-true, Cell, codes_of, bits_of}
use Rattle.cells.proofs.Alike.{alike, same_marks, same_rendition}
use Rattle.cells.proofs.cell.Cell.is_like.Goals as goal

pub returns : goal.returns
returns c =
    let a : Cell = c.args.self.now in
    let b : Cell = c.args.other.now in (
      λ all.
          let last = and_parts _ c.eq-2.result all in
          let third = and_parts _ c.is_same_shape.result last.0 in
          let second = and_parts _ c.eq.result third.0 in
          let codes = and_parts _ _ (sym c.eq-2.ensures ∙ last.1) in
          alike a b (eqb-true a.character b.character second.0)
          (same_rendition a.rendition b.rendition (eqb-true _ _ (sym c.eq.ensures ∙ second.1)))
          (c.is_same_shape.ensures.0 third.1)
          (same_marks a.marks b.marks (eqb-true _ _ codes.0) (eqb-true _ _ codes.1)),
      λ like.
          let rendition : a.rendition ≡ b.rendition = ap (λ (x : Cell). x.rendition) like in
          let marks : a.marks ≡ b.marks = ap (λ (x : Cell). x.marks) like in
          let same : c.eq.result ≡ true = c.eq.ensures ∙ eq-eqb _ _ (ap bits_of rendition) in
          let first = eq-eqb (codes_of a.marks).0 (codes_of b.marks).0 (ap (λ m. (codes_of m).0) marks) in
          let second = eq-eqb (codes_of a.marks).1 (codes_of b.marks).1 (ap (λ m. (codes_of m).1) marks) in
          let marked : c.eq-2.result ≡ true = c.eq-2.ensures ∙ rw (first, second) refl in
          rw (
            eq-eqb a.character b.character (ap (λ (x : Cell). x.character) like),
            same,
            c.is_same_shape.ensures.1 (ap (λ (x : Cell). x.shape) like),
            marked,
          ) refl,
    )
