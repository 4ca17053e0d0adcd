use Rattle.cells.proofs.Vocabulary.{◌≡◌, ℕ, ◌+◌, ◌-◌, ◌≤◌, List, ◌++◌, length, take, drop, refl, sym, ap, ◌∙◌, subst}
use Rattle.cells.proofs.Vocabulary.{arith, length-take, length-drop, length-append, get_or, get_or-take, get_or-drop}
use Rattle.cells.proofs.Vocabulary.{get_or_append_left, get_or-append_right, Cell, blank, IsPut}
use borrow.Rule.Slice.PartMut.{put_mid}
use Rattle.cells.proofs.edits.copy_over.Goals as goal

module _ (at : ℕ) (fresh old : List Cell) (room : at + length fresh ≤ length old) where
  abbrev count : ℕ
  count = at + length fresh - at

  abbrev line : List Cell
  line = put_mid at count old fresh

  front_width : length (take at old) ≡ at
  front_width = simp length-take (omega arith)

  is_put : IsPut at fresh old line
  is_put = record {
    width = simp (length-append, length-take, length-drop) (omega arith);
    front = λ k h. get_or_append_left (take at old) (fresh ++ drop count (drop at old)) blank k
        (omega (arith, front_width)) ∙ get_or-take at old k blank h;
    placed = λ k h. let e : at + k - at ≡ k = omega arith in
        get_or-append_right (take at old) (fresh ++ drop count (drop at old)) at (at + k) blank front_width
        (omega arith)
        ∙ ap (λ i. get_or (fresh ++ drop count (drop at old)) i blank) e
        ∙ get_or_append_left fresh (drop count (drop at old)) blank k h;
    rest = λ k h. let e : at + (count + (k - at - length fresh)) ≡ k = omega arith in
        get_or-append_right (take at old) (fresh ++ drop count (drop at old)) at k blank front_width (omega arith)
        ∙ get_or-append_right fresh (drop count (drop at old)) (length fresh) (k - at) blank refl (omega arith)
        ∙ get_or-drop count (drop at old) (k - at - length fresh) blank
        ∙ get_or-drop at old (count + (k - at - length fresh)) blank
        ∙ ap (λ i. get_or old i blank) e;
  }

pub returns : goal.returns
returns c = subst
    (λ (copied : List Cell). IsPut c.args.at c.args.fresh.now c.args.cells.now
    (put_mid c.args.at (c.args.at + length c.args.fresh.now - c.args.at) c.args.cells.now copied))
    (sym c.copy_from_slice.ensures.after)
    (is_put c.args.at c.args.fresh.now c.args.cells.now c.requires.room)
