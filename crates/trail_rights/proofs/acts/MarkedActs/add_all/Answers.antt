use Rattle.trail_rights.proofs.Vocabulary.{◌∙◌, ◌∷◌, [], refl, ap, sym, subst, slice_index_or, arith, Known, drop-next}
use Rattle.trail_rights.proofs.Vocabulary.{drop-past, marked_by, HasKept}
use Rattle.trail_rights.proofs.acts.MarkedActs.add_all.Goals as goal

pub loop-act-init : goal.loop-act-init
loop-act-init c = (λ marked s. (marked, s, refl), refl)

pub loop-act-preserved : goal.loop-act-preserved
loop-act-preserved c = (
  λ marked s.
      let i = c.loop-act.invariant.0 marked s in
      let a = slice_index_or c.args.acts.now c.loop-act.act-index (Known (record { name = [] })) in
      let next = drop-next c.args.acts.now c.loop-act.act-index (Known (record { name = [] })) (omega arith) in
      ((c.args.mark, a) ∷ i.0, c.in_ok-add.ensures.keeps i.0 i.1, ap (marked_by c.args.mark i.0) next ∙ i.2),
  c.in_ok-add.ensures.asked ∙ c.loop-act.invariant.1,
)

pub returns-clause-keeps : goal.returns-clause-keeps
returns-clause-keeps c = λ marked s.
    let i = c.loop-act.invariant.0 marked s in
    let none = drop-past c.loop-act.act-index c.args.acts.now c.loop-act-test.false in
    subst (HasKept c.loop-act.self) (ap (marked_by c.args.mark i.0) (sym none) ∙ i.2) i.1
