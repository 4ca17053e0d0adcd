use Rattle.acl.proofs.Vocabulary.{[], ◌∙◌, ◌∷◌, sym, subst, arith, slice_index_or, Act, Known, followed_by}
use Rattle.acl.proofs.Vocabulary.{AllMayFollow, makes_known, sets_mask}
use Rattle.acl.proofs.PlanLemmas.{counted}
use Rattle.acl.proofs.InPlace.{drop-next}
use Rattle.acl.proofs.carry.apply_all.Goals as goal

pub loop-act-preserved : goal.loop-act-preserved
loop-act-preserved g c = let none : Act = Known (record { name = [] }) in record {
  stands = λ edition owner h s all.
      let so = c.loop-act.invariant.stands edition owner h s all in
      let act = slice_index_or c.args.acts.now c.loop-act.act-index none in
      let next = drop-next c.args.acts.now c.loop-act.act-index none (omega arith) in
      let may = subst (AllMayFollow edition owner so.0) (sym next) so.2 in
      let stood = c.apply.ensures.stands edition owner so.0 so.1 may.0 in (
        act ∷ so.0,
        stood,
        may.1,
        (λ i. followed_by so.0 (next i))
            ∙ so.3,
        λ f. c.follow.ensures edition owner so.0 (so.4 f) may.0 stood,
      );
  rows = omega (
    arith,
    counted makes_known c.args.acts.now c.loop-act.act-index none (omega arith),
    c.apply.ensures.rows_left,
    c.loop-act.invariant.rows,
  );
  masks = omega (
    arith,
    counted sets_mask c.args.acts.now c.loop-act.act-index none (omega arith),
    c.apply.ensures.masks_left,
    c.loop-act.invariant.masks,
  );
}
