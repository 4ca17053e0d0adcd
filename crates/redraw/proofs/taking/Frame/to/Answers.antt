use Rattle.redraw.proofs.Vocabulary.{◌≡◌, refl, subst, sym, [], MatchOption-at_some, View, NeedsDraw, IsDrawable}
use Rattle.redraw.proofs.Vocabulary.{Knowledge, CanBeShown, DrawsBytes, IsFrameFor}
use Rattle.redraw.proofs.Ends.{redraws}
use Rattle.redraw.proofs.taking.Frame.to.Goals as goal

pub invariant_of-result : goal.invariant_of-result
invariant_of-result c =
    let v : View = c.args.view.now in
    let k : Knowledge = c.args.shadow.now in
    let page : c.get.result.now ≡ v = c.get.ensures.value in
    let made : IsFrameFor k v c.in-Some.bytes.items = record {
      size = c.requires;
      draws = record {
        needed = subst (NeedsDraw k.known) page
            (MatchOption-at_some _ (λ _. NeedsDraw k.known c.get.result.now) c.in-Some.bytes c.in-Some.is
            c.in_ok-bytes.ensures.needed);
        redraws = λ od nd. redraws k.rows k.columns k.known v c.in-Some.bytes.items c.requires c.get.ensures.grid
            (subst (λ (w : View). CanBeShown k.known → IsDrawable w → DrawsBytes k.known w [] c.in-Some.bytes.items)
            page
            (MatchOption-at_some _
            (λ bytes. CanBeShown k.known → IsDrawable c.get.result.now
            → DrawsBytes k.known c.get.result.now [] bytes.items) c.in-Some.bytes c.in-Some.is
            c.in_ok-bytes.ensures.drawn) od nd);
        known = refl;
      };
    } in
    subst (λ (w : View). IsFrameFor c.in_ok-shared.field-0 w c.in-Some.bytes.items) (sym c.in_ok-shared-2.ensures)
    (subst (λ (s : Knowledge). IsFrameFor s v c.in-Some.bytes.items) (sym c.in_ok-shared.ensures) made)
