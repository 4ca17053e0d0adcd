use Rattle.redraw.proofs.Vocabulary.{subst, ap, ◌∙◌, [], Option, Some, MatchOption-at_some, IsGrid, View, NeedsDraw}
use Rattle.redraw.proofs.Vocabulary.{IsDrawable, Knowledge, CanBeShown, DrawsBytes}
use Rattle.redraw.proofs.Ends.{redraws}
use Rattle.redraw.proofs.frames.frame_sparing.Goals as goal

pub returns-clause-drawn : goal.returns-clause-drawn
returns-clause-drawn c =
    let v : View = c.args.view in
    let k : Knowledge = c.args.shadow.now in
    let grid : IsGrid v.page = subst IsGrid (ap (λ (w : View). w.page) c.view.view_is) c.view.invariant.grid in record {
      needed = MatchOption-at_some _ (λ _. NeedsDraw k.known v) c.in-Some.bytes c.in-Some.is
          c.in_ok-bytes.ensures.needed;
      redraws = λ od nd. redraws k.rows k.columns k.known v c.in-Some.bytes.items c.requires.size grid
          (MatchOption-at_some _ (λ bytes. CanBeShown k.known → IsDrawable v → DrawsBytes k.known v [] bytes.items)
          c.in-Some.bytes c.in-Some.is c.in_ok-bytes.ensures.drawn od nd);
      known = ap (λ (s : Knowledge). record s { known = c.replace.new.dest }) c.shadow.view_is
          ∙ ap (λ (known : Option View). record k { known = known })
          (c.replace.ensures.after ∙ ap Some c.in_ok-known.ensures.value);
    }
