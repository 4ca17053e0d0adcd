use Rattle.redraw.proofs.Vocabulary.{◌≡◌, ◌++◌, refl, subst, ap, ◌∙◌, [], inl, inr, Some, MatchOption-at_some, IsGrid}
use Rattle.redraw.proofs.Vocabulary.{View, NeedsDraw, NeedsNoDraw, IsDrawable, Knowledge, CanBeShown, DrawsBytes}
use Rattle.std.proofs.lemmas.Option.{MatchOption-at_none}
use Rattle.redraw.proofs.Ends.{redraws}
use Rattle.redraw.proofs.frames.frame.Goals as goal

pub returns-clause-draws : goal.returns-clause-draws
returns-clause-draws c =
    let v : View = c.args.view.now in
    let k : Knowledge = c.args.shadow.now in
    let same : c.in_ok-known.known ≡ v = c.in_ok-known.ensures.value ∙ c.in_ok-copied.ensures in
    let grid : IsGrid v.page = subst IsGrid (ap (λ (w : View). w.page) same) c.in_ok-known.ensures.grid in inr (record {
      frame = c.in-Some.bytes.items;
      appended = c.in_ok-extend_from_slice.ensures.items
          ∙ ap (λ xs. c.args.out.now.items ++ xs) c.as_slice.ensures.value;
      draws = record {
        needed = MatchOption-at_some _ (λ _. NeedsDraw k.known v) c.in-Some.bytes c.in-Some.is
            c.in_ok-bytes.ensures.needed;
        redraws = λ od nd. redraws k.rows k.columns k.known v c.in-Some.bytes.items c.requires.size grid
            (MatchOption-at_some _ (λ bytes. CanBeShown k.known → IsDrawable v → DrawsBytes k.known v [] bytes.items)
            c.in-Some.bytes c.in-Some.is c.in_ok-bytes.ensures.drawn od nd);
        known = ap (λ (s : Knowledge). record s { known = Some c.in_ok-known.known }) c.shadow.view_is
            ∙ ap (λ (w : View). record k { known = Some w }) same;
      };
    })

pub returns-in_default-clause-draws : goal.returns-in_default-clause-draws
returns-in_default-clause-draws c = inl (record {
  known = MatchOption-at_none (NeedsNoDraw c.args.shadow.now.known c.args.view.now) _ c.in_default.is
      c.in_ok-bytes.ensures.needless;
  same = refl;
  bytes = refl;
})
