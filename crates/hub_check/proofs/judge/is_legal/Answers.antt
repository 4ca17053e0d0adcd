use Rattle.hub_check.proofs.Vocabulary.{◌≡◌, Bool, List, sym, subst, IfOk-weaker, Act, Verdict, Ending, AreOfUser}
use Rattle.hub_check.proofs.Vocabulary.{AreLet, IsOfKnown, AreTrue, FitsLine}
use Rattle.hub_check.proofs.Judged.{judged}
use Rattle.hub_check.proofs.judge.is_legal.Goals as goal

pub returns : goal.returns
returns c =
    let e = c.args.entry.now in
    let owner = c.args.owner in
    let event = c.event-event.result.now in
    let is : event ≡ e.event = c.event-event.ensures in
    let vs = c.verdicts-verdicts.ensures in
    IfOk-weaker c.fits_line.result _ _
    (λ (b : Bool) f edition h s. (
      λ yes. judged edition owner h e event is
          (subst (AreTrue edition owner h) vs ((c.are_true.ensures edition owner h s).0 c.if-not-are_true.false))
          (subst (AreOfUser h event) vs ((c.are_of_user.ensures edition owner h s).0 c.if-not-are_of_user.false))
          (subst (λ (a : List Act). AreLet event e.verdicts a) c.acts.ensures
          (subst (λ (v : List Verdict). AreLet event v c.acts.result.now) vs
          (c.are_let.ensures.0 c.if-not-are_let.false)))
          (c.is_answered.ensures.0 c.if-not-is_answered.false)
          ((c.fits.ensures edition owner h s).0 c.if-not-fits.false)
          (subst (λ (r : Ending). IsOfKnown owner h event r) c.ending.ensures
          ((c.is_of_known.ensures edition owner h s).0 c.if-not-is_of_known.false))
          ((f edition h s).0 yes),
      λ j. (f edition h s).1 (subst (λ k. FitsLine owner h k e) (sym is) (j.1.first, j.1.done, j.1.says)),
    ))
    c.fits_line.ensures
