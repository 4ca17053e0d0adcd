use Rattle.hub_ledger.proofs.Vocabulary.{◌≡◌, ◌∙◌, ◌∷◌, ◌++◌, [], Some, ap, subst, sym, happening, Ending, kept_of}
use Rattle.hub_ledger.proofs.Vocabulary.{Receipt, IsReceived}
use Rattle.hub_record.specs.Growing.{kept_by}
use Rattle.hub_ledger.proofs.filed_session.FiledSession.file.Goals as goal

pub returns-clause-told : goal.returns-clause-told
returns-clause-told c =
    let event = kept_of (happening c.args.event) in
    let copy = c.in-Some.copy.event in
    let same : Some copy ≡ event = sym (ap kept_by c.in-Some.is) ∙ c.in_ok-copy.ensures in
    let receipt : Ending → Receipt = λ (e : Ending). record { place = c.len-place.result; event = copy; reply = e } in
    subst (λ n. IsReceived event c.in_ok-made.made.0 n c.args.told.now.receipts c.push.new.self.receipts)
    c.len-place.ensures
    (record {
      below = c.are_below.ensures.0 c.if-not-are_below.false;
      more = (copy, sym same, c.push.ensures ∙ (λ i. c.reserve.ensures.same i ++ receipt (c.of-ending.ensures i) ∷ []));
    })
