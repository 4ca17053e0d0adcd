use Rattle.hub_ledger.proofs.Vocabulary.{◌≡◌, ◌∙◌, ◌+◌, ◌<◌, ◌∷◌, ◌++◌, [], ℕ, List, Some, ap, sym, subst, take, length}
use Rattle.hub_ledger.proofs.Vocabulary.{true, slice_get, arith, AllByRecursion, take_more, take_all, append_assoc}
use Rattle.hub_ledger.proofs.Vocabulary.{append-nil, get_or_from_slice_get, Edition, UserId, History, followed_by}
use Rattle.hub_ledger.proofs.Vocabulary.{Verdict, Entry, CanFollow, AreJudgeable}
use Rattle.hub_trail.specs.Judging.{is_on_there}
use Rattle.hub_record.specs.EntryLists.{entry_in}
use Rattle.hub_ledger.proofs.ledger.turned.turned.Goals as goal

abbrev AreThere : List Verdict → List Verdict → Type 0
AreThere vs ws = (h : History) → AllByRecursion (λ v. is_on_there h v ≡ true) vs
    → AllByRecursion (λ v. is_on_there h v ≡ true) ws

module _ (edition : Edition) (owner : UserId) where
  -- an entry with the same acts, and with verdicts on objects that are there, in the place of another
  swapped : (h : History) (before : List Entry) (e f : Entry) (rest : List Entry) → f.acts ≡ e.acts
      → AreThere e.verdicts f.verdicts → AreJudgeable edition owner h (before ++ e ∷ rest)
      → AreJudgeable edition owner h (before ++ f ∷ rest)
  swapped h [] e f rest acts there can = (
    record {
      there = there h can.0.there;
      follow = subst (CanFollow edition owner h) (sym acts) can.0.follow;
    },
    subst (λ a. AreJudgeable edition owner (followed_by h a) rest) (sym acts) can.1,
  )
  swapped h (x ∷ before) e f rest acts there can =
      (can.0, swapped (followed_by h x.acts) before e f rest acts there can.1)

  one_more : (k : ℕ) (es list new : List Entry) (e f : Entry) → k < length es → slice_get es k ≡ Some e
      → new ≡ list ++ f ∷ [] → f.acts ≡ e.acts → AreThere e.verdicts f.verdicts
      → ((rest : List Entry) → AreJudgeable edition owner [] (take k es ++ rest)
      → AreJudgeable edition owner [] (list ++ rest))
      → (rest : List Entry) → AreJudgeable edition owner [] (take (k + 1) es ++ rest)
      → AreJudgeable edition owner [] (new ++ rest)
  one_more k es list new e f below at is acts there old rest can =
      let here : take (k + 1) es ≡ take k es ++ e ∷ [] = take_more es k e below
      ∙ ap (λ (x : Entry). take k es ++ x ∷ []) (get_or_from_slice_get es k e e at) in
      let from : take (k + 1) es ++ rest ≡ take k es ++ e ∷ rest = ap (λ (l : List Entry). l ++ rest) here
      ∙ append_assoc (take k es) (e ∷ []) rest in
      let to : list ++ f ∷ rest ≡ new ++ rest = sym (append_assoc list (f ∷ []) rest)
      ∙ ap (λ (l : List Entry). l ++ rest) (sym is) in
      subst (AreJudgeable edition owner []) to
      (swapped [] list e f rest acts there (old (e ∷ rest) (subst (AreJudgeable edition owner []) from can)))

pub places-preserved : goal.places-preserved
places-preserved c =
    let f = entry_in c.in_ok-copy.copy in
    one_more c.args.trail.now.edition c.args.trail.now.owner c.places.next c.args.trail.now.entries
    c.places.list.entries c.push.new.self.entries c.at.result.now f
    (omega (arith, c.places-test.true, c.len-next-end.ensures)) c.at.ensures
    (c.push.ensures ∙ ap (λ (l : List Entry). l ++ f ∷ []) c.reserve.ensures.same)
    c.in_ok-copy.ensures.acts c.in_ok-copy.ensures.there c.places.invariant

pub of-requires : goal.of-requires
of-requires c =
    let t = c.args.trail.now in
    let es = t.entries in
    let list = c.places.list.entries in
    let judged : List Entry → Type 0 = AreJudgeable t.edition t.owner [] in
    let whole : take c.places.next es ++ [] ≡ es = append-nil (take c.places.next es)
    ∙ take_all c.places.next es (omega (arith, c.places-test.false, c.len-next-end.ensures)) in
    let done : judged list = subst judged (append-nil list)
    (c.places.invariant [] (subst judged (sym whole) c.is_judgeable.ensures)) in
    subst (λ (e : Edition). AreJudgeable e c.owner.result [] list) (sym c.acl_edition.ensures)
    (subst (λ (u : UserId). AreJudgeable t.edition u [] list) (sym c.owner.ensures) done)
