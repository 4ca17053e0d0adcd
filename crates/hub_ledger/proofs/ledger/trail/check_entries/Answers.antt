use Rattle.hub_ledger.proofs.Vocabulary.{◌≡◌, ◌∙◌, ◌+◌, ◌∷◌, ◌++◌, [], ℕ, List, Ok, Err, ap, sym, subst, drop, take}
use Rattle.hub_ledger.proofs.Vocabulary.{length, get_or, arith, Result, take_more, take_all, get_or_from_slice_get}
use Rattle.hub_ledger.proofs.Vocabulary.{Entry, AreGood, IsBadAt, HasJudged}
use Rattle.std.proofs.lemmas.List.{take-append-drop, length-take-le}
use Rattle.acl.proofs.InPlace.{drop-next}
use Rattle.hub_check.specs.declared.CheckFault.{CheckFault}
use Rattle.hub_check.specs.declared.CheckFault.TheVariants.{BadEntry, NoMemory}
use Rattle.hub_ledger.proofs.ledger.trail.check_entries.Goals as goal

abbrev place_in : Result (Unit {0}) CheckFault → ℕ
place_in (Ok x) = 0
place_in (Err NoMemory) = 0
place_in (Err (BadEntry place)) = place

pub places-preserved : goal.places-preserved
places-preserved c =
    let es = c.args.entries.now.entries in
    let k = c.places.place in
    let e = c.at.result.now in
    let is : e ≡ get_or es k e = sym (get_or_from_slice_get es k e e c.at.ensures) in
    let t = c.in_ok-take.ensures c.args.edition c.args.owner (take k es) c.places.invariant in
    let next : take (k + 1) es ≡ take k es ++ e ∷ [] = take_more es k e
    (let l = c.places-test.true in let n = c.len-place-end.ensures in omega (arith, l, n))
    ∙ ap (λ (x : Entry). take k es ++ x ∷ []) (sym is) in
    subst (HasJudged c.take.new.self c.args.edition c.args.owner) (sym next) (t.0 c.if-not-branch.false)

pub returns-then-not-branch-clause-bad : goal.returns-then-not-branch-clause-bad
returns-then-not-branch-clause-bad c = λ place same.
    let es = c.args.entries.now.entries in
    let k = c.places.place in
    let e = c.at.result.now in
    let is : e ≡ get_or es k e = sym (get_or_from_slice_get es k e e c.at.ensures) in
    let t = c.in_ok-take.ensures c.args.edition c.args.owner (take k es) c.places.invariant in
    let next : e ∷ drop (k + 1) es ≡ drop k es = ap (λ (x : Entry). x ∷ drop (k + 1) es) is
    ∙ drop-next es k e (omega (arith, c.places-test.true, c.len-place-end.ensures)) in
    let whole : take k es ++ e ∷ drop (k + 1) es ≡ es = ap (λ (rest : List Entry). take k es ++ rest) next
    ∙ take-append-drop k es in
    let here : length (take k es) ≡ place = let told : k ≡ place = ap place_in same in length-take-le k es
    (omega (arith, c.places-test.true, c.len-place-end.ensures)) ∙ told in
    subst (λ l. IsBadAt c.args.edition c.args.owner [] l place) whole
    (subst (IsBadAt c.args.edition c.args.owner [] (take k es ++ e ∷ drop (k + 1) es)) here
    (t.1 c.if-not-branch.true (drop (k + 1) es)))

pub returns-clause-good : goal.returns-clause-good
returns-clause-good c = λ done. subst (AreGood c.args.edition c.args.owner [])
    (take_all c.places.place c.args.entries.now.entries (omega (arith, c.places-test.false, c.len-place-end.ensures)))
    c.places.invariant.good
