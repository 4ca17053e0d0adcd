use Rattle.rights.proofs.Vocabulary.{false, ◌∙◌, ◌∷◌, ◌++◌, [], ap, length, sym, take, Known, Set, Read, BitChange}
use Rattle.rights.proofs.Vocabulary.{sets_on}
use Rattle.std.proofs.Common.{◌<◌, get_or, arith}
use Rattle.std.proofs.lemmas.List.{take_all, take_more, map_more}
use Rattle.rights.proofs.runs.are_sets.Goals as goal

pub places-preserved : goal.places-preserved
places-preserved c =
    let i = c.places.i in
    let nobody = Known (record { name = [] }) in
    let room : i < length c.args.changes.now = omega (arith, c.places-test.true, c.if-acts-changes.false) in
    let f = λ (x : BitChange). Set c.args.user x.bit c.args.object x.value in
    let one = c.is_set.ensures c.if-not-is_set.false in
    take_more c.args.acts.now i nobody c.places-test.true
    ∙ (ap (λ xs. xs ++ get_or c.args.acts.now i nobody ∷ []) c.places.invariant
    ∙ (ap (λ a. sets_on c.args.user (take i c.args.changes.now) c.args.object ++ a ∷ []) one
    ∙ sym (map_more f c.args.changes.now i (record { bit = Read; value = false }) room)))

pub returns : goal.returns
returns c = λ done.
    sym (take_all c.places.i c.args.acts.now c.places-test.false)
    ∙ (c.places.invariant
    ∙ ap (λ xs. sets_on c.args.user xs c.args.object)
    (take_all c.places.i c.args.changes.now (omega (arith, c.places-test.false, c.if-acts-changes.false))))
