use Rattle.emulator.proofs.Vocabulary.{◌∷◌, [], refl, sym, ◌∙◌, subst, append-nil, Parts, StandsWithin}
use Rattle.emulator.proofs.Feeding.{unit-read}
use Rattle.emulator.proofs.emulator.Emulator.push_unit.Goals as goal

pub returns-in-Some-clause-read : goal.returns-in-Some-clause-read
returns-in-Some-clause-read c = λ t h.
    let k = subst (λ (e : Parts). StandsWithin e t) (sym c.self.view_is) h in
    let n = c.in-Some.ensures.next t.unended k.opened k.parsing in
    unit-read _ _ t c.args.unit _ (c.in-Some.func ∷ []) k n.0 c.apply.ensures.effect n.1
    (c.apply.ensures.report ∙ sym (append-nil _))

pub returns-in-None-clause-read : goal.returns-in-None-clause-read
returns-in-None-clause-read c = λ t h.
    let k = subst (λ (e : Parts). StandsWithin e t) (sym c.self.view_is) h in
    let n = c.in-None.ensures.next t.unended k.opened k.parsing in
    unit-read _ _ t c.args.unit _ [] k n.0 refl n.1 c.none.ensures
