use Rattle.std.proofs.Common.{◌∷◌, []}
use Rattle.emulator.proofs.Feeding.{units-none, units-one, units-more}
use Rattle.emulator.proofs.emulator.Emulator.push_units.Goals as goal

pub returns-in-Nothing-clause-read : goal.returns-in-Nothing-clause-read
returns-in-Nothing-clause-read c = λ t h. rw (c.in-Nothing.is, c.none.ensures) (units-none t _ h)

pub returns-in-One-clause-read : goal.returns-in-One-clause-read
returns-in-One-clause-read c = λ t h. rw c.in-One.is (units-one t c.in-One.unit _ _ (c.push_unit.ensures.read t h))

pub returns-in-Two-clause-read : goal.returns-in-Two-clause-read
returns-in-Two-clause-read c = λ t h.
    let first = c.push_unit-report.ensures.read t h in
    let second = c.push_unit-next.ensures.read _ first.stands in
    rw (c.in-Two.is, c.extend.ensures, c.as_slice.ensures.items)
    (units-more t c.in-Two.first (c.in-Two.second ∷ []) _ _ _ _ first (units-one _ c.in-Two.second _ _ second))
