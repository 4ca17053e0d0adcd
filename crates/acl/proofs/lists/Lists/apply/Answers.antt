use Rattle.acl.proofs.Vocabulary.{◌∷◌, sym, subst, MayFollow, StandsFor, table_of}
use Rattle.acl.proofs.lists.Lists.apply.Goals as goal

pub returns-in-Known-clause-stands : goal.returns-in-Known-clause-stands
returns-in-Known-clause-stands c = λ edition owner h s follows.
    subst (λ act. StandsFor (table_of c.make_known.new.self) edition owner (act ∷ h)) (sym c.in-Known.is)
    (c.make_known.ensures.stands edition owner h s (subst (MayFollow edition owner h) c.in-Known.is follows))

pub returns-in-Gone-clause-stands : goal.returns-in-Gone-clause-stands
returns-in-Gone-clause-stands c = λ edition owner h s follows.
    subst (λ act. StandsFor (table_of c.make_gone.new.self) edition owner (act ∷ h)) (sym c.in-Gone.is)
    (c.make_gone.ensures.stands edition owner h s (subst (MayFollow edition owner h) c.in-Gone.is follows))

pub returns-in-Set-clause-stands : goal.returns-in-Set-clause-stands
returns-in-Set-clause-stands c = λ edition owner h s follows.
    subst (λ act. StandsFor (table_of c.set.new.self) edition owner (act ∷ h)) (sym c.in-Set.is)
    (c.set.ensures.stands edition owner h s (subst (MayFollow edition owner h) c.in-Set.is follows))

pub returns-in-Grouped-clause-stands : goal.returns-in-Grouped-clause-stands
returns-in-Grouped-clause-stands c = λ edition owner h s follows.
    subst (λ act. StandsFor (table_of c.set_leader.new.self) edition owner (act ∷ h)) (sym c.in-Grouped.is)
    (c.set_leader.ensures.stands edition owner h s (subst (MayFollow edition owner h) c.in-Grouped.is follows))

pub returns-in-Masked-clause-stands : goal.returns-in-Masked-clause-stands
returns-in-Masked-clause-stands c = λ edition owner h s follows.
    subst (λ act. StandsFor (table_of c.set_mask.new.self) edition owner (act ∷ h)) (sym c.in-Masked.is)
    (c.set_mask.ensures.stands edition owner h s (subst (MayFollow edition owner h) c.in-Masked.is follows))

pub returns-in-Preset-clause-stands : goal.returns-in-Preset-clause-stands
returns-in-Preset-clause-stands c = λ edition owner h s follows.
    subst (λ act. StandsFor (table_of c.set_preset.new.self) edition owner (act ∷ h)) (sym c.in-Preset.is)
    (c.set_preset.ensures.stands edition owner h s (subst (MayFollow edition owner h) c.in-Preset.is follows))
