use Rattle.emulator.proofs.Vocabulary.{refl, sym, subst, Parts, StandsFor}
use Rattle.emulator.proofs.Feeding.{stands-resized}
use Rattle.emulator.proofs.emulator.Emulator.resized.Goals as goal

pub returns-clause-ok : goal.returns-clause-ok
returns-clause-ok c = λ t h.
    stands-resized _ _ t c.args.rows c.args.columns c.in_ok-resized.ensures.size
    (subst (λ (e : Parts). StandsFor e t) (sym c.self.view_is) h) c.in_ok-resized.ensures.ok refl refl
