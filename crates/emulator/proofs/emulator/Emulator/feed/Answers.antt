use Rattle.emulator.proofs.Vocabulary.{refl, sym, subst, unit_list, Parts, StandsFor}
use Rattle.emulator.proofs.Feeding.{byte-read}
use Rattle.emulator.proofs.emulator.Emulator.feed.Goals as goal

pub returns-clause-read : goal.returns-clause-read
returns-clause-read c = λ t h.
    byte-read _ _ c.push_units-report.new.self c.follow_coding.new.self t c.args.byte (unit_list c.push-units.result)
    c.push_units-report.result (subst (λ (e : Parts). StandsFor e t) (sym c.self.view_is) h) refl refl
    c.push-units.ensures.coding c.push-units.ensures.next c.push_units-report.ensures.read
    c.push_units-report.ensures.decoding c.follow_coding.ensures.screen c.follow_coding.ensures.parsing
    c.follow_coding.ensures.decoding
