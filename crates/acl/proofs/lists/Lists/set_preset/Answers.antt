use Rattle.acl.proofs.Vocabulary.{◌∷◌, sym, subst, Preset, Bits, StandsFor, table_of}
use Rattle.acl_words.specs.declared.act.PresetKind.TheVariants as preset
use Rattle.acl.proofs.StandsForWindows.{StandsFor-Preset-windows, StandsFor-Preset-commands}
use Rattle.acl.proofs.lists.Lists.set_preset.Goals as goal

pub returns-in-Windows-clause-stands : goal.returns-in-Windows-clause-stands
returns-in-Windows-clause-stands c =
    let t = table_of c.args.self.now in
    λ edition owner h s follows.
    subst
    (λ k. StandsFor (record t { window_preset = c.with_bit-self.result }) edition owner
    (Preset k c.args.bit c.args.value ∷ h)) (sym c.in-Windows.is)
    (subst
    (λ (x : Bits). StandsFor (record t { window_preset = x }) edition owner
    (Preset preset.Windows c.args.bit c.args.value ∷ h)) (sym c.with_bit-self.ensures)
    (StandsFor-Preset-windows t edition owner h s c.args.bit c.args.value))

pub returns-in-Commands-clause-stands : goal.returns-in-Commands-clause-stands
returns-in-Commands-clause-stands c =
    let t = table_of c.args.self.now in
    λ edition owner h s follows.
    subst
    (λ k. StandsFor (record t { command_preset = c.with_bit-self-in-Commands.result }) edition owner
    (Preset k c.args.bit c.args.value ∷ h)) (sym c.in-Commands.is)
    (subst
    (λ (x : Bits). StandsFor (record t { command_preset = x }) edition owner
    (Preset preset.Commands c.args.bit c.args.value ∷ h)) (sym c.with_bit-self-in-Commands.ensures)
    (StandsFor-Preset-commands t edition owner h s c.args.bit c.args.value))
