use Rattle.emulator.proofs.Vocabulary.{[], sym, ap, ◌∙◌, subst, arith, Coding, Terminal, ready, reads, Screen, Parts}
use Rattle.emulator.proofs.Vocabulary.{StandsFor}
use Rattle.emulator.proofs.Feeding.{reads-more, stands-ready}
use Rattle.emulator.proofs.emulator.Emulator.write_anew.Goals as goal

pub bytes-init : goal.bytes-init
unfolding reads
bytes-init c = λ t h.
    let k = subst (λ (e : Parts). StandsFor e t) (sym c.self.view_is) h in
    stands-ready _ t.screen k.terminal.sound k.screen
    (c.set_coding.ensures.starts
    ∙ ap (λ (coding : Coding). record { coding = coding; rest = [] })
    (c.coding.ensures ∙ ap (λ (x : Screen). x.state.coding) k.screen))
    c.new-self-inside.ensures.starts

pub bytes-preserved : goal.bytes-preserved
bytes-preserved c = λ t h.
    subst (λ (u : Terminal). StandsFor c.feed.new.self u)
    (sym (reads-more (ready t.screen) c.args.bytes.now c.bytes.byte-index (omega arith)))
    (c.feed.ensures.read _ (c.bytes.invariant t h)).stands
