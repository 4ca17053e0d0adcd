use Rattle.emulator.proofs.Vocabulary.{◌+◌, [], List, ℕ, take, refl, ap, arith, Utf8, Func, Csi, effect-coding}
use Rattle.control_parser.proofs.Readings.{reads-spelled}
use Rattle.vt_screen.specs.Stored.{Stored}
use Rattle.emulator.proofs.Wholes.{one-taken, quiet-taken, front-two, front-more, nothing-whole}
use Rattle.emulator.proofs.emulator.Emulator.read_escape.Goals as goal

pub returns-in_default : goal.returns-in_default
returns-in_default c = nothing-whole c.args.self.now c.args.bytes.now

pub returns-then-not-sequence : goal.returns-then-not-sequence
returns-then-not-sequence c =
    quiet-taken Utf8 _ _ _ _ c.args.self.now c.args.bytes.now 0 [] c.self.view_is c.requires.idle (omega arith)
    (reads-spelled [] tt) tt (ap (λ (x : Stored). x.screen) (c.if-not-sequence.ensures.undone refl))

pub returns : goal.returns
returns c =
    let bytes : List ℕ = c.args.bytes.now in
    let n : ℕ = c.in-Some.found.size in
    let f : Func = Csi c.in-Some.found.mark (take c.in-Some.found.count c.first_sequence.new.params) []
    c.in-Some.found.last in
    let done = c.if-not-sequence.ensures.performed refl in (
      omega arith,
      one-taken Utf8 _ _ _ _ c.args.self.now bytes _ (2 + n) f c.self.view_is c.requires.idle
          (omega (arith, c.in-Some.ensures.few))
          (front-more bytes 0x1B 0x5B n (front-two bytes 0x1B 0x5B (omega arith) c.requires.begins (omega arith)))
          (c.in-Some.ensures.reads c.in-Some.ensures.some) (effect-coding c.self.inside.screen.screen f refl)
          done.silent done.screen,
    )
