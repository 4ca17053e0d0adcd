use Rattle.emulator.proofs.Vocabulary.{◌∷◌, [], ◌++◌, List, ℕ, get_or, take, ◌≡◌, refl, ap, ◌∙◌, arith, take_more, Utf8}
use Rattle.emulator.proofs.Vocabulary.{Esc, spelled_reads, effect-coding, escape-coding, TakesWhole}
use Rattle.emulator.proofs.Wholes.{one-taken, front-two, nothing-whole}
use Rattle.emulator.proofs.emulator.Emulator.read_other_escape.Goals as goal

pub returns-then-bytes-lt-DEL : goal.returns-then-bytes-lt-DEL
returns-then-bytes-lt-DEL c =
    let bytes : List ℕ = c.args.bytes.now in
    let last : ℕ = get_or bytes 2 0 in
    let front : take 2 bytes ≡ 0x1B ∷ 0x28 ∷ [] = front-two bytes 0x1B 0x28 (omega arith) c.requires.begins
    (omega arith) in
    let read : TakesWhole c.args.self.now bytes 3 _ =
    one-taken Utf8 _ _ _ _ c.args.self.now bytes (0x1B ∷ 0x28 ∷ last ∷ []) 3 (Esc (0x28 ∷ []) last) c.self.view_is
    c.requires.idle (omega arith) (take_more bytes 2 0 (omega arith) ∙ ap (λ (v : List ℕ). v ++ last ∷ []) front)
    (spelled_reads (Esc (0x28 ∷ []) last) (refl, omega arith, omega arith, refl)) (escape-coding _ 0x28 last refl)
    c.designate.ensures.silent c.designate.ensures.screen in
    (omega arith, read)

pub returns-then-bytes-lt2 : goal.returns-then-bytes-lt2
returns-then-bytes-lt2 c = nothing-whole c.args.self.now c.args.bytes.now

pub returns : goal.returns
returns c =
    let bytes : List ℕ = c.args.bytes.now in
    let last : ℕ = get_or bytes 1 0 in
    let read : TakesWhole c.args.self.now bytes 2 _ =
    one-taken Utf8 _ _ _ _ c.args.self.now bytes (0x1B ∷ last ∷ []) 2 (Esc [] last) c.self.view_is c.requires.idle
    (omega arith) (front-two bytes 0x1B last (omega arith) c.requires.begins refl)
    (spelled_reads (Esc [] last) (c.ends_escape.ensures c.if-not-ends_escape.false))
    (effect-coding _ (Esc [] last) refl) c.escape.ensures.silent c.escape.ensures.screen in
    (omega arith, read)
