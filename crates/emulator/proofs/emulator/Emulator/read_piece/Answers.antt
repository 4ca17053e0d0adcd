use Rattle.emulator.proofs.Vocabulary.{◌≡◌, ◌∷◌, [], true, ℕ, List, ◌-◌, ◌+◌, ◌<◌, length, take, drop, get_or, refl}
use Rattle.emulator.proofs.Vocabulary.{sym, ap, ◌∙◌, subst, arith, map, take_more, nat_tests, Utf8, text, is_plain}
use Rattle.emulator.proofs.Vocabulary.{Func, Print, Control, ReadsAs, spelled_reads, effect-coding, Parts, TakesWhole}
use Rattle.control_parser.specs.Grammar.{is_control}
use Rattle.control_parser.proofs.Readings.{reads-plain}
use Rattle.terminal_model.specs.Table.{effect}
use Rattle.emulator.proofs.Wholes.{one-taken, quiet-taken, quiet-prints, quiet-line, prints-are, text-reads, line-reads}
use Rattle.emulator.proofs.Wholes.{front-two, front-more, nothing-whole}
use Rattle.emulator.proofs.emulator.Emulator.read_piece.Goals as goal

pub returns-then-bytes-lt32 : goal.returns-then-bytes-lt32
returns-then-bytes-lt32 c =
    let b : ℕ = get_or c.args.bytes.now 0 0 in
    let plain : is_plain b ≡ true = grind (arith, nat_tests) in (
      omega arith,
      one-taken Utf8 _ _ _ _ c.args.self.now c.args.bytes.now (b ∷ []) 1 (Print b) c.self.view_is c.requires.idle
          (omega arith) (take_more c.args.bytes.now 0 0 c.requires.some) (reads-plain Utf8 (b ∷ []) (rw plain refl))
          (effect-coding _ (Print b) refl) refl c.print_one.ensures.screen,
    )

pub returns-then-count-eq0 : goal.returns-then-count-eq0
returns-then-count-eq0 c =
    let codes : List ℕ = text (take c.print_text-count.result c.args.bytes.now) in
    let new : Parts =
    record {
      screen = c.print_text-count.new.self.screen;
      decoding = c.self.inside.decoder;
      parsing = c.self.inside.parser;
    } in
    subst (λ (n : ℕ). TakesWhole c.args.self.now c.args.bytes.now n new) c.if-count-eq0.true
    (quiet-taken Utf8 _ _ _ _ c.args.self.now c.args.bytes.now c.print_text-count.result _ c.self.view_is
    c.requires.idle c.print_text-count.ensures.few (text-reads _ c.print_text-count.ensures.text) (quiet-prints _ codes)
    (c.print_text-count.ensures.performed.screen ∙ prints-are c.self.inside.screen.screen codes))

pub returns-then-first-ge32 : goal.returns-then-first-ge32
returns-then-first-ge32 c =
    let codes : List ℕ = text (take c.print_text-count.result c.args.bytes.now) in
    let some : 0 < c.print_text-count.result = omega (arith, c.if-count-eq0.false) in
    let reads = text-reads _ c.print_text-count.ensures.text in
    let screen = c.print_text-count.ensures.performed.screen ∙ prints-are c.self.inside.screen.screen codes in (
      some,
      quiet-taken Utf8 _ _ _ _ c.args.self.now c.args.bytes.now c.print_text-count.result _ c.self.view_is
          c.requires.idle c.print_text-count.ensures.few reads (quiet-prints _ codes) screen,
    )

pub returns-then-bytes-eq10 : goal.returns-then-bytes-eq10
returns-then-bytes-eq10 c =
    let bytes : List ℕ = c.args.bytes.now in
    let n : ℕ = c.print_line.result in
    let codes : List ℕ = take n (take (length bytes - 2) (drop 2 bytes)) in
    let fs : List Func = Control 0x0D ∷ Control 0x0A ∷ map (λ code. Print code) codes in
    let front : take 2 bytes ≡ 0x0D ∷ 0x0A ∷ [] = front-two bytes 0x0D 0x0A (omega arith)
    (take_more bytes 0 0 c.requires.some ∙ ap (λ (b : ℕ). b ∷ []) c.if-first-eq13.true) c.if-bytes-eq10.true in (
      omega arith,
      quiet-taken Utf8 _ _ _ _ c.args.self.now bytes (2 + n) fs c.self.view_is c.requires.idle (omega arith)
          (subst (λ (v : List ℕ). ReadsAs Utf8 v fs) (sym (front-more bytes 0x0D 0x0A n front))
          (line-reads codes c.print_line.ensures.plain)) (quiet-line _ codes)
          (c.print_line.ensures.performed.screen
          ∙ prints-are (effect (effect c.self.inside.screen.screen (Control 0x0D)) (Control 0x0A)) codes),
    )

pub returns-then-first-eq-CAN : goal.returns-then-first-eq-CAN
returns-then-first-eq-CAN c = nothing-whole c.args.self.now c.args.bytes.now

pub returns : goal.returns
returns c =
    let b : ℕ = get_or c.args.bytes.now 0 0 in
    let control : is_control b ≡ true = grind (arith, nat_tests) in (
      omega arith,
      one-taken Utf8 _ _ _ _ c.args.self.now c.args.bytes.now (b ∷ []) 1 (Control b) c.self.view_is c.requires.idle
          (omega arith) (take_more c.args.bytes.now 0 0 c.requires.some) (spelled_reads (Control b) control)
          (effect-coding _ (Control b) refl) c.control.ensures.silent c.control.ensures.screen,
    )
