use Rattle.emulator.proofs.Vocabulary.{rules, ◌≡◌, ◌+◌, ◌-◌, ℕ, List, length, take, drop, ◌∙◌, subst, arith}
use Rattle.emulator.proofs.Vocabulary.{length-take, Utf8, text, TakesWhole}
use Rattle.emulator.proofs.Wholes.{nothing-whole, both-taken, still-between, quiet-taken, quiet-prints, prints-are}
use Rattle.emulator.proofs.Wholes.{plain-reads}
use Rattle.emulator.proofs.emulator.Emulator.read_idle.Goals as goal

pub returns-then-ne : goal.returns-then-ne
returns-then-ne c =
    let n : ℕ = c.print_text.result in
    let run : ℕ = c.plain_run-run.result in
    let codes : List ℕ = text (take n (take run c.args.bytes.now)) in
    quiet-taken _ _ _ _ _ c.args.self.now c.args.bytes.now n _ c.self.view_is c.requires
    (omega (arith, c.print_text.ensures.few, length-take run c.args.bytes.now))
    (plain-reads _ c.args.bytes.now n run c.plain_run-run.ensures c.print_text.ensures.few) (quiet-prints _ codes)
    (c.print_text.ensures.performed.screen ∙ prints-are c.self.inside.screen.screen codes)

pub loop-taken-init : goal.loop-taken-init
loop-taken-init c = record {
  read = nothing-whole c.args.self.now c.args.bytes.now;
  between = record { whole = c.requires.whole; idle = c.requires.idle; coding = search rules };
}

pub returns-in_default : goal.returns-in_default
returns-in_default c =
    let none : c.loop-taken.taken + 0 ≡ c.loop-taken.taken = omega arith in
    subst (λ (n : ℕ). TakesWhole c.args.self.now c.args.bytes.now n c.read_piece.new.self) none
    (both-taken c.args.self.now c.loop-taken.self c.read_piece.new.self c.args.bytes.now c.loop-taken.taken 0
    (omega arith) c.loop-taken.invariant.read c.in_default.ensures)

pub loop-taken-preserved : goal.loop-taken-preserved
loop-taken-preserved c =
    let taken : ℕ = c.loop-taken.taken in
    let rest : List ℕ = take (length c.args.bytes.now - taken) (drop taken c.args.bytes.now) in
    record {
      read = both-taken c.args.self.now c.loop-taken.self c.read_piece.new.self c.args.bytes.now taken
          c.in-Some.count (omega arith) c.loop-taken.invariant.read c.in-Some.ensures.1;
      between = still-between Utf8 c.loop-taken.self c.read_piece.new.self rest c.in-Some.count
          c.loop-taken.invariant.between c.in-Some.ensures.1;
    }
