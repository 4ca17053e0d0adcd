use Rattle.std.proofs.Common.{List, ℕ, sym, subst, arith}
use Rattle.std.proofs.lemmas.List.{take_all}
use Rattle.terminal_model.specs.Reading.{Terminal, reads}
use Rattle.emulator.specs.Standing.{StandsFor}
use Rattle.emulator.proofs.Feeding.{reads-more}
use Rattle.client_page.specs.Kept.{TakesAll}
use Rattle.client_page.proofs.page.read_each.Goals as goal

pub bytes-init : goal.bytes-init
unfolding reads
bytes-init c = record { read = λ t h. h; few = omega arith }

pub bytes-preserved : goal.bytes-preserved
bytes-preserved c = record {
  read = λ t h.
      subst (λ (u : Terminal). StandsFor c.feed.new.self u)
      (sym (reads-more t c.args.bytes.now c.bytes.read (omega arith)))
      (c.feed.ensures.read _ (c.bytes.invariant.read t h)).stands;
  few = omega arith;
}

pub returns : goal.returns
returns c =
    subst (λ (l : List ℕ). TakesAll c.args.emulator.now l c.bytes.emulator)
    (take_all c.bytes.read c.args.bytes.now (omega arith)) c.bytes.invariant.read
