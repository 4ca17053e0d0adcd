use Rattle.std.proofs.Common.{ℕ, sym, subst, take, arith, rules, below_more}
use Rattle.terminal_model.specs.Reading.{Terminal, reads}
use Rattle.emulator.specs.Standing.{IsBetween, StandsFor}
use Rattle.emulator.proofs.Feeding.{reads-more}
use Rattle.client_page.specs.Kept.{IsWhole}
use Rattle.client_page.proofs.page.read_to_end.Goals as goal

pub bytes-init : goal.bytes-init
unfolding reads
bytes-init c = record { taken = λ t h. h; first = λ t h n less whole. omega arith; few = omega arith }

pub bytes-preserved : goal.bytes-preserved
bytes-preserved c =
    let begun : IsBetween c.bytes.emulator.screen.state.coding c.bytes.emulator → ⊥ = search rules in record {
      taken = λ t h.
          subst (λ (u : Terminal). StandsFor c.feed.new.self u)
          (sym (reads-more t c.args.bytes.now c.bytes.read (omega arith)))
          (c.feed.ensures.read _ (c.bytes.invariant.taken t h)).stands;
      first = λ t h.
          below_more (λ (n : ℕ). IsWhole (reads t (take n c.args.bytes.now)).terminal → ⊥) c.bytes.read
          (c.bytes.invariant.first t h) (λ whole. begun (whole c.bytes.emulator (c.bytes.invariant.taken t h)));
      few = omega arith;
    }
