use Rattle.std.proofs.Common.{rules, true, ◌∙◌, ℕ, List, Option, sym, ap, subst}
use Rattle.client_words.specs.declared.leaving.LeaveReader.{LeaveReader}
use Rattle.client_typing.specs.Following.{LetsThrough}
use Rattle.client_typing.specs.declared.typing.Typing.{Typing}
use Rattle.client_peer.specs.declared.peer.Peer.{Peer}
use Rattle.client_peer.specs.Typing.{Presses}
use Rattle.client_peer.proofs.Assisting.{pressing_is}
use Rattle.client_peer.proofs.peer.Peer.type_in.Goals as goal

pub returns-clause-types : goal.returns-clause-types
returns-clause-types c = λ more.
    let old : Peer = c.args.self.now in
    let new : Peer = c.press.new.self in
    record {
      typed = c.read.new.out.items;
      through =
          subst (λ (l : Option LeaveReader). LetsThrough old.typing.leave c.args.piece.bytes.now c.read.new.out.items l)
          (sym c.press.ensures.set.0) (c.in_ok-read.ensures.through c.new-bytes.ensures.items);
      counts = (
        c.press.ensures.set.2 ∙ ap (λ (t : Typing). t.reads) c.read.ensures.same,
        c.press.ensures.set.1 ∙ ap (λ (t : Typing). t.assists) c.read.ensures.same,
      );
      prints = λ window. search rules;
      none = λ client none. search rules;
      presses = λ client some. (
        subst (λ (p : Peer). Presses p new c.read.new.out.items)
            (pressing_is old new c.read.new.self _ c.read.ensures.same c.press.ensures.set)
            (subst (λ (l : List ℕ). Presses (record old {
              typing = c.read.new.self;
              times = record old.times {
                has_typed
                    = true;
              };
            }) new l) c.deref-2.ensures.value c.in_ok-press.ensures.presses),
        ap (λ (p : Peer). p.times.has_typed) c.press.ensures.same,
      );
    }
