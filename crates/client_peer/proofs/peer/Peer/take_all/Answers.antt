use Rattle.std.proofs.Common.{rules, ◌≡◌, ◌∙◌, ◌⊎◌, inl, sym, List, [], ◌∷◌, ◌++◌, append_assoc}
use Rattle.std.specs.Vec.Iter.{into_iter_items}
use Rattle.attach_proto.specs.declared.message.Message.{Message}
use Rattle.client_peer.specs.Showing.{StopsAt}
use Rattle.client_peer.proofs.Closing.{closed_same, closed_then}
use Rattle.client_peer.proofs.Passing.{passes_same, passes_then, stops_then, if_err_given, on_err_given}
use Rattle.client_peer.specs.Hearing.{next, none}
use Rattle.client_peer.specs.Failing.{FailsAfter, FailsAt}
use Rattle.client_peer.proofs.Hearing.{came, fails_at, heard_last}
use Rattle.client_peer.proofs.peer.Peer.take_all.Goals as goal

pub loop-message-init : goal.loop-message-init
loop-message-init c = record {
  can = tt;
  finite = tt;
  whole = search rules;
  passes = passes_same c.args.self.now;
  closed = closed_same c.args.self.now;
  hears = none;
}

pub loop-message-preserved : goal.loop-message-preserved
loop-message-preserved c = record {
  can = tt;
  finite = tt;
  whole =
      came c.args.messages.items c.loop-message.yielded (into_iter_items c.loop-message.message-iterator)
      (into_iter_items c.next.new.self) c.in-Some.message c.loop-message.invariant.whole c.in-Some.ensures.steps.0
      ∙ sym (append_assoc c.loop-message.yielded (c.in-Some.message ∷ []) (into_iter_items c.next.new.self));
  passes =
      passes_then c.args.self.now c.loop-message.self c.take.new.self c.loop-message.invariant.passes
      c.in_ok-why.ensures.ok;
  closed =
      closed_then c.args.self.now c.loop-message.self c.take.new.self c.loop-message.invariant.closed
      c.in_ok-why.ensures.closed;
  hears = next c.in-Some.message c.loop-message.invariant.hears c.in_ok-why.ensures.hears.0;
}

pub returns-in_err-why-clause-err : goal.returns-in_err-why-clause-err
returns-in_err-why-clause-err c =
    on_err_given {P = StopsAt c.args.self.now c.take.new.self} c.from_residual.result
    (stops_then c.args.self.now c.loop-message.self c.take.new.self c.loop-message.invariant.passes
    c.in_err-why.ensures.err)

pub returns-in-Some-2-clause-hears : goal.returns-in-Some-2-clause-hears
returns-in-Some-2-clause-hears c =
    let later : List Message = into_iter_items c.next.new.self in
    let whole : c.args.messages.items ≡ c.loop-message.yielded ++ c.in-Some.message ∷ later =
    came c.args.messages.items c.loop-message.yielded (into_iter_items c.loop-message.message-iterator) later
    c.in-Some.message c.loop-message.invariant.whole c.in-Some.ensures.steps.0 in
    heard_last c.args.self.now c.loop-message.self c.args.messages.items c.loop-message.yielded later c.in-Some.message
    whole c.loop-message.invariant.hears c.take.new.self c.in_ok-why.ensures.hears.0 c.in-Some-2.why
    (sym c.in-Some-2.is ∙ c.in_ok-why.ensures.hears.1)

pub returns-in_err-why-clause-fault : goal.returns-in_err-why-clause-fault
returns-in_err-why-clause-fault c =
    let later : List Message = into_iter_items c.next.new.self in
    let whole : c.args.messages.items ≡ c.loop-message.yielded ++ c.in-Some.message ∷ later =
    came c.args.messages.items c.loop-message.yielded (into_iter_items c.loop-message.message-iterator) later
    c.in-Some.message c.loop-message.invariant.whole c.in-Some.ensures.steps.0 in
    if_err_given (λ e. FailsAt c.args.self.now c.args.messages.items e ⊎ FailsAfter c.args.fed e)
    c.from_residual.result _
    (inl (fails_at c.args.self.now c.loop-message.self c.args.messages.items c.loop-message.yielded later
    c.in-Some.message whole c.loop-message.invariant.hears _ c.in_err-why.ensures.fault))
    (search rules)
