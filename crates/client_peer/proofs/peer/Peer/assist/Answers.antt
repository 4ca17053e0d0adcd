use Rattle.std.proofs.Common.{◌≡◌, ◌∙◌, List, [], ℕ, ap, subst, ◌-◌, rules}
use Rattle.client_typing.specs.Assisting.{Assists}
use Rattle.client_peer.specs.declared.peer.Peer.{Peer}
use Rattle.client_peer.specs.Failing.{FailsTyping}
use Rattle.client_peer.proofs.Assisting.{sends_assisted}
use Rattle.client_peer.proofs.Framing.{fails_if, fails_then, more_keys, more_then, more_told}
use Rattle.client_peer.proofs.Passing.{if_err_given}
use Rattle.client_peer.proofs.peer.Peer.assist.Goals as goal

pub returns-clause-sends : goal.returns-clause-sends
returns-clause-sends c =
    let old : Peer = c.args.self.now in
    let lines : c.saturating_sub.result ≡ old.rows - 3 = search rules in
    sends_assisted c.help.result old c.put_frames.new.self c.tell_scrolled.new.self c.help.new.self c.assist.new.self
    c.args.keys.now c.deref.result.now c.assist.new.out.items
    (subst (λ n. Assists n old.typing c.args.keys.now [] c.assist.new.self c.assist.new.out.items) lines
    (subst (λ (l : List ℕ). Assists c.saturating_sub.result old.typing c.args.keys.now l c.assist.new.self
    c.assist.new.out.items) c.new-out.ensures.items c.in_ok-assist.ensures.assists)) c.put_frames.ensures.same
    c.in_ok-put_frames.ensures.sends c.deref.ensures.value c.tell_scrolled.ensures.same
    c.in_ok-tell_scrolled.ensures.tells c.help.ensures.same c.help.ensures.helps c.help.ensures.other

pub returns-in_err-tell_scrolled-clause-fault : goal.returns-in_err-tell_scrolled-clause-fault
returns-in_err-tell_scrolled-clause-fault c =
    if_err_given (FailsTyping c.args.self.now c.tell_scrolled.new.self) c.from_residual-in_err-tell_scrolled.result _
    (fails_then c.args.self.now c.put_frames.new.self c.tell_scrolled.new.self _
    (ap (λ (p : Peer). p.bytes.items) c.put_frames.ensures.same)
    (more_keys c.args.self.now.frames.items c.put_frames.new.self.frames.items c.deref.result.now
    c.in_ok-put_frames.ensures.sends) c.in_err-tell_scrolled.ensures.fault)
    (search rules)

pub returns-clause-fault : goal.returns-clause-fault
returns-clause-fault c =
    let old : Peer = c.args.self.now in
    let put : Peer = c.put_frames.new.self in
    let told : Peer = c.tell_scrolled.new.self in
    fails_if c.help.result old told c.help.new.self
    (ap (λ (p : Peer). p.bytes.items) c.tell_scrolled.ensures.same
    ∙ ap (λ (p : Peer). p.bytes.items) c.put_frames.ensures.same)
    (more_then old.frames.items put.frames.items told.frames.items
    (more_keys old.frames.items put.frames.items c.deref.result.now c.in_ok-put_frames.ensures.sends)
    (more_told put told _ put.frames.items c.in_ok-tell_scrolled.ensures.tells)) c.help.ensures.fault
