use Rattle.std.proofs.Common.{◌≡◌, ◌∙◌, refl, ap, false, None}
use Rattle.client_peer.specs.declared.peer.Peer.{Peer}
use Rattle.client_peer.proofs.Waiting.{false_true, is_idle, not_done, not_none}
use Rattle.client_peer.proofs.peer.Peer.look_open.Goals as goal

pub returns-then-can_send-clause-next : goal.returns-then-can_send-clause-next
returns-then-can_send-clause-next c =
    let end : c.act.new.self.end ≡ None = ap (λ (p : Peer). p.end) c.act.ensures.same ∙ c.requires.0 in (
      c.if-can_send.ensures.0 refl,
      end,
      not_done c.act.new.self c.args.now end (ap (λ (p : Peer). p.times.left_at) c.act.ensures.same ∙ c.requires.1),
    )

pub returns-then-waits_for_time-clause-next : goal.returns-then-waits_for_time-clause-next
returns-then-waits_for_time-clause-next c =
    let new : Peer = c.act.new.self in
    let end : new.end ≡ None = ap (λ (p : Peer). p.end) c.act.ensures.same ∙ c.requires.0 in
    let left : new.times.left_at ≡ None = ap (λ (p : Peer). p.times.left_at) c.act.ensures.same ∙ c.requires.1 in
    let opened : new.is_reopening ≡ false = ap (λ (p : Peer). p.is_reopening) c.act.ensures.same ∙ c.if-self.false in
    (is_idle new end (λ m. false_true (c.if-can_send.ensures.1 m)) opened, not_done new c.args.now end left)

pub returns-else-waits_for_time-clause-next : goal.returns-else-waits_for_time-clause-next
returns-else-waits_for_time-clause-next c =
    let new : Peer = c.act.new.self in
    let end : new.end ≡ None = ap (λ (p : Peer). p.end) c.act.ensures.same ∙ c.requires.0 in
    let left : new.times.left_at ≡ None = ap (λ (p : Peer). p.times.left_at) c.act.ensures.same ∙ c.requires.1 in
    let opened : new.is_reopening ≡ false = ap (λ (p : Peer). p.is_reopening) c.act.ensures.same ∙ c.if-self.false in (
      is_idle new end (λ m. false_true (c.if-can_send.ensures.1 m)) opened,
      not_done new c.args.now end left,
      left,
      λ none due. false_true (c.if-waits_for_time.ensures due),
      λ some window. not_none new.end end some,
    )
