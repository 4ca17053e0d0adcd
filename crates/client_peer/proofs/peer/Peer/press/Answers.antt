use Rattle.std.proofs.Common.{◌≡◌, ◌∙◌, ◌<◌, ◌≤◌, ℕ, List, length, None, refl, ap, subst, arith, rules}
use Rattle.std.specs.Prelude.{IfErr, OnOk}
use Rattle.client_peer.specs.declared.peer.Peer.{Peer}
use Rattle.client_peer.specs.Failing.{FailsTyping}
use Rattle.client_peer.specs.Typing.{Types}
use Rattle.client_peer.proofs.Assisting.{presses}
use Rattle.client_peer.proofs.Framing.{fails_if, more_size}
use Rattle.client_peer.proofs.peer.Peer.press.Goals.{then-self+in_ok-redraw+else-keys-le-LONGEST_KEY, else-self}
use Rattle.client_peer.proofs.peer.Peer.press.Goals as goal

pub returns-then-keys-le-LONGEST_KEY-clause-presses : goal.returns-then-keys-le-LONGEST_KEY-clause-presses
returns-then-keys-le-LONGEST_KEY-clause-presses c =
    let few : length c.args.keys.now ≤ 8 = search rules in record {
      types = λ here shown. search rules;
      helped = λ here is. record {
        page = c.redraw.new.self;
        asks = c.in_ok-redraw.ensures.ok.added;
        goes = c.redraw.ensures.same;
        key = λ short. refl;
        more = λ many. absurd (omega (arith, few, many));
      };
      lost = λ some. search rules;
      ends = λ some has. search rules;
      lasts = λ no. search rules;
    }

pub returns-clause-presses : goal.returns-clause-presses
returns-clause-presses c =
    let old : Peer = c.args.self.now in
    let new : Peer = c.type_keys.new.self in
    let keys : List ℕ = c.args.keys.now in
    let here : old.loss ≡ None = search rules in elim c.if-self.branch [
      | then-self+in_ok-redraw+else-keys-le-LONGEST_KEY w ↦
          let page : Peer = w.redraw.new.self in
          let many : 8 < length keys = search rules in
          presses c.type_keys.result old page new keys here (
            ap (λ (p : Peer). p.is_final) c.type_keys.ensures.same ∙ ap (λ (p : Peer). p.is_final) w.self-is
                ∙ ap (λ (p : Peer). p.is_final) w.redraw.ensures.same,
            ap (λ (p : Peer). p.end) c.type_keys.ensures.same ∙ ap (λ (p : Peer). p.end) w.self-is
                ∙ ap (λ (p : Peer). p.end) w.redraw.ensures.same,
          )
          (λ shown. search rules) (λ is. (w.in_ok-redraw.ensures.ok.added, w.redraw.ensures.same, many))
          (subst (λ (p : Peer). OnOk c.type_keys.result (Types p new keys)) w.self-is c.type_keys.ensures.types)
      | else-self w ↦
          presses c.type_keys.result old old new keys here (
            ap (λ (p : Peer). p.is_final) c.type_keys.ensures.same ∙ ap (λ (p : Peer). p.is_final) w.self-is,
            ap (λ (p : Peer). p.end) c.type_keys.ensures.same ∙ ap (λ (p : Peer). p.end) w.self-is,
          )
          (λ shown. refl) (λ is. search rules)
          (subst (λ (p : Peer). OnOk c.type_keys.result (Types p new keys)) w.self-is c.type_keys.ensures.types)
    ]

pub returns-clause-fault : goal.returns-clause-fault
returns-clause-fault c =
    let old : Peer = c.args.self.now in
    let new : Peer = c.type_keys.new.self in
    let P : Peer → Type 0 = λ (p : Peer). IfErr c.type_keys.result (FailsTyping p new) in elim c.if-self.branch [
      | then-self+in_ok-redraw+else-keys-le-LONGEST_KEY w ↦
          fails_if c.type_keys.result old w.redraw.new.self new
          (ap (λ (p : Peer). p.bytes.items) w.redraw.ensures.same)
          (more_size old.frames.items w.redraw.new.self.frames.items old.rows old.columns
          w.in_ok-redraw.ensures.ok.added) (subst P w.self-is c.type_keys.ensures.fault)
      | else-self w ↦ subst P w.self-is c.type_keys.ensures.fault
    ]
