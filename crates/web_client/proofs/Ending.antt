-- Why a page ends at a message, by what was sent over its wire.
use Rattle.std.proofs.Common.{◌≡◌, ℕ, List, Option, Result, Ok, Err, OnOk, ap, inl, inr, refl, subst, sym}
use Rattle.websocket.specs.declared.protocol.frame.coding.CloseCode.TheVariants.{Policy}
use Rattle.web_client.specs.Asking.{Keeps, Takes}
use Rattle.web_client.specs.Frames.{IsOut, TakesMessage, TellsOut, page, stands}
use Rattle.web_client.specs.Judging.{IsAllowed, IsJudged}
use Rattle.web_client.specs.Rows.{Closes}
use Rattle.web_client.specs.declared.identity.Identity.{Identity}
use Rattle.web_client.specs.declared.identity.Identity.TheVariants.{Nobody, Own, Watching, Link, Unknown, Left}
use Rattle.web_client.specs.declared.identity.MessageFault.{MessageFault}
use Rattle.web_client.specs.declared.identity.MessageFault.TheVariants.{Wrong}
use Rattle.web_client.specs.declared.visitor.TheConstants.{NOT_UNDERSTOOD}
use Rattle.web_client.specs.declared.visitor.Visitor.{Visitor}
use Rattle.web_client.specs.declared.wire.Phase.TheVariants.{Last}
use Rattle.web_client.specs.declared.wire.Wire.{Wire}

pub judged_wrong : (T Allowed : Type 0) (fault : MessageFault) → fault ≡ Wrong
    → IsJudged {A = T} Allowed (Err fault) → Allowed → ⊥
judged_wrong T Allowed fault e h = subst (λ (f : MessageFault). IsJudged {A = T} Allowed (Err f)) e h

-- it isn't allowed
pub wrong : {A T E : Type 0} (r : Result T E) (watcher : Option A) (message : List ℕ) (old new : Visitor)
    → (IsAllowed watcher old.identity message → ⊥) → Keeps old.identity new.identity
    → new.input.items ≡ old.input.items → OnOk r (Closes Policy NOT_UNDERSTOOD.now old.wire new.wire)
    → OnOk r (TakesMessage watcher message (page old) (page new))
wrong (Ok v) watcher message old new denied k e h =
    let same = ap (λ (l : List ℕ). stands new.wire l new.identity) (sym e) in
    inr (h.phase, inl (denied, k, (old.wire, new.wire, refl, same, h)))
wrong (Err x) watcher message old new denied k e h = tt

last : (s : Identity) (old new : Wire) → IsOut s → TellsOut s old new → new.phase ≡ Last
last Nobody old new i h = absurd i
last (Own c) old new i h = absurd i
last (Watching rows columns) old new i h = absurd i
last (Link secret) old new i h = absurd i
last Unknown old new i h = h.2.2.phase
last Left old new i h = h.2.phase

-- it is the last
pub out : {A T E : Type 0} (r : Result T E) (watcher : Option A) (message : List ℕ) (old new : Visitor)
    → Takes old.identity message new.identity → IsOut new.identity → new.input.items ≡ old.input.items
    → OnOk r (TellsOut new.identity old.wire new.wire) → OnOk r (TakesMessage watcher message (page old) (page new))
out (Ok v) watcher message old new t i e h =
    let same = ap (λ (l : List ℕ). stands new.wire l new.identity) (sym e) in
    inr (last new.identity old.wire new.wire i h, inr (t, i, (old.wire, new.wire, refl, same, h)))
out (Err x) watcher message old new t i e h = tt
