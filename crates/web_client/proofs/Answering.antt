-- What is taken after an answer, and what is left.
use Rattle.std.proofs.Common.{◌≡◌, Bool, false, Result, Ok, Err, IfOk, ap, refl, sym, subst, ◌∙◌}
use Rattle.web_requests.specs.declared.site.Site.{Site}
use Rattle.web_requests.specs.declared.requests.Response.{Response}
use Rattle.web_requests.specs.declared.requests.Response.TheVariants.{Part, Page, Socket}
use Rattle.web_requests.specs.Serving.{AnswersBytes}
use Rattle.web_client.specs.declared.wire.Phase.{Phase}
use Rattle.web_client.specs.declared.wire.Phase.TheVariants as phase
use Rattle.web_client.specs.declared.identity.Identity.{Identity}
use Rattle.web_client.specs.declared.visitor.Visitor.{Visitor}
use Rattle.web_client.specs.Frames.{Answers, TakesOpen, TakesRequest, TakesBytes, Leaves}
use Rattle.web_client.proofs.Rows.{both_add, same_adds}

-- an answer after which no WebSocket is open
pub unopened : (site : Site) (answer : Response) (old new : Visitor) → Answers answer old new
    → (new.wire.phase ≡ phase.Socket → ⊥) → TakesRequest site answer old new false
unopened site Part old new h n = (refl, h)
unopened site (Page bytes) old new h n = (refl, h)
unopened site (Socket upgrade) old new h n = absurd (n (ap (λ (v : Visitor). v.wire.phase) h.2))

-- a connection that has ended
pub ended : (site : Site) (s : Phase) (v : Visitor) → (s ≡ phase.Request → ⊥)
    → (s ≡ phase.Socket → ⊥) → TakesBytes site s v v false
ended site phase.Request v r n = absurd (r refl)
ended site phase.Socket v r n = absurd (n refl)
ended site phase.Last v r n = (refl, refl)

pub is_request : (s : Phase) → (s ≡ phase.Socket → ⊥) → (s ≡ phase.Last → ⊥) → s ≡ phase.Request
is_request phase.Request n m = refl
is_request phase.Socket n m = absurd (n refl)
is_request phase.Last n m = absurd (m refl)

-- an answer after which a WebSocket is open, and frames
opens : (site : Site) (answer : Response) (old mid new : Visitor) (more : Bool) → old.wire.phase ≡ phase.Request
    → Answers answer old mid → mid.wire.phase ≡ phase.Socket → TakesOpen site mid new more
    → TakesRequest site answer old new more
opens site Part old mid new more b h s k =
    let wrong : phase.Request ≡ phase.Socket = sym b ∙ sym (ap (λ (v : Visitor). v.wire.phase) h) ∙ s in absurd (cc wrong)
opens site (Page bytes) old mid new more b h s k =
    let wrong : phase.Last ≡ phase.Socket = sym (ap (λ (v : Visitor). v.wire.phase) h.1) ∙ s in absurd (cc wrong)
opens site (Socket upgrade) old mid new more b h s k = (mid, h, k)

pub opened : {E : Type 0} (r : Result Bool E) (site : Site) (answer : Response) (old mid new : Visitor)
    → old.wire.phase ≡ phase.Request → AnswersBytes site old.input.items answer → Answers answer old mid
    → mid.wire.phase ≡ phase.Socket → IfOk r (TakesOpen site mid new)
    → IfOk r (TakesBytes site old.wire.phase old new)
opened (Ok more) site answer old mid new b a h s k =
    subst (λ (p : Phase). TakesBytes site p old new more) (sym b)
    (answer, a, opens site answer old mid new more b h s k)
opened (Err e) site answer old mid new b a h s k = tt

-- frames of a WebSocket that was open
pub still : {E : Type 0} (r : Result Bool E) (site : Site) (old new : Visitor) → old.wire.phase ≡ phase.Socket
    → IfOk r (TakesOpen site old new) → IfOk r (TakesBytes site old.wire.phase old new)
still (Ok more) site old new s k = subst (λ (p : Phase). TakesBytes site p old new more) (sym s) k
still (Err e) site old new s k = tt

-- nothing was sent
pub leaves_all : (v : Visitor) → Leaves v v
leaves_all v = record { adds = same_adds v.wire v.wire refl; sent = refl; rest = refl }

pub leaves_identity : (v : Visitor) (s : Identity) → Leaves v (record v { identity = s })
leaves_identity v s = record { adds = same_adds v.wire v.wire refl; sent = refl; rest = refl }

-- one change after another
pub leaves_both : (a b c : Visitor) → Leaves a b → Leaves b c → Leaves a c
leaves_both a b c h k = record {
  adds = both_add a.wire b.wire c.wire h.adds k.adds;
  sent = k.sent ∙ h.sent;
  rest =
      k.rest
      ∙ ap (λ (v : Visitor). record v { wire = c.wire; input = c.input; identity = c.identity }) h.rest;
}
