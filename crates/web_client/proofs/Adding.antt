-- Frames that messages add, one message after another.
use Rattle.std.proofs.Common.{◌≡◌, ℕ, List, [], ◌∷◌, ◌++◌, Result, Ok, Err, IfOk, OnOk, OnErr}
use Rattle.std.proofs.Common.{inl, inr, sym, ap, ◌∙◌, subst, append_assoc, append-nil}
use Rattle.std.proofs.lemmas.Grind.{flat_map-append}
use Rattle.std.specs.List.{flat_map, AllByRecursion}
use Rattle.attach_proto.specs.declared.message.Message.{Message}
use Rattle.attach_proto.specs.Spelling.{spelling}
use Rattle.web_client.specs.declared.identity.Identity.{Identity}
use Rattle.web_client.specs.declared.identity.Identity.TheVariants.{Nobody, Own, Watching, Link, Unknown, Left}
use Rattle.web_client.specs.Asking.{IsAskable, AddsFrames}
use Rattle.web_client.specs.Asking.{IsApart, Asks, IsAttached, IsShared, Begins, Watches, Takes, Keeps}

all-append : {A : Type 0} (P : A → Type 0) (xs ys : List A) → AllByRecursion P xs → AllByRecursion P ys
    → AllByRecursion P (xs ++ ys)
all-append P [] ys h k = k
all-append P (x ∷ xs) ys h k = (h.0, all-append P xs ys h.1 k)

none : (bytes : List ℕ) → AddsFrames bytes bytes
none bytes = ([], tt, sym (append-nil bytes))

one : (m : Message) (before after : List ℕ) → IsAskable m → after ≡ before ++ spelling m → AddsFrames before after
one m before after h e = (m ∷ [], (h, tt), e ∙ ap (λ (l : List ℕ). before ++ l) (sym (append-nil (spelling m))))

both : (a b c : List ℕ) → AddsFrames a b → AddsFrames b c → AddsFrames a c
both a b c p q = (
  p.0 ++ q.0,
  all-append IsAskable p.0 q.0 p.1 q.1,
  q.2 ∙ ap (λ (l : List ℕ). l ++ flat_map spelling q.0) p.2
      ∙ append_assoc a (flat_map spelling p.0) (flat_map spelling q.0)
      ∙ ap (λ (l : List ℕ). a ++ l) (sym (flat_map-append spelling p.0 q.0)),
)

-- a identity that never has a client goes on so
later : (b c : Identity) → IsApart b → Asks b c → IsApart c
later Nobody c h k = absurd h
later (Own b) c h k = absurd h
later (Watching rows columns) c h k = k
later (Link secret) c h k = k
later Unknown c h k = k
later Left c h k = k

-- nothing was asked
pub nothing : (s : Identity) → Asks s s
nothing Nobody = tt
nothing (Own c) = none c.outgoing
nothing (Watching rows columns) = tt
nothing (Link secret) = tt
nothing Unknown = tt
nothing Left = tt

shared : (payload : List ℕ) (s : Identity) → IsShared payload s → IsApart s
shared payload Nobody h = h
shared payload (Own c) h = h
shared payload (Watching rows columns) h = tt
shared payload (Link secret) h = tt
shared payload Unknown h = tt
shared payload Left h = tt

attached : (payload : List ℕ) (s : Identity) → IsAttached payload s → Asks Nobody s
attached payload Nobody h = tt
attached payload (Own c) h = one _ [] c.outgoing (inl tt) h.asked
attached payload (Watching rows columns) h = tt
attached payload (Link secret) h = tt
attached payload Unknown h = tt
attached payload Left h = tt

apart : (s : Identity) → IsApart s → Asks Nobody s
apart Nobody h = tt
apart (Own c) h = absurd h
apart (Watching rows columns) h = tt
apart (Link secret) h = tt
apart Unknown h = tt
apart Left h = tt

-- a browser that shows a link begins
pub linked : {E : Type 0} (r : Result Identity E) (message payload : List ℕ) → message ≡ 0x4C ∷ payload
    → IfOk r (λ (s : Identity). s ≡ Link payload) → IfOk r (Begins message)
linked (Ok s) message payload e h = (payload, inr (inr (e, h)))
linked (Err x) message payload e h = tt

begun : (message : List ℕ) (s : Identity) → Begins message s → Asks Nobody s
begun message s h =
    elim h.1 [
      | inl a ↦ attached h.0 s a.1
      | inr c ↦ elim c [
        | inl b ↦ apart s (shared h.0 s b.1)
        | inr b ↦ subst (λ (v : Identity). Asks Nobody v) (sym b.1) tt
      ]
    ]

watched : (message : List ℕ) (s : Identity) → Watches message s → IsApart s
watched message s h =
    elim h [ inl a ↦ shared a.0 s a.2 | inr b ↦ subst (λ (v : Identity). IsApart v) (sym b.1) tt ]

-- a message that is taken adds a frame at most
pub taken : (s : Identity) (message : List ℕ) (after : Identity) → Takes s message after → Asks s after
taken Nobody message after h = begun message after h
taken (Own before) message Nobody h = h
taken (Own before) message (Own c) h =
    one h.frame before.outgoing c.outgoing (inr (message, h.asked)) h.added
taken (Own before) message (Watching rows columns) h = h
taken (Own before) message (Link secret) h = h
taken (Own before) message Unknown h = h
taken (Own before) message Left h = h
taken (Watching rows columns) message after h = watched message after h
taken (Link secret) message after h = absurd h
taken Unknown message after h = absurd h
taken Left message after h = absurd h

-- one that isn't taken adds none
pub kept : (s after : Identity) → Keeps s after → Asks s after
kept Nobody after h = subst (λ (v : Identity). Asks Nobody v) (sym h) tt
kept (Own before) Nobody h = h
kept (Own before) (Own c) h =
    subst (λ (l : List ℕ). AddsFrames before.outgoing l) (sym h) (none before.outgoing)
kept (Own before) (Watching rows columns) h = h
kept (Own before) (Link secret) h = h
kept (Own before) Unknown h = h
kept (Own before) Left h = h
kept (Watching rows columns) after h = subst (λ (v : Identity). IsApart v) (sym h) tt
kept (Link secret) after h = subst (λ (v : Identity). IsApart v) (sym h) tt
kept Unknown after h = subst (λ (v : Identity). IsApart v) (sym h) tt
kept Left after h = subst (λ (v : Identity). IsApart v) (sym h) tt

-- frames that were added after others
pub more : (a b c : Identity) → Asks a b → Asks b c → Asks a c
more Nobody Nobody c h k = k
more Nobody (Own b) Nobody h k = tt
more Nobody (Own b) (Own c) h k = both [] b.outgoing c.outgoing h k
more Nobody (Own b) (Watching rows columns) h k = tt
more Nobody (Own b) (Link secret) h k = tt
more Nobody (Own b) Unknown h k = tt
more Nobody (Own b) Left h k = tt
more Nobody (Watching rows columns) c h k = apart c k
more Nobody (Link secret) c h k = apart c k
more Nobody Unknown c h k = apart c k
more Nobody Left c h k = apart c k
more (Own a) Nobody c h k = absurd h
more (Own a) (Own b) Nobody h k = k
more (Own a) (Own b) (Own c) h k = both a.outgoing b.outgoing c.outgoing h k
more (Own a) (Own b) (Watching rows columns) h k = k
more (Own a) (Own b) (Link secret) h k = k
more (Own a) (Own b) Unknown h k = k
more (Own a) (Own b) Left h k = k
more (Own a) (Watching rows columns) c h k = absurd h
more (Own a) (Link secret) c h k = absurd h
more (Own a) Unknown c h k = absurd h
more (Own a) Left c h k = absurd h
more (Watching rows columns) b c h k = later b c h k
more (Link secret) b c h k = later b c h k
more Unknown b c h k = later b c h k
more Left b c h k = later b c h k

-- so a message adds a frame at most, whether it is taken or not
pub either : {A E : Type 0} (r : Result A E) (s after : Identity) (message : List ℕ)
    → OnOk r (Takes s message after) → OnErr r (Keeps s after) → Asks s after
either (Ok v) s after message h k = taken s message after h
either (Err e) s after message h k = kept s after k

pub then_same : (a b c : Identity) → Asks a b → c ≡ b → Asks a c
then_same a b c h e = subst (λ (s : Identity). Asks a s) (sym e) h

pub then_more : (a b c d : Identity) → Asks a b → c ≡ b → Asks c d → Asks a d
then_more a b c d h e k = more a c d (then_same a b c h e) k
