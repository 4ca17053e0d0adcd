-- The messages that were joined to what waits.
use Rattle.std.proofs.Common.{◌≡◌, ◌∙◌, ◌++◌, ◌∷◌, ◌+◌, [], List, ℕ, refl, sym, ap, append_assoc, append-nil, subst}
use Rattle.std.proofs.Common.{Bool, true, false, Option, Some, None, length, length-append}
use Rattle.std.specs.Prelude.{drop}
use Rattle.attach_proto.specs.Streams.{Reading}
use Rattle.attach_proto.specs.declared.message.Message.{Message}
use Rattle.server_typing.specs.Typed.{Typed}
use Rattle.server_typing.specs.declared.Sizing.{Sizing}
use Rattle.server_inbox.specs.Asking.{Gives, IsThrough, Lies, Stands, refilled}
use Rattle.server_inbox.specs.Joining.{IsGathered, JoinAll, Joins, JoinsNext, NextStays}
use Rattle.server_inbox.specs.declared.inbox.Inbox.{Inbox}
use Rattle.server_inbox.proofs.Asking.{popped}

-- these many messages were joined, from one inbox to another
pub record IsGathering (now : ℕ) (old : Inbox) (reader : Reading) (new : Inbox) (left : Reading) (count : ℕ)
    : Type 0 where
  pub messages : List Message
  pub gives : Gives old reader messages new left
  pub joined : JoinAll now messages (old.typed, old.sizing) (new.typed, new.sizing)
  pub begun : new.begun ≡ old.begun
  pub counted : length messages ≡ count

pub none_yet : (now : ℕ) (old : Inbox) (reader : Reading) → IsGathering now old reader old reader 0
none_yet now old reader = record {
  messages = [];
  gives = λ taken stream h. subst (λ (xs : List Message). Stands old reader xs stream) (sym (append-nil taken)) h;
  joined = refl;
  begun = refl;
  counted = refl;
}

join_more : (now : ℕ) (ms : List Message) (m : Message) (a b c : Typed × Sizing) → JoinAll now ms a b
    → Joins now m b c → JoinAll now (ms ++ m ∷ []) a c
join_more now [] m a b c h j = (c, subst (λ (x : Typed × Sizing). Joins now m x c) h j, refl)
join_more now (x ∷ ms) m a b c h j = (h.0, h.1, join_more now ms m h.0 b c h.2 j)

-- what a refill does
pub record IsRefilled (old : Inbox) (reader : Reading) (new : Inbox) (left : Reading) : Type 0 where
  pub lies : (taken : List Message) (stream : List ℕ) → Lies old reader taken stream → Lies new left taken stream
  pub through : IsThrough new
  pub same : new ≡ refilled old new

pub one_more : (now : ℕ) (old : Inbox) (reader : Reading) (mid one new : Inbox) (at left : Reading) (count : ℕ)
    → IsGathering now old reader mid at count → JoinsNext now mid one → IsRefilled one at new left
    → IsGathering now old reader new left (count + 1)
one_more now old reader mid one new at left count g j f =
    let waits : (new.typed, new.sizing) ≡ (one.typed, one.sizing) = ap (λ (i : Inbox). (i.typed, i.sizing)) f.same in
    record {
      messages = g.messages ++ j.next ∷ [];
      gives = λ taken stream h.
          let stands : Stands mid at (taken ++ g.messages) stream = g.gives taken stream h in
          let out : Lies one at ((taken ++ g.messages) ++ j.next ∷ []) stream =
          subst (λ (i : Inbox). Lies i at ((taken ++ g.messages) ++ j.next ∷ []) stream) (sym j.same)
          (popped mid.messages.items one.messages.items j.next (drop mid.seen mid.rest.items) mid.is_broken at
          (taken ++ g.messages) stream stands.lies j.out) in
          subst (λ (xs : List Message). Stands new left xs stream) (append_assoc taken g.messages (j.next ∷ []))
          (record { lies = f.lies _ stream out; through = f.through });
      joined = subst (λ (x : Typed × Sizing). JoinAll now (g.messages ++ j.next ∷ []) (old.typed, old.sizing) x)
          (sym waits) (join_more now g.messages j.next _ _ _ g.joined j.joins);
      begun = ap (λ (i : Inbox). i.begun) f.same ∙ ap (λ (i : Inbox). i.begun) j.same ∙ g.begun;
      counted = length-append g.messages (j.next ∷ []) ∙ ap (λ (n : ℕ). n + 1) g.counted;
    }

-- no more are joined: the next one stays, there is no memory, or one call takes no more
gathered : (now : ℕ) (old : Inbox) (reader : Reading) (new : Inbox) (at : Reading) (count : ℕ) (far : Option Bool)
    → IsGathering now old reader new at count → (far ≡ Some true → NextStays now new) → (far ≡ Some false → count ≡ 64)
    → IsGathered now old reader new at far
gathered now old reader new at count far g through most = record {
  messages = g.messages;
  gives = g.gives;
  joined = g.joined;
  begun = g.begun;
  through = through;
  most = λ is. g.counted ∙ most is;
}

pub ended : (now : ℕ) (old : Inbox) (reader : Reading) (mid new : Inbox) (at : Reading) (count : ℕ)
    → IsGathering now old reader mid at count → (new ≡ mid) × NextStays now new
    → IsGathered now old reader new at (Some true)
ended now old reader mid new at count g s =
    gathered now old reader new at count (Some true)
    (subst (λ (i : Inbox). IsGathering now old reader i at count) (sym s.0) g) (λ _. s.1) (λ e. absurd (cc (e)))

pub broken_off : (now : ℕ) (old : Inbox) (reader : Reading) (mid new : Inbox) (at : Reading) (count : ℕ)
    → IsGathering now old reader mid at count → new ≡ mid → IsGathered now old reader new at None
broken_off now old reader mid new at count g same =
    gathered now old reader new at count None
    (subst (λ (i : Inbox). IsGathering now old reader i at count) (sym same) g) (λ e. absurd (cc (e)))
    (λ e. absurd (cc (e)))
