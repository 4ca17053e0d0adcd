-- A connection that read nothing, or nothing more.
use Rattle.std.proofs.Common.{◌≡◌, ◌++◌, [], List, ℕ, None, refl, subst, sym, append-nil}
use Rattle.std.proofs.lemmas.Bool.{and_parts, false≢true}
use Rattle.std.specs.Prelude.{Bool, true, false, not, ◌&&◌}
use Rattle.attach_proto.specs.Streams.{HasRead, Reading}
use Rattle.attach_proto.specs.declared.message.Message.{Message}
use Rattle.server_inbox.specs.Asking.{Stands}
use Rattle.server_inbox.specs.declared.inbox.Inbox.{Inbox}
use Rattle.server_inbox.proofs.Asking.{starts}
use Rattle.server_typing.specs.Typed.{Typed}

pub newly : (inbox : Inbox) (r : Reading) → inbox.messages.items ≡ [] → inbox.rest.items ≡ [] → inbox.seen ≡ 0
    → HasRead r [] [] → r.fault ≡ None → Stands inbox r [] []
newly inbox r none rest seen read sound = record {
  lies = starts inbox.messages.items inbox.rest.items inbox.seen inbox.is_broken r none rest seen read sound;
  through = λ _ _. (rest, seen);
}

-- keys that wait are no part of it
pub typed_anew : (inbox : Inbox) (t : Typed) (r : Reading) (taken : List Message) (stream : List ℕ)
    → Stands inbox r taken stream → Stands (record inbox { typed = t }) r taken stream
typed_anew inbox t r taken stream h = record { lies = h.lies; through = h.through }

-- nothing came
pub quiet : (inbox : Inbox) (r : Reading) (taken : List Message) (stream : List ℕ)
    → Stands inbox r taken stream → Stands inbox r taken (stream ++ [])
quiet inbox r taken stream h =
    subst (λ (xs : List ℕ). Stands inbox r taken xs) (sym (append-nil stream)) h

not_so : (b : Bool) → not b ≡ true → b ≡ false
not_so true e = absurd (false≢true e)
not_so false e = refl

-- if there is more to read, no byte was wrong
pub unbroken : (more broken : Bool) → (more && not broken) ≡ true → broken ≡ false
unbroken more broken e = not_so broken (and_parts more (not broken) e).1
