-- Messages that are heard one after another.
use Rattle.std.proofs.Common.{◌≡◌, ℕ, ◌+◌, ◌<◌, ◌≤◌, List, [], ◌++◌, length, drop, get_or, ap, sym, ◌∙◌, subst}
use Rattle.std.proofs.lemmas.List.{drop_more, drop_all}
use Rattle.attach_proto.specs.declared.fault.ProtoFault.{ProtoFault}
use Rattle.attach_proto.specs.declared.fault.ProtoFault.TheVariants as proto
use Rattle.attach_proto.specs.declared.message.Message.{Message}
use Rattle.attach_proto.specs.Streams.{Reading, HasRead, TakesPiece}
use Rattle.terminal_model.specs.Reading.{Terminal}
use Rattle.web_page.specs.Showing.{Sheet}
use Rattle.web_page.specs.declared.display.ClientFault.{ClientFault}
use Rattle.web_page.specs.declared.display.ClientFault.TheVariants as client
use Rattle.emulator.specs.Standing.{StandsFor}
use Rattle.attach_proto.specs.declared.why.Told.{Told}
use Rattle.attach_proto.specs.Table.{noted}
use Rattle.web_page.specs.Hearing.{WebDisplay, drawn, all_drawn, all_noted, Hears, KeepsSent, heard_fault}

pub one_more : (messages : List Message) (i : ℕ) (d : Message) (t : Terminal) → i < length messages
    → all_drawn t (drop i messages) ≡ all_drawn (drawn t (get_or messages i d)) (drop (i + 1) messages)
unfolding all_drawn
one_more messages i d t l = ap (all_drawn t) (drop_more messages i d l)

pub none_more : (messages : List Message) (i : ℕ) (t : Terminal) → length messages ≤ i
    → all_drawn t (drop i messages) ≡ t
unfolding all_drawn
none_more messages i t l = ap (all_drawn t) (drop_all i messages l)

pub one_told : (messages : List Message) (i : ℕ) (d : Message) (t : Told) → i < length messages
    → all_noted t (drop i messages) ≡ all_noted (noted t (get_or messages i d)) (drop (i + 1) messages)
unfolding all_noted
one_told messages i d t l = ap (all_noted t) (drop_more messages i d l)

pub none_told : (messages : List Message) (i : ℕ) (t : Told) → length messages ≤ i
    → all_noted t (drop i messages) ≡ t
unfolding all_noted
none_told messages i t l = ap (all_noted t) (drop_all i messages l)

-- what keeps what was sent, twice
pub kept_on : (a b c : Sheet) → KeepsSent a b → KeepsSent b c → KeepsSent a c
kept_on a b c h k = (k.0 ∙ h.0, λ since s w. k.1 since s (h.1 since s w))

-- the messages of a piece were heard
pub heard : (old new : WebDisplay) (bytes : List ℕ) (read : Reading) (first out all : List Message)
    → ((made : List Message) × (out ≡ first ++ made) × TakesPiece old.reading bytes made read) → first ≡ []
    → all ≡ out → new.reading ≡ read
    → ((t : Terminal) → StandsFor old.sheet.terminal t → StandsFor new.sheet.terminal (all_drawn t all))
    → new.told ≡ all_noted old.told all → Hears old bytes new
heard old new bytes read first out all got e f r s h = λ messages stream t k w.
    let same : all ≡ got.0 = f ∙ (got.1 ∙ ap (λ (l : List Message). l ++ got.0) e) in (
      got.0,
      subst (λ (x : Reading). HasRead x (messages ++ got.0) (stream ++ bytes)) (sym r) (got.2 messages stream k),
      subst (λ (l : List Message). StandsFor new.sheet.terminal (all_drawn t l)) same (s t w),
      subst (λ (l : List Message). new.told ≡ all_noted old.told l) same h,
    )

-- only memory that was refused is heard as that
pub not_memory : (fault : ProtoFault) (e : ClientFault) → e ≡ heard_fault fault → (e ≡ client.NoMemory → ⊥)
    → fault ≡ proto.NoMemory → ⊥
not_memory fault e h k z = k (h ∙ ap heard_fault z)
