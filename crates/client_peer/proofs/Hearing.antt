-- What a peer hears, message after message.
use Rattle.std.proofs.Common.{◌≡◌, ◌∙◌, List, [], ◌∷◌, ◌++◌, ℕ, length, length-append}
use Rattle.std.proofs.Common.{Option, Some, None, IsSome, Result, Ok, Err, option_map, refl, sym, ap, subst, arith}
use Rattle.std.proofs.Common.{◌⊎◌, inl, inr, MatchOption, append_assoc}
use Rattle.std.proofs.lemmas.Option.{none-some}
use Rattle.attach_proto.specs.declared.fault.ProtoFault.{ProtoFault}
use Rattle.attach_proto.specs.declared.fault.ProtoFault.TheVariants.{NoMemory}
use Rattle.attach_proto.specs.declared.message.Message.{Message}
use Rattle.attach_proto.specs.declared.message.Message.TheVariants.{Gone}
use Rattle.attach_proto.specs.declared.why.Why.{Why}
use Rattle.attach_proto.specs.Streams.{Answers, Reading, TakesPiece}
use Rattle.client_words.specs.declared.fault.PeerFault.{PeerFault}
use Rattle.client_words.specs.declared.fault.PeerFault.TheVariants.{NoServerOfOurs}
use Rattle.client_peer.specs.declared.peer.Peer.{Peer}
use Rattle.client_peer.specs.Ending.{end_for}
use Rattle.client_peer.specs.Hearing.{Hears, HearsAll, HearsFirst, HearsRead, next, gone_in}
use Rattle.client_peer.specs.Failing.{FailsAfter, FailsAt, FailsBy, FailsRead}

-- only by GONE the server lets the peer go
why_or : Why → Option Why → Why
why_or why None = why
why_or why (Some w) = w

gone_is : (m : Message) (why : Why) → Some why ≡ gone_in m → m ≡ Gone why
unfolding why_or
gone_is (Gone w) why e = ap Gone (sym (ap (why_or why) e))
gone_is _ why e = absurd (none-some why (sym e))

pub came : (messages heard all later : List Message) (m : Message) → messages ≡ heard ++ all → all ≡ m ∷ later
    → messages ≡ heard ++ m ∷ later
came messages heard all later m whole is = whole ∙ ap (λ (l : List Message). heard ++ l) is

-- these messages were heard, and then this one came
module _ (old middle : Peer) (messages heard later : List Message) (m : Message) (whole : messages ≡ heard ++ m ∷ later)
    (all : HearsAll old heard middle) where
  -- it isn't heard
  pub fails_at : (e : PeerFault) → FailsBy middle m e → FailsAt old messages e
  fails_at e f = record {
    heard = heard;
    at = m;
    later = later;
    middle = middle;
    whole = whole;
    hears = all;
    fails = f;
  }

  -- it is the last one
  pub heard_last : (new : Peer) → Hears middle m new → (why : Why) → Some why ≡ gone_in m
      → HearsFirst old messages (Some why) new
  heard_last new one why gone = record {
    heard = heard ++ m ∷ [];
    later = later;
    whole = whole ∙ sym (append_assoc heard (m ∷ []) later);
    hears = next m all one;
    all = λ n. absurd (none-some why (sym n));
    last = (heard, ap (λ (x : Message). heard ++ x ∷ []) (gone_is m why gone));
  }

no_empty : (front later : List Message) (m : Message) → (front ++ m ∷ []) ++ later ≡ [] → ⊥
no_empty front later m e =
    omega (arith, length-append (front ++ m ∷ []) later, length-append front (m ∷ []), ap length e)

ok_err : (r : Result (Prim.Unit {0}) ProtoFault) (f : ProtoFault) → r ≡ Ok tt → r ≡ Err f → ⊥
ok_err r f ok err = cc

-- memory wasn't refused for the messages that were heard
not_refused : (old new : Peer) (all : List Message) (fed : Result (Prim.Unit {0}) ProtoFault) (gone : Option Why)
    → HearsFirst old all gone new → (gone ≡ None → fed ≡ Ok tt) → all ≡ [] → fed ≡ Err NoMemory → ⊥
not_refused old new all fed None h whole none refused = ok_err fed NoMemory (whole refl) refused
not_refused old new all fed (Some why) h whole none refused =
    no_empty h.last.0 h.later (Gone why)
    (ap (λ (l : List Message). l ++ h.later) (sym h.last.1) ∙ (sym h.whole ∙ none))

module _ (old new : Peer) (reader later : Reading) (piece : List ℕ) (first messages all : List Message)
    (fed : Result (Prim.Unit {0}) ProtoFault) (gone : Option Why) (none : first ≡ []) (same : all ≡ messages)
    (h : HearsFirst old all gone new) (end : Option (Result Why PeerFault))
    (ends : end ≡ option_map (end_for old.subcommand) gone) where
  heard_got : ((made : List Message) × (messages ≡ first ++ made) × TakesPiece reader piece made later)
      → HearsRead old reader piece new later end
  heard_got got =
      let is : all ≡ got.0 = same ∙ (got.1 ∙ ap (λ (l : List Message). l ++ got.0) none) in record {
        made = got.0;
        gone = gone;
        takes = got.2;
        hears = subst (λ (l : List Message). HearsFirst old l gone new) is h;
        ends = ends;
      }

  -- the messages of a read were heard
  pub heard_read : (gone ≡ None → fed ≡ Ok tt) → (fed ≡ Err NoMemory → messages ≡ first)
      → ((fed ≡ Err NoMemory → ⊥)
      → (made : List Message) × (messages ≡ first ++ made) × TakesPiece reader piece made later)
      → HearsRead old reader piece new later end
  heard_read whole refused reads =
      heard_got (reads (λ r. not_refused old new all fed gone h whole (same ∙ (refused r ∙ none)) r))

-- ---- a fault

-- a reader that answers a fault keeps it
kept : (o : Option ProtoFault) (r : Result (Prim.Unit {0}) ProtoFault) (f : ProtoFault) → r ≡ Err f
    → MatchOption o (r ≡ Ok tt) (λ g. r ≡ Err g) → IsSome o
kept None r f is a = absurd (ok_err r f a is)
kept (Some g) r f is a = refl

none_fails : (old : Peer) (all : List Message) (e : PeerFault) → all ≡ [] → FailsAt old all e → ⊥
none_fails old all e none f = omega (arith, length-append f.heard (f.at ∷ f.later), ap length (sym f.whole ∙ none))

module _ (old : Peer) (reader later : Reading) (piece : List ℕ) (first messages all : List Message) (e : PeerFault)
    (none : first ≡ []) (same : all ≡ messages) where
  abbrev Takes : Type 0
  Takes = (made : List Message) × (messages ≡ first ++ made) × TakesPiece reader piece made later

  fails_got : Takes → FailsAt old all e ⊎ ((e ≡ NoServerOfOurs) × IsSome later.fault)
      → FailsRead old reader piece later e
  fails_got got fails =
      let is : all ≡ got.0 = same ∙ (got.1 ∙ ap (λ (l : List Message). l ++ got.0) none) in
      inr (
        got.0,
        got.2,
        subst (λ (l : List Message). FailsAt old l e ⊎ ((e ≡ NoServerOfOurs) × IsSome later.fault)) is fails,
      )

  -- a read fails by its first fault
  pub fails_read : (fed : Result (Prim.Unit {0}) ProtoFault) → FailsAt old all e ⊎ FailsAfter fed e
      → (fed ≡ Err NoMemory → messages ≡ first) → ((fed ≡ Err NoMemory → ⊥) → Takes)
      → ((fed ≡ Err NoMemory → ⊥) → Answers later fed) → FailsRead old reader piece later e
  fails_read (Ok done) (inl at) refused reads answers = fails_got (reads (λ r. cc)) (inl at)
  fails_read (Ok done) (inr is) refused reads answers = elim is [ ]
  fails_read (Err NoMemory) (inl at) refused reads answers =
      absurd (none_fails old all e (same ∙ (refused refl ∙ none)) at)
  fails_read (Err NoMemory) (inr is) refused reads answers = inl is
  fails_read (Err f) (inl at) refused reads answers = fails_got (reads (λ r. cc)) (inl at)
  fails_read (Err f) (inr is) refused reads answers =
      fails_got (reads (λ r. cc)) (inr (is, kept later.fault (Err f) f refl (answers (λ r. cc))))
