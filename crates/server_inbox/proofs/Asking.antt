-- What is to be done for a connection, after a piece of its stream.
use Rattle.std.proofs.Common.{◌≡◌, ◌∙◌, ◌++◌, ◌∷◌, [], List, ℕ, refl, sym, ap, append_assoc, append-nil, subst}
use Rattle.std.proofs.lemmas.Bool.{false≢true}
use Rattle.std.proofs.lemmas.List.{reverse-append, reverse-reverse}
use Rattle.std.specs.Prelude.{reverse, drop, Option, Some, None, Result, Ok, Err, IfSome, MatchOption, Bool, true, false}
use Rattle.std.specs.Prelude.{is_err}
use Rattle.attach_proto.specs.Streams.{Answers, EndsIn, HasFault, HasRead, Reading, TakesPiece, Waits}
use Rattle.attach_proto.specs.declared.fault.ProtoFault.{ProtoFault}
use Rattle.attach_proto.specs.declared.fault.ProtoFault.TheVariants.{NoMemory}
use Rattle.attach_proto.specs.declared.message.Message.{Message}
use Rattle.server_inbox.specs.Asking.{HasTaken, IsWhole}

-- more bytes came that weren't looked at
pub added : (messages : List Message) (unseen more : List ℕ) (broken : Bool) (r : Reading) (taken : List Message)
    (stream : List ℕ) → HasTaken messages unseen broken r taken stream
    → HasTaken messages (unseen ++ more) broken r taken (stream ++ more)
added messages unseen more broken r taken stream h = record {
  made = h.made;
  seen = h.seen;
  left = h.left ++ more;
  read = h.read;
  order = h.order;
  bytes = ap (λ xs. xs ++ more) h.bytes ∙ append_assoc h.seen h.left more;
  whole = λ is. ap (λ xs. xs ++ more) (h.whole is);
  sound = h.sound;
}

-- more bytes came, for which there was no memory
pub lost_more : (messages : List Message) (unseen other more : List ℕ) (broken : Bool) (r : Reading)
    (taken : List Message) (stream : List ℕ) → HasTaken messages unseen broken r taken stream → broken ≡ false
    → HasTaken messages other true r taken (stream ++ more)
lost_more messages unseen other more broken r taken stream h sound = record {
  made = h.made;
  seen = h.seen;
  left = h.left ++ more;
  read = h.read;
  order = h.order;
  bytes = ap (λ xs. xs ++ more) h.bytes ∙ append_assoc h.seen h.left more;
  whole = λ is. absurd (is refl (h.sound sound));
  sound = λ e. absurd (false≢true (sym e));
}

-- the next message was taken out
pub popped : (all rest : List Message) (m : Message) (unseen : List ℕ) (broken : Bool) (r : Reading)
    (taken : List Message) (stream : List ℕ) → HasTaken all unseen broken r taken stream → all ≡ rest ++ m ∷ []
    → HasTaken rest unseen broken r (taken ++ m ∷ []) stream
popped all rest m unseen broken r taken stream h is = record {
  made = h.made;
  seen = h.seen;
  left = h.left;
  read = h.read;
  order = h.order ∙ ap (λ xs. taken ++ reverse xs) is ∙ ap (λ xs. taken ++ xs) (reverse-append rest (m ∷ []))
      ∙ sym (append_assoc taken (m ∷ []) (reverse rest));
  bytes = h.bytes;
  whole = h.whole;
  sound = h.sound;
}

-- ---- what a reader was fed, unless memory ran out

lost : (r : Reading) (g : ProtoFault) (rest : List ℕ) → r.fault ≡ Some g → EndsIn r rest → g ≡ NoMemory → ⊥
lost r g rest is ends e =
    let fault : HasFault r.side rest g = subst
    (λ (x : Option ProtoFault). MatchOption x (Waits r.side rest × (rest ≡ r.rest)) (HasFault r.side rest))
    is ends in
    subst (λ (f : ProtoFault). HasFault r.side rest f) e fault

unread : (o : Option ProtoFault) (old new : Reading) (before after : List Message) (rest : List ℕ)
    (result : Result (Prim.Unit {0}) ProtoFault) → old.fault ≡ o → EndsIn old rest → new ≡ old → result ≡ Err NoMemory
    → IfSome o (λ f. (new ≡ old) × (after ≡ before) × (result ≡ Err f)) → new.fault ≡ None
unread None old new before after rest result is ends same memory stays = ap (λ (r : Reading). r.fault) same ∙ is
unread (Some g) old new before after rest result is ends same memory stays =
    let both = sym stays.2 ∙ memory in
    absurd (lost old g rest is ends (cc (both)))

-- a reader that answers Ok has no fault
no_fault : (answer : Result (Prim.Unit {0}) ProtoFault) (u : Prim.Unit {0}) (o : Option ProtoFault) → answer ≡ Ok u
    → MatchOption o (answer ≡ Ok tt) (λ (f : ProtoFault). answer ≡ Err f) → o ≡ None
no_fault answer u None is h = refl
no_fault answer u (Some f) is h = absurd (cc (is, h))

pub sound_of : (r : Reading) (result : Result (Prim.Unit {0}) ProtoFault) (broken : Bool) → broken ≡ is_err result
    → ((result ≡ Err NoMemory → ⊥) → Answers r result) → broken ≡ false → r.fault ≡ None
sound_of r (Ok u) broken err answer is = no_fault (Ok u) u r.fault refl (answer (λ e. absurd (cc (e))))
sound_of r (Err f) broken err answer is = absurd (false≢true (sym is ∙ err))

unbroken : (broken : Bool) (r : Reading) → broken ≡ false → IsWhole broken r
unbroken broken r sound is none = false≢true (sym sound ∙ is)

-- a piece was looked at
fed : (all piece unseen : List ℕ) (old new : Reading) (made messages taken : List Message) (stream : List ℕ)
    (was broken : Bool) → HasTaken [] all was old taken stream → was ≡ false → all ≡ piece ++ unseen
    → TakesPiece old piece made new → messages ≡ reverse made → (broken ≡ false → new.fault ≡ None)
    → HasTaken messages unseen broken new taken stream
fed all piece unseen old new made messages taken stream was broken h whole parts takes is sound = record {
  made = h.made ++ made;
  seen = h.seen ++ piece;
  left = unseen;
  read = takes h.made h.seen h.read;
  order = ap (λ xs. xs ++ made) (h.order ∙ append-nil taken)
      ∙ ap (λ xs. taken ++ xs) (sym (reverse-reverse made)) ∙ ap (λ xs. taken ++ reverse xs) (sym is);
  bytes = h.bytes ∙ ap (λ xs. h.seen ++ xs) (h.whole (unbroken was old whole) ∙ parts)
      ∙ sym (append_assoc h.seen piece unseen);
  whole = λ _. refl;
  sound = sound;
}

taken_in : (all piece unseen : List ℕ) (old new : Reading) (before after messages taken : List Message)
    (stream : List ℕ) (was broken : Bool)
    → (made : List Message) × (after ≡ before ++ made) × TakesPiece old piece made new
    → before ≡ [] → was ≡ false → messages ≡ reverse after → HasTaken before all was old taken stream
    → all ≡ piece ++ unseen → (broken ≡ false → new.fault ≡ None) → HasTaken messages unseen broken new taken stream
taken_in all piece unseen old new before after messages taken stream was broken makes none whole is h parts sound =
    let empty : HasTaken [] all was old taken stream = subst
    (λ (xs : List Message). HasTaken xs all was old taken stream) none h in
    let made : after ≡ makes.0 = makes.1 ∙ ap (λ (xs : List Message). xs ++ makes.0) none in
    fed all piece unseen old new makes.0 messages taken stream was broken empty whole parts makes.2
    (is ∙ ap (λ (xs : List Message). reverse xs) made) sound

-- what a feed makes of a reader
pub record IsFed (piece : List ℕ) (old new : Reading) (before after : List Message)
    (result : Result (Prim.Unit {0}) ProtoFault)
    : Type 0 where
  pub memory : result ≡ Err NoMemory → (new ≡ old) × (after ≡ before)
  pub reads : (result ≡ Err NoMemory → ⊥)
      → (made : List Message) × (after ≡ before ++ made) × TakesPiece old piece made new
  pub answer : (result ≡ Err NoMemory → ⊥) → Answers new result
  pub stays : IfSome old.fault (λ f. (new ≡ old) × (after ≡ before) × (result ≡ Err f))

pub fed_whole : (all piece unseen : List ℕ) (old new : Reading) (before after messages taken : List Message)
    (stream : List ℕ) (result : Result (Prim.Unit {0}) ProtoFault) (was broken : Bool)
    → IsFed piece old new before after result
    → broken ≡ is_err result → before ≡ [] → was ≡ false → messages ≡ reverse after
    → HasTaken before all was old taken stream → all ≡ piece ++ unseen
    → HasTaken messages unseen broken new taken stream
fed_whole all piece unseen old new before after messages taken stream (Ok u) was broken feed err none whole is h parts =
    taken_in all piece unseen old new before after messages taken stream was broken (feed.reads (λ e. absurd (cc (e))))
    none whole is h parts (sound_of new (Ok u) broken err feed.answer)
fed_whole all piece unseen old new before after messages taken stream (Err NoMemory) was broken feed err none whole is h
    parts =
    let memory = feed.memory refl in
    let same : before ≡ messages =
    none ∙ sym (is ∙ ap (λ (xs : List Message). reverse xs) (memory.1 ∙ none)) in
    record {
      made = h.made;
      seen = h.seen;
      left = h.left;
      read = subst (λ (r : Reading). HasRead r h.made h.seen) (sym memory.0) h.read;
      order = h.order ∙ ap (λ (xs : List Message). taken ++ reverse xs) same;
      bytes = h.bytes;
      whole = λ lost. absurd (lost err (unread old.fault old new before after h.read.rest (Err NoMemory) refl
          h.read.ends memory.0 refl feed.stays));
      sound = λ e. absurd (false≢true (sym e ∙ err));
    }
fed_whole all piece unseen old new before after messages taken stream (Err f) was broken feed err none whole is h parts =
    taken_in all piece unseen old new before after messages taken stream was broken (feed.reads (λ e. absurd (cc (e))))
    none whole is h parts (sound_of new (Err f) broken err feed.answer)

-- bytes were kept after others of which all were looked at
pub kept_after : (seen : ℕ) (rest all bytes : List ℕ) → rest ≡ [] → seen ≡ 0 → all ≡ rest ++ bytes
    → drop seen all ≡ drop seen rest ++ bytes
kept_after seen rest all bytes empty zero is =
    ap (λ (n : ℕ). drop n all) zero ∙ is ∙ ap (λ (xs : List ℕ). xs ++ bytes) empty
    ∙ sym (ap (λ (xs : List ℕ). xs ++ bytes)
    (ap (λ (xs : List ℕ). drop seen xs) empty ∙ ap (λ (n : ℕ). drop n []) zero))

-- nothing was read yet
pub starts : (messages : List Message) (rest : List ℕ) (n : ℕ) (broken : Bool) (r : Reading) → messages ≡ [] → rest ≡ []
    → n ≡ 0 → HasRead r [] [] → r.fault ≡ None → HasTaken messages (drop n rest) broken r [] []
starts messages rest n broken r none empty zero read sound = record {
  made = [];
  seen = [];
  left = [];
  read = read;
  order = ap (λ (xs : List Message). reverse xs) (sym none);
  bytes = refl;
  whole = λ _. sym (ap (λ (xs : List ℕ). drop n xs) empty ∙ ap (λ (k : ℕ). drop k []) zero);
  sound = λ whole. sound;
}
