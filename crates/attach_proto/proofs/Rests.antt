-- The bytes after the messages of a stream.
use Rattle.std.proofs.Common.{◌≡◌, ◌≢◌, ℕ, ◌+◌, ◌*◌, ◌/◌, ◌%◌, ◌<◌, ◌≤◌, Bool, true, false, cond, ltb, List, [], ◌∷◌}
use Rattle.std.proofs.Common.{◌++◌, length, take, drop, Option, Some, None, refl, sym, ap, subst, ◌∙◌, append_assoc}
use Rattle.std.proofs.Common.{inl, inr, arith}
use Rattle.std.specs.Prelude.{if◌then◌else◌, nat_lt}
use Rattle.std.proofs.lemmas.List.{take_at, take-append-drop, length-append, length-take}
use Rattle.std.proofs.lemmas.Bool.{ltb-true, ltb-false, lt-ltb, le-ltb}
use Rattle.attach_proto.specs.declared.fault.ProtoFault.{ProtoFault}
use Rattle.attach_proto.specs.declared.fault.ProtoFault.TheVariants.{TooLong, WrongSide, BadKind, BadPayload, NoMemory}
use Rattle.attach_proto.specs.declared.kind.Side.{Side}
use Rattle.attach_proto.specs.declared.kind.Kind.{Kind}
use Rattle.attach_proto.specs.declared.message.Message.{Message}
use Rattle.attach_proto.specs.declared.reading.Front.TheVariants.{Part, Broken}
use Rattle.attach_proto.specs.Spelling.{code, reader_of, kind_of, payload, spelling, HasFields}
use Rattle.attach_proto.specs.Reading.{kind_at, message_of, ended, sized, same_side, of_kind, front}
use Rattle.attach_proto.specs.Streams.{IsRead, IsUnended, Waits, IsNoPayload, HasFault}
use Rattle.attach_proto.proofs.FieldLaws.{two_is}
use Rattle.attach_proto.proofs.Payloads.{message_again}
use Rattle.attach_proto.proofs.Frames.{kind_takes, kind_again, same_is, same_again}

-- ---- less than a whole frame at the front

unended_is : (k : Kind) (n : ℕ) (bytes : List ℕ) (a b : Bool) → a ≡ ltb 8192 n → b ≡ ltb (length bytes) n
    → cond a (Broken TooLong) (cond b Part (ended n (message_of k (take n bytes)))) ≡ Part → (n ≤ 8192)
    × (length bytes < n)
unended_is k n bytes true b a-is b-is e = absurd cc
unended_is k n bytes false true a-is b-is e = (ltb-false _ _ (sym a-is), ltb-true _ _ (sym b-is))
unended_is k n bytes false false a-is b-is e = absurd (ended_part n (message_of k (take n bytes)) e) where
  ended_part : (n : ℕ) (o : Option Message) → ended n o ≡ Part → ⊥
  ended_part n None e = absurd cc
  ended_part n (Some m) e = absurd cc

sized_waits : (k : Kind) (bytes : List ℕ) → sized k bytes ≡ Part → IsUnended bytes
sized_waits k [] e = tt
sized_waits k (h ∷ []) e = tt
sized_waits k (h ∷ l ∷ bytes) e = unended_is k (256 * h + l) bytes _ _ refl refl e

kind_waits : (side : Side) (byte : ℕ) (o : Option Kind) (bytes : List ℕ) → kind_at byte ≡ o
    → of_kind side o bytes ≡ Part → Waits side (byte ∷ bytes)
kind_waits side byte None bytes o-is e = absurd cc
kind_waits side byte (Some k) bytes o-is e = go (same_side (reader_of k) side) refl e where
  go : (b : Bool) → same_side (reader_of k) side ≡ b → cond b (sized k bytes) (Broken WrongSide) ≡ Part
      → Waits side (byte ∷ bytes)
  go true t e = inr (k, bytes, ap (λ (n : ℕ). n ∷ bytes) (kind_takes byte k o-is), same_is _ _ t, sized_waits k bytes e)
  go false t e = absurd cc

pub front_waits : (side : Side) (bytes : List ℕ) → front side bytes ≡ Part → Waits side bytes
unfolding front
front_waits side [] e = inl refl
front_waits side (byte ∷ bytes) e = kind_waits side byte (kind_at byte) bytes refl e

-- ---- a fault at the front

fault_is : (f g : ProtoFault) → Broken f ≡ Broken g → f ≡ g
fault_is f g e = cc

no_payload : (k : Kind) (bytes : List ℕ) → message_of k bytes ≡ None → IsNoPayload k bytes
no_payload k bytes e m kind-is payload-is fields =
    let some : message_of k bytes ≡ Some m =
    subst (λ (b : List ℕ). message_of k b ≡ Some m) payload-is
    (subst (λ (w : Kind). message_of w (payload m) ≡ Some m) kind-is (message_again m fields)) in
    let clash : None ≡ Some m = sym e ∙ some in absurd cc

ended_fault : (n : ℕ) (o : Option Message) (f : ProtoFault) → ended n o ≡ Broken f → (o ≡ None) × (BadPayload ≡ f)
ended_fault n None f e = (refl, fault_is BadPayload f e)
ended_fault n (Some m) f e = absurd cc

length_fault : (side : Side) (k : Kind) (h l : ℕ) (bytes : List ℕ) (f : ProtoFault) (a b : Bool) → reader_of k ≡ side
    → a ≡ ltb 8192 (256 * h + l) → b ≡ ltb (length bytes) (256 * h + l)
    → cond a (Broken TooLong) (cond b Part (ended (256 * h + l) (message_of k (take (256 * h + l) bytes)))) ≡ Broken f
    → HasFault side (code k ∷ h ∷ l ∷ bytes) f
length_fault side k h l bytes f true b side-is a-is b-is e =
    subst (λ (g : ProtoFault). HasFault side (code k ∷ h ∷ l ∷ bytes) g) (fault_is TooLong f e)
    (k, h, l, bytes, refl, side-is, ltb-true _ _ (sym a-is))
length_fault side k h l bytes f false true side-is a-is b-is e = absurd cc
length_fault side k h l bytes f false false side-is a-is b-is e =
    let n = 256 * h + l in
    let short : n ≤ 8192 = ltb-false _ _ (sym a-is) in
    let enough : n ≤ length bytes = ltb-false _ _ (sym b-is) in
    let t = ended_fault n (message_of k (take n bytes)) f e in
    let len : length (take n bytes) ≡ n = omega (arith, length-take n bytes) in
    subst (λ (g : ProtoFault). HasFault side (code k ∷ h ∷ l ∷ bytes) g) t.1 (
      k,
      h,
      l,
      take n bytes,
      drop n bytes,
      ap (λ (x : List ℕ). code k ∷ h ∷ l ∷ x) (sym (take-append-drop n bytes)),
      side-is,
      len,
      omega (arith, len, short),
      no_payload k (take n bytes) t.0,
    )

sized_fault : (side : Side) (k : Kind) (bytes : List ℕ) (f : ProtoFault) → reader_of k ≡ side → sized k bytes ≡ Broken f
    → HasFault side (code k ∷ bytes) f
sized_fault side k [] f side-is e = absurd cc
sized_fault side k (h ∷ []) f side-is e = absurd cc
sized_fault side k (h ∷ l ∷ bytes) f side-is e = length_fault side k h l bytes f _ _ side-is refl refl e

kind_fault : (side : Side) (byte : ℕ) (o : Option Kind) (bytes : List ℕ) (f : ProtoFault) → kind_at byte ≡ o
    → of_kind side o bytes ≡ Broken f → HasFault side (byte ∷ bytes) f
kind_fault side byte None bytes f o-is e =
    subst (λ (g : ProtoFault). HasFault side (byte ∷ bytes) g) (fault_is BadKind f e)
    (byte, bytes, refl, λ k is. let clash : Some k ≡ None = sym (kind_again k) ∙ ap kind_at is ∙ o-is in cc)
kind_fault side byte (Some k) bytes f o-is e = subst (λ (n : ℕ). HasFault side (n ∷ bytes) f)
    (sym (kind_takes byte k o-is)) (go (same_side (reader_of k) side) refl e) where
      go : (b : Bool) → same_side (reader_of k) side ≡ b → cond b (sized k bytes) (Broken WrongSide) ≡ Broken f
          → HasFault side (code k ∷ bytes) f
      go true t e = sized_fault side k bytes f (same_is _ _ t) e
      go false t e = subst (λ (g : ProtoFault). HasFault side (code k ∷ bytes) g) (fault_is WrongSide f e) (
        k,
        bytes,
        refl,
        λ is. let clash : true ≡ false = sym (same_again side)
            ∙ ap (λ (s : Side). same_side s side) (sym is) ∙ t in cc,
      )

pub front_fault : (side : Side) (bytes : List ℕ) (f : ProtoFault) → front side bytes ≡ Broken f → HasFault side bytes f
unfolding front
front_fault side [] f e = absurd cc
front_fault side (byte ∷ bytes) f e = kind_fault side byte (kind_at byte) bytes f refl e

-- ---- a fault stays, whatever bytes follow

pub fault_stays : (side : Side) (rest more : List ℕ) (f : ProtoFault) → HasFault side rest f
    → HasFault side (rest ++ more) f
fault_stays side rest more BadKind h = (h.0, h.1 ++ more, ap (λ (x : List ℕ). x ++ more) h.2, h.3)
fault_stays side rest more WrongSide h = (h.0, h.1 ++ more, ap (λ (x : List ℕ). x ++ more) h.2, h.3)
fault_stays side rest more TooLong h = (h.0, h.1, h.2, h.3 ++ more, ap (λ (x : List ℕ). x ++ more) h.4, h.5, h.6)
fault_stays side rest more BadPayload h = (
  h.0,
  h.1,
  h.2,
  h.3,
  h.4 ++ more,
  ap (λ (x : List ℕ). x ++ more) h.5
      ∙ ap (λ (x : List ℕ). code h.0 ∷ h.1 ∷ h.2 ∷ x) (append_assoc h.3 h.4 more),
  h.6,
  h.7,
  h.8,
  h.9,
)
fault_stays side rest more NoMemory h = h

-- ---- the front is one of these alone: the fault as it is found without a look into payloads

abbrev mark_length : ℕ → List ℕ → Option ProtoFault
mark_length n bytes = if nat_lt 8192 n then Some TooLong else
    (if nat_lt (length bytes) n then None else Some BadPayload)

abbrev mark_sized : List ℕ → Option ProtoFault
mark_sized [] = None
mark_sized (h ∷ []) = None
mark_sized (h ∷ l ∷ bytes) = mark_length (256 * h + l) bytes

abbrev mark_kind : Side → Option Kind → List ℕ → Option ProtoFault
mark_kind side None bytes = Some BadKind
mark_kind side (Some k) bytes = if same_side (reader_of k) side then mark_sized bytes else Some WrongSide

abbrev mark : Side → List ℕ → Option ProtoFault
mark side [] = None
mark side (byte ∷ bytes) = mark_kind side (kind_at byte) bytes

mark_at : (side : Side) (k : Kind) (more : List ℕ) → reader_of k ≡ side → mark side (code k ∷ more) ≡ mark_sized more
mark_at side k more side-is = rw (kind_again k, side-is, same_again side) refl

unended_mark : (more : List ℕ) → IsUnended more → mark_sized more ≡ None
unended_mark [] h = refl
unended_mark (h ∷ []) u = refl
unended_mark (h ∷ l ∷ bytes) u = rw (le-ltb 8192 (256 * h + l) u.0, lt-ltb (length bytes) (256 * h + l) u.1) refl

waits_mark : (side : Side) (rest : List ℕ) → Waits side rest → mark side rest ≡ None
waits_mark side rest (inl e) = ap (mark side) e
waits_mark side rest (inr w) = ap (mark side) w.2 ∙ mark_at side w.0 w.1 w.3 ∙ unended_mark w.1 w.4

no_kind : (byte : ℕ) (o : Option Kind) → kind_at byte ≡ o → ((k : Kind) → code k ≢ byte) → o ≡ None
no_kind byte None e h = refl
no_kind byte (Some k) e h = absurd (h k (sym (kind_takes byte k e)))

other_side : (a b : Side) (t : Bool) → same_side a b ≡ t → a ≢ b → t ≡ false
other_side a b true e h = absurd (h (same_is a b e))
other_side a b false e h = refl

fault_mark : (side : Side) (rest : List ℕ) (f : ProtoFault) → HasFault side rest f → mark side rest ≡ Some f
fault_mark side rest BadKind h = ap (mark side) h.2
    ∙ ap (λ (o : Option Kind). mark_kind side o h.1) (no_kind h.0 (kind_at h.0) refl h.3)
fault_mark side rest WrongSide h = ap (mark side) h.2
    ∙ rw (kind_again h.0, other_side (reader_of h.0) side _ refl h.3) refl
fault_mark side rest TooLong h = ap (mark side) h.4 ∙ mark_at side h.0 (h.1 ∷ h.2 ∷ h.3) h.5
    ∙ rw (lt-ltb 8192 (256 * h.1 + h.2) h.6) refl
fault_mark side rest BadPayload h =
    ap (mark side) h.5 ∙ mark_at side h.0 (h.1 ∷ h.2 ∷ (h.3 ++ h.4)) h.6
    ∙ rw (
      le-ltb 8192 (256 * h.1 + h.2) (omega (arith, h.7, h.8)),
      le-ltb (length (h.3 ++ h.4)) (256 * h.1 + h.2)
          (omega (arith, h.7, length-append h.3 h.4)),
    ) refl
fault_mark side rest NoMemory h = absurd h

whole_mark : (side : Side) (m : Message) (rest : List ℕ) → IsRead side m
    → mark side (spelling m ++ rest) ≡ Some BadPayload
unfolding spelling
whole_mark side m rest read =
    let len = length (payload m) in
    mark_at side (kind_of m) (len / 256 ∷ len % 256 ∷ (payload m ++ rest)) read.side_is
    ∙ rw (
      two_is len,
      le-ltb 8192 len read.fits.short,
      le-ltb (length (payload m ++ rest)) len
          (omega (arith, length-append (payload m) rest)),
    ) refl

one_fault : (f g : ProtoFault) (o : Option ProtoFault) → o ≡ Some f → o ≡ Some g → f ≡ g
one_fault f g o a b = let e : Some f ≡ Some g = sym a ∙ b in cc

pub waits_no_fault : (side : Side) (rest : List ℕ) (f : ProtoFault) → Waits side rest → HasFault side rest f → ⊥
waits_no_fault side rest f w h = let e : None ≡ Some f = sym (waits_mark side rest w) ∙ fault_mark side rest f h in cc

pub faults_same : (side : Side) (rest : List ℕ) (f g : ProtoFault) → HasFault side rest f → HasFault side rest g → f ≡ g
faults_same side rest f g a b = one_fault f g (mark side rest) (fault_mark side rest f a) (fault_mark side rest g b)

pub waits_no_whole : (side : Side) (m : Message) (rest : List ℕ) → IsRead side m → Waits side (spelling m ++ rest) → ⊥
waits_no_whole side m rest read w = let e : None ≡ Some BadPayload = sym (waits_mark side (spelling m ++ rest) w)
    ∙ whole_mark side m rest read in cc

code_is : (k w : Kind) → code k ≡ code w → k ≡ w
code_is k w e = let some : Some k ≡ Some w = sym (kind_again k) ∙ ap kind_at e ∙ kind_again w in cc

payload_clash : (side : Side) (m : Message) (rest : List ℕ) → HasFault side (spelling m ++ rest) BadPayload
    → HasFields m → ⊥
unfolding spelling
payload_clash side m rest h fields =
    let len = length (payload m) in
    let parts : code (kind_of m) ∷ (len / 256) ∷ (len % 256) ∷ (payload m ++ rest) ≡ code h.0 ∷ h.1 ∷ h.2 ∷ (h.3 ++ h.4)
    = h.5 in
    let first : code (kind_of m) ≡ code h.0 = cc in
    let high : len / 256 ≡ h.1 = cc in
    let low : len % 256 ≡ h.2 = cc in
    let tails : payload m ++ rest ≡ h.3 ++ h.4 = cc in
    let size : length h.3 ≡ len = omega (arith, h.7, high, low) in
    let same : payload m ≡ h.3 = sym (take_at (payload m) rest len refl) ∙ ap (take len) tails
    ∙ take_at h.3 h.4 len size in
    h.9 m (code_is (kind_of m) h.0 first) same fields

pub fault_no_whole : (side : Side) (m : Message) (rest : List ℕ) (f : ProtoFault) → IsRead side m
    → HasFault side (spelling m ++ rest) f → ⊥
fault_no_whole side m rest f read h =
    let same : f ≡ BadPayload = one_fault f BadPayload (mark side (spelling m ++ rest))
    (fault_mark side (spelling m ++ rest) f h) (whole_mark side m rest read) in
    payload_clash side m rest (subst (λ (g : ProtoFault). HasFault side (spelling m ++ rest) g) same h) read.fits.fields
