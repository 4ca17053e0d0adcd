-- A whole frame at the front is the one that spells its message.
use Rattle.std.proofs.Common.{◌≡◌, ℕ, suc, ◌+◌, ◌*◌, ◌/◌, ◌%◌, ◌<◌, ◌≤◌, Bool, true, false, cond, eqb, ltb, List, []}
use Rattle.std.proofs.Common.{◌∷◌, ◌++◌, length, take, drop, Option, Some, None, refl, sym, ap, ◌∙◌, arith}
use Rattle.std.proofs.lemmas.List.{take_at, take-append-drop, length-append, length-take}
use Rattle.std.proofs.lemmas.Bool.{eqb-true, ltb-false, le-ltb}
use Rattle.attach_proto.specs.declared.fault.ProtoFault.{ProtoFault}
use Rattle.attach_proto.specs.declared.fault.ProtoFault.TheVariants.{TooLong, WrongSide}
use Rattle.attach_proto.specs.declared.kind.Side.{Side}
use Rattle.attach_proto.specs.declared.kind.Side.TheVariants.{Server, Peer}
use Rattle.attach_proto.specs.declared.kind.Kind.{Kind}
use Rattle.attach_proto.specs.declared.kind.Kind.TheVariants as kind
use Rattle.attach_proto.specs.declared.message.Message.{Message}
use Rattle.attach_proto.specs.declared.reading.Front.{Front}
use Rattle.attach_proto.specs.declared.reading.Front.TheVariants.{Part, Broken, Whole}
use Rattle.attach_proto.specs.Table.{all_kinds}
use Rattle.attach_proto.specs.Spelling.{code, reader_of, kind_of, payload, spelling}
use Rattle.attach_proto.specs.Reading.{kind_at, message_of, ended, sized, same_side, of_kind, front}
use Rattle.attach_proto.specs.Streams.{IsRead}
use Rattle.attach_proto.proofs.FieldLaws.{found, IsBytes, IsBytes-take, two_is}
use Rattle.attach_proto.proofs.Payloads.{message_takes, message_again}

pub kind_takes : (n : ℕ) (k : Kind) → kind_at n ≡ Some k → n ≡ code k
kind_takes n k e = eqb-true n (code k) (found (λ j. eqb n (code j)) all_kinds k e)

pub kind_again : (k : Kind) → kind_at (code k) ≡ Some k
kind_again kind.Attach = refl
kind_again _ = refl

pub same_is : (a b : Side) → same_side a b ≡ true → a ≡ b
same_is Server Server e = refl
same_is Peer Peer e = refl
same_is Server Peer e = absurd cc
same_is Peer Server e = absurd cc

pub same_again : (a : Side) → same_side a a ≡ true
same_again Server = refl
same_again Peer = refl

-- ---- what a whole frame says

not_broken : (b : Bool) (f : ProtoFault) (x : Front) (m : Message) (n : ℕ) → cond b (Broken f) x ≡ Whole m n
    → (b ≡ false) × (x ≡ Whole m n)
not_broken true f x m n e = absurd cc
not_broken false f x m n e = (refl, e)

not_part : (b : Bool) (x : Front) (m : Message) (n : ℕ) → cond b Part x ≡ Whole m n → (b ≡ false) × (x ≡ Whole m n)
not_part true x m n e = absurd cc
not_part false x m n e = (refl, e)

ended_is : (len : ℕ) (o : Option Message) (m : Message) (n : ℕ) → ended len o ≡ Whole m n → (o ≡ Some m) × (n ≡ len + 3)
ended_is len None m n e = absurd cc
ended_is len (Some x) m n e = let same : x ≡ m = cc in let long : len + 3 ≡ n = cc in
    (ap (λ (y : Message). Some y) same, sym long)

kind_is : (side : Side) (o : Option Kind) (bytes : List ℕ) (m : Message) (n : ℕ) → of_kind side o bytes ≡ Whole m n
    → (k : Kind) × (o ≡ Some k) × (same_side (reader_of k) side ≡ true) × (sized k bytes ≡ Whole m n)
kind_is side None bytes m n e = absurd cc
kind_is side (Some k) bytes m n e = let t = side_test (same_side (reader_of k) side) (sized k bytes) m n e in
    (k, refl, t.0, t.1) where
      side_test : (b : Bool) (x : Front) (m : Message) (n : ℕ) → cond b x (Broken WrongSide) ≡ Whole m n → (b ≡ true)
          × (x ≡ Whole m n)
      side_test true x m n e = (refl, e)
      side_test false x m n e = absurd cc

-- the frame at the front of these bytes
pub record Fronts (side : Side) (bytes : List ℕ) (m : Message) (n : ℕ) : Type 0 where
  pub rest : List ℕ
  pub parts : bytes ≡ spelling m ++ rest
  pub long : n ≡ length (spelling m)
  pub read : IsRead side m

whole_is : (side : Side) (c h l : ℕ) (bytes : List ℕ) (m : Message) (n : ℕ) → IsBytes (c ∷ h ∷ l ∷ bytes)
    → of_kind side (kind_at c) (h ∷ l ∷ bytes) ≡ Whole m n → Fronts side (c ∷ h ∷ l ∷ bytes) m n
unfolding spelling
whole_is side c h l bytes m n fits e =
    let a = kind_is side (kind_at c) (h ∷ l ∷ bytes) m n e in
    let len = 256 * h + l in
    let b = not_broken (ltb 8192 len) TooLong
    (cond (ltb (length bytes) len) Part (ended len (message_of a.0 (take len bytes)))) m n a.3 in
    let d = not_part (ltb (length bytes) len) (ended len (message_of a.0 (take len bytes))) m n b.1 in
    let f = ended_is len (message_of a.0 (take len bytes)) m n d.1 in
    let short : len ≤ 8192 = ltb-false _ _ b.0 in
    let enough : len ≤ length bytes = ltb-false _ _ d.0 in
    let rest_fits : IsBytes bytes = λ i. fits (suc (suc (suc i))) in
    let s = message_takes a.0 (take len bytes) m (IsBytes-take len bytes rest_fits) f.0 in
    let taken : length (take len bytes) ≡ len = omega (arith, length-take len bytes) in
    let size : length (payload m) ≡ len = ap length (sym s.payload_is) ∙ taken in
    let high : h < 256 = fits 1 in
    let low : l < 256 = fits 2 in
    let e1 : h ≡ length (payload m) / 256 = omega (arith, size) in
    let e2 : l ≡ length (payload m) % 256 = omega (arith, size) in
    let first : c ≡ code (kind_of m) = kind_takes c a.0 a.1 ∙ ap code (sym s.kind_is) in
    let body : bytes ≡ payload m ++ drop len bytes = sym (take-append-drop len bytes)
    ∙ ap (λ (x : List ℕ). x ++ drop len bytes) s.payload_is in
    let parts : c ∷ h ∷ l ∷ bytes ≡ code (kind_of m) ∷ (length (payload m) / 256) ∷ (length (payload m) % 256) ∷
    (payload m ++ drop len bytes) = cc in
    record {
      rest = drop len bytes;
      parts = parts;
      long = omega (arith, size, f.1);
      read = record {
        fits = record { fields = s.fields; short = omega (arith, size, short) };
        side_is = ap reader_of s.kind_is
            ∙ same_is _ _ a.2;
      };
    }

pub front_takes : (side : Side) (bytes : List ℕ) (m : Message) (n : ℕ) → IsBytes bytes → front side bytes ≡ Whole m n
    → Fronts side bytes m n
unfolding front
front_takes side [] m n fits e = absurd cc
front_takes side (c ∷ []) m n fits e = let a = kind_is side (kind_at c) [] m n e in absurd (cc (a.3))
front_takes side (c ∷ h ∷ []) m n fits e = let a = kind_is side (kind_at c) (h ∷ []) m n e in absurd (cc (a.3))
front_takes side (c ∷ h ∷ l ∷ bytes) m n fits e = whole_is side c h l bytes m n fits e

pub front_again : (side : Side) (m : Message) (rest : List ℕ) → IsRead side m
    → front side (spelling m ++ rest) ≡ Whole m (length (payload m) + 3)
unfolding front spelling
front_again side m rest h =
    let len = length (payload m) in
    let short : ltb 8192 len ≡ false = le-ltb _ _ h.fits.short in
    let enough : ltb (length (payload m ++ rest)) len ≡ false = le-ltb _ _
    (omega (arith, length-append (payload m) rest)) in
    rw (
      kind_again (kind_of m),
      h.side_is,
      same_again side,
      two_is len,
      short,
      enough,
      take_at (payload m) rest len
          refl,
      message_again m h.fits.fields,
    ) refl
