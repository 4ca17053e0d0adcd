-- The message of a payload is the one that spells it. The rows of the table are proved by their fields.
use Rattle.std.proofs.Common.{◌≡◌, ℕ, List, [], ◌∷◌, ◌++◌, Option, Some, refl, ap, subst, ◌∙◌}
use Rattle.attach_proto.specs.declared.kind.Kind.{Kind}
use Rattle.attach_proto.specs.declared.kind.Kind.TheVariants as kind
use Rattle.attach_proto.specs.declared.message.Message.{Message}
use Rattle.attach_proto.specs.declared.message.Message.TheVariants as message
use Rattle.attach_proto.specs.Fields.{Field, Number, Byte, WindowNumber, WhyNumber, Token, Name}
use Rattle.attach_proto.specs.Fields.{Last, Nothing, Text, Bytes, NotEmpty, Value, LastValue, Values, spelled}
use Rattle.attach_proto.specs.Fields.{spelled_last, all_spelled, IsSaid, IsSaidLast, AreSaid, ◌>>=◌, read, read_last}
use Rattle.attach_proto.specs.Table.{Maker, Row, row, row_of, fields_in, last_in, Parts, of_parts}
use Rattle.attach_proto.specs.Table.{made_last, made_by, made_in, read_by, read_in}
use Rattle.attach_proto.specs.Spelling.{kind_of, payload, HasFields}
use Rattle.attach_proto.specs.Reading.{message_of}
use Rattle.attach_proto.proofs.FieldLaws.{IsBytes, bind_some, some_is, two_takes, two_again, one_takes, token_takes}
use Rattle.attach_proto.proofs.FieldLaws.{token_again, text_takes, text_again, name_takes, name_again, end_takes}
use Rattle.attach_proto.proofs.FieldLaws.{some_takes, some_again, window_takes, window_again, why_takes, why_again}

-- ---- a field that is read

-- the front of some bytes spells this value
record Read (f : Field) (bytes : List ℕ) (v : Value f) (rest : List ℕ) : Type 1 where
  pub parts : bytes ≡ spelled f v ++ rest
  pub rest_fits : IsBytes rest
  pub said : (Rest : Type 0) → Rest → IsSaid f v Rest

field_takes : (f : Field) (bytes : List ℕ) (x : Value f × List ℕ) → IsBytes bytes → read f bytes ≡ Some x
    → Read f bytes x.0 x.1
field_takes Number bytes x fits e = let t = two_takes bytes x fits e in
    record { parts = t.0.parts; rest_fits = t.0.rest_fits; said = λ Rest r. r }
field_takes Byte bytes x fits e = let t = one_takes bytes x fits e in
    record { parts = t.0.parts; rest_fits = t.0.rest_fits; said = λ Rest r. r }
field_takes WindowNumber bytes x fits e = let t = window_takes bytes x fits e in
    record { parts = t.0.parts; rest_fits = t.0.rest_fits; said = λ Rest r. (t.1, r) }
field_takes WhyNumber bytes x fits e = let t = why_takes bytes x fits e in
    record { parts = t.parts; rest_fits = t.rest_fits; said = λ Rest r. r }
field_takes Token bytes x fits e = let t = token_takes bytes x fits e in
    record { parts = t.0.parts; rest_fits = t.0.rest_fits; said = λ Rest r. (t.1, r) }
field_takes Name bytes x fits e = let t = name_takes bytes x fits e in
    record { parts = t.parts; rest_fits = t.rest_fits; said = λ Rest r. (t.short, t.is_text, r) }

last_takes : (l : Last) (bytes : List ℕ) (v : LastValue l) → read_last l bytes ≡ Some v
    → (bytes ≡ spelled_last l v) × IsSaidLast l v
last_takes Nothing bytes v e = (end_takes bytes v e, tt)
last_takes Text bytes v e = text_takes bytes v e
last_takes Bytes bytes v e = (some_is bytes v e, tt)
last_takes NotEmpty bytes v e = some_takes bytes v e

-- ---- a row that is read

-- these bytes spell values of which a row makes the message
record Made (fs : List Field) (l : Last) (make : Maker fs l) (bytes : List ℕ) (m : Message) : Type 0 where
  pub values : Values fs l
  pub whole : bytes ≡ all_spelled fs l values
  pub said : AreSaid fs l values
  pub made : made_by fs l make values ≡ m

values_take : (fs : List Field) (l : Last) (make : Maker fs l) (bytes : List ℕ) (m : Message) → IsBytes bytes
    → read_by fs l make bytes ≡ Some m → Made fs l make bytes m
values_take [] l make bytes m fits e =
    let a = bind_some (read_last l bytes) (λ v. Some (made_last l make v)) m e in
    let t = last_takes l bytes a.0 a.1 in
    record { values = a.0; whole = t.0; said = t.1; made = some_is _ _ a.2 }
values_take (f ∷ fs) l make bytes m fits e =
    let a = bind_some (read f bytes) (λ x. read_by fs l (make x.0) x.1) m e in
    let t = field_takes f bytes a.0 fits a.1 in
    let r = values_take fs l (make a.0.0) a.0.1 m t.rest_fits a.2 in
    record {
      values = (a.0.0, r.values);
      whole = t.parts ∙ ap (λ (b : List ℕ). spelled f a.0.0 ++ b) r.whole;
      said = t.said (AreSaid fs l r.values) r.said;
      made = r.made;
    }

record MadeIn (r : Row) (bytes : List ℕ) (m : Message) : Type 0 where
  pub values : Parts r
  pub whole : bytes ≡ all_spelled (fields_in r) (last_in r) values
  pub said : AreSaid (fields_in r) (last_in r) values
  pub made : made_in r values ≡ m

row_takes : (r : Row) (bytes : List ℕ) (m : Message) → IsBytes bytes → read_in r bytes ≡ Some m → MadeIn r bytes m
row_takes (row code side fs l make) bytes m fits e =
    let t = values_take fs l make bytes m fits e in
    record { values = t.values; whole = t.whole; said = t.said; made = t.made }

-- ---- the table

abbrev Whole : Type 0
Whole = (k : Kind) × Parts (row_of k)

abbrev whole : (k : Kind) → Parts (row_of k) → Whole
whole k v = (k, v)

abbrev parts_of : Message → Whole
parts_of m = of_parts whole m

-- a message is made of its parts
made_again : (m : Message) → made_in (row_of (parts_of m).0) (parts_of m).1 ≡ m
made_again (message.Attach rows columns token name) = refl
made_again _ = refl

-- a message that spells this payload of this kind
pub record Spells (k : Kind) (bytes : List ℕ) (m : Message) : Type 0 where
  pub kind_is : kind_of m ≡ k
  pub payload_is : bytes ≡ payload m
  pub fields : HasFields m

spells : (k : Kind) (bytes : List ℕ) (v : Parts (row_of k))
    → bytes ≡ all_spelled (fields_in (row_of k)) (last_in (row_of k)) v
    → AreSaid (fields_in (row_of k)) (last_in (row_of k)) v → Spells k bytes (made_in (row_of k) v)
spells kind.Attach bytes v whole said = record { kind_is = refl; payload_is = whole; fields = said }
spells _ bytes v whole said = record { kind_is = refl; payload_is = whole; fields = said }

pub message_takes : (k : Kind) (bytes : List ℕ) (m : Message) → IsBytes bytes → message_of k bytes ≡ Some m
    → Spells k bytes m
unfolding message_of
message_takes k bytes m fits e =
    let t = row_takes (row_of k) bytes m fits e in
    subst (λ (n : Message). Spells k bytes n) t.made (spells k bytes t.values t.whole t.said)

-- ---- and what is spelled is read

field_again : (f : Field) (v : Value f) (rest : List ℕ) (Rest : Type 0) → IsSaid f v Rest
    → (read f (spelled f v ++ rest) ≡ Some (v, rest)) × Rest
field_again Number v rest Rest h = (two_again v rest, h)
field_again Byte v rest Rest h = (refl, h)
field_again WindowNumber v rest Rest h = (window_again v rest h.0, h.1)
field_again WhyNumber v rest Rest h = (why_again v rest, h)
field_again Token v rest Rest h = (token_again v rest h.0, h.1)
field_again Name v rest Rest h = (name_again v rest h.1, h.2)

last_again : (l : Last) (v : LastValue l) → IsSaidLast l v → read_last l (spelled_last l v) ≡ Some v
last_again Nothing v h = refl
last_again Text v h = text_again v h
last_again Bytes v h = refl
last_again NotEmpty v h = some_again v h

values_again : (fs : List Field) (l : Last) (make : Maker fs l) (v : Values fs l) → AreSaid fs l v
    → read_by fs l make (all_spelled fs l v) ≡ Some (made_by fs l make v)
values_again [] l make v h =
    ap (λ (o : Option (LastValue l)). o >>= λ w. Some (made_last l make w)) (last_again l v h)
values_again (f ∷ fs) l make v h =
    let a = field_again f v.0 (all_spelled fs l v.1) (AreSaid fs l v.1) h in
    ap (λ (o : Option (Value f × List ℕ)). o >>= λ x. read_by fs l (make x.0) x.1) a.0
    ∙ values_again fs l (make v.0) v.1 a.1

row_again : (r : Row) (v : Parts r) → AreSaid (fields_in r) (last_in r) v
    → read_in r (all_spelled (fields_in r) (last_in r) v) ≡ Some (made_in r v)
row_again (row code side fs l make) v h = values_again fs l make v h

again : (k : Kind) (v : Parts (row_of k)) → HasFields (made_in (row_of k) v)
    → read_in (row_of (kind_of (made_in (row_of k) v))) (payload (made_in (row_of k) v)) ≡ Some (made_in (row_of k) v)
again kind.Attach v h = row_again (row_of kind.Attach) v h
again k v h = row_again (row_of k) v h

pub message_again : (m : Message) → HasFields m → message_of (kind_of m) (payload m) ≡ Some m
unfolding message_of
message_again m = subst (λ (n : Message). HasFields n → read_in (row_of (kind_of n)) (payload n) ≡ Some n)
    (made_again m) (again (parts_of m).0 (parts_of m).1)
