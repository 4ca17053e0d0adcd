-- A stream can be read piece by piece, and only in one way.
use Rattle.std.proofs.Common.{◌≡◌, ℕ, ◌+◌, ◌<◌, ◌≤◌, List, [], ◌∷◌, ◌++◌, length, take, drop, ◌-◌, Option, Some, None}
use Rattle.std.proofs.Common.{refl, sym, ap, subst, inl, ◌∙◌, append_assoc, arith}
use Rattle.std.specs.Prelude.{MatchOption}
use Rattle.std.specs.List.{flat_map, AllByRecursion}
use Rattle.std.proofs.lemmas.List.{append-nil, take_rest, drop_at, length-append, length-drop, drop-drop}
use Rattle.std.proofs.lemmas.List.Concat.{flat_map-append}
use Rattle.attach_proto.specs.declared.fault.ProtoFault.{ProtoFault}
use Rattle.attach_proto.specs.declared.fault.ProtoFault.TheVariants.{NoMemory}
use Rattle.attach_proto.specs.declared.kind.Side.{Side}
use Rattle.attach_proto.specs.declared.message.Message.{Message}
use Rattle.attach_proto.specs.declared.reading.Front.{Front}
use Rattle.attach_proto.specs.declared.reading.Front.TheVariants.{Whole}
use Rattle.attach_proto.specs.Spelling.{code, spelling, payload, kind_of, reader_of, IsSpellable}
use Rattle.attach_proto.specs.Reading.{front, kind_at}
use Rattle.attach_proto.specs.Streams.{IsRead, Splits, Waits, HasFault, Reading, EndsIn, HasRead, Behind, IsRun}
use Rattle.attach_proto.proofs.FieldLaws.{IsBytes, IsBytes-drop, some_is}
use Rattle.attach_proto.proofs.Frames.{Fronts, front_takes, front_again, kind_again}
use Rattle.attach_proto.proofs.Rests.{fault_stays, waits_no_fault, faults_same, waits_no_whole, fault_no_whole}

each_append : (side : Side) (ms ns : List Message) → AllByRecursion (IsRead side) ms → AllByRecursion (IsRead side) ns
    → AllByRecursion (IsRead side) (ms ++ ns)
each_append side [] ns h k = k
each_append side (m ∷ ms) ns h k = (h.0, each_append side ms ns h.1 k)

-- the messages of a stream, and then those of its rest with more
pub splits_join : (side : Side) (stream : List ℕ) (ms : List Message) (rest more : List ℕ) (ns : List Message)
    (last : List ℕ)
    → Splits side stream ms rest → Splits side (rest ++ more) ns last → Splits side (stream ++ more) (ms ++ ns) last
splits_join side stream ms rest more ns last p q = record {
  whole = ap (λ (x : List ℕ). x ++ more) p.whole ∙ append_assoc (flat_map spelling ms) rest more
      ∙ ap (λ (x : List ℕ). flat_map spelling ms ++ x) q.whole
      ∙ sym (append_assoc (flat_map spelling ms) (flat_map spelling ns) last)
      ∙ ap (λ (x : List ℕ). x ++ last) (sym (flat_map-append spelling ms ns));
  each = each_append side ms ns p.each q.each;
}

-- one frame more
pub one_more : (side : Side) (stream : List ℕ) (ms : List Message) (taken : ℕ) (m : Message) (len : ℕ)
    → Splits side stream ms (drop taken stream) → Fronts side (drop taken stream) m len
    → Splits side stream (ms ++ m ∷ []) (drop (taken + len) stream)
one_more side stream ms taken m len p f =
    let rest-is : drop (taken + len) stream ≡ f.rest =
    sym (drop-drop len taken stream) ∙ ap (λ (x : List ℕ). drop len x) f.parts
    ∙ drop_at (spelling m) f.rest len (sym f.long) in
    let one : Splits side (drop taken stream ++ []) (m ∷ []) f.rest = record {
      whole = append-nil (drop taken stream) ∙ f.parts
          ∙ ap (λ (x : List ℕ). x ++ f.rest) (sym (append-nil (spelling m)));
      each = (f.read, tt);
    } in
    let joined = splits_join side stream ms (drop taken stream) [] (m ∷ []) f.rest p one in
    rw rest-is (subst (λ (x : List ℕ). Splits side x (ms ++ m ∷ []) f.rest) (append-nil stream) joined)

pub taken_fits : (side : Side) (stream : List ℕ) (taken : ℕ) (m : Message) (len : ℕ) → taken ≤ length stream
    → Fronts side (drop taken stream) m len → (taken + len ≤ length stream) × (0 < len)
unfolding spelling
taken_fits side stream taken m len le f =
    let e = ap length f.parts in
    (omega (arith, e, f.long, length-append (spelling m) f.rest, length-drop taken stream), omega (arith, f.long))

pub begins : (side : Side) (stream : List ℕ) → Splits side stream [] (drop 0 stream)
begins side stream = record { whole = refl; each = tt }

-- ---- a reader

ends_as : (side : Side) (rest : List ℕ) (fault : Option ProtoFault) → Behind side rest fault
    → EndsIn (record { side = side; rest = rest; fault = fault }) rest
ends_as side rest None b = (b, refl)
ends_as side rest (Some f) b = b

pub reader_goes_on : (old : Reading) (piece : List ℕ) (ms : List Message) (taken : ℕ) (fault : Option ProtoFault)
    (messages : List Message) (stream : List ℕ)
    → old.fault ≡ None → IsRun old.side (old.rest ++ piece) ms taken fault → HasRead old messages stream
    → HasRead (record { side = old.side; rest = drop taken (old.rest ++ piece); fault = fault }) (messages ++ ms)
    (stream ++ piece)
reader_goes_on old piece ms taken fault messages stream unbroken run h =
    let ends : MatchOption old.fault (Waits old.side h.rest × (h.rest ≡ old.rest)) (HasFault old.side h.rest) = h.ends
    in
    let at : Waits old.side h.rest
    × (h.rest ≡ old.rest) = subst
    (λ (f : Option ProtoFault). MatchOption f (Waits old.side h.rest × (h.rest ≡ old.rest))
    (HasFault old.side h.rest)) unbroken ends in
    let from : Splits old.side stream messages old.rest = subst (λ (x : List ℕ). Splits old.side stream messages x) at.1
    h.splits in
    record {
      rest = drop taken (old.rest ++ piece);
      splits = splits_join old.side stream messages old.rest piece ms (drop taken (old.rest ++ piece)) from run.splits;
      ends = ends_as old.side (drop taken (old.rest ++ piece)) fault run.behind;
    }

failed_goes_on : (side : Side) (kept : List ℕ) (fault : Option ProtoFault) (f : ProtoFault) (piece : List ℕ)
    (rest : List ℕ) → fault ≡ Some f
    → EndsIn (record { side = side; rest = kept; fault = fault }) rest
    → EndsIn (record { side = side; rest = kept; fault = fault }) (rest ++ piece)
failed_goes_on side kept None f piece rest is h = absurd cc
failed_goes_on side kept (Some g) f piece rest is h = fault_stays side rest piece g h

pub reader_stays : (old : Reading) (piece : List ℕ) (f : ProtoFault) (messages : List Message) (stream : List ℕ)
    → old.fault ≡ Some f → HasRead old messages stream → HasRead old (messages ++ []) (stream ++ piece)
reader_stays old piece f messages stream is h = record {
  rest = h.rest ++ piece;
  splits = record {
    whole = ap (λ (x : List ℕ). x ++ piece) h.splits.whole ∙ append_assoc (flat_map spelling messages) h.rest piece
        ∙ ap (λ (x : List Message). flat_map spelling x ++ (h.rest ++ piece)) (sym (append-nil messages));
    each = each_append old.side messages [] h.splits.each tt;
  };
  ends = failed_goes_on old.side old.rest old.fault f piece h.rest is h.ends;
}

pub fresh : (side : Side) (rest : List ℕ) → rest ≡ []
    → HasRead (record { side = side; rest = rest; fault = None }) [] []
fresh side rest is = record { rest = []; splits = record { whole = refl; each = tt }; ends = (inl refl, sym is) }

-- a frame at the front of the bytes that are left
pub here : (side : Side) (bytes : List ℕ) (taken : ℕ) (f : Front) (m : Message) (n : ℕ) → IsBytes bytes
    → f ≡ front side (take (length bytes - taken) (drop taken bytes)) → f ≡ Whole m n
    → Fronts side (drop taken bytes) m n
here side bytes taken f m n fits f-is whole =
    front_takes side (drop taken bytes) m n (IsBytes-drop taken bytes fits)
    (ap (front side) (sym (take_rest bytes taken)) ∙ sym f-is ∙ whole)

pub taken_piece : (old : Reading) (side : Side) (piece bytes rest : List ℕ) (ms : List Message) (taken : ℕ)
    (fault : Option ProtoFault)
    → side ≡ old.side → bytes ≡ old.rest ++ piece → rest ≡ drop taken bytes → old.fault ≡ None
    → IsRun side bytes ms taken fault
    → (messages : List Message) (stream : List ℕ) → HasRead old messages stream
    → HasRead (record { side = side; rest = rest; fault = fault }) (messages ++ ms) (stream ++ piece)
taken_piece old side piece bytes rest ms taken fault side-is bytes-is rest-is unbroken run messages stream h =
    let run2 : IsRun old.side (old.rest ++ piece) ms taken fault =
    subst (λ (s : Side). IsRun s (old.rest ++ piece) ms taken fault) side-is
    (subst (λ (b : List ℕ). IsRun side b ms taken fault) bytes-is run) in
    let rest2 : drop taken (old.rest ++ piece) ≡ rest = sym (rest-is ∙ ap (λ (b : List ℕ). drop taken b) bytes-is) in
    let made = reader_goes_on old piece ms taken fault messages stream unbroken run2 h in
    subst (λ (s : Side). HasRead (record { side = s; rest = rest; fault = fault }) (messages ++ ms) (stream ++ piece))
    (sym side-is)
    (subst
    (λ (r : List ℕ). HasRead (record { side = old.side; rest = r; fault = fault }) (messages ++ ms)
    (stream ++ piece)) rest2 made)

pub run_faults : (side : Side) (rest : List ℕ) (fault : Option ProtoFault) → Behind side rest fault
    → fault ≡ Some NoMemory → ⊥
run_faults side rest None b e = absurd cc
run_faults side rest (Some f) b e = subst (HasFault side rest) (some_is f NoMemory e) b

-- ---- a stream is read in one way

ends_unlike : (side : Side) (kept : List ℕ) (fault : Option ProtoFault) (m : Message) (more : List ℕ) → IsRead side m
    → MatchOption fault (Waits side (spelling m ++ more) × (spelling m ++ more ≡ kept))
    (HasFault side (spelling m ++ more)) → ⊥
ends_unlike side kept None m more read h = waits_no_whole side m more read h.0
ends_unlike side kept (Some f) m more read h = fault_no_whole side m more f read h

-- there is no whole frame after a reader's messages
not_ended : (r : Reading) (rest : List ℕ) (m : Message) (more : List ℕ) → IsRead r.side m → rest ≡ spelling m ++ more
    → EndsIn r rest → ⊥
not_ended r rest m more read is h = ends_unlike r.side r.rest r.fault m more read
    (subst (λ (x : List ℕ). EndsIn r x) is h)

first_same : (side : Side) (m n : Message) (x y : List ℕ) → IsRead side m → IsRead side n
    → spelling m ++ x ≡ spelling n ++ y → (m ≡ n) × (x ≡ y)
unfolding spelling
first_same side m n x y p q e =
    let same : Whole m (length (payload m) + 3) ≡ Whole n (length (payload n) + 3) = sym (front_again side m x p)
    ∙ ap (λ (b : List ℕ). front side b) e ∙ front_again side n y q in
    let m-is : m ≡ n = cc in
    let len : length (payload m) + 3 ≡ length (payload n) + 3 = cc in
    let rests : x ≡ y = sym (drop_at (spelling m) x (length (payload m) + 3) (omega arith))
    ∙ ap (λ (b : List ℕ). drop (length (payload m) + 3) b) e
    ∙ drop_at (spelling n) y (length (payload m) + 3) (omega (arith, len)) in
    (m-is, rests)

kinds_same : (m n : Message) (x y : List ℕ) → spelling m ++ x ≡ spelling n ++ y → kind_of m ≡ kind_of n
unfolding spelling
kinds_same m n x y e =
    let codes : code (kind_of m) ≡ code (kind_of n) = cc in
    some_is (kind_of m) (kind_of n) (sym (kind_again (kind_of m)) ∙ ap kind_at codes ∙ kind_again (kind_of n))

pub spelled_apart : (m n : Message) (x y : List ℕ) → IsSpellable m → IsSpellable n → spelling m ++ x ≡ spelling n ++ y
    → (m ≡ n) × (x ≡ y)
spelled_apart m n x y p q e =
    first_same (reader_of (kind_of m)) m n x y (record { fits = p; side_is = refl })
    (record { fits = q; side_is = ap reader_of (sym (kinds_same m n x y e)) }) e

pub longest : (r : Reading) (ms ns : List Message) (stream x y : List ℕ) → Splits r.side stream ms x → EndsIn r x
    → Splits r.side stream ns y → (more : List Message) × (ms ≡ ns ++ more)
longest r ms [] stream x y p pe q = (ms, refl)
longest r [] (n ∷ ns) stream x y p pe q =
    let e : x ≡ spelling n ++ (flat_map spelling ns ++ y) = sym p.whole ∙ q.whole
    ∙ append_assoc (spelling n) (flat_map spelling ns) y in
    absurd (not_ended r x n (flat_map spelling ns ++ y) q.each.0 e pe)
longest r (m ∷ ms) (n ∷ ns) stream x y p pe q =
    let e : spelling m ++ (flat_map spelling ms ++ x) ≡ spelling n ++ (flat_map spelling ns ++ y) =
    sym (append_assoc (spelling m) (flat_map spelling ms) x) ∙ sym p.whole ∙ q.whole
    ∙ append_assoc (spelling n) (flat_map spelling ns) y in
    let f = first_same r.side m n (flat_map spelling ms ++ x) (flat_map spelling ns ++ y) p.each.0 q.each.0 e in
    let rest = longest r ms ns (flat_map spelling ms ++ x) x y (record { whole = refl; each = p.each.1 }) pe
    (record { whole = f.1; each = q.each.1 }) in
    let head = f.0 in
    let tail = rest.1 in
    (rest.0, cc)

same_split : (r s : Reading) → r.side ≡ s.side → (ms ns : List Message) (stream x y : List ℕ)
    → Splits r.side stream ms x → EndsIn r x → Splits s.side stream ns y → EndsIn s y → (ms ≡ ns) × (x ≡ y)
same_split r s same [] [] stream x y p pe q qe = (refl, sym p.whole ∙ q.whole)
same_split r s same [] (n ∷ ns) stream x y p pe q qe =
    let e : x ≡ spelling n ++ (flat_map spelling ns ++ y) = sym p.whole ∙ q.whole
    ∙ append_assoc (spelling n) (flat_map spelling ns) y in
    absurd (not_ended r x n (flat_map spelling ns ++ y) (subst (λ (t : Side). IsRead t n) (sym same) q.each.0) e pe)
same_split r s same (m ∷ ms) [] stream x y p pe q qe =
    let e : y ≡ spelling m ++ (flat_map spelling ms ++ x) = sym q.whole ∙ p.whole
    ∙ append_assoc (spelling m) (flat_map spelling ms) x in
    absurd (not_ended s y m (flat_map spelling ms ++ x) (subst (λ (t : Side). IsRead t m) same p.each.0) e qe)
same_split r s same (m ∷ ms) (n ∷ ns) stream x y p pe q qe =
    let read : IsRead r.side n = subst (λ (t : Side). IsRead t n) (sym same) q.each.0 in
    let e : spelling m ++ (flat_map spelling ms ++ x) ≡ spelling n ++ (flat_map spelling ns ++ y) =
    sym (append_assoc (spelling m) (flat_map spelling ms) x) ∙ sym p.whole ∙ q.whole
    ∙ append_assoc (spelling n) (flat_map spelling ns) y in
    let f = first_same r.side m n (flat_map spelling ms ++ x) (flat_map spelling ns ++ y) p.each.0 read e in
    let rest = same_split r s same ms ns (flat_map spelling ms ++ x) x y (record { whole = refl; each = p.each.1 }) pe
    (record { whole = f.1; each = q.each.1 }) qe in
    let head = f.0 in
    let tail = rest.0 in
    (cc, rest.1)

ends_same : (side : Side) (rest a b : List ℕ) (f g : Option ProtoFault)
    → MatchOption f (Waits side rest × (rest ≡ a)) (HasFault side rest)
    → MatchOption g (Waits side rest × (rest ≡ b)) (HasFault side rest) → f ≡ g
ends_same side rest a b None None p q = refl
ends_same side rest a b None (Some g) p q = absurd (waits_no_fault side rest g p.0 q)
ends_same side rest a b (Some f) None p q = absurd (waits_no_fault side rest f q.0 p)
ends_same side rest a b (Some f) (Some g) p q = ap (λ (h : ProtoFault). Some h) (faults_same side rest f g p q)

pub one_reading : (r s : Reading) (ms ns : List Message) (stream : List ℕ) → r.side ≡ s.side → HasRead r ms stream
    → HasRead s ns stream → (ms ≡ ns) × (r.fault ≡ s.fault)
one_reading r s ms ns stream same h k =
    let t = same_split r s same ms ns stream h.rest k.rest h.splits h.ends k.splits k.ends in
    let there : MatchOption s.fault (Waits r.side h.rest × (h.rest ≡ s.rest)) (HasFault r.side h.rest) =
    subst (λ (x : List ℕ). MatchOption s.fault (Waits r.side x × (x ≡ s.rest)) (HasFault r.side x)) (sym t.1)
    (subst (λ (side : Side). MatchOption s.fault (Waits side k.rest × (k.rest ≡ s.rest)) (HasFault side k.rest))
    (sym same) k.ends) in
    (t.0, ends_same r.side h.rest r.rest s.rest r.fault s.fault h.ends there)

pub reads_spelled : (side : Side) (messages : List Message) → AllByRecursion (IsRead side) messages
    → HasRead (record { side = side; rest = []; fault = None }) messages (flat_map spelling messages)
reads_spelled side messages each = record {
  rest = [];
  splits = record { whole = sym (append-nil (flat_map spelling messages)); each = each };
  ends =
      (inl refl, refl);
}
