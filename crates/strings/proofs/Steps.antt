-- What the functions that read words append and leave.
use Rattle.std.proofs.Common.{◌≡◌, ◌≢◌, ℕ, ◌-◌, ◌<◌, ◌≤◌, List, [], ◌∷◌, ◌++◌, length, drop, take, get_or, refl, sym}
use Rattle.std.proofs.Common.{ap, ◌∙◌, subst, arith, Option, Some, None}
use Rattle.std.specs.Char.{encode_utf8}
use Rattle.std.specs.Str.{encode_utf8_all}
use Rattle.std.proofs.lemmas.List.{append-nil}
use Rattle.strings.specs.Grammar.{octal_front, Escaped, Character, Single, Double, Part, Parts}
use Rattle.strings.specs.Reading.{Reads}
use Rattle.strings.proofs.Fronts.{cons-front, rest-behind, octal-long, IsAhead, ahead-more, ahead-end}
use Rattle.strings.proofs.Suffixes.{shorter, character-behind, part-behind}

nil-length : (cs : List ℕ) → length cs < 1 → [] ≡ cs
nil-length [] h = refl
nil-length (c ∷ cs) h = absurd (omega (arith, h))

lone : (c : ℕ) → encode_utf8 c ≡ encode_utf8_all (c ∷ [])
lone c = sym (append-nil (encode_utf8 c))

nothing-put : (old : List ℕ) → old ≡ old ++ encode_utf8_all []
nothing-put old = sym (append-nil old)

put-one : (old new : List ℕ) (c : ℕ) → new ≡ old ++ encode_utf8 c → new ≡ old ++ encode_utf8_all (c ∷ [])
put-one old new c p = p ∙ ap (λ l. old ++ l) (lone c)

-- after a backslash
pub octal-read : (cs old new : List ℕ) (c : ℕ) → octal_front cs ≡ Some c → new ≡ old ++ encode_utf8 c
    → Reads Escaped cs old new (Some (take (length cs - 3) (drop 3 cs)))
octal-read cs old new c h p = record {
  text = c ∷ [];
  put = put-one old new c p;
  read = subst (λ l. Escaped cs (c ∷ []) (Some l)) (sym (rest-behind cs 3 (octal-long cs c h))) (Escaped.octal h);
}

pub itself-read : (cs old new : List ℕ) (c : ℕ) → octal_front cs ≡ None → 1 ≤ length cs → c ≡ get_or cs 0 c
    → new ≡ old ++ encode_utf8 c
    → Reads Escaped cs old new (Some (take (length cs - 1) (drop 1 cs)))
itself-read cs old new c h l g p =
    let e = cons-front cs c l g in
    record {
      text = c ∷ [];
      put = put-one old new c p;
      read = subst (λ x. Escaped x (c ∷ []) (Some (take (length cs - 1) (drop 1 cs)))) (sym e)
          (Escaped.itself (ap octal_front (sym e) ∙ h));
    }

pub unended-read : (cs old : List ℕ) → length cs < 1 → Reads Escaped cs old old None
unended-read cs old h = record
    { text = []; put = nothing-put old; read = subst (λ l. Escaped l [] None) (nil-length cs h) Escaped.unended }

-- one character
pub plain-read : (c : ℕ) (cs old new : List ℕ) → c ≢ 0x5C → new ≡ old ++ encode_utf8 c
    → Reads Character (c ∷ cs) old new (Some cs)
plain-read c cs old new n p = record { text = c ∷ []; put = put-one old new c p; read = Character.plain n }

pub escape-read : (c : ℕ) (cs old new : List ℕ) (rest : Option (List ℕ)) → c ≡ 0x5C → Reads Escaped cs old new rest
    → Reads Character (c ∷ cs) old new rest
escape-read c cs old new rest e r = record
    { text = r.text; put = r.put; read = subst (λ x. Character (x ∷ cs) r.text rest) (sym e) (Character.escape r.read) }

-- parts of a word
pub single-part : (c : ℕ) (cs old new : List ℕ) (rest : Option (List ℕ)) → c ≡ 0x27 → Reads Single cs old new rest
    → Reads Part (c ∷ cs) old new rest
single-part c cs old new rest e r = record
    { text = r.text; put = r.put; read = subst (λ x. Part (x ∷ cs) r.text rest) (sym e) (Part.single r.read) }

pub double-part : (c : ℕ) (cs old new : List ℕ) (rest : Option (List ℕ)) → c ≡ 0x22 → Reads Double cs old new rest
    → Reads Part (c ∷ cs) old new rest
double-part c cs old new rest e r = record
    { text = r.text; put = r.put; read = subst (λ x. Part (x ∷ cs) r.text rest) (sym e) (Part.double r.read) }

pub character-part : (c : ℕ) (cs old new : List ℕ) (rest : Option (List ℕ)) → c ≢ 0x27 → c ≢ 0x22
    → Reads Character (c ∷ cs) old new rest → Reads Part (c ∷ cs) old new rest
character-part c cs old new rest n m r = record { text = r.text; put = r.put; read = Part.character n m r.read }

-- inside single quotes
pub single-closes : (cs old now left : List ℕ) (c : ℕ) → IsAhead Single cs old now left → 1 ≤ length left
    → c ≡ get_or left 0 c → c ≡ 0x27
    → Reads Single cs old now (Some (take (length left - 1) (drop 1 left)))
single-closes cs old now left c a l g e =
    ahead-end Single cs old now left a now [] _ (nothing-put now)
    (subst (λ x. Single x [] (Some (take (length left - 1) (drop 1 left))))
    (sym (cons-front left c l g ∙ ap (λ x. x ∷ take (length left - 1) (drop 1 left)) e)) Single.closed)

pub single-goes : (cs old now left new : List ℕ) (c : ℕ) → IsAhead Single cs old now left → 1 ≤ length left
    → c ≡ get_or left 0 c → c ≢ 0x27
    → new ≡ now ++ encode_utf8 c → IsAhead Single cs old new (take (length left - 1) (drop 1 left))
single-goes cs old now left new c a l g n p =
    let e = cons-front left c l g in
    ahead-more Single cs old now left a new (take (length left - 1) (drop 1 left)) (c ∷ []) (put-one now new c p)
    (omega (arith, ap length e))
    (λ text rest k. subst (λ x. Single x (c ∷ text) rest) (sym e) (Single.more n k))

pub single-ends : (cs old now left : List ℕ) → IsAhead Single cs old now left → length left < 1
    → Reads Single cs old now None
single-ends cs old now left a l = ahead-end Single cs old now left a now [] None (nothing-put now)
    (subst (λ x. Single x [] None) (nil-length left l) Single.unended)

-- inside double quotes
pub double-closes : (cs old now left : List ℕ) (c : ℕ) → IsAhead Double cs old now left → 1 ≤ length left
    → c ≡ get_or left 0 c → c ≡ 0x22
    → Reads Double cs old now (Some (take (length left - 1) (drop 1 left)))
double-closes cs old now left c a l g e =
    ahead-end Double cs old now left a now [] _ (nothing-put now)
    (subst (λ x. Double x [] (Some (take (length left - 1) (drop 1 left))))
    (sym (cons-front left c l g ∙ ap (λ x. x ∷ take (length left - 1) (drop 1 left)) e)) Double.closed)

pub double-goes : (cs old now left new behind : List ℕ) (c : ℕ) (end : Option (List ℕ)) → IsAhead Double cs old now left
    → 1 ≤ length left → c ≡ get_or left 0 c → c ≢ 0x22
    → Reads Character (c ∷ take (length left - 1) (drop 1 left)) now new end → end ≡ Some behind
    → IsAhead Double cs old new behind
double-goes cs old now left new behind c end a l g n r' k' =
    let r = subst (Reads Character (c ∷ take (length left - 1) (drop 1 left)) now new) k' r' in
    let e = cons-front left c l g in
    ahead-more Double cs old now left a new behind r.text r.put
    (omega
    (arith, ap length e, shorter 1 (c ∷ take (length left - 1) (drop 1 left)) behind (character-behind r.read)))
    (λ text rest k. subst (λ x. Double x (r.text ++ text) rest) (sym e) (Double.more n r.read k))

pub double-breaks : (cs old now left new : List ℕ) (c : ℕ) (end : Option (List ℕ)) → IsAhead Double cs old now left
    → 1 ≤ length left → c ≡ get_or left 0 c → c ≢ 0x22
    → Reads Character (c ∷ take (length left - 1) (drop 1 left)) now new end → end ≡ None → Reads Double cs old new None
double-breaks cs old now left new c end a l g n r' k' =
    let r = subst (Reads Character (c ∷ take (length left - 1) (drop 1 left)) now new) k' r' in
    ahead-end Double cs old now left a new r.text None r.put
    (subst (λ x. Double x r.text None) (sym (cons-front left c l g)) (Double.broken n r.read))

pub double-ends : (cs old now left : List ℕ) → IsAhead Double cs old now left → length left < 1
    → Reads Double cs old now None
double-ends cs old now left a l = ahead-end Double cs old now left a now [] None (nothing-put now)
    (subst (λ x. Double x [] None) (nil-length left l) Double.unended)

-- the parts of a word
pub parts-blank : (cs old now left : List ℕ) (c : ℕ) → IsAhead Parts cs old now left → 1 ≤ length left
    → c ≡ get_or left 0 c → c ≡ 0x20
    → Reads Parts cs old now (Some left)
parts-blank cs old now left c a l g e =
    ahead-end Parts cs old now left a now [] _ (nothing-put now)
    (subst (λ x. Parts x [] (Some x))
    (sym (cons-front left c l g ∙ ap (λ x. x ∷ take (length left - 1) (drop 1 left)) e)) Parts.blank)

pub parts-go : (cs old now left new behind : List ℕ) (c : ℕ) (end : Option (List ℕ)) → IsAhead Parts cs old now left
    → 1 ≤ length left → c ≡ get_or left 0 c → c ≢ 0x20
    → Reads Part (c ∷ take (length left - 1) (drop 1 left)) now new end → end ≡ Some behind
    → IsAhead Parts cs old new behind
parts-go cs old now left new behind c end a l g n r' k' =
    let r = subst (Reads Part (c ∷ take (length left - 1) (drop 1 left)) now new) k' r' in
    let e = cons-front left c l g in
    ahead-more Parts cs old now left a new behind r.text r.put
    (omega (arith, ap length e, shorter 1 (c ∷ take (length left - 1) (drop 1 left)) behind (part-behind r.read)))
    (λ text rest k. subst (λ x. Parts x (r.text ++ text) rest) (sym e) (Parts.more n r.read k))

pub parts-break : (cs old now left new : List ℕ) (c : ℕ) (end : Option (List ℕ)) → IsAhead Parts cs old now left
    → 1 ≤ length left → c ≡ get_or left 0 c → c ≢ 0x20
    → Reads Part (c ∷ take (length left - 1) (drop 1 left)) now new end → end ≡ None → Reads Parts cs old new None
parts-break cs old now left new c end a l g n r' k' =
    let r = subst (Reads Part (c ∷ take (length left - 1) (drop 1 left)) now new) k' r' in
    ahead-end Parts cs old now left a new r.text None r.put
    (subst (λ x. Parts x r.text None) (sym (cons-front left c l g)) (Parts.broken n r.read))

pub parts-end : (cs old now left : List ℕ) → IsAhead Parts cs old now left → length left < 1
    → Reads Parts cs old now (Some left)
parts-end cs old now left a l = ahead-end Parts cs old now left a now [] _ (nothing-put now)
    (subst (λ x. Parts x [] (Some x)) (nil-length left l) Parts.last)

-- the characters that follow are fewer
pub less-behind : (left new now behind : List ℕ) (c : ℕ) (end : Option (List ℕ)) → 1 ≤ length left → c ≡ get_or left 0 c
    → Reads Part (c ∷ take (length left - 1) (drop 1 left)) now new end → end ≡ Some behind
    → length behind < length left
less-behind left new now behind c end l g r' k' =
    let r = subst (Reads Part (c ∷ take (length left - 1) (drop 1 left)) now new) k' r' in
    omega (
      arith,
      ap length (cons-front left c l g),
      shorter 1 (c ∷ take (length left - 1) (drop 1 left)) behind
          (part-behind r.read),
    )

pub less-behind-character : (left new now behind : List ℕ) (c : ℕ) (end : Option (List ℕ)) → 1 ≤ length left
    → c ≡ get_or left 0 c
    → Reads Character (c ∷ take (length left - 1) (drop 1 left)) now new end → end ≡ Some behind
    → length behind < length left
less-behind-character left new now behind c end l g r' k' =
    let r = subst (Reads Character (c ∷ take (length left - 1) (drop 1 left)) now new) k' r' in
    omega (
      arith,
      ap length (cons-front left c l g),
      shorter 1 (c ∷ take (length left - 1) (drop 1 left)) behind
          (character-behind r.read),
    )
