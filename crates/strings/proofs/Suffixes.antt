-- What follows a thing is an end of the characters that the thing begins with.
use Rattle.std.proofs.Common.{◌≡◌, ◌≢◌, ℕ, suc, ◌+◌, ◌≤◌, List, [], ◌∷◌, ◌++◌, length, drop, refl, sym, ap, ◌∙◌, arith}
use Rattle.std.proofs.Common.{append_assoc, length-append, Option, Some, None, true≢false}
use Rattle.std.specs.Option.{is_some}
use Rattle.std.proofs.lemmas.Str.{encodes-append}
use Rattle.std.specs.Str.{encode_utf8_all}
use Rattle.strings.specs.Grammar.{octal_front, Escaped, Character, Single, Double, Part, Parts, size}

-- at least n characters, and then the rest
abbrev pub Behind : ℕ → List ℕ → Option (List ℕ) → Type 0
Behind n cs None = Unit {0}
Behind n cs (Some rest) = (front : List ℕ) × ((n ≤ length front) × (cs ≡ front ++ rest))

one-more : (n c : ℕ) (cs : List ℕ) (end : Option (List ℕ)) → Behind n cs end → Behind (suc n) (c ∷ cs) end
one-more n c cs None h = tt
one-more n c cs (Some rest) h = (c ∷ h.0, (omega (arith, h.1.0), ap (λ l. c ∷ l) h.1.1))

fewer : (m n : ℕ) (cs : List ℕ) (end : Option (List ℕ)) → m ≤ n → Behind n cs end → Behind m cs end
fewer m n cs None l h = tt
fewer m n cs (Some rest) l h = (h.0, (omega (arith, l, h.1.0), h.1.1))

both : (n : ℕ) (cs behind : List ℕ) (end : Option (List ℕ)) → Behind n cs (Some behind) → Behind 0 behind end
    → Behind n cs end
both n cs behind None h k = tt
both n cs behind (Some rest) h k = (
  h.0 ++ k.0,
  (
    omega (arith, length-append h.0 k.0, h.1.0),
    h.1.1 ∙ ap (λ l. h.0 ++ l) k.1.1 ∙ sym (append_assoc h.0 k.0 rest),
  ),
)

octal-behind : (cs : List ℕ) (c : ℕ) → octal_front cs ≡ Some c → Behind 1 cs (Some (drop 3 cs))
octal-behind [] c h = absurd (true≢false (sym (ap is_some h)))
octal-behind (a ∷ []) c h = absurd (true≢false (sym (ap is_some h)))
octal-behind (a ∷ b ∷ []) c h = absurd (true≢false (sym (ap is_some h)))
octal-behind (a ∷ b ∷ d ∷ cs) c h = (a ∷ b ∷ d ∷ [], (omega arith, refl))

escaped-behind : {cs text : List ℕ} {end : Option (List ℕ)} → Escaped cs text end → Behind 1 cs end
escaped-behind (Escaped.octal {cs = cs} {c = c} h) = octal-behind cs c h
escaped-behind (Escaped.itself {c = c} {rest = rest} h) = (c ∷ [], (omega arith, refl))
escaped-behind Escaped.unended = tt

pub character-behind : {cs text : List ℕ} {end : Option (List ℕ)} → Character cs text end → Behind 1 cs end
character-behind (Character.plain {c = c} {rest = rest} h) = (c ∷ [], (omega arith, refl))
character-behind (Character.escape {cs = cs} {end = end} d) = fewer 1 2 (0x5C ∷ cs) end (omega arith)
    (one-more 1 0x5C cs end (escaped-behind d))

single-behind : {cs text : List ℕ} {end : Option (List ℕ)} → Single cs text end → Behind 0 cs end
single-behind (Single.closed {rest = rest}) = (0x27 ∷ [], (omega arith, refl))
single-behind (Single.more {c = c} {cs = cs} {end = end} n d) = fewer 0 1 (c ∷ cs) end (omega arith)
    (one-more 0 c cs end (single-behind d))
single-behind Single.unended = tt

double-behind : {cs text : List ℕ} {end : Option (List ℕ)} → Double cs text end → Behind 0 cs end
double-behind (Double.closed {rest = rest}) = (0x22 ∷ [], (omega arith, refl))
double-behind (Double.more {c = c} {cs = cs} {behind = behind} {end = end} n f d) =
    fewer 0 1 (c ∷ cs) end (omega arith) (both 1 (c ∷ cs) behind end (character-behind f) (double-behind d))
double-behind (Double.broken n f) = tt
double-behind Double.unended = tt

pub part-behind : {cs text : List ℕ} {end : Option (List ℕ)} → Part cs text end → Behind 1 cs end
part-behind (Part.single {cs = cs} {end = end} d) = one-more 0 0x27 cs end (single-behind d)
part-behind (Part.double {cs = cs} {end = end} d) = one-more 0 0x22 cs end (double-behind d)
part-behind (Part.character n m d) = character-behind d

pub parts-behind : {cs text : List ℕ} {end : Option (List ℕ)} → Parts cs text end → Behind 0 cs end
parts-behind Parts.last = ([], (omega arith, refl))
parts-behind (Parts.blank {rest = rest}) = ([], (omega arith, refl))
parts-behind (Parts.more {c = c} {cs = cs} {behind = behind} {end = end} n f d) =
    fewer 0 1 (c ∷ cs) end (omega arith) (both 1 (c ∷ cs) behind end (part-behind f) (parts-behind d))
parts-behind (Parts.broken n f) = tt

-- a word has a character
pub word-behind : (c : ℕ) (cs text : List ℕ) (end : Option (List ℕ)) → c ≢ 0x20 → Parts (c ∷ cs) text end
    → Behind 1 (c ∷ cs) end
word-behind c cs text end n (Parts.more {behind = behind} m f d) = both 1 (c ∷ cs) behind end (part-behind f)
    (parts-behind d)
word-behind c cs text end n (Parts.broken m f) = tt
word-behind c cs text end n Parts.blank = absurd (n refl)

-- lengths, in characters and in bytes
pub shorter : (n : ℕ) (cs rest : List ℕ) → Behind n cs (Some rest) → length rest + n ≤ length cs
shorter n cs rest h = omega (arith, h.1.0, ap length h.1.1, length-append h.0 rest)

pub smaller : (n : ℕ) (cs rest : List ℕ) → Behind n cs (Some rest) → size rest ≤ size cs
smaller n cs rest h = omega (
  arith,
  ap size h.1.1,
  ap length (encodes-append h.0 rest),
  length-append (encode_utf8_all h.0)
      (encode_utf8_all rest),
)
