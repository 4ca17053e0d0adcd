-- The texts of words that are cut from characters are made of characters.
use Rattle.command_lang.proofs.Vocabulary.{◌≡◌, ℕ, ◌+◌, ◌-◌, ◌*◌, ◌<◌, Bool, true, false, ◌&&◌, cond, List, [], ◌∷◌}
use Rattle.command_lang.proofs.Vocabulary.{◌++◌, refl, sym, ap, ◌∙◌, arith, true≢false, Option, Some, None, unwrap_or}
use Rattle.command_lang.proofs.Vocabulary.{nat_lt, nat_tests, scalars, scalar, IsUtf8, is_some, Word, is_octal}
use Rattle.command_lang.proofs.Vocabulary.{octal_front, Escaped, Character, Double, Part, Parts, Line, IsCut, size}
use Rattle.command_lang.proofs.Vocabulary.{texts_of}
use Rattle.strings.specs.Grammar.{Single}
use Rattle.strings.proofs.Suffixes.{Behind, character-behind, part-behind, parts-behind}

pub and-parts : (a b : Bool) → (a && b) ≡ true → (a ≡ true) × (b ≡ true)
and-parts true b h = (refl, h)
and-parts false b h = absurd (true≢false (sym h))

pub and-both : (a b : Bool) → a ≡ true → b ≡ true → (a && b) ≡ true
and-both a b e f = ap (λ x. x && b) e ∙ f

pub scalars-append : (xs ys : List ℕ) → scalars xs ≡ true → scalars ys ≡ true → scalars (xs ++ ys) ≡ true
scalars-append [] ys h k = k
scalars-append (x ∷ xs) ys h k =
    let p = and-parts (scalar x) (scalars xs) h in
    and-both (scalar x) (scalars (xs ++ ys)) p.0 (scalars-append xs ys p.1 k)

pub small-scalar : (c : ℕ) → c < 128 → scalar c ≡ true
small-scalar c h = grind (arith, nat_tests)

lone : (c : ℕ) → scalar c ≡ true → scalars (c ∷ []) ≡ true
lone c h = and-both (scalar c) true h refl

octal_small : (a b c : ℕ) → ((is_octal a && nat_lt a 0x32) && (is_octal b && is_octal c)) ≡ true
    → ((a - 0x30) * 8 + (b - 0x30)) * 8 + (c - 0x30) < 128
octal_small a b c h =
    let p = and-parts (is_octal a && nat_lt a 0x32) (is_octal b && is_octal c) h in
    let q = and-parts (is_octal a) (nat_lt a 0x32) p.0 in
    let r = and-parts (is_octal b) (is_octal c) p.1 in
    let l : a < 0x32 = grind (arith, nat_tests, q.1) in
    let m : b < 0x38 = grind (arith, nat_tests, r.0) in
    let n : c < 0x38 = grind (arith, nat_tests, r.1) in
    omega (arith, l, m, n)

of-octal : (cs : List ℕ) (c : ℕ) → octal_front cs ≡ Some c → scalars (c ∷ []) ≡ true
of-octal [] c h = absurd (true≢false (sym (ap is_some h)))
of-octal (x ∷ []) c h = absurd (true≢false (sym (ap is_some h)))
of-octal (x ∷ y ∷ []) c h = absurd (true≢false (sym (ap is_some h)))
of-octal (x ∷ y ∷ z ∷ cs) c h = by ((is_octal x && nat_lt x 0x32) && (is_octal y && is_octal z)) refl h
  where
    by : (t : Bool) → ((is_octal x && nat_lt x 0x32) && (is_octal y && is_octal z)) ≡ t
        → cond t (Some (((x - 0x30) * 8 + (y - 0x30)) * 8 + (z - 0x30))) None ≡ Some c → scalars (c ∷ []) ≡ true
    by true e k =
        let n = ((x - 0x30) * 8 + (y - 0x30)) * 8 + (z - 0x30) in
        ap (λ o. scalars (unwrap_or o n ∷ [])) (sym k) ∙ lone n (small-scalar n (octal_small x y z e))
    by false e k = absurd (true≢false (sym (ap is_some k)))

-- what follows a thing is made of characters
behind : (n : ℕ) (cs rest : List ℕ) → Behind n cs (Some rest) → scalars cs ≡ true → scalars rest ≡ true
behind n cs rest b h = later b.0 (sym (ap scalars b.1.1) ∙ h)
  where
    later : (front : List ℕ) → scalars (front ++ rest) ≡ true → scalars rest ≡ true
    later [] k = k
    later (x ∷ xs) k = later xs (and-parts (scalar x) (scalars (xs ++ rest)) k).1

of-escaped : {cs text : List ℕ} {end : Option (List ℕ)} → Escaped cs text end → scalars cs ≡ true → scalars text ≡ true
of-escaped (Escaped.octal {cs = cs} {c = c} e) h = of-octal cs c e
of-escaped (Escaped.itself {c = c} {rest = rest} e) h = lone c (and-parts (scalar c) (scalars rest) h).0
of-escaped Escaped.unended h = refl

of-character : {cs text : List ℕ} {end : Option (List ℕ)} → Character cs text end → scalars cs ≡ true
    → scalars text ≡ true
of-character (Character.plain {c = c} {rest = rest} n) h = lone c (and-parts (scalar c) (scalars rest) h).0
of-character (Character.escape {cs = cs} d) h = of-escaped d (and-parts (scalar 0x5C) (scalars cs) h).1

of-single : {cs text : List ℕ} {end : Option (List ℕ)} → Single cs text end → scalars cs ≡ true → scalars text ≡ true
of-single Single.closed h = refl
of-single (Single.more {c = c} {cs = cs} {text = text} n d) h =
    let p = and-parts (scalar c) (scalars cs) h in
    and-both (scalar c) (scalars text) p.0 (of-single d p.1)
of-single Single.unended h = refl

of-double : {cs text : List ℕ} {end : Option (List ℕ)} → Double cs text end → scalars cs ≡ true → scalars text ≡ true
of-double Double.closed h = refl
of-double (Double.more {c = c} {cs = cs} {first = first} {behind = rest} {text = text} n f d) h =
    scalars-append first text (of-character f h) (of-double d (behind 1 (c ∷ cs) rest (character-behind f) h))
of-double (Double.broken n f) h = of-character f h
of-double Double.unended h = refl

of-part : {cs text : List ℕ} {end : Option (List ℕ)} → Part cs text end → scalars cs ≡ true → scalars text ≡ true
of-part (Part.single {cs = cs} d) h = of-single d (and-parts (scalar 0x27) (scalars cs) h).1
of-part (Part.double {cs = cs} d) h = of-double d (and-parts (scalar 0x22) (scalars cs) h).1
of-part (Part.character n m d) h = of-character d h

of-parts : {cs text : List ℕ} {end : Option (List ℕ)} → Parts cs text end → scalars cs ≡ true → scalars text ≡ true
of-parts Parts.last h = refl
of-parts Parts.blank h = refl
of-parts (Parts.more {c = c} {cs = cs} {first = first} {behind = rest} {text = text} n f d) h =
    scalars-append first text (of-part f h) (of-parts d (behind 1 (c ∷ cs) rest (part-behind f) h))
of-parts (Parts.broken n f) h = of-part f h

-- each text of a list is UTF-8
abbrev pub AllText : List (List ℕ) → Type 0
AllText [] = Unit {0}
AllText (t ∷ ts) = IsUtf8 t × AllText ts

of-line : (end : ℕ) {cs : List ℕ} {ws : List Word} → Line end cs ws → scalars cs ≡ true → AllText (texts_of ws)
of-line end Line.last h = tt
of-line end (Line.blank {cs = cs} d) h = of-line end d (and-parts (scalar 0x20) (scalars cs) h).1
of-line end (Line.word {c = c} {cs = cs} {text = text} {rest = rest} n f d) h =
    ((text, (of-parts f h, refl)), of-line end d (behind 0 (c ∷ cs) rest (parts-behind f) h))
of-line end (Line.broken {text = text} n f) h = ((text, (of-parts f h, refl)), tt)

pub of-cut : (cs : List ℕ) (ws : List Word) → IsCut cs ws → scalars cs ≡ true → AllText (texts_of ws)
of-cut cs ws d h = of-line (size cs) d h
