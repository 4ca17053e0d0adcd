-- A line is cut in one way, which is the one that `Lines` computes.
use Rattle.std.proofs.Common.{◌≡◌, ◌≢◌, ℕ, zero, suc, ◌-◌, ◌≤◌, Bool, true, false, List, [], ◌∷◌, ◌++◌, length, drop}
use Rattle.std.proofs.Common.{refl, sym, ap, ◌∙◌, subst, arith, Option, Some, None, true≢false}
use Rattle.std.specs.Prelude.{◌==◌}
use Rattle.std.specs.Option.{is_some}
use Rattle.std.proofs.lemmas.Bool.Decides.{nat_tests}
use Rattle.strings.specs.declared.text.Word.{Word}
use Rattle.strings.specs.Grammar.{octal_front, Escaped, Character, Single, Double, Part, Parts, Line, IsCut}
use Rattle.strings.specs.Grammar.{size, word_at}
use Rattle.strings.specs.Lines.{Read, and_then, escaped, character, single, double, part, parts, and_words, line, words}
use Rattle.strings.proofs.Suffixes.{shorter, character-behind, part-behind, word-behind}

pub other : (x y : ℕ) → x ≢ y → (x == y) ≡ false
other x y h = grind (arith, nat_tests)

same : (x y : ℕ) → (x == y) ≡ true → x ≡ y
same x y h = grind (arith, nat_tests)

differs : (x y : ℕ) → (x == y) ≡ false → x ≢ y
differs x y h e = grind (arith, nat_tests)

-- if the relation holds, the function gives this text and rest
escaped-is : {cs text : List ℕ} {end : Option (List ℕ)} → Escaped cs text end → escaped cs ≡ (text, end)
escaped-is (Escaped.octal {cs = cs} {c = c} h) = by cs h
  where
    by : (cs : List ℕ) → octal_front cs ≡ Some c → escaped cs ≡ (c ∷ [], Some (drop 3 cs))
    by [] h = absurd (true≢false (sym (ap is_some h)))
    by (x ∷ xs) h = ap
        (λ o. elim o as (λ _. Read) [ Some value ↦ (value ∷ [], Some (drop 3 (x ∷ xs))) | None ↦ (x ∷ [], Some xs) ]) h
escaped-is (Escaped.itself {c = c} {rest = rest} h) = ap
    (λ o. elim o as (λ _. Read) [ Some value ↦ (value ∷ [], Some (drop 3 (c ∷ rest))) | None ↦ (c ∷ [], Some rest) ]) h
escaped-is Escaped.unended = refl

character-is : (c : ℕ) (cs text : List ℕ) (end : Option (List ℕ)) → Character (c ∷ cs) text end
    → character c cs ≡ (text, end)
character-is c cs text end (Character.plain h) = ap
    (λ b. elim b as (λ _. Read) [ true ↦ escaped cs | false ↦ (c ∷ [], Some cs) ]) (other c 0x5C h)
character-is c cs text end (Character.escape d) = escaped-is d

single-is : {cs text : List ℕ} {end : Option (List ℕ)} → Single cs text end → single cs ≡ (text, end)
unfolding single
single-is Single.closed = refl
single-is (Single.more {c = c} {cs = cs} h d) =
    ap (λ b. elim b as (λ _. Read) [ true ↦ ([], Some cs) | false ↦ (c ∷ (single cs).0, (single cs).1) ])
    (other c 0x27 h) ∙ ap (λ (r : Read). (c ∷ r.0, r.1)) (single-is d)
single-is Single.unended = refl

double-is : {cs text : List ℕ} {end : Option (List ℕ)} → Double cs text end → (n : ℕ) → length cs ≤ n
    → double n cs ≡ (text, end)
unfolding double
double-is Double.closed zero l = absurd (omega (arith, l))
double-is Double.closed (suc n) l = refl
double-is (Double.more h f d) zero l = absurd (omega (arith, l))
double-is (Double.more {c = c} {cs = cs} {first = first} {behind = behind} h f d) (suc n) l =
    let s = shorter 1 (c ∷ cs) behind (character-behind f) in
    ap (λ b. elim b as (λ _. Read) [ true ↦ ([], Some cs) | false ↦ and_then (character c cs) (λ rest. double n rest) ])
    (other c 0x22 h)
    ∙ ap (λ r. and_then r (λ rest. double n rest)) (character-is c cs first (Some behind) f)
    ∙ ap (λ (r : Read). (first ++ r.0, r.1)) (double-is d n (omega (arith, l, s)))
double-is (Double.broken h f) zero l = absurd (omega (arith, l))
double-is (Double.broken {c = c} {cs = cs} {text = text} h f) (suc n) l =
    ap (λ b. elim b as (λ _. Read) [ true ↦ ([], Some cs) | false ↦ and_then (character c cs) (λ rest. double n rest) ])
    (other c 0x22 h)
    ∙ ap (λ r. and_then r (λ rest. double n rest)) (character-is c cs text None f)
double-is Double.unended zero l = refl
double-is Double.unended (suc n) l = refl

part-is : (c : ℕ) (cs text : List ℕ) (end : Option (List ℕ)) → Part (c ∷ cs) text end → (n : ℕ) → length cs ≤ n
    → part n c cs ≡ (text, end)
part-is c cs text end (Part.single d) n l = single-is d
part-is c cs text end (Part.double d) n l = double-is d n l
part-is c cs text end (Part.character h k d) n l =
    ap (λ b. elim b as (λ _. Read)
    [ true ↦ single cs | false ↦ elim (c == 0x22) as (λ _. Read) [ true ↦ double n cs | false ↦ character c cs ] ])
    (other c 0x27 h)
    ∙ ap (λ b. elim b as (λ _. Read) [ true ↦ double n cs | false ↦ character c cs ]) (other c 0x22 k)
    ∙ character-is c cs text end d

parts-is : {cs text : List ℕ} {end : Option (List ℕ)} → Parts cs text end → (n : ℕ) → length cs ≤ n
    → parts n cs ≡ (text, end)
unfolding parts
parts-is Parts.last zero l = refl
parts-is Parts.last (suc n) l = refl
parts-is Parts.blank zero l = absurd (omega (arith, l))
parts-is Parts.blank (suc n) l = refl
parts-is (Parts.more h f d) zero l = absurd (omega (arith, l))
parts-is (Parts.more {c = c} {cs = cs} {first = first} {behind = behind} h f d) (suc n) l =
    let s = shorter 1 (c ∷ cs) behind (part-behind f) in
    ap (λ b. elim b as (λ _. Read)
    [ true ↦ ([], Some (c ∷ cs)) | false ↦ and_then (part n c cs) (λ rest. parts n rest) ]) (other c 0x20 h)
    ∙ ap (λ r. and_then r (λ rest. parts n rest)) (part-is c cs first (Some behind) f n (omega (arith, l)))
    ∙ ap (λ (r : Read). (first ++ r.0, r.1)) (parts-is d n (omega (arith, l, s)))
parts-is (Parts.broken h f) zero l = absurd (omega (arith, l))
parts-is (Parts.broken {c = c} {cs = cs} {text = text} h f) (suc n) l =
    ap (λ b. elim b as (λ _. Read)
    [ true ↦ ([], Some (c ∷ cs)) | false ↦ and_then (part n c cs) (λ rest. parts n rest) ]) (other c 0x20 h)
    ∙ ap (λ r. and_then r (λ rest. parts n rest)) (part-is c cs text None f n (omega (arith, l)))

line-is : (end : ℕ) {cs : List ℕ} {ws : List Word} → Line end cs ws → (n : ℕ) → length cs ≤ n → line end n cs ≡ ws
unfolding line
line-is end Line.last zero l = refl
line-is end Line.last (suc n) l = refl
line-is end (Line.blank d) zero l = absurd (omega (arith, l))
line-is end (Line.blank d) (suc n) l = line-is end d n (omega (arith, l))
line-is end (Line.word h f d) zero l = absurd (omega (arith, l))
line-is end (Line.word {c = c} {cs = cs} {text = text} {rest = rest} h f d) (suc n) l =
    let s = shorter 1 (c ∷ cs) rest (word-behind c cs text (Some rest) h f) in
    ap (λ b. elim b as (λ _. List Word)
    [ true ↦ line end n cs | false ↦ and_words (end - size (c ∷ cs)) (parts (suc n) (c ∷ cs)) (λ r. line end n r) ])
    (other c 0x20 h)
    ∙ ap (λ r. and_words (end - size (c ∷ cs)) r (λ r. line end n r)) (parts-is f (suc n) l)
    ∙ ap (λ ws. word_at (end - size (c ∷ cs)) text true ∷ ws) (line-is end d n (omega (arith, l, s)))
line-is end (Line.broken h f) zero l = absurd (omega (arith, l))
line-is end (Line.broken {c = c} {cs = cs} h f) (suc n) l =
    ap (λ b. elim b as (λ _. List Word)
    [ true ↦ line end n cs | false ↦ and_words (end - size (c ∷ cs)) (parts (suc n) (c ∷ cs)) (λ r. line end n r) ])
    (other c 0x20 h)
    ∙ ap (λ r. and_words (end - size (c ∷ cs)) r (λ r. line end n r)) (parts-is f (suc n) l)

pub words-are : (cs : List ℕ) (ws : List Word) → IsCut cs ws → words cs ≡ ws
words-are cs ws d = line-is (size cs) d (length cs) (omega arith)

pub one_cut : (cs : List ℕ) (ws vs : List Word) → IsCut cs ws → IsCut cs vs → ws ≡ vs
one_cut cs ws vs d e = sym (words-are cs ws d) ∙ words-are cs vs e

-- the relation holds for the text and rest that the function gives
escaped-holds : (cs : List ℕ) → Escaped cs (escaped cs).0 (escaped cs).1
escaped-holds [] = Escaped.unended
escaped-holds (c ∷ cs) = by (octal_front (c ∷ cs)) refl
  where
    by : (o : Option ℕ) → octal_front (c ∷ cs) ≡ o
        → (let r = elim o as (λ _. Read)
        [ Some value ↦ (value ∷ [], Some (drop 3 (c ∷ cs))) | None ↦ (c ∷ [], Some cs) ] in Escaped (c ∷ cs) r.0
        r.1)
    by (Some value) e = Escaped.octal e
    by None e = Escaped.itself e

character-holds : (c : ℕ) (cs : List ℕ) → Character (c ∷ cs) (character c cs).0 (character c cs).1
character-holds c cs = by (c == 0x5C) refl
  where
    by : (b : Bool) → (c == 0x5C) ≡ b
        →
        (let r = elim b as (λ _. Read) [ true ↦ escaped cs | false ↦ (c ∷ [], Some cs) ] in Character (c ∷ cs) r.0 r.1)
    by true e = subst (λ x. Character (x ∷ cs) (escaped cs).0 (escaped cs).1) (sym (same c 0x5C e))
        (Character.escape (escaped-holds cs))
    by false e = Character.plain (differs c 0x5C e)

single-holds : (cs : List ℕ) → Single cs (single cs).0 (single cs).1
unfolding single
single-holds [] = Single.unended
single-holds (c ∷ cs) = by (c == 0x27) refl (single-holds cs)
  where
    by : (b : Bool) → (c == 0x27) ≡ b → Single cs (single cs).0 (single cs).1
        → (let r = elim b as (λ _. Read) [ true ↦ ([], Some cs) | false ↦ (c ∷ (single cs).0, (single cs).1) ] in Single
        (c ∷ cs) r.0 r.1)
    by true e d = subst (λ x. Single (x ∷ cs) [] (Some cs)) (sym (same c 0x27 e)) Single.closed
    by false e d = Single.more (differs c 0x27 e) d

double-holds : (n : ℕ) (cs : List ℕ) → length cs ≤ n → Double cs (double n cs).0 (double n cs).1
unfolding double
double-holds zero [] l = Double.unended
double-holds zero (c ∷ cs) l = absurd (omega (arith, l))
double-holds (suc n) [] l = Double.unended
double-holds (suc n) (c ∷ cs) l = by (λ behind k. double-holds n behind k) (c == 0x22) refl
  where
    more : ((behind : List ℕ) → length behind ≤ n → Double behind (double n behind).0 (double n behind).1)
        → (h : c ≢ 0x22) (text : List ℕ) (end : Option (List ℕ)) → Character (c ∷ cs) text end
        → (let r = and_then (text, end) (λ rest. double n rest) in Double (c ∷ cs) r.0 r.1)
    more again h text (Some behind) d = Double.more h d
        (again behind (omega (arith, l, shorter 1 (c ∷ cs) behind (character-behind d))))
    more again h text None d = Double.broken h d

    by : ((behind : List ℕ) → length behind ≤ n → Double behind (double n behind).0 (double n behind).1) → (b : Bool)
        → (c == 0x22) ≡ b
        → (let r = elim b as (λ _. Read)
        [ true ↦ ([], Some cs) | false ↦ and_then (character c cs) (λ rest. double n rest) ] in Double (c ∷ cs) r.0
        r.1)
    by again true e = subst (λ x. Double (x ∷ cs) [] (Some cs)) (sym (same c 0x22 e)) Double.closed
    by again false e = more again (differs c 0x22 e) (character c cs).0 (character c cs).1 (character-holds c cs)

part-holds : (n c : ℕ) (cs : List ℕ) → length cs ≤ n → Part (c ∷ cs) (part n c cs).0 (part n c cs).1
part-holds n c cs l = by (c == 0x27) (c == 0x22) refl refl
  where
    by : (a b : Bool) → (c == 0x27) ≡ a → (c == 0x22) ≡ b
        → (let r = elim a as (λ _. Read)
        [ true ↦ single cs | false ↦ elim b as (λ _. Read) [ true ↦ double n cs | false ↦ character c cs ] ] in Part
        (c ∷ cs) r.0 r.1)
    by true b e f = subst (λ x. Part (x ∷ cs) (single cs).0 (single cs).1) (sym (same c 0x27 e))
        (Part.single (single-holds cs))
    by false true e f = subst (λ x. Part (x ∷ cs) (double n cs).0 (double n cs).1) (sym (same c 0x22 f))
        (Part.double (double-holds n cs l))
    by false false e f = Part.character (differs c 0x27 e) (differs c 0x22 f) (character-holds c cs)

parts-hold : (n : ℕ) (cs : List ℕ) → length cs ≤ n → Parts cs (parts n cs).0 (parts n cs).1
unfolding parts
parts-hold zero [] l = Parts.last
parts-hold zero (c ∷ cs) l = absurd (omega (arith, l))
parts-hold (suc n) [] l = Parts.last
parts-hold (suc n) (c ∷ cs) l = by (λ behind k. parts-hold n behind k) (c == 0x20) refl
  where
    more : ((behind : List ℕ) → length behind ≤ n → Parts behind (parts n behind).0 (parts n behind).1)
        → (h : c ≢ 0x20) (text : List ℕ) (end : Option (List ℕ)) → Part (c ∷ cs) text end
        → (let r = and_then (text, end) (λ rest. parts n rest) in Parts (c ∷ cs) r.0 r.1)
    more again h text (Some behind) d = Parts.more h d
        (again behind (omega (arith, l, shorter 1 (c ∷ cs) behind (part-behind d))))
    more again h text None d = Parts.broken h d

    by : ((behind : List ℕ) → length behind ≤ n → Parts behind (parts n behind).0 (parts n behind).1) → (b : Bool)
        → (c == 0x20) ≡ b
        → (let r = elim b as (λ _. Read)
        [ true ↦ ([], Some (c ∷ cs)) | false ↦ and_then (part n c cs) (λ rest. parts n rest) ] in Parts (c ∷ cs) r.0
        r.1)
    by again true e = subst (λ x. Parts (x ∷ cs) [] (Some (x ∷ cs))) (sym (same c 0x20 e)) Parts.blank
    by again false e = more again (differs c 0x20 e) (part n c cs).0 (part n c cs).1
        (part-holds n c cs (omega (arith, l)))

line-holds : (end n : ℕ) (cs : List ℕ) → length cs ≤ n → Line end cs (line end n cs)
unfolding line
line-holds end zero [] l = Line.last
line-holds end zero (c ∷ cs) l = absurd (omega (arith, l))
line-holds end (suc n) [] l = Line.last
line-holds end (suc n) (c ∷ cs) l = by (λ rest k. line-holds end n rest k) (c == 0x20) refl
  where
    more : ((rest : List ℕ) → length rest ≤ n → Line end rest (line end n rest))
        → (h : c ≢ 0x20) (text : List ℕ) (rest : Option (List ℕ)) → Parts (c ∷ cs) text rest
        → Line end (c ∷ cs) (and_words (end - size (c ∷ cs)) (text, rest) (λ r. line end n r))
    more again h text (Some rest) d = Line.word h d
        (again rest (omega (arith, l, shorter 1 (c ∷ cs) rest (word-behind c cs text (Some rest) h d))))
    more again h text None d = Line.broken h d

    by : ((rest : List ℕ) → length rest ≤ n → Line end rest (line end n rest)) → (b : Bool) → (c == 0x20) ≡ b
        → Line end (c ∷ cs)
        (elim b as (λ _. List Word) [
          | true ↦ line end n cs
          | false ↦ and_words (end - size (c ∷ cs)) (parts (suc n) (c ∷ cs))
              (λ r. line end n r)
        ])
    by again true e = subst (λ x. Line end (x ∷ cs) (line end n cs)) (sym (same c 0x20 e))
        (Line.blank (again cs (omega (arith, l))))
    by again false e = more again (differs c 0x20 e) (parts (suc n) (c ∷ cs)).0 (parts (suc n) (c ∷ cs)).1
        (parts-hold (suc n) (c ∷ cs) l)

pub words-cut : (cs : List ℕ) → IsCut cs (words cs)
words-cut cs = line-holds (size cs) (length cs) cs (omega arith)
