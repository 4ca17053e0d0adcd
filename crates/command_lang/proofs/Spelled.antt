-- A line that is printed is cut into the words that were printed.
use Rattle.command_lang.proofs.Vocabulary.{◌≡◌, ◌≢◌, Some, ℕ, ◌+◌, ◌-◌, ◌/◌, ◌%◌, Bool, true, false, not, ◌&&◌, ◌||◌}
use Rattle.command_lang.proofs.Vocabulary.{cond, List, [], ◌∷◌, ◌++◌, refl, sym, ap, ◌∙◌, subst, arith, append_assoc}
use Rattle.command_lang.proofs.Vocabulary.{true≢false, ◌==◌, nat_lt, list_all, chars, IsUtf8, encode_utf8_all}
use Rattle.command_lang.proofs.Vocabulary.{nat_tests, append-nil, encodes-chars, scalars-chars, scalars, scalar}
use Rattle.command_lang.proofs.Vocabulary.{CommandName, Word, name_text, is_empty_text, Character, Double, Part, Parts}
use Rattle.command_lang.proofs.Vocabulary.{Line, IsCut, size, texts_of, quoted, printed_words}
use Rattle.acl.specs.declared.command_name.CommandName.TheVariants as name
use Rattle.command_lang.specs.Printing.{is_plain, octal, escaped, needs_no_quotes, printed_word}
use Rattle.command_lang.proofs.Quoting.{quoted_reads}
use Rattle.command_lang.proofs.Appends.{name-encoded}
use Rattle.command_lang.proofs.Fits.{AllWhole}
use Rattle.command_lang.proofs.Scalars.{and-parts, and-both, scalars-append, small-scalar, AllText}

-- what may follow a word: nothing, or a blank
abbrev pub Ends : List ℕ → Type 0
Ends [] = Unit {0}
Ends (c ∷ cs) = c ≡ 0x20

-- a character that begins a word
abbrev pub Visible : List ℕ → Type 0
Visible [] = ⊥
Visible (c ∷ cs) = c ≢ 0x20

word-ends : (rest : List ℕ) → Ends rest → Parts rest [] (Some rest)
word-ends [] h = Parts.last
word-ends (c ∷ cs) h = subst (λ x. Parts (x ∷ cs) [] (Some (x ∷ cs))) (sym h) Parts.blank

no-blank : (c : ℕ) → is_plain c ≡ true → c ≢ 0x20
no-blank c h e = grind (arith, nat_tests)

no-single : (c : ℕ) → is_plain c ≡ true → c ≢ 0x27
no-single c h e = grind (arith, nat_tests)

no-double : (c : ℕ) → is_plain c ≡ true → c ≢ 0x22
no-double c h e = grind (arith, nat_tests)

no-escape : (c : ℕ) → is_plain c ≡ true → c ≢ 0x5C
no-escape c h e = grind (arith, nat_tests)

plain-word : (cs rest : List ℕ) → list_all is_plain cs ≡ true → Ends rest → Parts (cs ++ rest) cs (Some rest)
plain-word [] rest h e = word-ends rest e
plain-word (c ∷ cs) rest h e =
    let p = and-parts (is_plain c) (list_all is_plain cs) h in
    Parts.more (no-blank c p.0) (Part.character (no-single c p.0) (no-double c p.0) (Character.plain (no-escape c p.0)))
    (plain-word cs rest p.1 e)

quote-visible : ◌≢◌ {A = ℕ} 0x22 0x20
quote-visible h = omega (arith, h)

quoted-word : (cs rest : List ℕ) → Ends rest → Parts (0x22 ∷ ((quoted cs ++ 0x22 ∷ []) ++ rest)) cs (Some rest)
quoted-word cs rest e =
    let d = subst (λ x. Double x cs (Some rest)) (sym (append_assoc (quoted cs) (0x22 ∷ []) rest))
    (quoted_reads cs rest) in
    subst (λ t. Parts (0x22 ∷ ((quoted cs ++ 0x22 ∷ []) ++ rest)) t (Some rest)) (append-nil cs)
    (Parts.more quote-visible (Part.double d) (word-ends rest e))

-- a printed word is read whole
pub word-read : (t rest : List ℕ) → Ends rest → Parts (printed_word t ++ rest) (chars t) (Some rest)
word-read t rest e = by (needs_no_quotes t) refl
  where
    by : (b : Bool) → needs_no_quotes t ≡ b
        → Parts (cond b (chars t) (0x22 ∷ (quoted (chars t) ++ 0x22 ∷ [])) ++ rest) (chars t) (Some rest)
    by true h = plain-word (chars t) rest (and-parts (not (is_empty_text t)) (list_all is_plain (chars t)) h).1 e
    by false h = quoted-word (chars t) rest e

plain-visible : (cs : List ℕ) → list_all is_plain cs ≡ true → (cs ≡ [] → ⊥) → Visible cs
plain-visible [] h e = absurd (e refl)
plain-visible (c ∷ cs) h e = no-blank c (and-parts (is_plain c) (list_all is_plain cs) h).0

some-chars : (t : List ℕ) → IsUtf8 t → not (is_empty_text t) ≡ true → chars t ≡ [] → ⊥
some-chars t u h e = let n : [] ≡ t = ap encode_utf8_all (sym e)
    ∙ encodes-chars t u in true≢false (sym (ap (λ l. not (is_empty_text l)) n ∙ h))

pub word-visible : (t : List ℕ) → IsUtf8 t → Visible (printed_word t)
word-visible t u = by (needs_no_quotes t) refl
  where
    by : (b : Bool) → needs_no_quotes t ≡ b → Visible (cond b (chars t) (0x22 ∷ (quoted (chars t) ++ 0x22 ∷ [])))
    by true h =
        let p = and-parts (not (is_empty_text t)) (list_all is_plain (chars t)) h in
        plain-visible (chars t) p.1 (some-chars t u p.0)
    by false h = quote-visible

abbrev at-word : ℕ → List ℕ → Word
at-word place text = record { place = place; text = encode_utf8_all text; is_closed = true }

-- a word, and the words after it
pub one-word : (end : ℕ) (cs rest text : List ℕ) (ws : List Word) → Visible cs → Parts (cs ++ rest) text (Some rest)
    → Line end rest ws
    → (place : ℕ) × Line end (cs ++ rest) (at-word place text ∷ ws)
one-word end [] rest text ws v p d = absurd v
one-word end (c ∷ cs) rest text ws v p d = (end - size (c ∷ (cs ++ rest)), Line.word v p d)

pub ends-words : (ts : List (List ℕ)) → Ends (printed_words ts)
ends-words [] = tt
ends-words (t ∷ ts) = refl

-- words with these texts, each of them closed
pub record Spells (ws : List Word) (ts : List (List ℕ)) : Type 0 where
  pub whole : AllWhole ws
  pub texts : texts_of ws ≡ ts

-- the line is cut into closed words with these texts
pub record Spelling (end : ℕ) (cs : List ℕ) (ts : List (List ℕ)) : Type 0 where
  pub words : List Word
  pub cut : Line end cs words
  pub spelled : Spells words ts

pub spells : (end : ℕ) (ts : List (List ℕ)) → AllText ts → Spelling end (printed_words ts) ts
spells end [] u = record { words = []; cut = Line.last; spelled = record { whole = tt; texts = refl } }
spells end (t ∷ ts) u =
    let s = spells end ts u.1 in
    let w = one-word end (printed_word t) (printed_words ts) (chars t) s.words (word-visible t u.0)
    (word-read t (printed_words ts) (ends-words ts)) s.cut in
    record {
      words = at-word w.0 (chars t) ∷ s.words;
      cut = Line.blank w.1;
      spelled = record { whole = (refl, s.spelled.whole); texts = λ j. encodes-chars t u.0 j ∷ s.spelled.texts j };
    }

-- the name
abbrev is_word : List ℕ → Bool
is_word cs = not (is_empty_text cs) && list_all is_plain cs

name-word : (n : CommandName) → is_word (name_text n) ≡ true
name-word name.Acladd = refl
name-word _ = refl

plain-name : (n : CommandName) → list_all is_plain (name_text n) ≡ true
plain-name n = (and-parts (not (is_empty_text (name_text n))) (list_all is_plain (name_text n)) (name-word n)).1

visible-name : (n : CommandName) → Visible (name_text n)
visible-name n = plain-visible (name_text n) (plain-name n)
    (λ e. true≢false
    (sym (and-parts (not (is_empty_text (name_text n))) (list_all is_plain (name_text n)) (name-word n)).0
    ∙ ap (λ l. not (is_empty_text l)) e))

pub record LineSpells (cs : List ℕ) (n : CommandName) (ts : List (List ℕ)) : Type 0 where
  pub first : Word
  pub behind : List Word
  pub cut : IsCut cs (first ∷ behind)
  pub whole : first.is_closed ≡ true
  pub name : first.text ≡ name_text n
  pub spelled : Spells behind ts

pub line-spells : (n : CommandName) (ts : List (List ℕ)) → AllText ts
    → LineSpells (name_text n ++ printed_words ts) n ts
line-spells n ts u =
    let s = spells (size (name_text n ++ printed_words ts)) ts u in
    let w = one-word (size (name_text n ++ printed_words ts)) (name_text n) (printed_words ts) (name_text n) s.words
    (visible-name n)
    (plain-word (name_text n) (printed_words ts) (plain-name n) (ends-words ts)) s.cut in
    record {
      first = at-word w.0 (name_text n);
      behind = s.words;
      cut = w.1;
      whole = refl;
      name = name-encoded n;
      spelled = s.spelled;
    }

-- what is printed is made of characters
plain-scalar : (c : ℕ) → is_plain c ≡ true → scalar c ≡ true
plain-scalar c h = small-scalar c (grind (arith, nat_tests))

plain-scalars : (cs : List ℕ) → list_all is_plain cs ≡ true → scalars cs ≡ true
plain-scalars [] h = refl
plain-scalars (c ∷ cs) h =
    let p = and-parts (is_plain c) (list_all is_plain cs) h in
    and-both (scalar c) (scalars cs) (plain-scalar c p.0) (plain-scalars cs p.1)

octal-scalars : (c : ℕ) → scalars (octal c) ≡ true
octal-scalars c =
    let x = small-scalar (0x30 + c / 64 % 8) (omega arith) in
    let y = small-scalar (0x30 + c / 8 % 8) (omega arith) in
    let z = small-scalar (0x30 + c % 8) (omega arith) in
    and-both (scalar (0x30 + c / 64 % 8)) (scalars ((0x30 + c / 8 % 8) ∷ (0x30 + c % 8) ∷ [])) x
    (and-both (scalar (0x30 + c / 8 % 8)) (scalars ((0x30 + c % 8) ∷ [])) y
    (and-both (scalar (0x30 + c % 8)) true z refl))

of-if : (b : Bool) (xs ys : List ℕ) → scalars xs ≡ true → scalars ys ≡ true → scalars (cond b xs ys) ≡ true
of-if true xs ys h k = h
of-if false xs ys h k = k

escaped-scalars : (c : ℕ) → scalar c ≡ true → scalars (escaped c) ≡ true
escaped-scalars c h =
    of-if (c == 0x22 || c == 0x5C) (0x5C ∷ c ∷ []) (cond (nat_lt c 0x20 || c == 0x7F) (0x5C ∷ octal c) (c ∷ []))
    (and-both (scalar c) true h refl)
    (of-if (nat_lt c 0x20 || c == 0x7F) (0x5C ∷ octal c) (c ∷ []) (octal-scalars c) (and-both (scalar c) true h refl))

quoted-scalars : (cs : List ℕ) → scalars cs ≡ true → scalars (quoted cs) ≡ true
quoted-scalars [] h = refl
quoted-scalars (c ∷ cs) h =
    let p = and-parts (scalar c) (scalars cs) h in
    scalars-append (escaped c) (quoted cs) (escaped-scalars c p.0) (quoted-scalars cs p.1)

word-scalars : (t : List ℕ) → IsUtf8 t → scalars (printed_word t) ≡ true
word-scalars t u =
    let s = scalars-chars t u in
    of-if (needs_no_quotes t) (chars t) (0x22 ∷ (quoted (chars t) ++ 0x22 ∷ [])) s
    (scalars-append (quoted (chars t)) (0x22 ∷ []) (quoted-scalars (chars t) s) refl)

words-scalars : (ts : List (List ℕ)) → AllText ts → scalars (printed_words ts) ≡ true
words-scalars [] u = refl
words-scalars (t ∷ ts) u = scalars-append (printed_word t) (printed_words ts) (word-scalars t u.0)
    (words-scalars ts u.1)

pub line-scalars : (n : CommandName) (ts : List (List ℕ)) → AllText ts
    → scalars (name_text n ++ printed_words ts) ≡ true
line-scalars n ts u = scalars-append (name_text n) (printed_words ts) (plain-scalars (name_text n) (plain-name n))
    (words-scalars ts u)
