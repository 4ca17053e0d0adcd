-- What printing appends, part by part.
use Rattle.command_lang.proofs.Vocabulary.{◌≡◌, ℕ, zero, suc, ◌+◌, ◌<◌, ◌≤◌, true, false, cond, List, [], ◌∷◌, ◌++◌}
use Rattle.command_lang.proofs.Vocabulary.{length, take, drop, get_or, refl, sym, ap, ◌∙◌, arith, append_assoc}
use Rattle.command_lang.proofs.Vocabulary.{drop-cons, Result, Ok, Err, OnOk, ◌==◌, chars, IsUtf8, encode_utf8_all}
use Rattle.command_lang.proofs.Vocabulary.{nat_tests, append-nil, length_push, encodes-chars, CommandName, Command}
use Rattle.command_lang.proofs.Vocabulary.{name_text, name_of, words_of, items_word, quoted, printed_words, printed}
use Rattle.std.specs.Result.{is_ok}
use Rattle.std.proofs.lemmas.Str.{encodes-append}
use Rattle.acl.specs.declared.command_name.CommandName.TheVariants as name
use Rattle.command_lang.specs.Printing.{item_behind, escaped, needs_no_quotes, printed_word}

pub drop-at : {A : Type 0} (xs : List A) (i : ℕ) (x : A) → i < length xs → x ≡ get_or xs i x
    → drop i xs ≡ x ∷ drop (i + 1) xs
drop-at xs i x h e =
    let k : suc i ≡ i + 1 = omega arith in
    drop-cons xs i x h ∙ (λ j. sym e j ∷ drop (k j) xs)

pub drop-all : {A : Type 0} (xs : List A) (i : ℕ) → length xs ≤ i → drop i xs ≡ []
drop-all [] zero h = refl
drop-all [] (suc i) h = refl
drop-all (x ∷ xs) zero h = absurd (omega (arith, h))
drop-all (x ∷ xs) (suc i) h = drop-all xs i (omega (arith, h))

-- every item but the first has a comma before it
behind-suc : (n : ℕ) (y : List ℕ) → item_behind (suc n) y ≡ 0x2C ∷ y
behind-suc n y = let e : (suc n == 0) ≡ false = grind (arith, nat_tests) in ap (λ b. cond b [] (0x2C ∷ []) ++ y) e

items-snoc : (xs : List (List ℕ)) (y : List ℕ) → items_word (xs ++ y ∷ []) ≡ items_word xs ++ item_behind (length xs) y
items-snoc [] y = refl
items-snoc (x ∷ []) y = refl
items-snoc (x ∷ z ∷ xs) y =
    ap (λ l. x ++ (0x2C ∷ l)) (items-snoc (z ∷ xs) y ∙ ap (λ l. items_word (z ∷ xs) ++ l) (behind-suc (length xs) y))
    ∙ sym (append_assoc x (0x2C ∷ items_word (z ∷ xs)) (0x2C ∷ y))
    ∙ ap (λ l. (x ++ (0x2C ∷ items_word (z ∷ xs))) ++ l) (sym (behind-suc (suc (length xs)) y))

take-more : (xs : List (List ℕ)) (i : ℕ) (x : List ℕ) → i < length xs → x ≡ get_or xs i x
    → take (i + 1) xs ≡ take i xs ++ x ∷ []
take-more [] i x h e = absurd (omega (arith, h))
take-more (y ∷ xs) zero x h e = ap (λ v. v ∷ []) (sym e)
take-more (y ∷ xs) (suc i) x h e = ap (λ j. take j (y ∷ xs)) (suc-plus i)
    ∙ ap (λ l. y ∷ l) (take-more xs i x (omega (arith, h)) e)
  where
    suc-plus : (i : ℕ) → suc i + 1 ≡ suc (i + 1)
    suc-plus i = omega arith

length-take-le : (xs : List (List ℕ)) (i : ℕ) → i ≤ length xs → length (take i xs) ≡ i
length-take-le xs zero h = refl
length-take-le [] (suc i) h = absurd (omega (arith, h))
length-take-le (x ∷ xs) (suc i) h = ap suc (length-take-le xs i (omega (arith, h)))

pub items-more : (old now new : List ℕ) (xs : List (List ℕ)) (i : ℕ) (x y : List ℕ) → i < length xs → x ≡ get_or xs i x
    → y ≡ x → now ≡ old ++ items_word (take i xs) → new ≡ now ++ item_behind i y
    → new ≡ old ++ items_word (take (i + 1) xs)
items-more old now new xs i x y h e f a b =
    b ∙ ap (λ t. now ++ item_behind i t) f ∙ ap (λ l. l ++ item_behind i x) a
    ∙ append_assoc old (items_word (take i xs)) (item_behind i x)
    ∙ ap (λ l. old ++ l)
    (ap (λ j. items_word (take i xs) ++ item_behind j x) (sym (length-take-le xs i (omega (arith, h))))
    ∙ sym (items-snoc (take i xs) x) ∙ ap items_word (sym (take-more xs i x h e)))

-- one more character of a quoted word
pub quoted-more : (old now new cs ys : List ℕ) (x : ℕ) → (length ys < length cs) × (x ≡ get_or cs (length ys) x)
    → old ≡ now ++ encode_utf8_all (quoted (drop (length ys) cs)) → new ≡ now ++ encode_utf8_all (escaped x)
    → old ≡ new ++ encode_utf8_all (quoted (drop (length (ys ++ x ∷ [])) cs))
quoted-more old now new cs ys x t a b =
    let n : length ys + 1 ≡ length (ys ++ x ∷ []) = sym (length_push ys x) in
    a ∙ ap (λ l. now ++ encode_utf8_all (quoted l)) (drop-at cs (length ys) x t.0 t.1)
    ∙ ap (λ l. now ++ l) (encodes-append (escaped x) (quoted (drop (length ys + 1) cs)))
    ∙ sym (append_assoc now (encode_utf8_all (escaped x)) (encode_utf8_all (quoted (drop (length ys + 1) cs))))
    ∙ (λ j. sym b j ++ encode_utf8_all (quoted (drop (n j) cs)))

pub quoted-end : (old now cs : List ℕ) (n : ℕ) → n ≡ length cs → old ≡ now ++ encode_utf8_all (quoted (drop n cs))
    → now ≡ old
quoted-end old now cs n e a = sym
    (a ∙ ap (λ l. now ++ encode_utf8_all (quoted l)) (drop-all cs n (omega (arith, e))) ∙ append-nil now)

-- if appending succeeded, the text is at the end
pub pushed : {T E : Type 0} (r : Result T E) (old new text : List ℕ) → new ≡ cond (is_ok r) (old ++ text) old
    → OnOk r (new ≡ old ++ text)
pushed (Ok x) old new text h = h
pushed (Err e) old new text h = tt

-- a word that needs no quotes, and one that does
pub plain_text : (text : List ℕ) → needs_no_quotes text ≡ true → IsUtf8 text
    → text ≡ encode_utf8_all (printed_word text)
plain_text text h u = sym
    (ap (λ b. encode_utf8_all (cond b (chars text) (0x22 ∷ (quoted (chars text) ++ 0x22 ∷ [])))) h
    ∙ encodes-chars text u)

pub quoted_text : (old a b new text : List ℕ) → needs_no_quotes text ≡ false → a ≡ old ++ 0x22 ∷ []
    → b ≡ a ++ encode_utf8_all (quoted (chars text)) → new ≡ b ++ 0x22 ∷ []
    → new ≡ old ++ encode_utf8_all (printed_word text)
unfolding lib.Utf8.encode
quoted_text old a b new text h e f g =
    g ∙ ap (λ l. l ++ 0x22 ∷ [])
    (f ∙ ap (λ l. l ++ encode_utf8_all (quoted (chars text))) e
    ∙ append_assoc old (0x22 ∷ []) (encode_utf8_all (quoted (chars text))))
    ∙ append_assoc old (0x22 ∷ encode_utf8_all (quoted (chars text))) (0x22 ∷ [])
    ∙ ap (λ l. old ++ (0x22 ∷ l)) (sym (encodes-append (quoted (chars text)) (0x22 ∷ [])))
    ∙ ap (λ c. old ++ encode_utf8_all (cond c (chars text) (0x22 ∷ (quoted (chars text) ++ 0x22 ∷ [])))) (sym h)

-- the name of a command, and one more word
pub name-encoded : (n : CommandName) → encode_utf8_all (name_text n) ≡ name_text n
unfolding lib.Utf8.encode
name-encoded name.Acladd = refl
name-encoded _ = refl

pub printed_is : (c : Command) → printed c ≡ name_text (name_of c) ++ encode_utf8_all (printed_words (words_of c))
unfolding printed
printed_is c = encodes-append (name_text (name_of c)) (printed_words (words_of c))
    ∙ ap (λ l. l ++ encode_utf8_all (printed_words (words_of c))) (name-encoded (name_of c))

pub words-more : (all now a new : List ℕ) (ws : List (List ℕ)) (i : ℕ) (x y : List ℕ) → i < length ws
    → x ≡ get_or ws i x → y ≡ x → all ≡ now ++ encode_utf8_all (printed_words (drop i ws))
    → a ≡ now ++ 0x20 ∷ [] → new ≡ a ++ encode_utf8_all (printed_word y)
    → all ≡ new ++ encode_utf8_all (printed_words (drop (i + 1) ws))
unfolding lib.Utf8.encode
words-more all now a new ws i x y h e f g p q =
    g ∙ ap (λ l. now ++ encode_utf8_all (printed_words l)) (drop-at ws i x h e)
    ∙ ap (λ l. now ++ (0x20 ∷ l)) (encodes-append (printed_word x) (printed_words (drop (i + 1) ws)))
    ∙ sym
    (append_assoc now (0x20 ∷ [])
    (encode_utf8_all (printed_word x) ++ encode_utf8_all (printed_words (drop (i + 1) ws))))
    ∙ ap (λ l. l ++ (encode_utf8_all (printed_word x) ++ encode_utf8_all (printed_words (drop (i + 1) ws)))) (sym p)
    ∙ sym (append_assoc a (encode_utf8_all (printed_word x)) (encode_utf8_all (printed_words (drop (i + 1) ws))))
    ∙ ap (λ l. l ++ encode_utf8_all (printed_words (drop (i + 1) ws)))
    (sym (q ∙ ap (λ t. a ++ encode_utf8_all (printed_word t)) f))
