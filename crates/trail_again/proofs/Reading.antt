-- A line of plain words is read as the command that its words mean.
use Rattle.trail_again.proofs.Vocabulary.{◌≡◌, ◌∙◌, ℕ, ◌≤◌, ◌<◌, Bool, true, false, not, cond, List, [], ◌∷◌, ◌++◌}
use Rattle.trail_again.proofs.Vocabulary.{refl, ap, sym, ◌&&◌, if◌then◌else◌, Some, Ok, length, arith, subst}
use Rattle.trail_again.proofs.Vocabulary.{option_and_then, AllByRecursion, flat_map, list_all, slice_split, IsAscii}
use Rattle.trail_again.proofs.Vocabulary.{chars, nat_tests, CommandName, command_named, name_text, is_plain}
use Rattle.trail_again.proofs.Vocabulary.{printed_word, printed_words, quoted, read_line, is_empty_text, Fits}
use Rattle.trail_again.proofs.Vocabulary.{no_faults, AllText, and-parts}
use Rattle.std.specs.List.{onto_first}
use Rattle.std.proofs.lemmas.List.Splits.{slice_split-cons_no, slice_split-cons_yes}
use Rattle.std.proofs.lemmas.Str.{IsAscii-append, IsUtf8-from_ascii, chars-IsAscii}
use Rattle.std.proofs.lemmas.Str.Ascii.{IsAscii-cons, IsAscii-nil}
use Rattle.acl.specs.declared.command_name.CommandName.TheVariants as name
use Rattle.strings.specs.Grammar.{IsCut}
use Rattle.strings.specs.declared.text.Word.{Word}
use Rattle.command_lang.specs.declared.command.Command.{Command}
use Rattle.command_lang.specs.declared.fault.FaultKind.TheVariants as faults
use Rattle.command_lang.specs.LineFaults.{line_faults, named_faults}
use Rattle.command_lang.specs.Meaning.{command_of, line_command, texts_of}
use Rattle.command_lang.specs.Rows.{takes}
use Rattle.command_lang.specs.Table.{at, words_faults}
use Rattle.command_lang.proofs.OneReading.{relates-reads}
use Rattle.command_lang.proofs.Spelled.{line-spells}
use Rattle.command_lang.proofs.Whole.{relates}

-- ---- words

-- a word that is written as it is
abbrev pub is_word : List ℕ → Bool
is_word t = not (is_empty_text t) && list_all is_plain t

abbrev pub IsWord : List ℕ → Type 0
IsWord t = is_word t ≡ true

abbrev pub AreWords : List (List ℕ) → Type 0
AreWords ts = AllByRecursion IsWord ts

-- words, each with a blank before it
abbrev pub spaced : List (List ℕ) → List ℕ
spaced ts = flat_map (λ t. 0x20 ∷ t) ts

-- a line: the name of a command and its words
abbrev pub line_of : CommandName → List (List ℕ) → List ℕ
line_of n ts = name_text n ++ spaced ts

small_plain : (c : ℕ) → is_plain c ≡ true → c < 128
small_plain c h = grind (arith, nat_tests)

ascii_plain : (t : List ℕ) → list_all is_plain t ≡ true → IsAscii t
ascii_plain [] h = IsAscii-nil
ascii_plain (c ∷ t) h =
    let p = and-parts (is_plain c) (list_all is_plain t) h in
    IsAscii-cons c t (small_plain c p.0) (ascii_plain t p.1)

ascii_word : (t : List ℕ) → IsWord t → IsAscii t
ascii_word t h = ascii_plain t (and-parts (not (is_empty_text t)) (list_all is_plain t) h).1

ascii_spaced : (ts : List (List ℕ)) → AreWords ts → IsAscii (spaced ts)
ascii_spaced [] all = IsAscii-nil
ascii_spaced (t ∷ ts) all =
    IsAscii-cons 0x20 (t ++ spaced ts) (omega arith) (IsAscii-append t (spaced ts) (ascii_word t all.0)
    (ascii_spaced ts all.1))

-- the name of a command is such a word
pub name_is_word : (n : CommandName) → IsWord (name_text n)
name_is_word name.Acladd = refl
name_is_word _ = refl

ascii_line : (n : CommandName) (ts : List (List ℕ)) → AreWords ts → IsAscii (line_of n ts)
ascii_line n ts all = IsAscii-append (name_text n) (spaced ts) (ascii_word (name_text n) (name_is_word n))
    (ascii_spaced ts all)

text_words : (ts : List (List ℕ)) → AreWords ts → AllText ts
text_words [] all = tt
text_words (t ∷ ts) all = (IsUtf8-from_ascii t (ascii_word t all.0), text_words ts all.1)

word_printed : (t : List ℕ) → IsWord t → printed_word t ≡ t
word_printed t h =
    let same : chars t ≡ t = chars-IsAscii t (ascii_word t h) in
    ap (λ cs. if not (is_empty_text t) && list_all is_plain cs then cs
    else 0x22 ∷ (quoted cs ++ 0x22 ∷ [])) same
    ∙ ap (λ b. if b then t else 0x22 ∷ (quoted t ++ 0x22 ∷ [])) h

words_printed : (ts : List (List ℕ)) → AreWords ts → printed_words ts ≡ spaced ts
words_printed [] all = refl
words_printed (t ∷ ts) all = (λ j. 0x20 ∷ (word_printed t all.0 j ++ words_printed ts all.1 j))

-- ---- the line

pub name_found : (n : CommandName) → command_named (name_text n) ≡ Some n
unfolding command_named
name_found name.Acladd = refl
name_found _ = refl

line_fine : (end : ℕ) (n : CommandName) (w : Word) (ws : List Word) → w.is_closed ≡ true → w.text ≡ name_text n
    → words_faults (takes n) 0 end ws ≡ [] → line_faults end (w ∷ ws) ≡ []
line_fine end n w ws h t f =
    ap (λ b. cond b (named_faults (command_named w.text) w.place end ws) (at w.place faults.BadQuote ∷ [])) h
    ∙ ap (λ o. named_faults o w.place end ws) (ap command_named t ∙ name_found n) ∙ f

line_means : (n : CommandName) (w : Word) (ws : List Word) → w.text ≡ name_text n
    → line_command (w ∷ ws) ≡ command_of n (texts_of ws)
line_means n w ws t = ap (option_and_then (λ m. command_of m (texts_of ws))) (ap command_named t ∙ name_found n)

-- the words of a line, and the command that they mean
pub record Says (n : CommandName) (ts : List (List ℕ)) (c : Command) : Type 0 where
  pub words : AreWords ts
  pub fit : Fits (takes n) ts
  pub means : command_of n ts ≡ Some c

pub reads : (n : CommandName) (ts : List (List ℕ)) (c : Command) → Says n ts c → length (line_of n ts) ≤ 1024
    → read_line (line_of n ts) ≡ Ok c
reads n ts c s short =
    let line : List ℕ = line_of n ts in
    let l = line-spells n ts (text_words ts s.words) in
    let fit : Fits (takes n) (texts_of l.behind) = subst (Fits (takes n)) (sym l.spelled.texts) s.fit in
    let fine = line_fine (length line) n l.first l.behind l.whole l.name
    (no_faults (takes n) (length line) l.behind l.spelled.whole fit) in
    let means = line_means n l.first l.behind l.name ∙ ap (command_of n) l.spelled.texts ∙ s.means in
    let same : name_text n ++ printed_words ts ≡ chars line =
    ap (λ (x : List ℕ). name_text n ++ x) (words_printed ts s.words)
    ∙ sym (chars-IsAscii line (ascii_line n ts s.words)) in
    relates-reads line c (relates line (l.first ∷ l.behind) c short
    (IsUtf8-from_ascii line (ascii_line n ts s.words))
    (subst (λ cs. IsCut cs (l.first ∷ l.behind)) same l.cut) (fine, means))

-- ---- lists of bytes

-- no byte of them passes
abbrev pub Free : (ℕ → Bool) → List ℕ → Type 0
Free p xs = AllByRecursion (λ b. p b ≡ false) xs

pub free_append : (p : ℕ → Bool) (xs ys : List ℕ) → Free p xs → Free p ys → Free p (xs ++ ys)
free_append p [] ys a b = b
free_append p (x ∷ xs) ys a b = (a.0, free_append p xs ys a.1 b)

pub split_at : (p : ℕ → Bool) (xs : List ℕ) (y : ℕ) (ys : List ℕ) → Free p xs → p y ≡ true
    → slice_split p (xs ++ y ∷ ys) ≡ xs ∷ slice_split p ys
split_at p [] y ys f e = slice_split-cons_yes p y ys e
split_at p (x ∷ xs) y ys f e = slice_split-cons_no p x (xs ++ y ∷ ys) f.0
    ∙ ap (onto_first x) (split_at p xs y ys f.1 e)

pub split_none : (p : ℕ → Bool) (xs : List ℕ) → Free p xs → slice_split p xs ≡ xs ∷ []
split_none p [] f = refl
split_none p (x ∷ xs) f = slice_split-cons_no p x xs f.0 ∙ ap (onto_first x) (split_none p xs f.1)

pub free_from : (p q : ℕ → Bool) → ((c : ℕ) → p c ≡ true → q c ≡ false) → (xs : List ℕ) → list_all p xs ≡ true
    → Free q xs
free_from p q apart [] all = tt
free_from p q apart (x ∷ xs) all =
    let both = and-parts (p x) (list_all p xs) all in
    (apart x both.0, free_from p q apart xs both.1)

-- a line has no byte that neither blank nor plain
pub free_line : (q : ℕ → Bool) → q 0x20 ≡ false → ((c : ℕ) → is_plain c ≡ true → q c ≡ false)
    → (n : CommandName) (ts : List (List ℕ)) → AreWords ts → Free q (line_of n ts)
free_line q blank apart n ts all = free_append q (name_text n) (spaced ts) (of_word (name_text n) (name_is_word n))
    (spaces ts all)
  where
    of_word : (t : List ℕ) → IsWord t → Free q t
    of_word t h = free_from is_plain q apart t (and-parts (not (is_empty_text t)) (list_all is_plain t) h).1

    spaces : (ts : List (List ℕ)) → AreWords ts → Free q (spaced ts)
    spaces [] all = tt
    spaces (t ∷ ts) all = (blank, free_append q t (spaced ts) (of_word t all.0) (spaces ts all.1))
