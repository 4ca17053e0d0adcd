-- The words of a line, computed. The relation `IsCut` of the grammar holds of these words alone.
-- The first number that a function takes bounds how many characters it reads; each function gives
-- the text and what follows it, as the relation of its name does.
use Rattle.std.specs.Prelude.{ℕ, zero, suc, ◌-◌, true, false, ◌==◌, List, [], ◌∷◌, ◌++◌, length}
use Rattle.std.specs.Prelude.{drop, Option, Some, None}
use Rattle.strings.specs.declared.text.Word.{Word}
use Rattle.strings.specs.Grammar.{space, double_quote, single_quote, backslash, octal_front, size, word_at}

abbrev pub Read : Type 0
Read = List ℕ × Option (List ℕ)

-- reads a text, and appends what is read after it
abbrev pub and_then : Read → (List ℕ → Read) → Read
and_then r next = elim r.1 [
  | Some rest ↦ (let later = next rest in (r.0 ++ later.0, later.1))
  | None ↦ r
]

abbrev pub escaped : List ℕ → Read
escaped [] = ([], None)
escaped (c ∷ cs) = elim (octal_front (c ∷ cs)) [
  | Some value ↦ (value ∷ [], Some (drop 3 (c ∷ cs)))
  | None ↦ (c ∷ [], Some cs)
]

abbrev pub character : ℕ → List ℕ → Read
character c cs = elim (c == backslash) [ true ↦ escaped cs | false ↦ (c ∷ [], Some cs) ]

unfoldable pub single : List ℕ → Read
single [] = ([], None)
single (c ∷ cs) = elim (c == single_quote) [
  | true ↦ ([], Some cs)
  | false ↦ (let later = single cs in (c ∷ later.0, later.1))
]

unfoldable pub double : ℕ → List ℕ → Read
double zero cs = ([], None)
double (suc n) [] = ([], None)
double (suc n) (c ∷ cs) = elim (c == double_quote) [
  | true ↦ ([], Some cs)
  | false ↦ and_then (character c cs) (λ rest. double n rest)
]

abbrev pub part : ℕ → ℕ → List ℕ → Read
part n c cs = elim (c == single_quote) [
  | true ↦ single cs
  | false ↦ elim (c == double_quote) [ true ↦ double n cs | false ↦ character c cs ]
]

unfoldable pub parts : ℕ → List ℕ → Read
parts zero cs = ([], Some [])
parts (suc n) [] = ([], Some [])
parts (suc n) (c ∷ cs) = elim (c == space) [
  | true ↦ ([], Some (c ∷ cs))
  | false ↦ and_then (part n c cs) (λ rest. parts n rest)
]

-- a word, and the words after it
abbrev pub and_words : ℕ → Read → (List ℕ → List Word) → List Word
and_words place r next = elim r.1 [
  | Some rest ↦ word_at place r.0 true ∷ next rest
  | None ↦ word_at place r.0 false ∷ []
]

unfoldable pub line : ℕ → ℕ → List ℕ → List Word
line end zero cs = []
line end (suc n) [] = []
line end (suc n) (c ∷ cs) = elim (c == space) [
  | true ↦ line end n cs
  | false ↦ and_words (end - size (c ∷ cs)) (parts (suc n) (c ∷ cs)) (λ rest. line end n rest)
]

abbrev pub words : List ℕ → List Word
words cs = line (size cs) (length cs) cs
