-- How the characters of a line are cut into words, as in the GNU Screen manual, chapter Customizing
-- Screen, section The .screenrc File. A line is blanks and words; a word is parts; a part is a text
-- in ', a text in ", a backslash with what it stands for, or a plain character. Reading three octal
-- digits only from 000 to 177 is this project's own choice.
--
-- Each relation is between the characters that a thing begins with, the text that the thing gives,
-- and the characters that follow the thing: None if the line ends inside of it.
use Rattle.std.specs.Prelude.{◌≡◌, ◌≢◌, ℕ, ◌+◌, ◌-◌, ◌*◌, Bool, true, false, ◌&&◌, nat_lt}
use Rattle.std.specs.Prelude.{if◌then◌else◌, drop, List, [], ◌∷◌, ◌++◌, length, Option, Some, None}
use Rattle.std.specs.Str.{encode_utf8_all}
use Prim.Native.Char.{code}
use Rattle.strings.specs.declared.text.Word.{Word}

-- the characters that have a meaning of their own
abbrev pub space : ℕ
space = code " "

abbrev pub double_quote : ℕ
double_quote = code "\""

abbrev pub single_quote : ℕ
single_quote = code "'"

abbrev pub backslash : ℕ
backslash = code "\\"

abbrev pub is_octal : ℕ → Bool
is_octal c = nat_lt 0x2F c && nat_lt c 0x38

-- the character of three octal digits of value at most 177, if the characters begin with them
abbrev pub octal_front : List ℕ → Option ℕ
octal_front (a ∷ b ∷ c ∷ cs) =
    if (is_octal a && nat_lt a 0x32) && (is_octal b && is_octal c)
    then Some (((a - 0x30) * 8 + (b - 0x30)) * 8 + (c - 0x30))
    else None
octal_front _ = None

-- After a backslash: three octal digits stand for the character with their value; any other
-- character stands for itself.
pub data Escaped : List ℕ → List ℕ → Option (List ℕ) → Type 0 where
  octal : {cs : List ℕ} {c : ℕ} → octal_front cs ≡ Some c → Escaped cs (c ∷ []) (Some (drop 3 cs))
  itself : {c : ℕ} {rest : List ℕ} → octal_front (c ∷ rest) ≡ None
      → Escaped (c ∷ rest) (c ∷ []) (Some rest)
  unended : Escaped [] [] None

-- A character in a place in which ' and " have no meaning.
pub data Character : List ℕ → List ℕ → Option (List ℕ) → Type 0 where
  plain : {c : ℕ} {rest : List ℕ} → c ≢ backslash → Character (c ∷ rest) (c ∷ []) (Some rest)
  escape : {cs text : List ℕ} {end : Option (List ℕ)} → Escaped cs text end
      → Character (backslash ∷ cs) text end

-- After a ', up to the next one: each character stands for itself.
pub data Single : List ℕ → List ℕ → Option (List ℕ) → Type 0 where
  closed : {rest : List ℕ} → Single (single_quote ∷ rest) [] (Some rest)
  more : {c : ℕ} {cs text : List ℕ} {end : Option (List ℕ)} → c ≢ single_quote
      → Single cs text end
      → Single (c ∷ cs) (c ∷ text) end
  unended : Single [] [] None

-- After a ", up to the next one: characters, with backslashes read.
pub data Double : List ℕ → List ℕ → Option (List ℕ) → Type 0 where
  closed : {rest : List ℕ} → Double (double_quote ∷ rest) [] (Some rest)
  more : {c : ℕ} {cs first behind text : List ℕ} {end : Option (List ℕ)} → c ≢ double_quote
      → Character (c ∷ cs) first (Some behind) → Double behind text end
      → Double (c ∷ cs) (first ++ text) end
  broken : {c : ℕ} {cs text : List ℕ} → c ≢ double_quote
      → Character (c ∷ cs) text None
      → Double (c ∷ cs) text None
  unended : Double [] [] None

-- A part of a word.
pub data Part : List ℕ → List ℕ → Option (List ℕ) → Type 0 where
  single : {cs text : List ℕ} {end : Option (List ℕ)} → Single cs text end
      → Part (single_quote ∷ cs) text end
  double : {cs text : List ℕ} {end : Option (List ℕ)} → Double cs text end
      → Part (double_quote ∷ cs) text end
  character : {c : ℕ} {cs text : List ℕ} {end : Option (List ℕ)} → c ≢ single_quote
      → c ≢ double_quote → Character (c ∷ cs) text end
      → Part (c ∷ cs) text end

-- Parts up to a blank, or to the end of the line.
pub data Parts : List ℕ → List ℕ → Option (List ℕ) → Type 0 where
  last : Parts [] [] (Some [])
  blank : {rest : List ℕ} → Parts (space ∷ rest) [] (Some (space ∷ rest))
  more : {c : ℕ} {cs first behind text : List ℕ} {end : Option (List ℕ)} → c ≢ space
      → Part (c ∷ cs) first (Some behind) → Parts behind text end
      → Parts (c ∷ cs) (first ++ text) end
  broken : {c : ℕ} {cs text : List ℕ} → c ≢ space
      → Part (c ∷ cs) text None
      → Parts (c ∷ cs) text None

-- the number of bytes of characters in UTF-8
abbrev pub size : List ℕ → ℕ
size cs = length (encode_utf8_all cs)

-- a word that is closed, or in which the line ends
abbrev pub word_at : ℕ → List ℕ → Bool → Word
word_at place text is_closed =
    record { place = place; text = encode_utf8_all text; is_closed = is_closed }

-- The words of these characters, which are the end of a line that has `end` bytes. The place of a
-- word is that of its first byte. A word has at least one part, which may be empty.
pub data Line (end : ℕ) : List ℕ → List Word → Type 0 where
  last : Line end [] []
  blank : {cs : List ℕ} {ws : List Word} → Line end cs ws → Line end (space ∷ cs) ws
  word : {c : ℕ} {cs text rest : List ℕ} {ws : List Word} → c ≢ space
      → Parts (c ∷ cs) text (Some rest) → Line end rest ws
      → Line end (c ∷ cs) (word_at (end - size (c ∷ cs)) text true ∷ ws)
  broken : {c : ℕ} {cs text : List ℕ} → c ≢ space
      → Parts (c ∷ cs) text None
      → Line end (c ∷ cs) (word_at (end - size (c ∷ cs)) text false ∷ [])

-- the words of a line's characters
abbrev pub IsCut : List ℕ → List Word → Type 0
IsCut cs ws = Line (size cs) cs ws
