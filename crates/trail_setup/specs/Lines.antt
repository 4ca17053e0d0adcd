-- Lines with one command each, on which as many words stand as fit.
use Rattle.std.specs.Prelude.{◌≡◌, ◌||◌, ℕ, Bool, true, false, not, cond, List, [], ◌∷◌, ◌++◌, slice_index_or}
use Rattle.std.specs.Prelude.{Result, OnOk}
use Rattle.std.specs.List.{flat_map}
use Rattle.trail_setup.specs.declared.lines.LineForm.{LineForm}

-- how a line begins, what stands between two words, and how it ends
pub record Kind : Type 0 where
  pub head : List ℕ
  pub between : ℕ
  pub tail : List ℕ

abbrev pub kind_of : LineForm → Kind
kind_of f = record { head = f.head.now; between = f.between; tail = f.tail.now }

-- a line with these words, before its end; nothing without words
abbrev pub begun : Kind → List (List ℕ) → List ℕ
begun k [] = []
begun k (word ∷ words) = k.head ++ 0x20 ∷ (word ++ flat_map (λ w. k.between ∷ w) words)

-- a line with its first word and others
abbrev pub line : Kind → (List ℕ × List (List ℕ)) → List ℕ
line k words = begun k (words.0 ∷ words.1) ++ (k.tail ++ 0x0A ∷ [])

-- the words of lines, each of which has one at least
abbrev pub on_lines : List (List ℕ × List (List ℕ)) → List (List ℕ)
on_lines lines = flat_map (λ l. l.0 ∷ l.1) lines

-- whole lines were put out, and one isn't ended yet: these words stand on them, in their order, each once
pub record HoldWords (k : Kind) (start : List ℕ) (words : List (List ℕ)) (out now : List ℕ) : Type 0 where
  pub lines : List (List ℕ × List (List ℕ))
  pub last : List (List ℕ)
  pub all : words ≡ on_lines lines ++ last
  pub put : out ≡ start ++ flat_map (line k) lines
  pub begins : now ≡ begun k last

-- whole lines were put out, on which these words stand
abbrev pub PutsLines : Kind → List ℕ → List (List ℕ) → List ℕ → Type 0
PutsLines k start words out = HoldWords k start words out []

-- unless memory was refused, these words were put after those that stood on the lines
abbrev pub AddsWords : {T E : Type 0} → Result T E → Kind → List (List ℕ) → (out now later then : List ℕ) → Type 0
AddsWords r k more out now later then =
    (start : List ℕ) (words : List (List ℕ)) → HoldWords k start words out now
    → OnOk r (HoldWords k start (words ++ more) later then)

-- ---- bits, as +r-wx

abbrev pub letter : ℕ → Bool → List ℕ
letter c true = c ∷ []
letter c false = []

-- the letters of r, w and x, as far as they are asked for, after a sign; nothing if none is
abbrev pub letters : ℕ → (read write execute : Bool) → List ℕ
letters sign read write execute =
    cond (read || write || execute) ((sign ∷ letter 0x72 read) ++ letter 0x77 write ++ letter 0x78 execute) []

abbrev pub letters_of : ℕ → List Bool → List ℕ
letters_of sign asked =
    letters sign (slice_index_or asked 0 false) (slice_index_or asked 1 false) (slice_index_or asked 2 false)

-- bits that set all three
abbrev pub bits_text : (read write execute : Bool) → List ℕ
bits_text read write execute =
    letters 0x2B read write execute ++ letters 0x2D (not read) (not write) (not execute)

abbrev pub given_text : List Bool → List ℕ
given_text given =
    bits_text (slice_index_or given 0 false) (slice_index_or given 1 false) (slice_index_or given 2 false)
