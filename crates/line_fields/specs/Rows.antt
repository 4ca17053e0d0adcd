-- Tables of lines and words. A row has a word, the fields after it, and what makes a value of them.
-- `F` is the kind of a field, and `V` the type of the values of a field.
use Rattle.std.specs.Prelude.{ℕ, List, [], ◌∷◌, ◌++◌, Option, Some, None, option_map}
use Rattle.line_fields.specs.Cutting.{◌>>=◌, cut}

abbrev pub Values : {F : Type 0} → (F → Type 0) → List F → Type 0
Values V [] = Unit {0}
Values V (f ∷ fs) = V f × Values V fs

abbrev pub Maker : {F : Type 0} → (F → Type 0) → Type 0 → List F → Type 0
Maker V R [] = R
Maker V R (f ∷ fs) = V f → Maker V R fs

abbrev pub made_by : {F R : Type 0} (V : F → Type 0) (fs : List F) → Maker V R fs → Values V fs → R
made_by V [] make v = make
made_by V (f ∷ fs) make v = made_by V fs (make v.0) v.1

pub data Row {F : Type 0} (V : F → Type 0) (R : Type 0) : Type 0 where
  row : (word : List ℕ) (fields : List F) (make : Maker V R fields) → Row V R

abbrev pub word_in : {F R : Type 0} {V : F → Type 0} → Row V R → List ℕ
word_in (row word fields make) = word

abbrev pub fields_in : {F R : Type 0} {V : F → Type 0} → Row V R → List F
fields_in (row word fields make) = fields

abbrev pub made_in : {F R : Type 0} {V : F → Type 0} (r : Row V R) → Values V (fields_in r) → R
made_in {V = V} (row word fields make) v = made_by V fields make v

-- ---- printing

-- how the value of a field is printed
abbrev pub Prints : {F : Type 0} → (F → Type 0) → Type 0
Prints {F} V = (f : F) → V f → List ℕ

-- each value after a separator
abbrev pub after_each : {F : Type 0} {V : F → Type 0} → ℕ → Prints V → (fs : List F) → Values V fs → List ℕ
after_each separator text [] v = []
after_each separator text (f ∷ fs) v = separator ∷ (text f v.0 ++ after_each separator text fs v.1)

-- how the value of a field is printed with what ends it, and then more
abbrev pub PrintsThen : {F : Type 0} → (F → Type 0) → Type 0
PrintsThen {F} V = (f : F) → V f → List ℕ → List ℕ

abbrev pub all_then : {F : Type 0} {V : F → Type 0} → PrintsThen V → (fs : List F) → Values V fs → List ℕ → List ℕ
all_then put [] v rest = rest
all_then put (f ∷ fs) v rest = put f v.0 (all_then put fs v.1 rest)

-- ---- reading

-- how a field is read
abbrev pub Reads : {F : Type 0} → (F → Type 0) → Type 0
Reads {F} V = (f : F) → List ℕ → Option (V f)

-- a field that a separator ends, and the bytes after the separator
abbrev pub value_at : {F : Type 0} {V : F → Type 0} → ℕ → Reads V → (f : F) → List ℕ → Option (V f × List ℕ)
value_at separator read f bytes = do
  parts ← cut separator bytes
  value ← read f parts.0
  Some (value, parts.1)

-- fields with a separator between them; the last one has all bytes that are left
abbrev pub read_between : {F R : Type 0} (V : F → Type 0) → ℕ → Reads V → (fs : List F) → Maker V R fs
    → List ℕ → Option R
read_between V separator read [] make bytes = None
read_between V separator read (f ∷ []) make bytes = option_map make (read f bytes)
read_between V separator read (f ∷ g ∷ fs) make bytes =
    value_at separator read f bytes >>= λ x. read_between V separator read (g ∷ fs) (make x.0) x.1

abbrev pub read_in : {F R : Type 0} {V : F → Type 0} → ℕ → Reads V → Row V R → List ℕ → Option R
read_in {V = V} separator read (row word fields make) bytes = read_between V separator read fields make bytes

-- how a field is read with what ends it: its value, and the bytes after it
abbrev pub ReadsAt : {F : Type 0} → (F → Type 0) → Type 0
ReadsAt {F} V = (f : F) → List ℕ → Option (V f × List ℕ)

abbrev pub read_all : {F R : Type 0} (V : F → Type 0) → ReadsAt V → (fs : List F) → Maker V R fs → List ℕ
    → Option (R × List ℕ)
read_all V at [] make bytes = Some (make, bytes)
read_all V at (f ∷ fs) make bytes = at f bytes >>= λ x. read_all V at fs (make x.0) x.1

abbrev pub read_all_in : {F R : Type 0} {V : F → Type 0} → ReadsAt V → Row V R → List ℕ → Option (R × List ℕ)
read_all_in {V = V} at (row word fields make) bytes = read_all V at fields make bytes

-- ---- what can be said

-- P of each value, and Q of the last one
abbrev pub AllBut : {F : Type 0} {V : F → Type 0} → ((f : F) → V f → Type 0) → ((f : F) → V f → Type 0)
    → (fs : List F) → Values V fs → Type 0
AllBut P Q [] v = Unit {0}
AllBut P Q (f ∷ []) v = Q f v.0
AllBut P Q (f ∷ g ∷ fs) v = P f v.0 × AllBut P Q (g ∷ fs) v.1

abbrev pub Each : {F : Type 0} {V : F → Type 0} → ((f : F) → V f → Type 0) → (fs : List F) → Values V fs → Type 0
Each P [] v = Unit {0}
Each P (f ∷ fs) v = P f v.0 × Each P fs v.1
