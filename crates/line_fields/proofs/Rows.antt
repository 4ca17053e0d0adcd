-- What a row prints is read again.
use Rattle.std.proofs.Common.{◌≡◌, ℕ, List, [], ◌∷◌, ◌++◌, refl, ap, ◌∙◌, append-nil}
use Rattle.std.specs.Prelude.{◌&&◌, not, true, false, Option, Some, option_map}
use Rattle.line_fields.specs.Cutting.{◌>>=◌, is_byte}
use Rattle.line_fields.specs.Rows.{Values, Maker, made_by, Row, row, fields_in, made_in, Prints, after_each, PrintsThen}
use Rattle.line_fields.specs.Rows.{all_then, Reads, value_at, read_between, read_in, ReadsAt, read_all, read_all_in}
use Rattle.line_fields.specs.Rows.{AllBut, Each}
use Rattle.line_fields.proofs.Words.{IsFree, first_field, free_append}

-- a value that is printed without the separator, and read again
pub record IsAgain {F : Type 0} (V : F → Type 0) (separator : ℕ) (text : Prints V) (read : Reads V) (f : F) (v : V f)
    : Type 0 where
  pub free : IsFree separator (text f v)
  pub again : read f (text f v) ≡ Some v

at_again : {F : Type 0} (V : F → Type 0) (separator : ℕ) (text : Prints V) (read : Reads V) (f : F) (v : V f)
    (rest : List ℕ) → IsAgain V separator text read f v
    → value_at separator read f (text f v ++ separator ∷ rest) ≡ Some (v, rest)
at_again V separator text read f v rest is =
    rw (first_field separator (text f v) rest is.free, is.again) refl

-- ---- fields with a separator between them

-- the first value, and each other one after a separator
abbrev pub first_then : {F : Type 0} {V : F → Type 0} → ℕ → Prints V → (fs : List F) → Values V fs → List ℕ
first_then separator text [] v = []
first_then separator text (f ∷ fs) v = text f v.0 ++ after_each separator text fs v.1

abbrev pub HasField : {F : Type 0} → List F → Type 0
HasField [] = ⊥
HasField (f ∷ fs) = Unit {0}

pub after_is : {F : Type 0} {V : F → Type 0} (separator : ℕ) (text : Prints V) (fs : List F) (v : Values V fs)
    → HasField fs → after_each separator text fs v ≡ separator ∷ first_then separator text fs v
after_is separator text [] v has = absurd has
after_is separator text (f ∷ fs) v has = refl

between_again : {F R : Type 0} (V : F → Type 0) (separator : ℕ) (text : Prints V) (read : Reads V)
    (P Q : (f : F) → V f → Type 0) → ((f : F) (v : V f) → P f v → IsAgain V separator text read f v)
    → ((f : F) (v : V f) → Q f v → read f (text f v) ≡ Some v)
    → (f : F) (fs : List F) (make : Maker V R (f ∷ fs)) (v : Values V (f ∷ fs)) → AllBut P Q (f ∷ fs) v
    → read_between V separator read (f ∷ fs) make (first_then separator text (f ∷ fs) v)
    ≡ Some (made_by V (f ∷ fs) make v)
between_again V separator text read P Q each last f [] make v said =
    ap (λ bytes. option_map make (read f bytes)) (append-nil (text f v.0)) ∙ ap (option_map make) (last f v.0 said)
between_again V separator text read P Q each last f (g ∷ fs) make v said =
    ap (λ o. o >>= λ x. read_between V separator read (g ∷ fs) (make x.0) x.1)
    (at_again V separator text read f v.0 (first_then separator text (g ∷ fs) v.1) (each f v.0 said.0))
    ∙ between_again V separator text read P Q each last g fs (make v.0) v.1 said.1

pub row_again : {F R : Type 0} (V : F → Type 0) (separator : ℕ) (text : Prints V) (read : Reads V)
    (P Q : (f : F) → V f → Type 0) → ((f : F) (v : V f) → P f v → IsAgain V separator text read f v)
    → ((f : F) (v : V f) → Q f v → read f (text f v) ≡ Some v)
    → (r : Row V R) (v : Values V (fields_in r)) → HasField (fields_in r) → AllBut P Q (fields_in r) v
    → read_in separator read r (first_then separator text (fields_in r) v) ≡ Some (made_in r v)
row_again V separator text read P Q each last (row word [] make) v has said = absurd has
row_again V separator text read P Q each last (row word (f ∷ fs) make) v has said =
    between_again V separator text read P Q each last f fs make v said

pub each_but : {F : Type 0} {V : F → Type 0} (P : (f : F) → V f → Type 0) (fs : List F) (v : Values V fs)
    → Each P fs v → AllBut P P fs v
each_but P [] v said = tt
each_but P (f ∷ []) v said = said.0
each_but P (f ∷ g ∷ fs) v said = (said.0, each_but P (g ∷ fs) v.1 said.1)

-- ---- fields that are each ended

all_again : {F R : Type 0} (V : F → Type 0) (put : PrintsThen V) (at : ReadsAt V) (P : (f : F) → V f → Type 0)
    → ((f : F) (v : V f) (rest : List ℕ) → P f v → at f (put f v rest) ≡ Some (v, rest))
    → (fs : List F) (make : Maker V R fs) (v : Values V fs) (rest : List ℕ) → Each P fs v
    → read_all V at fs make (all_then put fs v rest) ≡ Some (made_by V fs make v, rest)
all_again V put at P each [] make v rest said = refl
all_again V put at P each (f ∷ fs) make v rest said =
    ap (λ o. o >>= λ x. read_all V at fs (make x.0) x.1) (each f v.0 (all_then put fs v.1 rest) said.0)
    ∙ all_again V put at P each fs (make v.0) v.1 rest said.1

pub row_all_again : {F R : Type 0} (V : F → Type 0) (put : PrintsThen V) (at : ReadsAt V)
    (P : (f : F) → V f → Type 0)
    → ((f : F) (v : V f) (rest : List ℕ) → P f v → at f (put f v rest) ≡ Some (v, rest))
    → (r : Row V R) (v : Values V (fields_in r)) (rest : List ℕ) → Each P (fields_in r) v
    → read_all_in at r (all_then put (fields_in r) v rest) ≡ Some (made_in r v, rest)
row_all_again V put at P each (row word fields make) v rest said = all_again V put at P each fields make v rest said

-- ---- texts without a byte

byte_then : (byte separator : ℕ) (rest : List ℕ) → is_byte byte separator ≡ false → IsFree byte rest
    → IsFree byte (separator ∷ rest)
byte_then byte separator rest other is = record { free = λ i. not (other i) && is.free i }

pub after_free : {F : Type 0} (V : F → Type 0) (byte separator : ℕ) (text : Prints V) (P : (f : F) → V f → Type 0)
    → is_byte byte separator ≡ false → ((f : F) (v : V f) → P f v → IsFree byte (text f v))
    → (fs : List F) (v : Values V fs) → Each P fs v → IsFree byte (after_each separator text fs v)
after_free V byte separator text P other each [] v said = record { free = refl }
after_free V byte separator text P other each (f ∷ fs) v said =
    byte_then byte separator _ other
    (free_append byte (text f v.0) (after_each separator text fs v.1) (each f v.0 said.0)
    (after_free V byte separator text P other each fs v.1 said.1))

pub all_free : {F : Type 0} (V : F → Type 0) (byte : ℕ) (put : PrintsThen V) (P : (f : F) → V f → Type 0)
    → ((f : F) (v : V f) (rest : List ℕ) → P f v → IsFree byte rest → IsFree byte (put f v rest))
    → (fs : List F) (v : Values V fs) (rest : List ℕ) → Each P fs v → IsFree byte rest
    → IsFree byte (all_then put fs v rest)
all_free V byte put P each [] v rest said is = is
all_free V byte put P each (f ∷ fs) v rest said is =
    each f v.0 (all_then put fs v.1 rest) said.0 (all_free V byte put P each fs v.1 rest said.1 is)
