-- The values of SGR that lead to a rendition, in as few bytes as possible (ECMA-48, 8.3.117).
use Rattle.std.specs.Prelude.{ℕ, ◌+◌, ◌==◌, nat_lt, Bool, true, false, if◌then◌else◌}
use Rattle.std.specs.Prelude.{List, [], ◌∷◌, ◌++◌, Option, Some, None}
use Rattle.cells.specs.declared.rendition.Colour.{Colour}
use Rattle.cells.specs.declared.rendition.Rendition.{Rendition}
use Rattle.terminal_model.specs.Functions.{colour_digit}
use Rattle.terminal_model.specs.Places.{value_if, value_of_colour}

-- 0, and then the attributes that are on
abbrev pub attribute_params : Rendition → List ℕ
attribute_params r =
    (((0 ∷ [] ++ value_if r.is_bold 1) ++ value_if r.is_underlined 4)
    ++ value_if r.is_blinking 5) ++ value_if r.is_reversed 7

-- from any rendition: 0, and then what is on
abbrev pub whole_params : Rendition → List ℕ
whole_params r = (attribute_params r ++ value_of_colour 30 r.fore) ++ value_of_colour 40 r.back

-- the value that switches an attribute; none if it is the same in both renditions
abbrev pub switched : Bool → Bool → ℕ → ℕ → List ℕ
switched true true on off = []
switched true false on off = off ∷ []
switched false true on off = on ∷ []
switched false false on off = []

abbrev pub recoloured : Colour → Colour → ℕ → List ℕ
recoloured old new first =
    if colour_digit old == colour_digit new then [] else (first + colour_digit new) ∷ []

-- the values that switch the attributes that differ
abbrev pub switched_params : Rendition → Rendition → List ℕ
switched_params old new =
    ((switched old.is_bold new.is_bold 1 22 ++ switched old.is_underlined new.is_underlined 4 24)
    ++ switched old.is_blinking new.is_blinking 5 25)
    ++ switched old.is_reversed new.is_reversed 7 27

-- the values that lead from a known rendition to another
abbrev pub change_params : Rendition → Rendition → List ℕ
change_params old new =
    (switched_params old new ++ recoloured old.fore new.fore 30) ++ recoloured old.back new.back 40

-- the number of bytes of a value with what follows it; 0 is spelled as nothing
abbrev pub value_bytes : ℕ → ℕ
value_bytes n = if n == 0 then 1 else (if nat_lt n 10 then 2 else 3)

abbrev pub all_bytes : List ℕ → ℕ
all_bytes [] = 0
all_bytes (n ∷ values) = value_bytes n + all_bytes values

-- the first list, unless it is empty or takes more bytes: SGR without a value would mean SGR 0
abbrev pub shorter : List ℕ → List ℕ → List ℕ
shorter [] whole = whole
shorter (n ∷ values) whole =
    if nat_lt (all_bytes whole) (all_bytes (n ∷ values)) then whole else n ∷ values

abbrev pub rendition_params : Option Rendition → Rendition → List ℕ
rendition_params None r = whole_params r
rendition_params (Some known) r = shorter (change_params known r) (whole_params r)

-- these parameters; none for None
abbrev pub listed : Option (List ℕ) → List ℕ
listed None = []
listed (Some values) = values
