-- The characters of the sets.
use Rattle.std.specs.Prelude.{ℕ, ◌+◌, ◌-◌, nat_lt, ◌==◌, if◌then◌else◌, List, [], ◌∷◌, slice_index, codes}
use Rattle.std.specs.List.{list_any}
use Prim.Native.Char.{code}
use Rattle.charsets.specs.Entries.{entry_or}
use Rattle.charsets.specs.declared.shifts.CharacterSet.{CharacterSet}
use Rattle.charsets.specs.declared.shifts.CharacterSet.TheVariants.{Ascii, UnitedKingdom, SpecialGraphics, Supplemental}

-- DEC special graphics at 5F to 7E (VT220 Programmer Reference Manual, chapter 2)
abbrev pub graphics : List ℕ
graphics = codes " ◆▒␉␌␍␊°±␤␋┘┐┌└┼⎺⎻─⎼⎽├┤┴┬│≤≥π≠£·"

-- the positions of the supplemental set that have no character
abbrev pub unassigned : List ℕ
unassigned = codes "$&,-./48>P^p~"

-- the positions whose character isn't the code plus 80: the currency sign and some letters
abbrev pub supplements : List (ℕ × ℕ)
supplements =
    (code "(", code "¤") ∷ (code "W", code "Œ") ∷ (code "]", code "Ÿ") ∷ (code "w", code "œ")
    ∷ (code "}", code "ÿ") ∷ []

-- every other position u has the code u + 80
unfoldable pub supplement : ℕ → ℕ
supplement u =
    if list_any (λ v. v == u) unassigned then 0xFFFD else entry_or (u + 0x80) supplements u

-- the character at a position of a set, 21 to 7E
unfoldable pub character_at : CharacterSet → ℕ → ℕ
character_at Ascii u = u
character_at UnitedKingdom u = if u == code "#" then code "£" else u
character_at SpecialGraphics u = if nat_lt u 0x5F then u else slice_index graphics (u - 0x5F)
character_at Supplemental u = supplement u
