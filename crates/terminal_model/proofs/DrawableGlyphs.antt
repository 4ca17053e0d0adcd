-- What is drawn for a character of the sets is a glyph.
use Rattle.terminal_model.proofs.Vocabulary.{common_steps, ◌≡◌, ℕ, ◌-◌, ◌<◌, ◌≤◌, Bool, true, false, ◌&&◌, cond, List}
use Rattle.terminal_model.proofs.Vocabulary.{length, slice_index, Option, refl, arith, IfSome, nat_lt, list_all}
use Rattle.terminal_model.proofs.Vocabulary.{nat_tests, char_width, unicode_width, Shifts, Unit, Code, High, supplement}
use Rattle.terminal_model.proofs.Vocabulary.{character_at, mapped, Print, IsGiven, columns_of, drawn, IsGlyph}
use Rattle.std.proofs.Math.Utf8.{scalar}
use Rattle.charsets.specs.declared.shifts.CharacterSet.{CharacterSet}
use Rattle.charsets.specs.declared.shifts.CharacterSet.TheVariants.{Ascii, UnitedKingdom, SpecialGraphics, Supplemental}
use Rattle.charsets.specs.Sets.{graphics}
use Rattle.cells.specs.Glyph.{drawn_as, glyph_columns}
use Rattle.control_parser.specs.Grammar.{is_graphic}

-- THE SETS give graphic characters

abbrev IsGivenCode : ℕ → Type 0
IsGivenCode c = IsGiven (Print c)

low_given : (c : ℕ) → 0x1F < c → c < 0x7F → IsGivenCode c
low_given c low high = grind (arith, nat_tests)

abbrev is_given_code : ℕ → Bool
is_given_code c = is_graphic c && scalar c

all_given : (cs : List ℕ) (k : ℕ) → list_all is_given_code cs ≡ true → k < length cs → IsGivenCode (slice_index cs k)
all_given cs k h l = grind (arith, common_steps)

supplement_given : (u : ℕ) → 0x20 < u → u < 0x7F → IsGivenCode (supplement u)
unfolding supplement
supplement_given u low high = grind (arith, nat_tests)

character_given : (set : CharacterSet) (u : ℕ) → 0x20 < u → u < 0x7F → IsGivenCode (character_at set u)
unfolding character_at
character_given Ascii u low high = low_given u (omega arith) high
character_given UnitedKingdom u low high = grind (arith, nat_tests)
character_given SpecialGraphics u low high = graphics_given (nat_lt u 0x5F) refl
  where
    graphics_given : (b : Bool) → nat_lt u 0x5F ≡ b → IsGivenCode (cond b u (slice_index graphics (u - 0x5F)))
    graphics_given true e = low_given u (omega arith) high
    graphics_given false e = let past : 0x5F ≤ u = grind (arith, nat_tests) in all_given graphics (u - 0x5F) refl
        (omega arith)
character_given Supplemental u low high = supplement_given u low high

-- a unit that can be given: a byte above A0 always has a character in the sets
abbrev pub IsGivenUnit : Unit → Type 0
IsGivenUnit (Code c) = IsGiven (Print c)
IsGivenUnit (High b) = Prim.Unit {0}

pub mapped_given : (s : Shifts) (u : Unit) → IsGivenUnit u → IfSome (mapped s u) (λ c. IsGiven (Print c))
unfolding mapped
mapped_given s u h = grind (arith, nat_tests, character_given)

-- WHAT IS DRAWN

replacement_columns : columns_of 0xFFFD ≡ 1
unfolding unicode_width columns_of
replacement_columns = refl

replacement_drawn : drawn 0xFFFD ≡ 0xFFFD
unfolding unicode_width drawn
replacement_drawn = refl

replacement : IsGlyph 1 0xFFFD
replacement = record { given = (refl, refl); columns_are = replacement_columns; stays = replacement_drawn }

-- a width of 3 takes one column, as U+FFFD does
drawn_glyph_of : (w : Option ℕ) (c : ℕ) → char_width false c ≡ w → IsGiven (Print c)
    → IsGlyph (glyph_columns w) (drawn_as w c)
unfolding columns_of drawn
drawn_glyph_of w c h k = grind (arith, replacement)

pub drawn_glyph : (c : ℕ) → IsGiven (Print c) → IsGlyph (columns_of c) (drawn c)
unfolding columns_of drawn
drawn_glyph c g = drawn_glyph_of (char_width false c) c refl g

-- every character takes at most two columns
pub columns_few : (c : ℕ) → columns_of c ≤ 2
unfolding columns_of
columns_few c = grind (arith, nat_tests)

-- the blank's space, and DECALN's E
pub space : IsGlyph 1 0x20
unfolding unicode_width columns_of drawn
space = record { given = low_given 0x20 (omega arith) (omega arith); columns_are = refl; stays = refl }

pub letter_e : IsGlyph 1 0x45
unfolding unicode_width columns_of drawn
letter_e = record { given = low_given 0x45 (omega arith) (omega arith); columns_are = refl; stays = refl }
