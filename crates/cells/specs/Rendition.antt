-- How a character is shown (ECMA-48, 8.3.117: SGR), and the bits that hold it.
use Rattle.std.specs.Prelude.{ℕ, ◌+◌, ◌*◌, ◌/◌, ◌%◌, ◌==◌, Bool, false, cond, List, [], ◌∷◌, get_or, Option, None, Some}
use Rattle.cells.specs.declared.rendition.Colour.{Colour}
use Rattle.cells.specs.declared.rendition.Colour.TheVariants as colour
use Rattle.cells.specs.declared.rendition.Attribute.{Attribute}
use Rattle.cells.specs.declared.rendition.Attribute.TheVariants as attribute

pub record Rendition : Type 0 where
  pub is_bold : Bool
  pub is_underlined : Bool
  pub is_blinking : Bool
  pub is_reversed : Bool
  pub fore : Colour
  pub back : Colour

-- no rendition (SGR 0)
abbrev pub plain : Rendition
plain = record {
  is_bold = false;
  is_underlined = false;
  is_blinking = false;
  is_reversed = false;
  fore = colour.Default;
  back = colour.Default;
}

-- a rendition after one value of SGR
abbrev pub rendition_with : Rendition → Attribute → Rendition
rendition_with r attribute.Plain = plain
rendition_with r (attribute.Bold on) = record r { is_bold = on }
rendition_with r (attribute.Underlined on) = record r { is_underlined = on }
rendition_with r (attribute.Blinking on) = record r { is_blinking = on }
rendition_with r (attribute.Reversed on) = record r { is_reversed = on }
rendition_with r (attribute.Foreground c) = record r { fore = c }
rendition_with r (attribute.Background c) = record r { back = c }

-- the colours in the order of their numbers: the terminal's own, and then those of SGR 30 to 37
abbrev pub colours : List Colour
colours =
    colour.Default ∷ colour.Black ∷ colour.Red ∷ colour.Green ∷ colour.Yellow ∷ colour.Blue ∷ colour.Magenta
    ∷ colour.Cyan ∷ colour.White ∷ []

-- the colour of a number, and the number of a colour
abbrev pub colour_at : ℕ → Colour
colour_at number = get_or colours number colour.Default

abbrev pub colour_part : Colour → ℕ
colour_part colour.Default = 0
colour_part colour.Black = 1
colour_part colour.Red = 2
colour_part colour.Green = 3
colour_part colour.Yellow = 4
colour_part colour.Blue = 5
colour_part colour.Magenta = 6
colour_part colour.Cyan = 7
colour_part colour.White = 8

-- the number of a colour among the eight; None for the terminal's own
abbrev pub colour_number : Colour → Option ℕ
colour_number colour.Default = None
colour_number colour.Black = Some 0
colour_number colour.Red = Some 1
colour_number colour.Green = Some 2
colour_number colour.Yellow = Some 3
colour_number colour.Blue = Some 4
colour_number colour.Magenta = Some 5
colour_number colour.Cyan = Some 6
colour_number colour.White = Some 7

abbrev pub bit : Bool → ℕ
bit on = cond on 1 0

-- four bits for the flags, and four for each colour
abbrev pub bits_of : Rendition → ℕ
bits_of r =
    bit r.is_bold + 2 * bit r.is_underlined + 4 * bit r.is_blinking + 8 * bit r.is_reversed
    + 16 * colour_part r.fore + 256 * colour_part r.back

abbrev pub rendition_of : ℕ → Rendition
rendition_of bits = record {
  is_bold = (bits % 2 == 1);
  is_underlined = (bits / 2 % 2 == 1);
  is_blinking = (bits / 4 % 2 == 1);
  is_reversed = (bits / 8 % 2 == 1);
  fore = colour_at (bits / 16 % 16);
  back = colour_at (bits / 256);
}
