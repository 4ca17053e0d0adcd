-- How a character looks, as a number.
use Rattle.std.specs.Prelude.{ℕ, ◌+◌, ◌*◌, Bool, cond}
use Rattle.cells.specs.declared.cell.Cell.{Cell}
use Rattle.cells.specs.declared.rendition.Rendition.{Rendition}
use Rattle.cells.specs.declared.rendition.Colour.{Colour}
use Rattle.cells.specs.declared.rendition.Colour.TheVariants as colour
use Rattle.cells.specs.Line.{is_left}

abbrev pub flag : Bool → ℕ → ℕ
flag is_set value = cond is_set value 0

abbrev pub colour_value : Colour → ℕ
colour_value colour.Default = 0
colour_value colour.Black = 1
colour_value colour.Red = 2
colour_value colour.Green = 3
colour_value colour.Yellow = 4
colour_value colour.Blue = 5
colour_value colour.Magenta = 6
colour_value colour.Cyan = 7
colour_value colour.White = 8

unfoldable pub rendition_value : Rendition → ℕ
rendition_value r =
    flag r.is_bold 1 + flag r.is_underlined 2 + flag r.is_blinking 4 + flag r.is_reversed 8
    + 16 * colour_value r.fore + 256 * colour_value r.back

-- the style of a cell; a character of width 2 has 4096 more
unfoldable pub style_value : Cell → ℕ
style_value c = rendition_value c.rendition + flag (is_left c.shape) 4096
