-- Worked rows: what a fresh window shows after it has read some bytes.
use Rattle.std.specs.Prelude.{ℕ, true, false, List, [], ◌∷◌, ◌++◌, map, codes}
use Rattle.cells.specs.declared.cell.Cell.{Cell}
use Rattle.cells.specs.declared.rendition.Colour.{Colour}
use Rattle.cells.specs.Line.{plain, narrow_cell, left_cell, right_cell}
use Rattle.terminal_model.specs.Screen.{Page, Screen, blank_page, starting}
use Rattle.terminal_model.specs.Reading.{ready, Read, reads}
use Rattle.terminal_model.specs.Writing.{Writing, Output, Size}

abbrev pub fresh_reads : ℕ → ℕ → ℕ → List ℕ → Read
fresh_reads rows columns keep bytes = reads (ready (starting rows columns keep)) bytes

-- letters, one in each cell, and blanks; protected letters; a wide character, in two cells
abbrev pub letters : List ℕ → List Cell
letters text = map (λ c. narrow_cell c plain false) text

abbrev pub protected_letters : List ℕ → List Cell
protected_letters text = map (λ c. narrow_cell c plain true) text

abbrev pub wide : ℕ → List Cell
wide c = left_cell c plain false ∷ right_cell c plain false ∷ []

-- letters in two colours; a wide character with a foreground
abbrev pub in_colours : Colour → Colour → List ℕ → List Cell
in_colours fore back text =
    map (λ c. narrow_cell c (record plain { fore = fore; back = back }) false) text

abbrev pub wide_in_colour : Colour → ℕ → List Cell
wide_in_colour colour c =
    left_cell c (record plain { fore = colour }) false
    ∷ right_cell c (record plain { fore = colour }) false ∷ []

-- what is shown of a screen: its page, and its cursor, counted from 0
pub record Seen : Type 0 where
  pub page : Page
  pub line : ℕ
  pub column : ℕ

abbrev pub seen : Screen → Seen
seen x = record { page = x.page; line = x.state.line; column = x.state.column }

-- a page, with the cursor at a line and column
abbrev pub with_cursor : ℕ → ℕ → Page → Seen
with_cursor line column page = record { page = page; line = line; column = column }

abbrev pub shown : ℕ → ℕ → List ℕ → Seen
shown rows columns bytes = seen (fresh_reads rows columns 0 bytes).terminal.screen

-- a page with a cursor, and the lines that are kept, newest first
abbrev pub shown_keeping : ℕ → ℕ → ℕ → List ℕ → Seen × Page
shown_keeping rows columns keep bytes =
    let x : Screen = (fresh_reads rows columns keep bytes).terminal.screen in
    (seen x, x.kept)

-- CSI
abbrev pub csi : List ℕ → List ℕ
csi text = 0x1B ∷ 0x5B ∷ text

-- U+6F22 as UTF-8
abbrev pub kanji : List ℕ
kanji = 0xE6 ∷ 0xBC ∷ 0xA2 ∷ []

-- CR LF
abbrev pub new_line : List ℕ
new_line = 0x0D ∷ 0x0A ∷ []

-- two lines leave a window of 2 by 5; the second one leaves after the window has become 2 by 3
abbrev pub narrowed : List Writing
narrowed =
    Output (codes "abcde" ++ new_line ++ codes "fg" ++ new_line ++ codes "h")
    ∷ Size 2 3
    ∷ Output (new_line ++ codes "i") ∷ []

-- a wide character and a letter after it
abbrev pub wide_page : Page
wide_page = (wide 0x6F22 ++ letters (codes "x  ")) ∷ blank_page 1 5

-- bytes that give this page, but print the wide character one column beside its place first
abbrev pub printed_beside : List ℕ
printed_beside = csi (codes "1;2H") ++ kanji ++ csi (codes "1;1H") ++ kanji ++ codes "x"
