-- The control functions that frames consist of.
use Rattle.std.specs.Prelude.{ℕ, ◌+◌, ◌==◌, ◌<◌, Bool, if◌then◌else◌, List, [], ◌∷◌, Some, None}
use Prim.Native.Char.{code}
use Rattle.control_parser.specs.declared.parser.Func.{Func}
use Rattle.control_parser.specs.declared.parser.Func.TheVariants.{Print, Esc, Csi}
use Rattle.control_parser.specs.Spelling.{IsGiven}
use Rattle.redraw.specs.Renditions.{rendition_params}
use Rattle.redraw.specs.declared.command.Command.{Command}
use Rattle.redraw.specs.declared.command.Command.TheVariants.{Glyph, MoveTo, NextLine, Forward, Render, EraseCells}
use Rattle.redraw.specs.declared.command.Command.TheVariants.{EraseToEnd, Arrows, ShowCursor, Keypad}

-- CUP: the line, and the column unless it is the first (ECMA-48, 8.3.21)
abbrev pub place_params : ℕ → ℕ → List ℕ
place_params line column = if column == 0 then (line + 1) ∷ [] else (line + 1) ∷ (column + 1) ∷ []

-- DECSM and DECRM (VT220 manual, chapter 4, "Modes")
abbrev pub switch : ℕ → Bool → Func
switch mode on = Csi (Some (code "?")) (mode ∷ []) [] (if on then code "h" else code "l")

abbrev pub func_of : Command → Func
func_of (Glyph c) = Print c
func_of (MoveTo line column) = Csi None (place_params line column) [] (code "H")
func_of NextLine = Esc [] (code "E")
func_of (Forward n) = Csi None (n ∷ []) [] (code "C")
func_of (Render known r) = Csi None (rendition_params known r) [] (code "m")
func_of (EraseCells n) = Csi None (n ∷ []) [] (code "X")
func_of EraseToEnd = Csi None (0 ∷ []) [] (code "K")
func_of (Arrows on) = switch 1 on
func_of (ShowCursor on) = switch 25 on
func_of (Keypad on) = Esc [] (if on then code "=" else code ">")

-- a place that a page can have
abbrev pub IsPlaced : Command → Type 0
IsPlaced (MoveTo line column) = (line < 9999) × (column < 9999)
IsPlaced other = Unit {0}

-- what can be spelled: a character that isn't a control; places and counts that a page can have
abbrev pub IsCommand : Command → Type 0
IsCommand (Glyph c) = IsGiven (Print c)
IsCommand (MoveTo line column) = (line < 9999) × (column < 9999)
IsCommand (Forward n) = (0 < n) × (n < 9999)
IsCommand (EraseCells n) = (0 < n) × (n < 9999)
IsCommand other = Unit {0}
