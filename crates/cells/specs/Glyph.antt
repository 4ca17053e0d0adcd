use Rattle.std.specs.Prelude.{ℕ, zero, suc, ◌==◌, cond, Option, Some, None}

-- the columns of a character on a screen, by its width (UAX #11): none for a control, and one for a
-- width of 3, since a screen draws such a character as U+FFFD
abbrev pub glyph_columns : Option ℕ → ℕ
glyph_columns None = 0
glyph_columns (Some zero) = 0
glyph_columns (Some (suc zero)) = 1
glyph_columns (Some (suc (suc zero))) = 2
glyph_columns (Some (suc (suc (suc more)))) = 1

-- a character of width 3 is drawn as U+FFFD (own)
abbrev pub drawn_as : Option ℕ → ℕ → ℕ
drawn_as None c = c
drawn_as (Some width) c = cond (width == 3) 0xFFFD c
