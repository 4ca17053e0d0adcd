-- How a list of functions is read byte by byte: where in a function the bytes end.
use Rattle.std.specs.Prelude.{ℕ, ◌+◌, ◌==◌, ◌||◌, nat_lt, Bool, if◌then◌else◌, List, [], ◌∷◌, Option, Some, None}
use Prim.Native.Char.{code}
use Rattle.charsets.specs.Units.{is_plain}
use Rattle.charsets.specs.Utf8.{is_lead, continues}
use Rattle.draw_check.specs.declared.place.DrawPlace.{DrawPlace}
use Rattle.draw_check.specs.declared.place.DrawPlace.TheVariants.{Between, Escape, Coding, Control, Values}
use Rattle.draw_check.specs.declared.place.DrawPlace.TheVariants.{Mode, Cursor, Switch, Off, Lead, Third, Last}
use Rattle.draw_check.specs.Functions.{is_second, is_value, is_last, is_short}

abbrev pub between_if : Bool → Option DrawPlace
between_if is = if is then Some Between else None

abbrev pub place_if : Bool → DrawPlace → Option DrawPlace
place_if is place = if is then Some place else None

-- the place after the second byte of a character that begins with a
abbrev pub after_second : ℕ → DrawPlace
after_second a = if nat_lt a 0xE0 then Between else (if nat_lt a 0xF0 then Last else Third)

abbrev pub next_value : ℕ → ℕ → Option DrawPlace
next_value n b = if is_value b then place_if (nat_lt n 79) (Values (n + 1)) else between_if (is_last b)

-- the place after one more byte; None if no function goes on with it
abbrev pub next : DrawPlace → ℕ → Option DrawPlace
next Between b =
    if is_plain b || b == 0x18 then Some Between
    else (if b == 0x1B then Some Escape else place_if (is_lead b) (Lead b))
next Escape b =
    if b == code "[" then Some Control
    else (if b == code "%" then Some Coding else between_if (is_short b))
next Coding b = between_if (b == code "G")
next Control b = if b == code "?" then Some Mode else next_value 0 b
next (Values n) b = next_value n b
next Mode b =
    if b == code "1" then Some Switch
    else (if b == code "2" then Some Cursor else place_if (b == code "7") Off)
next Cursor b = place_if (b == code "5") Switch
next Switch b = between_if (b == code "h" || b == code "l")
next Off b = between_if (b == code "l")
next (Lead a) b = place_if (is_second a b) (after_second a)
next Third b = place_if (continues b) Last
next Last b = between_if (continues b)

abbrev pub next_in : Option DrawPlace → ℕ → Option DrawPlace
next_in None b = None
next_in (Some place) b = next place b

-- the place after some bytes; None if no function goes on with one of them
abbrev pub after : Option DrawPlace → List ℕ → Option DrawPlace
after place [] = place
after place (b ∷ bytes) = after (next_in place b) bytes

-- the place after these bytes, from the beginning on
abbrev pub place_after : List ℕ → Option DrawPlace
place_after bytes = after (Some Between) bytes
