-- What the fields of a script's line say.
use Rattle.std.specs.Prelude.{ℕ, ◌^◌, if◌then◌else◌, nat_le, min, List, length, Option, Some, None, option_map, codes}
use Rattle.std.specs.Str.{is_utf8, bytes_eq}
use Rattle.acl.specs.Names.{named_by}
use Rattle.line_fields.specs.Events.{Field, User, Number, Serial, Window, Bytes, Text, Title, Value}
use Rattle.line_fields.specs.Numbers.{number_below}
use Rattle.line_fields.specs.Texts.{spelled}

-- ---- numbers

-- 1 to 4 decimal digits
abbrev pub number_of : List ℕ → Option ℕ
number_of word = if nat_le (length word) 4 then number_below (2 ^ 16) word else None

-- the number of a command's window, or `-` for none; no window has a number above 39, and each number
-- above 255 is read as 255
abbrev pub window_of : List ℕ → Option (Option ℕ)
window_of word =
    if bytes_eq word (codes "-") then Some None
    else option_map (λ number. Some (min number 255)) (number_of word)

-- ---- texts

-- a text of at most 8,192 bytes
abbrev pub if_short : Option (List ℕ) → Option (List ℕ)
if_short (Some bytes) = if nat_le (length bytes) 8192 then Some bytes else None
if_short None = None

abbrev pub text_of : List ℕ → Option (List ℕ)
text_of escaped = if_short (spelled escaped)

-- a title is UTF-8
abbrev pub if_utf8 : Option (List ℕ) → Option (List ℕ)
if_utf8 (Some bytes) = if is_utf8 bytes then Some bytes else None
if_utf8 None = None

abbrev pub title_of : List ℕ → Option (List ℕ)
title_of escaped = if_utf8 (text_of escaped)

-- ---- fields

abbrev pub value_of : (f : Field) → List ℕ → Option (Value f)
value_of User word = named_by word
value_of Number word = number_of word
value_of Serial word = number_of word
value_of Window word = window_of word
value_of Bytes word = text_of word
value_of Text word = text_of word
value_of Title word = title_of word
