-- Tokens and texts, and what the functions that read payloads return.
use Rattle.std.specs.Prelude.{◌≡◌, ℕ, Bool, true, ◌&&◌, ◌||◌, nat_lt, ◌==◌, if◌then◌else◌, List}
use Rattle.std.specs.Prelude.{length, Option, Some, None, Result, Ok, Err}
use Rattle.std.specs.List.{list_all}
use Rattle.std.specs.Str.{is_utf8}
use Rattle.attach_proto.specs.declared.fault.Unread.{Unread}
use Rattle.attach_proto.specs.declared.fault.Unread.TheVariants.{Memory, Payload}

-- A function returned what reading gives, unless memory ran out; `view` is the value of its result.
abbrev pub Fails : {Y : Type 0} → Unread → Option Y → Type 0
Fails Memory read = Unit {0}
Fails Payload read = read ≡ None

abbrev pub Gives : {X Y : Type 0} → (X → Y) → Result X Unread → Option Y → Type 0
Gives view (Ok x) read = read ≡ Some (view x)
Gives view (Err e) read = Fails e read

-- 0 to 9, a to f
abbrev pub is_digit : ℕ → Bool
is_digit b = (nat_lt 0x2F b && nat_lt b 0x3A) || (nat_lt 0x60 b && nat_lt b 0x67)

abbrev pub is_token : List ℕ → Bool
is_token bytes = (length bytes == 64) && list_all is_digit bytes

abbrev pub IsToken : List ℕ → Type 0
IsToken bytes = is_token bytes ≡ true

abbrev pub token_of : List ℕ → Option (List ℕ)
token_of bytes = if is_token bytes then Some bytes else None

abbrev pub text_of : List ℕ → Option (List ℕ)
text_of bytes = if is_utf8 bytes then Some bytes else None

-- UTF-8 (Unicode core specification, section 3.9, table 3-7)
abbrev pub IsText : List ℕ → Type 0
IsText text = is_utf8 text ≡ true
