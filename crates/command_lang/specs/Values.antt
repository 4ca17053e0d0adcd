-- What words mean, and which texts are of the wanted kind. Users, bits, lists and masks are those
-- of acladd, aclchg and aclumask in the GNU Screen manual, section Multiuser Session.
use Rattle.std.specs.Prelude.{ℕ, ◌+◌, ◌-◌, ◌*◌, Bool, true, false, not, ◌&&◌, ◌||◌, nat_lt, nat_le, ◌==◌, if◌then◌else◌}
use Rattle.std.specs.Prelude.{List, [], ◌∷◌, ◌++◌, length, take, drop, codes, Option, Some, None}
use Rattle.std.specs.Option.{is_some}
use Rattle.std.specs.List.{list_all, list_any, slice_split, position_or_len}
use Rattle.std.specs.Str.{bytes_eq}
use Rattle.acl.specs.declared.act.LockMode.{LockMode}
use Rattle.acl.specs.declared.act.LockMode.TheVariants as lock_mode
use Rattle.acl.specs.declared.bits.Bit.{Bit}
use Rattle.acl.specs.declared.bits.Bit.TheVariants as bit
use Rattle.acl.specs.declared.bits.BitChange.{BitChange}
use Rattle.command_lang.specs.declared.command.Coding.{Coding}
use Rattle.command_lang.specs.declared.command.Coding.TheVariants as coding
use Rattle.command_lang.specs.declared.command.Users.{Users}
use Rattle.command_lang.specs.declared.command.Users.TheVariants as users
use Rattle.command_lang.specs.declared.command.Leader.{Leader}
use Rattle.command_lang.specs.declared.command.Leader.TheVariants as leader
use Rattle.command_lang.specs.declared.command.Mask.{Mask}

-- Numbers: 1 to 4 decimal digits, and at most the limit.
abbrev pub is_digit : ℕ → Bool
is_digit c = nat_lt 0x2F c && nat_lt c 0x3A

-- the number that digits spell after digits that spell n
abbrev pub number_after : ℕ → List ℕ → ℕ
number_after n [] = n
number_after n (d ∷ digits) = number_after (n * 10 + (d - 0x30)) digits

abbrev pub is_number : ℕ → List ℕ → Bool
is_number limit text =
    (list_all is_digit text && (nat_lt 0 (length text) && nat_lt (length text) 5))
    && nat_le (number_after 0 text) limit

abbrev pub number_in : ℕ → List ℕ → Option ℕ
number_in limit text = if is_number limit text then Some (number_after 0 text) else None

-- Fixed words.
abbrev pub lock_mode_in : List ℕ → Option LockMode
lock_mode_in text =
    if bytes_eq text (codes "off") then Some lock_mode.Off
    else if bytes_eq text (codes "auto") then Some lock_mode.Auto
    else if bytes_eq text (codes "on") then Some lock_mode.On
    else None

abbrev pub switch_in : List ℕ → Option Bool
switch_in text =
    if bytes_eq text (codes "on") then Some true
    else if bytes_eq text (codes "off") then Some false
    else None

abbrev pub coding_in : List ℕ → Option Coding
coding_in text =
    if bytes_eq text (codes "utf8") then Some coding.Utf8
    else if bytes_eq text (codes "ecma35") then Some coding.Ecma35
    else None

abbrev pub is_vertical : List ℕ → Bool
is_vertical text = bytes_eq text (codes "-v")

-- Lists: items with commas between them.
abbrev pub items_of : List ℕ → List (List ℕ)
items_of text = slice_split (λ b. b == 0x2C) text

abbrev pub is_empty_text : List ℕ → Bool
is_empty_text text = length text == 0

abbrev pub has_empty_item : List ℕ → Bool
has_empty_item text = list_any is_empty_text (items_of text)

-- whether an item consists of `#` (all windows) and `?` (all commands) alone, and isn't empty
abbrev pub is_wide : List ℕ → Bool
is_wide item = nat_lt 0 (length item) && list_all (λ b. b == 0x23 || b == 0x3F) item

-- a lone `*` means all users
abbrev pub users_of : List ℕ → Users
users_of text = if bytes_eq text (codes "*") then users.All else users.Listed (items_of text)

abbrev pub leader_of : List ℕ → Leader
leader_of text = if bytes_eq text (codes "none") then leader.Nobody else leader.Named text

-- Bits: groups of a sign and one or more letters.
abbrev pub is_sign : ℕ → Bool
is_sign c = c == 0x2B || c == 0x2D

abbrev pub bit_of : ℕ → Option Bit
bit_of c =
    if c == 0x72 then Some bit.Read
    else if c == 0x77 then Some bit.Write
    else if c == 0x78 then Some bit.Execute
    else None

abbrev pub is_letter : ℕ → Bool
is_letter c = is_some (bit_of c)

-- whether groups may go on with these bytes; after a sign, a letter must come next
abbrev pub goes_on : Bool → List ℕ → Bool
goes_on wanting [] = not wanting
goes_on wanting (c ∷ cs) =
    if is_letter c then goes_on false cs else ((is_sign c && not wanting) && goes_on true cs)

abbrev pub is_bits : List ℕ → Bool
is_bits [] = false
is_bits (c ∷ cs) = is_sign c && goes_on true cs

-- the change that a byte makes, after a sign that gives or takes
abbrev pub change_of : Bool → Option Bit → List BitChange
change_of value None = []
change_of value (Some b) = record { bit = b; value = value } ∷ []

-- whether the bits that follow a byte are given
abbrev pub value_after : Bool → ℕ → Option Bit → Bool
value_after value c None = c == 0x2B
value_after value c (Some b) = value

-- the bits that groups give and take, in order
abbrev pub bits_after : Bool → List ℕ → List BitChange
bits_after value [] = []
bits_after value (c ∷ cs) =
    change_of value (bit_of c) ++ bits_after (value_after value c (bit_of c)) cs

abbrev pub bits_of : List ℕ → List BitChange
bits_of text = bits_after true text

-- Masks: optional users, followed by bits, which begin at the first sign.
abbrev pub sign_place : List ℕ → ℕ
sign_place text = position_or_len is_sign text

abbrev pub mask_users : List ℕ → Option Users
mask_users text = if is_empty_text text then None else Some (users_of text)

abbrev pub mask_of : List ℕ → Mask
mask_of text =
    record {
      users = mask_users (take (sign_place text) text);
      bits = bits_of (drop (sign_place text) text);
    }
