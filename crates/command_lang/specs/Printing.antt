-- How a command is printed.
use Rattle.std.specs.Prelude.{ℕ, ◌+◌, ◌/◌, ◌%◌, Bool, true, false, not, ◌&&◌, ◌||◌, nat_lt, ◌==◌}
use Rattle.std.specs.Prelude.{if◌then◌else◌, List, [], ◌∷◌, ◌++◌, map, codes, Option, Some, None}
use Rattle.std.specs.List.{list_all, list_any, join_with_byte}
use Rattle.std.specs.Str.{chars, encode_utf8_all}
use Rattle.std.specs.Char.{is_ascii_alphanumeric}
use Rattle.std.specs.Fmt.{decimal}
use Prim.Native.Char.{code}
use Rattle.acl.specs.declared.act.LockMode.{LockMode}
use Rattle.acl.specs.declared.act.LockMode.TheVariants as lock_mode
use Rattle.acl.specs.declared.bits.Bit.{Bit}
use Rattle.acl.specs.declared.bits.Bit.TheVariants as bit
use Rattle.acl.specs.declared.bits.BitChange.{BitChange}
use Rattle.command_lang.specs.declared.command.Coding.{Coding}
use Rattle.command_lang.specs.declared.command.Coding.TheVariants as coding
use Rattle.command_lang.specs.declared.command.Users.{Users}
use Rattle.command_lang.specs.declared.command.Users.TheVariants as users
use Rattle.command_lang.specs.declared.command.Leader.{Leader}
use Rattle.command_lang.specs.declared.command.Leader.TheVariants as leader
use Rattle.command_lang.specs.declared.command.Mask.{Mask}
use Rattle.command_lang.specs.declared.command.Command.{Command}
use Rattle.command_lang.specs.declared.command.Command.TheVariants as command
use Rattle.command_lang.specs.Names.{name_text, name_of}
use Rattle.command_lang.specs.Values.{is_empty_text}

-- The words of a command. Items have commas between them.
abbrev pub items_word : List (List ℕ) → List ℕ
items_word items = join_with_byte (code ",") items

-- an item as it is printed, if i items come before it
abbrev pub item_behind : ℕ → List ℕ → List ℕ
item_behind i item = (if i == 0 then [] else codes ",") ++ item

abbrev pub users_word : Users → List ℕ
users_word users.All = codes "*"
users_word (users.Listed names) = items_word names

abbrev pub leader_word : Leader → List ℕ
leader_word leader.Nobody = codes "none"
leader_word (leader.Named text) = text

abbrev pub letter : Bit → ℕ
letter bit.Read = code "r"
letter bit.Write = code "w"
letter bit.Execute = code "x"

abbrev pub sign : Bool → ℕ
sign true = code "+"
sign false = code "-"

-- a sign stands before the first bit, and before each bit whose sign differs from the one before
abbrev pub sign_before : Option Bool → Bool → List ℕ
sign_before None value = sign value ∷ []
sign_before (Some true) true = []
sign_before (Some true) false = sign false ∷ []
sign_before (Some false) true = sign true ∷ []
sign_before (Some false) false = []

abbrev pub change_behind : Option Bool → BitChange → List ℕ
change_behind last c = sign_before last c.value ++ letter c.bit ∷ []

abbrev pub bits_behind : Option Bool → List BitChange → List ℕ
bits_behind last [] = []
bits_behind last (c ∷ cs) = change_behind last c ++ bits_behind (Some c.value) cs

abbrev pub bits_word : List BitChange → List ℕ
bits_word changes = bits_behind None changes

abbrev pub mask_users_word : Option Users → List ℕ
mask_users_word None = []
mask_users_word (Some users) = users_word users

abbrev pub mask_word : Mask → List ℕ
mask_word mask = mask_users_word mask.users ++ bits_word mask.bits

abbrev pub lock_mode_word : LockMode → List ℕ
lock_mode_word lock_mode.Off = codes "off"
lock_mode_word lock_mode.Auto = codes "auto"
lock_mode_word lock_mode.On = codes "on"

abbrev pub switch_word : Bool → List ℕ
switch_word true = codes "on"
switch_word false = codes "off"

abbrev pub coding_word : Coding → List ℕ
coding_word coding.Utf8 = codes "utf8"
coding_word coding.Ecma35 = codes "ecma35"

abbrev pub leader_words : Option Leader → List (List ℕ)
leader_words None = []
leader_words (Some leader) = leader_word leader ∷ []

abbrev pub words_of : Command → List (List ℕ)
words_of (command.Acladd users) = users_word users ∷ []
words_of (command.Aclchg users bits list) = users_word users ∷ bits_word bits ∷ items_word list ∷ []
words_of (command.Acldel user) = user ∷ []
words_of (command.Aclgrp user leader) = user ∷ leader_words leader
words_of (command.Aclumask masks) = map mask_word masks
words_of (command.Writelock mode) = lock_mode_word mode ∷ []
words_of (command.Defwritelock mode) = lock_mode_word mode ∷ []
words_of (command.Multiuser on) = switch_word on ∷ []
words_of (command.Wall text) = text ∷ []
words_of (command.Select window) = window ∷ []
words_of (command.Title text) = text ∷ []
words_of (command.Number n) = decimal n ∷ []
words_of (command.Split true) = codes "-v" ∷ []
words_of (command.Scrollview n) = decimal n ∷ []
words_of (command.Encoding coding) = coding_word coding ∷ []
words_of (command.Stuff text) = text ∷ []
words_of _ = []

-- The characters that need no quotes: ASCII letters and digits, and some signs
abbrev pub is_plain : ℕ → Bool
is_plain c = is_ascii_alphanumeric c || list_any (λ sign. c == sign) (codes "_-+,#?*")

abbrev pub octal : ℕ → List ℕ
octal c = (0x30 + c / 64 % 8) ∷ (0x30 + c / 8 % 8) ∷ (0x30 + c % 8) ∷ []

-- a character between "
abbrev pub escaped : ℕ → List ℕ
escaped c =
    if c == 0x22 || c == 0x5C then 0x5C ∷ c ∷ []
    else if nat_lt c 0x20 || c == 0x7F then 0x5C ∷ octal c
    else c ∷ []

abbrev pub quoted : List ℕ → List ℕ
quoted [] = []
quoted (c ∷ cs) = escaped c ++ quoted cs

-- a word needs " if it is empty or has any other character
abbrev pub needs_no_quotes : List ℕ → Bool
needs_no_quotes text = not (is_empty_text text) && list_all is_plain (chars text)

-- the characters of a word as it is printed
abbrev pub printed_word : List ℕ → List ℕ
printed_word text =
    if needs_no_quotes text then chars text else 0x22 ∷ (quoted (chars text) ++ 0x22 ∷ [])

-- words, each with a blank before it
abbrev pub printed_words : List (List ℕ) → List ℕ
printed_words [] = []
printed_words (text ∷ texts) = 0x20 ∷ (printed_word text ++ printed_words texts)

-- the characters of a command's line
abbrev pub printed_chars : Command → List ℕ
printed_chars c = name_text (name_of c) ++ printed_words (words_of c)

-- the line, in UTF-8
unfoldable pub printed : Command → List ℕ
printed c = encode_utf8_all (printed_chars c)
