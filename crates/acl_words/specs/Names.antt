-- Which words are names of users.
use Rattle.std.specs.Prelude.{ℕ, Bool, false, not, ◌||◌, ◌&&◌, ◌==◌, ◌-◌, nat_eq, nat_le, List, [], ◌∷◌, ◌++◌, Option}
use Rattle.std.specs.Prelude.{Some, None, length, replicate, codes, if◌then◌else◌}
use Rattle.std.specs.List.{list_all}
use Rattle.std.specs.Cmp.Lexicographic.{pointwise}
use Rattle.acl_words.specs.declared.user_id.UserId.{UserId}

-- a letter from a to z
abbrev pub is_letter : ℕ → Bool
is_letter b = nat_le 0x61 b && nat_le b 0x7A

-- a letter from a to z, a digit from 0 to 9, or _
abbrev pub is_name_byte : ℕ → Bool
is_name_byte b = is_letter b || (nat_le 0x30 b && nat_le b 0x39) || b == 0x5F

abbrev pub begins_with_letter : List ℕ → Bool
begins_with_letter [] = false
begins_with_letter (b ∷ word) = is_letter b

-- a name has 1 to 20 of these bytes, and begins with a letter; `none` is no name
abbrev pub is_name : List ℕ → Bool
is_name word =
    begins_with_letter word && nat_le (length word) 20 && list_all is_name_byte word
    && not (pointwise nat_eq word (codes "none"))

-- the user whom a word names
abbrev pub named_by : List ℕ → Option UserId
named_by word =
    if is_name word then Some (record { name = word ++ replicate (20 - length word) 0 }) else None

-- the bytes before the first zero
abbrev pub before_zero : List ℕ → List ℕ
before_zero [] = []
before_zero (b ∷ bytes) = if b == 0 then [] else b ∷ before_zero bytes

-- the name's bytes
abbrev pub name_of : UserId → List ℕ
name_of u = before_zero u.name
