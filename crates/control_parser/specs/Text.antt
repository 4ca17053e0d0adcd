-- The text of a control sequence: the bytes between CSI and the final byte (ECMA-48, 5.4).
use Rattle.std.specs.Prelude.{ℕ, zero, suc, ◌+◌, ◌-◌, ◌*◌, Bool, not, ◌&&◌, ◌||◌, nat_lt, nat_le, ◌==◌, if◌then◌else◌}
use Rattle.std.specs.Prelude.{List, [], ◌∷◌, length, take, map, min, Option, Some, None, slice_index}
use Rattle.std.specs.List.{list_all}
use Rattle.charsets.specs.Units.{is_plain}

-- an intermediate byte (ECMA-48, 5.4; for escape sequences ECMA-35, 13)
abbrev pub is_intermediate : ℕ → Bool
is_intermediate c = nat_lt 0x1F c && nat_lt c 0x30

abbrev pub is_digit : ℕ → Bool
is_digit c = nat_lt 0x2F c && nat_lt c 0x3A

-- a digit, or the semicolon between two parameters
abbrev pub is_number : ℕ → Bool
is_number c = is_digit c || c == 0x3B

-- one of < = > ?, which begins private parameters (ECMA-48, 5.4.1)
abbrev pub is_mark : ℕ → Bool
is_mark c = nat_lt 0x3B c && nat_lt c 0x40

-- a byte outside 20 to 7E
abbrev pub is_no_plain : ℕ → Bool
is_no_plain b = not (is_plain b)

-- the longest front whose items pass the test, and the items after it
abbrev pub while : {A : Type 0} → (A → Bool) → List A → List A × List A
while p [] = ([], [])
while p (x ∷ xs) = if p x then (x ∷ (while p xs).0, (while p xs).1) else ([], x ∷ xs)

-- the decimal number of some digits, after the digits of a number
abbrev pub number_after : ℕ → List ℕ → ℕ
number_after n [] = n
number_after n (d ∷ digits) = number_after (n * 10 + (d - 0x30)) digits

-- a parameter saturates at 9,999; an absent one is 0
abbrev pub value : List ℕ → ℕ
value digits = min 9999 (number_after 0 digits)

-- the digits of each parameter, cut at each semicolon
abbrev pub onto_first : ℕ → List (List ℕ) → List (List ℕ)
onto_first c [] = (c ∷ []) ∷ []
onto_first c (field ∷ fields) = (c ∷ field) ∷ fields

unfoldable pub fields : List ℕ → List (List ℕ)
fields [] = [] ∷ []
fields (c ∷ cs) = if c == 0x3B then [] ∷ fields cs else onto_first c (fields cs)

abbrev pub values : List ℕ → List ℕ
values numbers = map value (fields numbers)

-- A text is an optional private marker, then digits and semicolons, then intermediates.
abbrev pub mark_of : List ℕ → Option ℕ
mark_of [] = None
mark_of (c ∷ cs) = if is_mark c then Some c else None

abbrev pub unmarked : List ℕ → List ℕ
unmarked [] = []
unmarked (c ∷ cs) = if is_mark c then cs else c ∷ cs

abbrev pub numbers_of : List ℕ → List ℕ
numbers_of text = (while is_number (unmarked text)).0

abbrev pub intermediates_of : List ℕ → List ℕ
intermediates_of text = (while is_number (unmarked text)).1

-- a text with at most two intermediates and nothing else after the numbers; any other is ignored
abbrev pub is_well_formed : List ℕ → Bool
is_well_formed text =
    list_all is_intermediate (intermediates_of text) && nat_le (length (intermediates_of text)) 2

-- the parameters: the first sixteen count (VT220 Programmer Reference Manual, chapter 2)
abbrev pub params_of : List ℕ → List ℕ
params_of text = take 16 (values (numbers_of text))

-- the values with another last one
abbrev pub with_last : List ℕ → ℕ → List ℕ
with_last [] value = []
with_last (n ∷ []) value = value ∷ []
with_last (n ∷ m ∷ ns) value = n ∷ with_last (m ∷ ns) value

-- a value with one more digit; the values whose last one has one more digit
abbrev pub longer : ℕ → ℕ → ℕ
longer n digit = min 9999 (n * 10 + digit)

abbrev pub digit_added : List ℕ → ℕ → List ℕ
digit_added [] digit = []
digit_added (n ∷ []) digit = longer n digit ∷ []
digit_added (n ∷ m ∷ ns) digit = n ∷ digit_added (m ∷ ns) digit

-- the value of the first `count` digits of some bytes
abbrev pub value_of : List ℕ → ℕ → ℕ
value_of bytes zero = 0
value_of bytes (suc count) = longer (value_of bytes count) (slice_index bytes count - 0x30)
