-- How windows are named: by numbers and by titles.
use Rattle.std.specs.Prelude.{ℕ, zero, suc, ◌+◌, ◌-◌, ◌*◌, Bool, true, false, not, ◌==◌, ◌&&◌, nat_lt, nat_le, List, []}
use Rattle.std.specs.Prelude.{◌∷◌, Option, Some, None, if◌then◌else◌, filter, find, length}
use Rattle.std.specs.List.{list_any, list_all, range_with_len}
use Rattle.std.specs.Option.{option_or, option_and_then}
use Rattle.std.specs.Str.{chars, bytes_eq}
use Rattle.unicode_width.specs.Width.{char_width}
use Rattle.windows_model.specs.declared.rows.TheConstants.{WINDOWS}
use Rattle.windows_model.specs.Table.{Window}

-- ---- numbers

abbrev pub has_number : ℕ → Window → Bool
has_number n w = w.number == n

abbrev pub with_number : List Window → ℕ → Option Window
with_number windows n = find (has_number n) windows

-- of a window and another, if there is one, the one with the lower number; and the one with the
-- higher number
abbrev pub lower : Window → Option Window → Option Window
lower w None = Some w
lower w (Some v) = if nat_lt v.number w.number then Some v else Some w

abbrev pub lowest : List Window → Option Window
lowest [] = None
lowest (w ∷ windows) = lower w (lowest windows)

abbrev pub higher : Window → Option Window → Option Window
higher w None = Some w
higher w (Some v) = if nat_lt w.number v.number then Some v else Some w

abbrev pub highest : List Window → Option Window
highest [] = None
highest (w ∷ windows) = higher w (highest windows)

-- the window with the next higher number, and the one with the next lower number; after the last
-- comes the first
abbrev pub window_after : List Window → Option Window → Option Window
window_after windows None = lowest windows
window_after windows (Some w) =
    option_or (lowest (filter (λ v. nat_lt w.number v.number) windows)) (lowest windows)

abbrev pub window_before : List Window → Option Window → Option Window
window_before windows None = highest windows
window_before windows (Some w) =
    option_or (highest (filter (λ v. nat_lt v.number w.number) windows)) (highest windows)

-- the lowest number that no window has; there are as many numbers as there may be windows
abbrev pub free_number : List Window → Option ℕ
free_number windows = find (λ n. not (list_any (has_number n) windows)) (range_with_len 0 WINDOWS)

-- ---- words

abbrev pub is_digit : ℕ → Bool
is_digit c = nat_lt 0x2F c && nat_lt c 0x3A

-- the number that digits spell after digits that spell n
abbrev pub number_after : ℕ → List ℕ → ℕ
number_after n [] = n
number_after n (d ∷ digits) = number_after (n * 10 + (d - 0x30)) digits

-- the number that 1 to 4 decimal digits spell
abbrev pub spelled : List ℕ → Option ℕ
spelled word =
    if list_all is_digit word && (nat_lt 0 (length word) && nat_lt (length word) 5)
    then Some (number_after 0 word) else None

-- the window whose number or title the word is; among equal titles, the one with the lowest number
abbrev pub window_named : List Window → List ℕ → Option Window
window_named windows word =
    option_or (option_and_then (with_number windows) (spelled word))
    (lowest (filter (λ w. bytes_eq w.title word) windows))

-- ---- titles

-- a title has 1 to 40 characters, each of width 1 or 2 (UAX #11)
abbrev pub is_one_or_two : Option ℕ → Bool
is_one_or_two (Some (suc zero)) = true
is_one_or_two (Some (suc (suc zero))) = true
is_one_or_two _ = false

abbrev pub has_columns : ℕ → Bool
has_columns c = is_one_or_two (char_width false c)

abbrev pub is_title : List ℕ → Bool
is_title title =
    nat_lt 0 (length (chars title)) && nat_le (length (chars title)) 40
    && list_all has_columns (chars title)
