-- The windows that are looked at, and which of them is found.
use Rattle.std.specs.Prelude.{ℕ, ◌==◌, Bool, true, false, not, nat_lt, List, [], ◌∷◌}
use Rattle.std.specs.Prelude.{Option, Some, None, if◌then◌else◌, find}
use Rattle.std.specs.List.{list_any, list_all, range_with_len}
use Rattle.std.specs.Option.{option_map_or}
use Rattle.std.specs.Str.{bytes_eq}
use Rattle.std.specs.String.{string_bytes}
use Rattle.windows_model.specs.declared.rows.TheConstants.{WINDOWS}
use Rattle.windows.specs.declared.window.Window.{Window}
use Rattle.windows.specs.declared.among.Among.{Among}
use Rattle.windows.specs.declared.among.Among.TheVariants.{All, Above, Below, Titled}
use Rattle.windows.specs.declared.among.End.{End}
use Rattle.windows.specs.declared.among.End.TheVariants.{Lowest, Highest}

-- whether the window is one of these: all windows, those with a higher or a lower number than this,
-- or those with a title
abbrev pub is_among : Among → Window → Bool
is_among All w = true
is_among (Above (Some n)) w = nat_lt n w.number
is_among (Above None) w = false
is_among (Below (Some n)) w = nat_lt w.number n
is_among (Below None) w = false
is_among (Titled title) w = bytes_eq (string_bytes w.title) title.now

-- of two windows, the one with the lower or the higher number; the first one, if both numbers are
-- the same
abbrev pub nearer : End → Window → Option Window → Option Window
nearer end w None = Some w
nearer Lowest w (Some v) = if nat_lt v.number w.number then Some v else Some w
nearer Highest w (Some v) = if nat_lt w.number v.number then Some v else Some w

abbrev pub nearest : End → List Window → Option Window
nearest end [] = None
nearest end (w ∷ ws) = nearer end w (nearest end ws)

-- whether the window has the number
abbrev pub has_number : ℕ → Window → Bool
has_number n w = w.number == n

abbrev pub numbered : List Window → ℕ → Option Window
numbered ws n = find (has_number n) ws

-- whether a window with another serial has the number
abbrev pub taken_by_other : List Window → ℕ → ℕ → Bool
taken_by_other ws serial n =
    option_map_or (λ (v : Window). not (v.serial == serial)) (numbered ws n) false

-- whether the serial is above those of all windows
abbrev pub is_above : ℕ → List Window → Bool
is_above serial ws = list_all (λ (w : Window). nat_lt w.serial serial) ws

-- the lowest number from 0 to 39 that no window has
abbrev pub first_free : List Window → Option ℕ
first_free ws = find (λ n. not (list_any (has_number n) ws)) (range_with_len 0 WINDOWS)
