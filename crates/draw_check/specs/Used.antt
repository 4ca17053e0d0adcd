-- The control functions that draws use.
use Rattle.std.specs.Prelude.{ℕ, ◌==◌, ◌&&◌, ◌||◌, Bool, true, false, if◌then◌else◌, List, [], ◌∷◌, Some, None}
use Prim.Native.Char.{code}
use Rattle.control_parser.specs.declared.parser.Func.{Func}
use Rattle.control_parser.specs.declared.parser.Func.TheVariants.{Print, High, Control, Esc, Csi}
use Rattle.draw_check.specs.Functions.{is_short, is_last}

-- DECSM and DECRM of DECCKM and DECTCEM, and DECRM of DECAWM
abbrev pub is_mode_used : List ℕ → ℕ → Bool
is_mode_used [] last = false
is_mode_used (n ∷ []) last =
    if n == 1 || n == 25 then last == code "h" || last == code "l" else n == 7 && last == code "l"
is_mode_used (n ∷ m ∷ more) last = false

abbrev pub is_used : Func → Bool
is_used (Print c) = true
is_used (High b) = false
is_used (Control c) = false
is_used (Esc [] last) = is_short last
is_used (Esc (i ∷ []) last) = i == code "%" && last == code "G"
is_used (Esc (i ∷ j ∷ more) last) = false
is_used (Csi None params [] last) = is_last last
is_used (Csi (Some mark) params [] last) = mark == code "?" && is_mode_used params last
is_used (Csi mark params (i ∷ more) last) = false
