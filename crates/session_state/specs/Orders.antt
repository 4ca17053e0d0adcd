-- Windows by rising numbers, found number by number.
use Rattle.std.specs.Prelude.{ℕ, zero, suc, ◌+◌, List, [], ◌++◌, option_to_list}
use Rattle.session_model.specs.Tables.{Window}
use Rattle.session_model.specs.Naming.{with_number}

-- the windows with the numbers from `from` to `from + count - 1`
abbrev pub numbered : List Window → ℕ → ℕ → List Window
numbered windows from zero = []
numbered windows from (suc count) =
    option_to_list (with_number windows from) ++ numbered windows (from + 1) count
