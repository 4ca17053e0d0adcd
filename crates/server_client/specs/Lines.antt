-- The lines of a file, and what they say of a window's page.
use Rattle.std.specs.Prelude.{◌≡◌, ◌⊎◌, ◌++◌, ◌∷◌, ℕ, Bool, true, ◌==◌, List, bytes_eq, codes, decimal}
use Rattle.std.specs.List.{list_any, slice_split}
use Rattle.client_words.specs.declared.arguments.Arguments.{Arguments}
use Rattle.server_client.specs.Marks.{Disk}

abbrev pub is_feed : ℕ → Bool
is_feed byte = byte == 0x0A

-- one of the lines is this one
abbrev pub has_line : List ℕ → List ℕ → Bool
has_line lines wanted = list_any (λ line. bytes_eq line wanted) (slice_split is_feed lines)

-- the file that names the windows whose pages were cleared
abbrev pub cleared_file : Arguments → List ℕ
cleared_file a = a.socket.now ++ codes ".restoring"

-- A page is hidden if a line names its window, by its user and the number that it had, or if the file isn't read.
pub record IsHidden (disk : Disk) (a : Arguments) (number : ℕ) (is_hidden : Bool) : Type 0 where
  pub is : ((lines : List ℕ) × disk.has (cleared_file a) lines
      × (is_hidden ≡ has_line lines (a.user.now ++ 0x20 ∷ decimal number)))
      ⊎ (disk.lacks (cleared_file a) × (is_hidden ≡ true))
