-- What the keys of a client give, step by step. A step reads keys up to the first one that
-- completes a command or a line of the prompt.
use Rattle.std.specs.Prelude.{ℕ, ◌+◌, Bool, true, false, List, [], ◌∷◌, ◌++◌, Option}
use Rattle.std.specs.Prelude.{length, take, drop, find, unwrap_or}
use Rattle.std.specs.List.{list_any, flat_map, range_with_len}
pub use Rattle.keys.specs.Grammar.{open_line}
use Rattle.keys.specs.Grammar.{Item, typed, bound, line, items}
use Rattle.session_model.specs.Tables.{Client}

-- the items that these keys complete after the keys before them
abbrev pub items_behind : List ℕ → List ℕ → List Item
items_behind past keys = drop (length (items past).0) (items (past ++ keys)).0

abbrev pub is_command : Item → Bool
is_command (typed b) = false
is_command (bound c) = true
is_command (line bytes) = true

-- the number of keys that a step reads: the fewest that complete a command or a line, else all
abbrev pub completes : List ℕ → List ℕ → ℕ → Bool
completes past keys count = list_any is_command (items_behind past (take count keys))

abbrev pub taken : List ℕ → List ℕ → ℕ
taken past keys =
    unwrap_or (find (completes past keys) (range_with_len 0 (length keys + 1))) (length keys)

-- the items of a step that is given these keys
abbrev pub step_items : Client → List ℕ → List Item
step_items c bytes = items_behind c.keys (take (taken c.keys bytes) bytes)

-- the bytes that an item types
abbrev pub typed_byte : Item → List ℕ
typed_byte (typed b) = b ∷ []
typed_byte _ = []

abbrev pub typed_bytes : List Item → List ℕ
typed_bytes given = flat_map typed_byte given

-- the command or the line among items
abbrev pub command_item : List Item → Option Item
command_item given = find is_command given
