-- What a step has read of a client's keys.
use Rattle.std.specs.Prelude.{◌≡◌, ℕ, List, ◌++◌, take, option_to_list}
use Rattle.keys.specs.Kept.{Keeping, StandsFor, item_list}
use Rattle.session_model.specs.Keying.{items_behind, taken, typed_bytes, command_item}
use Rattle.session_state.specs.declared.reading.Reading.{Reading}

-- After the keys of the past: how many keys a step takes, what they type, and the command or the line
-- among them; the reader has read them all.
pub record HasRead (past keys : List ℕ) (reading : Reading) (reader : Keeping) : Type 0 where
  pub taken_is : reading.taken ≡ taken past keys
  pub typed_is : reading.typed ≡ typed_bytes (items_behind past (take reading.taken keys))
  pub order_is : item_list reading.order reader.line
      ≡ option_to_list (command_item (items_behind past (take reading.taken keys)))
  pub stands : StandsFor reader (past ++ take reading.taken keys)
