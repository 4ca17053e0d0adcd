-- What a reader of keys keeps.
use Rattle.std.specs.Prelude.{◌≡◌, ℕ, List, [], ◌∷◌, Option, Some, None}
use Rattle.keys.specs.declared.reader.Mode.{Mode}
use Rattle.keys.specs.declared.reader.Mode.TheVariants.{Typing, Command, Prompt}
use Rattle.keys.specs.declared.reader.KeyItem.{KeyItem}
use Rattle.keys.specs.declared.reader.KeyItem.TheVariants as given
use Rattle.keys.specs.Grammar.{Item, typed, line, bound_items, binding, Rest, nothing, command_key, prompt, items}

-- its mode, and the line of the open prompt, or else of the last one
pub record Keeping : Type 0 where
  pub mode : Mode
  pub line : List ℕ

abbrev pub rest_of : Keeping → Rest
rest_of r = elim r.mode [ Typing ↦ nothing | Command ↦ command_key | Prompt ↦ prompt r.line ]

-- the reader has read these keys
abbrev pub StandsFor : Keeping → List ℕ → Type 0
StandsFor reader keys = (items keys).1 ≡ rest_of reader

-- what is returned stands for these items; the line of a prompt lies in the reader
abbrev pub item_list : Option KeyItem → List ℕ → List Item
item_list None bytes = []
item_list (Some (given.Typed b)) bytes = typed b ∷ []
item_list (Some (given.Command k)) bytes = bound_items (binding k)
item_list (Some given.Edit) bytes = []
item_list (Some given.Line) bytes = line bytes ∷ []
