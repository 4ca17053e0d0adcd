-- A list that grows by an item.
use Rattle.std.specs.Prelude.{ℕ, ◌≡◌, Bool, List, codes}
use Rattle.session_model.specs.Texts.{separated}
use Rattle.session_state.specs.Items.{has_none}

-- the text of these items, and whether there is none of them
pub record IsList (items : List (List ℕ)) (is_first : Bool) (text : List ℕ) : Type 0 where
  pub text_is : text ≡ separated (codes "  ") items
  pub first_is : is_first ≡ has_none items
