-- Text in UTF-8.
use Rattle.std.specs.Prelude.{◌≡◌, ℕ, true, List, []}
use Rattle.std.specs.List.{list_all}
use Rattle.charsets.specs.Utf8.{codes}
use Rattle.charsets.specs.Units.{is_character}

-- the characters of some bytes of UTF-8
abbrev pub text : List ℕ → List ℕ
text bytes = (codes bytes).0

-- bytes of UTF-8 that are graphic characters, and nothing is incomplete after them
pub record IsText (bytes : List ℕ) : Type 0 where
  pub whole : (codes bytes).1 ≡ []
  pub graphic : list_all is_character (text bytes) ≡ true
