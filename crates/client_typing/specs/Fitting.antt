-- The keys by which a client gives a command of its own between two keys of its user.
use Rattle.std.specs.Prelude.{◌≡◌, ℕ, ◌≤◌, Bool, true, false, not, ◌&&◌, ◌==◌, nat_le, List, [], ◌∷◌, ◌++◌, length, codes}
use Rattle.std.specs.List.{list_all}
use Rattle.keys.specs.Grammar.{control_a, colon, carriage_return, delete, Rest, nothing, command_key, prompt}

-- C-a, a colon, a command, CR
abbrev pub given_keys : List ℕ → List ℕ
given_keys command = control_a ∷ colon ∷ command ++ carriage_return ∷ []

abbrev pub fit_keys : List ℕ
fit_keys = control_a ∷ codes ":fit" ++ carriage_return ∷ []

-- no key that edits, ends or closes the prompt's line
abbrev pub is_plain : ℕ → Bool
is_plain k = nat_le 32 k && not (k == delete)

-- the prompt takes a command as it is typed
pub record IsLine (command : List ℕ) : Type 0 where
  pub plain : list_all is_plain command ≡ true
  pub short : length command ≤ 1024

-- the command key was typed, and the key after it is still to come
abbrev pub awaits_key : Rest → Bool
awaits_key nothing = false
awaits_key command_key = true
awaits_key (prompt bytes) = false
