-- The parts of an emulator, and the terminals that it stands for.
use Rattle.std.specs.Prelude.{◌≡◌, ◌<◌, ◌≤◌, ℕ, List, [], ◌++◌, Option, Some, None, take, length}
use Rattle.charsets.specs.declared.decoder.Coding.{Coding}
use Rattle.charsets.specs.Units.{Decoding}
use Rattle.control_parser.specs.declared.state.State.{State}
use Rattle.control_parser.specs.Grammar.{functions}
use Rattle.control_parser.specs.Kept.{kept, opening, IsIdle}
use Rattle.terminal_model.specs.Screen.{Screen}
use Rattle.terminal_model.specs.Reading.{Terminal, Read, IsTerminal, rest_in, reads}
use Rattle.terminal_model.specs.Writing.{Writing, writes}

-- its screen, what its decoder keeps of an incomplete character, and what its parser keeps of an
-- incomplete sequence or string
pub record Parts : Type 0 where
  pub screen : Screen
  pub decoding : Decoding
  pub parsing : State

-- The emulator has the screen of the terminal. Its decoder reads in the coding of the screen and
-- keeps the incomplete character, and its parser keeps the incomplete sequence or string.
pub record StandsFor (e : Parts) (t : Terminal) : Type 0 where
  pub terminal : IsTerminal t
  pub screen : e.screen ≡ t.screen
  pub decoding : e.decoding ≡ record { coding = t.screen.state.coding; rest = t.rest }
  pub parsing : e.parsing ≡ kept t.unended

-- The emulator stands for the terminal between two units of one byte, while the coding may have
-- changed: nothing is said of its decoder.
pub record StandsWithin (e : Parts) (t : Terminal) : Type 0 where
  pub opened : functions (opening t.unended) ≡ ([], t.unended)
  pub screen : e.screen ≡ t.screen
  pub parsing : e.parsing ≡ kept t.unended

-- the decoder in the coding of the screen: a character that is incomplete in another coding is
-- dropped
abbrev pub in_screen_coding : Parts → Decoding
in_screen_coding e =
    record {
      coding = e.screen.state.coding;
      rest = rest_in e.decoding.rest e.decoding.coding e.screen.state.coding;
    }

-- it has read within a byte, as the terminal has, with these answers
pub record HasReadWithin (r : Read) (e : Parts) (answered : List ℕ) : Type 0 where
  pub stands : StandsWithin e r.terminal
  pub reports : answered ≡ r.reports

-- it has read a byte, as the terminal has, with these answers
pub record HasReadByte (r : Read) (e : Parts) (answered : List ℕ) : Type 0 where
  pub stands : StandsFor e r.terminal
  pub reports : answered ≡ r.reports

-- From this terminal on it has read the bytes, and has appended the terminal's answers to what was
-- there before.
pub record HasRead (t : Terminal) (bytes : List ℕ) (before : List ℕ) (e : Parts) (answered : List ℕ)
    : Type 0 where
  pub stands : StandsFor e (reads t bytes).terminal
  pub reports : answered ≡ before ++ (reads t bytes).reports

-- it has read the first `count` bytes, from whatever terminal it stood for before
abbrev pub HasTaken : Parts → List ℕ → ℕ → List ℕ → Parts → List ℕ → Type 0
HasTaken old bytes count before new answered =
    (t : Terminal) → StandsFor old t → HasRead t (take count bytes) before new answered

-- it has read complete functions in the first `count` bytes: none of them is answered, and decoder
-- and parser are as before
pub record TakesWhole (old : Parts) (bytes : List ℕ) (count : ℕ) (new : Parts) : Type 0 where
  pub taken : (said : List ℕ) → HasTaken old bytes count said new said
  pub few : count ≤ length bytes
  pub decoding : new.decoding ≡ old.decoding
  pub parsing : new.parsing ≡ old.parsing

-- it has read some, if it says how many bytes they take; else it has read nothing
abbrev pub TakesPiece : Parts → List ℕ → Option ℕ → Parts → Type 0
TakesPiece old bytes (Some count) new = (0 < count) × TakesWhole old bytes count new
TakesPiece old bytes None new = TakesWhole old bytes 0 new

-- it has performed a writing of the window; nothing is said of answers
abbrev pub TakesWriting : Parts → Writing → Parts → Type 0
TakesWriting old w new = (t : Terminal) → StandsFor old t → StandsFor new (writes t w).terminal

-- no character, sequence or string is incomplete, and it reads in this coding
pub record IsBetween (c : Coding) (e : Parts) : Type 0 where
  pub whole : e.decoding.rest ≡ []
  pub idle : IsIdle e.parsing
  pub coding : e.decoding.coding ≡ c
