-- A client's reader and message that are exchanged for others.
use Rattle.std.specs.Prelude.{◌≡◌, ℕ, List, ◌++◌, Some}
use Rattle.keys.specs.Kept.{Keeping, StandsFor}
use Rattle.session_model.specs.declared.event.StatusMessage.{StatusMessage}
use Rattle.session_model.specs.Tables.{row_of, with_row}
use Rattle.session_state.specs.declared.client.Client.{Client}

-- the row has them now, and those that it had were handed back
pub record Exchanged (serial : ℕ) (c : Client) (old : List Client) (keys : Keeping)
    (message : StatusMessage) (new : List Client) (keys_then : Keeping) (message_then : StatusMessage) : Type 0
  where
    pub row : new
        ≡ with_row (λ (d : Client). d.serial) old serial
        (record c { keys = keys; message = message })
    pub keys_are : keys_then ≡ c.keys
    pub message_is : message_then ≡ c.message

-- a reader has read what the client's own reader has read, and then these keys
abbrev pub HasReadMore : ℕ → List Client → Keeping → List ℕ → Type 0
HasReadMore serial clients reader bytes =
    (c : Client) → row_of (λ (d : Client). d.serial) clients serial ≡ Some c
    → (past : List ℕ) → StandsFor c.keys past → StandsFor reader (past ++ bytes)

-- if these are what the row had before, it has them again, and all is as it was
abbrev pub PutsBack : ℕ → List Client → Keeping → StatusMessage → List Client → Type 0
PutsBack serial old keys message new =
    (before : List Client) (c : Client) (k : Keeping) (w : StatusMessage)
    → row_of (λ (d : Client). d.serial) before serial ≡ Some c
    → old ≡ with_row (λ (d : Client). d.serial) before serial (record c { keys = k; message = w })
    → keys ≡ c.keys → message ≡ c.message → new ≡ before
