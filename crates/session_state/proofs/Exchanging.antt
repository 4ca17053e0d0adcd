-- A reader and a message that are exchanged twice leave the row as it was.
use Rattle.session_state.proofs.Vocabulary.{◌≡◌, ℕ, List, ◌++◌, Some, sym, subst, ◌∙◌, ap, StandsFor, StatusMessage}
use Rattle.session_state.proofs.Vocabulary.{Silence, row_of, with_row, reading, with_back, Client, ClientStands}
use Rattle.keys.specs.Kept.{Keeping}
use Rattle.session_model.specs.Tables as model
use Rattle.windows_model.proofs.Serials.{serial_is, with_same, with_twice}
use Rattle.session_state.proofs.Changing.{serial_of}

pub keeps_read : (bytes : List ℕ) (reader : Keeping) (message : StatusMessage) (m : model.Client)
    (c d : Client) → message ≡ Silence → StandsFor reader (m.keys ++ bytes)
    → d ≡ record c { keys = reader; message = message } → ClientStands m c
    → ClientStands (reading bytes m) d
keeps_read bytes reader message m c d silent read is st =
    subst (λ (x : Client). ClientStands (reading bytes m) x) (sym is) (record {
      serial_is = st.serial_is;
      user_is = st.user_is;
      rows_are = st.rows_are;
      columns_are = st.columns_are;
      sized = st.sized;
      keys = read;
      layout_is = st.layout_is;
      last_is = st.last_is;
      former_is = st.former_is;
      room = st.room;
      message_is = silent;
      known_is = st.known_is;
      screen = st.screen;
    })

-- what stands in the row that changed
pub stood : (before old : List Client) (serial : ℕ) (c once : Client) → once.serial ≡ c.serial
    → row_of serial_of before serial ≡ Some c → old ≡ with_row serial_of before serial once
    → row_of serial_of old serial ≡ Some once
stood before old serial c once same at is =
    ap (λ cs. row_of serial_of cs serial) is
    ∙ with_same serial_of before serial c once at (same ∙ serial_is serial_of before serial c at)

-- it is put back
pub back : (before old new : List Client) (serial : ℕ) (c once row d : Client)
    → once.serial ≡ c.serial → row_of serial_of before serial ≡ Some c
    → old ≡ with_row serial_of before serial once → new ≡ with_row serial_of old serial d → d ≡ c
    → new ≡ before
back before old new serial c once row d same at is now again =
    now
    ∙ (ap (λ x. with_row serial_of old serial x) again
    ∙ (ap (λ cs. with_row serial_of cs serial c) is
    ∙ (with_twice serial_of before serial once c
    (same ∙ serial_is serial_of before serial c at)
    ∙ with_back serial_of before serial c at)))

-- a row with what it had before
pub put_together : (row other : Client) (k : Keeping) (w : StatusMessage) (keys : Keeping)
    (message : StatusMessage) → row ≡ record other { keys = k; message = w } → keys ≡ other.keys
    → message ≡ other.message → record row { keys = keys; message = message } ≡ other
put_together row other k w keys message is keys_are message_is =
    ap (λ (r : Client). record r { keys = keys; message = message }) is
    ∙ (ap (λ (x : Keeping). record other { keys = x; message = message }) keys_are
    ∙ ap (λ (x : StatusMessage). record other { message = x }) message_is)
