-- If the program of a window writes, the state stands for the tables with that output and its answers.
use Rattle.session_events.proofs.Vocabulary.{◌≡◌, ℕ, true, false, List, [], ◌∷◌, ◌++◌, length, Some, Ok, ap, sym, subst}
use Rattle.session_events.proofs.Vocabulary.{◌∙◌, append-nil, ◌⊎◌, is_ok, ◌==◌, if◌then◌else◌, Result, reads, Input}
use Rattle.session_events.proofs.Vocabulary.{Tables, Window, with_row, terminal_of, StandFor, AnsweredIfRoom, if_true}
use Rattle.session_events.proofs.Vocabulary.{if_false, StepOutput, State, Stands, HasDone}
use Rattle.terminal_model.specs.Writing.{Output}
use Rattle.session_model.specs.rows.WindowsFault.TheVariants as fault
use Rattle.session_model.specs.Tables.{window_at}
use Rattle.session_model.specs.Deeds.{input_of}
use Rattle.session_model.specs.Comings.{outputs}
use Rattle.windows.specs.declared.window.Window.{Window as Row}
use Rattle.windows.specs.Standing.{serial, written, written_to, fed_in}
use Rattle.windows.proofs.Callers.{row_done}
use Rattle.windows_model.proofs.Serials.{serial_is}

-- bytes for a window's program
pub no_input : (w : ℕ) (bytes : List ℕ) → (length bytes == 0) ≡ true → input_of w bytes ≡ []
no_input w bytes is = if_true (length bytes == 0) [] (Input w bytes ∷ []) is

pub some_input : (w : ℕ) (bytes : List ℕ) → (length bytes == 0) ≡ false
    → input_of w bytes ≡ Input w bytes ∷ []
some_input w bytes is = if_false (length bytes == 0) [] (Input w bytes ∷ []) is

-- what a push that can't fail leaves
pub pushed : {A B E : Type 0} (r : Result B E) (b : B) (items more old : List A) → r ≡ Ok b
    → items ≡ (if is_ok r then more else old) → items ≡ more
pushed r b items more old is made = made ∙ ap (λ x. if is_ok x then more else old) is

module _ (t : Tables) (window : ℕ) (w : Window) (bytes : List ℕ)
    (here : window_at t window ≡ Some w) where
  serial_of_row : w.serial ≡ window
  serial_of_row = serial_is (λ (v : Window). v.serial) t.windows window w here

  pub fed_done : {A : Type 0} (a : A) (s : State) (ws : List Row) (before after : StepOutput)
      → Stands t s → AnsweredIfRoom (fed_in window bytes t.windows) (Ok a) ws
      → after.acts.items ≡ before.acts.items
      → after.effects.items
      ≡ before.effects.items ++ input_of window (reads (terminal_of w) bytes).reports
      → HasDone t (outputs t w bytes) (record s { windows = ws }) before after
  fed_done a s ws before after st by quiet told =
      let row = row_done t.windows window (written (Output bytes)) w here a ws by in
      let same : row.0 ≡ written_to (Output bytes) w = sym (cc (row.1)) in
      let on : StandFor (with_row serial t.windows window (written_to (Output bytes) w)) ws =
      subst (λ (n : Window). StandFor (with_row serial t.windows window n) ws) same row.2 in
      record {
        stands = record {
          acl = st.acl;
          locks = st.locks;
          multiuser_is = st.multiuser_is;
          windows =
              subst (λ n. StandFor (with_row serial t.windows n (written_to (Output bytes) w)) ws)
              (sym serial_of_row) on;
          clients = st.clients;
          next_window_is = st.next_window_is;
          next_client_is = st.next_client_is;
        };
        acts = quiet ∙ sym (append-nil _);
        effects =
            told
            ∙ ap (λ n. before.effects.items ++ input_of n (reads (terminal_of w) bytes).reports)
            (sym serial_of_row);
      }
