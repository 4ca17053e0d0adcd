-- A command that changes the row of its window, or refuses to, answers as the command's row says.
use Rattle.session_commands.proofs.Vocabulary.{◌≡◌, ℕ, Bool, List, Some, None, sym, subst, ◌∙◌, append-nil, ◌⊎◌, inl}
use Rattle.session_commands.proofs.Vocabulary.{inr, not, Result, if◌then◌else◌, Command, Writing, Windows, refusal_of}
use Rattle.session_commands.proofs.Vocabulary.{WindowsFault, Tables, Window, with_row, needs, checks, first_fault}
use Rattle.session_commands.proofs.Vocabulary.{Answer, changing, does, StandFor, Answered, serial, written, written_to}
use Rattle.session_commands.proofs.Vocabulary.{retitled, with_new_number, row_done, row_refused_as, Caller, StepOutput}
use Rattle.session_commands.proofs.Vocabulary.{State, Stands, Answers, caller_in, writing_of}
use Rattle.std.proofs.Common.{true, false, Ok, Err, refl, ap}
use Rattle.command_lang.specs.declared.command.Command.TheVariants as command
use Rattle.terminal_model.specs.Writing as terminal
use Rattle.session_model.specs.rows.WindowsFault.TheVariants.{NumberTaken, BadTitle, NoMemory}
use Rattle.session_model.specs.Tables.{with_window}
use Rattle.session_model.specs.Naming.{is_title}
use Rattle.session_model.specs.Lines as model
use Rattle.session_model.specs.Deeds.{refused_if}
use Rattle.session_model.specs.Commands.{coding_of, is_taken}
use Rattle.windows.specs.declared.window.Window.{Window as Row}
use Rattle.windows.specs.Standing.{Change, changed}
use Rattle.session_commands.specs.Written.{writes}
use Rattle.session_commands.proofs.Passing.{acted_on}
use Rattle.session_commands.proofs.Doing.{on_row}

-- the windows of a state are others
with_windows : (t : Tables) (s : State) (rows : List Window) (ws : List Row) → Stands t s
    → StandFor rows ws → Stands (record t { windows = rows }) (record s { windows = ws })
with_windows t s rows ws st on = record {
  acl = st.acl;
  locks = st.locks;
  multiuser_is = st.multiuser_is;
  windows = on;
  clients = st.clients;
  next_window_is = st.next_window_is;
  next_client_is = st.next_client_is;
}

-- what a change of a row is as an answer
abbrev pub as_answer : Tables → Result Window WindowsFault → Answer
as_answer t (Ok n) = Ok (changing (with_window t n))
as_answer t (Err f) = Err (refusal_of f)

-- what a command does is a change of the window that it acts on, whose serial stays
pub record IsChange (t : Tables) (c : Command) (change : Change) : Type 0 where
  pub needed : (needs c).window ≡ true
  pub row : (k : model.Caller) (m : Window) → k.window ≡ Some m
      → does t k c ≡ as_answer t (change m)
  pub keeps : (m n : Window) → change m ≡ Ok n → n.serial ≡ m.serial

module _ (t : Tables) (s : State) (k : Caller) (w : ℕ) (c : Command) (change : Change)
    (is : IsChange t c change) (at : k.window ≡ Some w) (st : Stands t s)
    (passed : first_fault t (checks t (caller_in t k) c) ≡ None) where
  pub change_done : {A : Type 0} (a : A) (ws : List Row) (made : StepOutput)
      → Answered (changed w change t.windows) (Ok a) ws
      → Answers t (does t (caller_in t k) c) (Ok None) (record s { windows = ws }) made made
  change_done a ws made by =
      let found = acted_on t k c w at is.needed passed in
      let m : Window = found.0 in
      let row = row_done t.windows w change m found.1.row a ws by in
      let n : Window = row.0 in (
        changing (with_window t n),
        is.row (caller_in t k) m found.1.given ∙ ap (as_answer t) row.1,
        refl,
        record {
          stands =
              with_windows t s (with_row serial t.windows n.serial n) ws st
              (subst (λ i. StandFor (with_row serial t.windows i n) ws)
              (sym (is.keeps m n row.1 ∙ found.1.serial)) row.2);
          acts = sym (append-nil _);
          effects = sym (append-nil _);
        },
      )

  pub change_refused : (f : WindowsFault) (new : State) (before after : StepOutput)
      → (f ≡ NoMemory) ⊎ (changed w change t.windows ≡ Err f)
      → Answers t (does t (caller_in t k) c) (Err (refusal_of f)) new before after
  change_refused f new before after (inl full) = inl (ap refusal_of full)
  change_refused f new before after (inr by) =
      let found = acted_on t k c w at is.needed passed in
      inr (is.row (caller_in t k) found.0 found.1.given
      ∙ ap (as_answer t) (row_refused_as t.windows w change found.0 found.1.row f by))

-- ---- what each of them changes

-- a change that a test decides
module _ (t : Tables) (f : WindowsFault) (n : Window) where
  unless_by : (b : Bool)
      → refused_if b (refusal_of f) (changing (with_window t n))
      ≡ as_answer t (if b then Err f else Ok n)
  unfolding refused_if
  unless_by true = refl
  unless_by false = refl

  where_by : (b : Bool)
      → refused_if (not b) (refusal_of f) (changing (with_window t n))
      ≡ as_answer t (if b then Ok n else Err f)
  unfolding refused_if
  where_by true = refl
  where_by false = refl

  serial_where : (b : Bool) (m : Window) → (if b then Ok n else Err f) ≡ Ok m
      → m.serial ≡ n.serial
  serial_where true m is = ap (λ (v : Window). v.serial) (sym (let e : n ≡ m = cc (is) in e))
  serial_where false m is = absurd (cc (is))

  serial_unless : (b : Bool) (m : Window) → (if b then Err f else Ok n) ≡ Ok m
      → m.serial ≡ n.serial
  serial_unless true m is = absurd (cc (is))
  serial_unless false m is = ap (λ (v : Window). v.serial) (sym (let e : n ≡ m = cc (is) in e))

pub title_changes : (t : Tables) (text : List ℕ)
    → IsChange t (command.Title text) (retitled text)
title_changes t text = record {
  needed = refl;
  row = λ k m at.
      on_row t k (λ (w : Window). refused_if (not (is_title text)) (Windows BadTitle)
      (changing (with_window t (record w { title = text })))) m at
      ∙ where_by t BadTitle (record m { title = text }) (is_title text);
  keeps = λ m n is. serial_where t BadTitle (record m { title = text }) (is_title text) n is;
}

pub number_changes : (t : Tables) (n : ℕ)
    → IsChange t (command.Number n) (with_new_number t.windows n)
number_changes t n = record {
  needed = refl;
  row = λ k m at.
      on_row t k (λ (w : Window). refused_if (is_taken t w n) (Windows NumberTaken)
      (changing (with_window t (record w { number = n })))) m at
      ∙ unless_by t NumberTaken (record m { number = n }) (is_taken t m n);
  keeps = λ m v is.
      serial_unless t NumberTaken (record m { number = n }) (is_taken t m n) v is;
}

-- what writes to a window
writing_stays : (what : Writing) (m n : Window) → written what m ≡ Ok n → n.serial ≡ m.serial
writing_stays what m n is =
    ap (λ (v : Window). v.serial) (sym (let e : written_to what m ≡ n = cc (is) in e))

pub writing_changes : (t : Tables) (c : Command) → writes c ≡ true → IsChange t c (written (writing_of c))
writing_changes t command.Clear is = record {
  needed = refl;
  row = λ k m at. on_row t k (λ (w : Window). as_answer t (written terminal.Clear w)) m at;
  keeps = writing_stays terminal.Clear;
}
writing_changes t command.Reset is = record {
  needed = refl;
  row = λ k m at. on_row t k (λ (w : Window). as_answer t (written terminal.Reset w)) m at;
  keeps = writing_stays terminal.Reset;
}
writing_changes t (command.Encoding coding) is = record {
  needed = refl;
  row = λ k m at. on_row t k (λ (w : Window). as_answer t (written (terminal.Encoding (coding_of coding)) w)) m at;
  keeps = writing_stays (terminal.Encoding (coding_of coding));
}
writing_changes t c is = absurd (cc (is))
