-- What is written to a window's terminal.
use Rattle.windows.proofs.Vocabulary.{◌≡◌, ℕ, true, false, List, [], ◌∷◌, refl, ap, sym, subst, ◌∙◌, Ok, Writing}
use Rattle.windows.proofs.Vocabulary.{Output, IsWriting, writes, writes_all, writing_in, terminal_of, is_title, if_true}
use Rattle.windows.proofs.Vocabulary.{Window, WindowStands, written_to, retitled, new_row, HasFed}
use Rattle.std.specs.String.{string_bytes}
use Rattle.terminal_model.specs.Screen.{starting}
use Rattle.terminal_model.specs.Reading.{Terminal, ready, nothing_read, IsTerminal}
use Rattle.terminal_model.specs.Drawable.{IsDrawableScreen}
use Rattle.terminal_model.proofs.Readings.{writes_all-append}
use Rattle.terminal_model.proofs.DrawableScreens.{drawable-starting}
use Rattle.terminal_model.proofs.DrawableTerminals.{drawable-writes_all}
use Rattle.emulator.specs.Standing as emulator
use Rattle.emulator.specs.Standing.{Parts}
use Rattle.emulator.specs.declared.emulator.Writing.{Writing as Commanded}
use Rattle.emulator.specs.declared.emulator.Writing.TheVariants.{Clear, Reset, Encoding}
use Rattle.windows_model.specs.Table as model

one_writing : (t : Terminal) (what : Writing) → (writes_all t (what ∷ [])).terminal ≡ (writes t what).terminal
unfolding writes_all
one_writing t what = refl

no_writing : (t : Terminal) → writes_all t [] ≡ nothing_read t
unfolding writes_all
no_writing t = refl

-- the terminal reads one more writing after those before it
terminal_then : (m : model.Window) (what : Writing)
    → terminal_of (written_to what m) ≡ (writes (terminal_of m) what).terminal
terminal_then m what =
    ap (λ r. r.terminal) (writes_all-append (ready (starting m.rows m.columns m.keep)) m.writing (what ∷ []))
    ∙ one_writing (terminal_of m) what

stays_drawable : (t : Terminal) (what : Writing) → IsWriting what → IsTerminal t → IsDrawableScreen t.screen
    → IsDrawableScreen (writes t what).terminal.screen
stays_drawable t what is k h = subst (λ (u : Terminal). IsDrawableScreen u.screen) (one_writing t what)
    (drawable-writes_all t (what ∷ []) (is, tt) k h)

-- an emulator whose terminal has read a writing stands for the window to which it was written
pub stands_written : (m : model.Window) (w : Window) (e : Parts) (what : Writing) → IsWriting what → WindowStands m w
    → emulator.StandsFor e (writes (terminal_of m) what).terminal
    → WindowStands (written_to what m) (record w { emulator = e })
stands_written m w e what is st on = record {
  serial_is = st.serial_is;
  number_is = st.number_is;
  title_is = st.title_is;
  stands = subst (λ t. emulator.StandsFor e t) (sym (terminal_then m what)) on;
  drawable = subst (λ (t : Terminal). IsDrawableScreen t.screen) (sym (terminal_then m what))
      (stays_drawable (terminal_of m) what is st.stands.terminal st.drawable);
}

pub fed : (w : Window) (e : Parts) (bytes before after : List ℕ)
    → ((t : Terminal) → emulator.StandsFor w.emulator t → emulator.HasRead t bytes before e after)
    → HasFed w bytes before after (record w { emulator = e })
fed w e bytes before after reading = record {
  writes = λ m st. stands_written m w e (Output bytes) tt st (reading (terminal_of m) st.stands).stands;
  reports = λ m st. (reading (terminal_of m) st.stands).reports;
}

-- the emulator of a new window has read nothing
pub stands_new : (s number rows columns keep : ℕ) (title : List ℕ) (w : Window) → w.serial ≡ s → w.number ≡ number
    → string_bytes w.title ≡ title
    → emulator.StandsFor w.emulator (ready (starting rows columns keep))
    → WindowStands (new_row s number rows columns keep title) w
stands_new s number rows columns keep title w serial_is number_is title_is on =
    let blank = ready (starting rows columns keep) in
    let unwritten : terminal_of (new_row s number rows columns keep title) ≡ blank = ap (λ r. r.terminal)
    (no_writing blank) in
    record {
      serial_is = serial_is;
      number_is = number_is;
      title_is = title_is;
      stands = subst (λ t. emulator.StandsFor w.emulator t) (sym unwritten) on;
      drawable = subst (λ (t : Terminal). IsDrawableScreen t.screen) (sym unwritten)
          (drawable-starting rows columns keep);
    }

-- a window gets another title
pub retitled_ok : (m : model.Window) (title : List ℕ) → is_title title ≡ true
    → retitled title m ≡ Ok (record m { title = title })
retitled_ok m title good = if_true (is_title title) _ _ good

pub stands_retitled : (m : model.Window) (w new : Window) (title : List ℕ) → WindowStands m w → new.serial ≡ w.serial
    → new.number ≡ w.number → string_bytes new.title ≡ title → new.emulator ≡ w.emulator
    → WindowStands (record m { title = title }) new
stands_retitled m w new title st serial number is same = record {
  serial_is = serial ∙ st.serial_is;
  number_is = number ∙ st.number_is;
  title_is = is;
  stands = subst (λ e. emulator.StandsFor e (terminal_of m)) (sym same) st.stands;
  drawable = st.drawable;
}

-- what a command writes is no change of size
pub is_writing : (what : Commanded) → IsWriting (writing_in what)
is_writing Clear = tt
is_writing Reset = tt
is_writing (Encoding coding) = tt
