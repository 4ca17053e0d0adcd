-- The window with the lowest number is open, and no window has the next serial.
use Rattle.session_events.proofs.Vocabulary.{◌≡◌, ℕ, ◌<◌, Bool, true, false, List, [], ◌∷◌, Option, Some, None, refl}
use Rattle.session_events.proofs.Vocabulary.{ap, subst, ◌∙◌, arith, is_some, if◌then◌else◌, ◌==◌, nat_lt, option_map}
use Rattle.session_events.proofs.Vocabulary.{is_open, Tables, Window, lowest, Rises, window_serials, if_true, if_false}
use Rattle.session_events.proofs.Vocabulary.{AreFit, IsOpenIn}
use Rattle.std.proofs.Common.{◌≢◌}
use Rattle.session_model.specs.Tables.{row_of}
use Rattle.session_model.specs.Naming.{lower}
use Rattle.windows_model.proofs.Serials.{same_number, other_number}

abbrev serial : Window → ℕ
serial w = w.serial

-- a window of a table has a row
found_first : (w : Window) (ws : List Window) → is_some (row_of serial (w ∷ ws) w.serial) ≡ true
found_first w ws =
    ap is_some (if_true (w.serial == w.serial) (Some w) (row_of serial ws w.serial)
    (same_number w.serial))

found_behind : (b : Bool) (w : Window) (o : Option Window) → is_some o ≡ true
    → is_some (if b then Some w else o) ≡ true
found_behind true w o is = refl
found_behind false w o is = is

lowest_there : (ws : List Window) (w : Window) → lowest ws ≡ Some w
    → is_some (row_of serial ws w.serial) ≡ true
lowest_there [] w is = absurd (cc (is))
lowest_there (v ∷ ws) w is = by (lowest ws) (lowest_there ws w) is where
  chosen : (b : Bool) (u : Window)
      → (Some u ≡ Some w → is_some (row_of serial ws w.serial) ≡ true)
      → (if b then Some u else Some v) ≡ Some w → is_some (row_of serial (v ∷ ws) w.serial) ≡ true
  chosen true u on is =
      found_behind (v.serial == w.serial) v (row_of serial ws w.serial) (on is)
  chosen false u on is =
      let same : v ≡ w = cc (is) in
      subst (λ (x : Window). is_some (row_of serial (v ∷ ws) x.serial) ≡ true) same
      (found_first v ws)

  by : (o : Option Window) → (o ≡ Some w → is_some (row_of serial ws w.serial) ≡ true)
      → lower v o ≡ Some w → is_some (row_of serial (v ∷ ws) w.serial) ≡ true
  by None on is =
      let same : v ≡ w = cc (is) in
      subst (λ (x : Window). is_some (row_of serial (v ∷ ws) x.serial) ≡ true) same
      (found_first v ws)
  by (Some u) on is = chosen (nat_lt u.number v.number) u on is

-- the window with the lowest number is open
pub lowest_open : (t : Tables) → AreFit t
    → IsOpenIn t.acts (option_map (λ (w : Window). w.serial) (lowest t.windows))
lowest_open t fit = by (lowest t.windows) refl where
  by : (o : Option Window) → lowest t.windows ≡ o
      → IsOpenIn t.acts (option_map (λ (w : Window). w.serial) o)
  by None is = tt
  by (Some w) is = fit.agree.open_is w.serial ∙ lowest_there t.windows w is

-- the serial that comes next is no window's
none_rising : (ws : List Window) (next : ℕ) → Rises (window_serials ws) next
    → row_of serial ws next ≡ None
none_rising [] next rises = refl
none_rising (w ∷ ws) next rises =
    if_false (w.serial == next) (Some w) (row_of serial ws next)
    (other_number w.serial next (λ e. below w.serial next rises.0 e))
    ∙ none_rising ws next rises.2 where
      below : (m n : ℕ) → m < n → m ≢ n
      below m n lt e = omega (arith, lt, e)

pub next_unopened : (t : Tables) → AreFit t → is_open t.acts t.next_window ≡ false
next_unopened t fit =
    fit.agree.open_is t.next_window
    ∙ ap is_some (none_rising t.windows t.next_window fit.sound.windows_rise)
