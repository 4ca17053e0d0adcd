-- What holds of each table of windows, and what a call leaves unchanged.
use Rattle.std.specs.Prelude.{ℕ, ◌≡◌, ◌≢◌, ◌<◌, ◌==◌, not, ◌++◌, ◌∷◌, [], List, AllPairs, map, filter}
use Rattle.windows_model.specs.declared.rows.TheConstants.{WINDOWS}
use Rattle.windows_model.specs.Finding.{row_of}
use Rattle.windows.specs.declared.window.Window.{Window}

abbrev pub serial_of : Window → ℕ
serial_of w = w.serial

abbrev pub number_of : Window → ℕ
number_of w = w.number

-- serials rise, and numbers differ
pub record AreRows (ws : List Window) : Type 0 where
  pub rise : AllPairs (λ (earlier : Window) (later : Window). earlier.serial < later.serial) ws
  pub differ : AllPairs (λ (earlier : Window) (later : Window). earlier.number ≢ later.number) ws

-- the window's serial and number are unchanged
pub record KeepsName (old new : Window) : Type 0 where
  pub serial : new.serial ≡ old.serial
  pub number : new.number ≡ old.number

-- Each serial stays at its place, and the windows with other serials are unchanged.
pub record ChangesRow (serial : ℕ) (old new : List Window) : Type 0 where
  pub serials : map serial_of new ≡ map serial_of old
  pub others : (s : ℕ) → s ≢ serial → row_of serial_of new s ≡ row_of serial_of old s

-- as `ChangesRow`; also each number stays
pub record WritesRow (serial : ℕ) (old new : List Window) : Type 0 where
  pub row : ChangesRow serial old new
  pub numbers : map number_of new ≡ map number_of old

-- The window with the serial is gone; the others are unchanged and in their order.
pub record LosesRow (serial : ℕ) (old new : List Window) : Type 0 where
  pub rest : new ≡ filter (λ (w : Window). not (w.serial == serial)) old
  pub others : (s : ℕ) → s ≢ serial → row_of serial_of new s ≡ row_of serial_of old s

-- there is one window more, at the end, with this serial and with this number, which is below the
-- limit
pub record AddsRow (serial number : ℕ) (old new : List Window) : Type 0 where
  pub window : Window
  pub serial_is : window.serial ≡ serial
  pub number_is : window.number ≡ number
  pub small : number < WINDOWS
  pub last : new ≡ old ++ window ∷ []
