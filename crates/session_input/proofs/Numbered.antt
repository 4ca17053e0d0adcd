-- The window that a number names is found again by its serial.
use Rattle.session_input.proofs.Vocabulary.{◌≡◌, ◌<◌, ℕ, Bool, true, false, List, [], ◌∷◌, Option, Some, ap, sym}
use Rattle.session_input.proofs.Vocabulary.{subst, ◌∙◌, arith, ◌==◌, if◌then◌else◌, AllByRecursion, Tables, row_of}
use Rattle.session_input.proofs.Vocabulary.{window_at, with_number, Rises, both_back, if_true, State, Stands, AreFit}
use Rattle.std.proofs.lemmas.Bool.Decides.{nat_tests}
use Rattle.session_model.specs.Tables as model
use Rattle.session_model.specs.Sound.{window_serials}
use Rattle.windows_model.proofs.Serials.{if_false, same_number}
use Rattle.windows.specs.Standing.{WindowStands, Finds}
use Rattle.windows.specs.declared.window.Window.{Window}

abbrev serial : model.Window → ℕ
serial w = w.serial

-- a window that a number names is one of the rows
above : (s : ℕ) (ws : List model.Window) (n : ℕ) (w : model.Window)
    → AllByRecursion (λ (m : ℕ). s < m) (window_serials ws) → with_number ws n ≡ Some w
    → s < w.serial
above s [] n w all is = absurd (cc (is))
above s (v ∷ ws) n w all is = on (v.number == n) is (above s ws n w all.1) where
  on : (b : Bool) → (if b then Some v else with_number ws n) ≡ Some w
      → (with_number ws n ≡ Some w → s < w.serial) → s < w.serial
  on true now more = let e : v ≡ w = cc (now) in subst (λ (x : model.Window). s < x.serial) e all.0
  on false now more = more now

apart : (m n : ℕ) → m < n → (m == n) ≡ false
apart m n lt = grind (arith, nat_tests, lt)

-- its serial names the same window
number_row : (ws : List model.Window) (next n : ℕ) (w : model.Window)
    → Rises (window_serials ws) next → with_number ws n ≡ Some w
    → row_of serial ws w.serial ≡ Some w
number_row [] next n w rises is = absurd (cc (is))
number_row (v ∷ ws) next n w rises is =
    on (v.number == n) is (number_row ws next n w rises.2) where
      on : (b : Bool) → (if b then Some v else with_number ws n) ≡ Some w
          → (with_number ws n ≡ Some w → row_of serial ws w.serial ≡ Some w)
          → row_of serial (v ∷ ws) w.serial ≡ Some w
      on true now more =
          let e : v ≡ w = cc (now) in
          subst (λ (x : model.Window). row_of serial (v ∷ ws) x.serial ≡ Some x) e
          (if_true (v.serial == v.serial) (Some v) (row_of serial ws v.serial) (same_number v.serial))
      on false now more =
          if_false (v.serial == w.serial) (Some v) (row_of serial ws w.serial)
          (apart v.serial w.serial (above v.serial ws n w rises.1 now))
          ∙ more now

pub numbered_there : (t : Tables) (s : State) (n : ℕ) (found : Option Window) (w : Window)
    → Stands t s → AreFit t → Finds (λ rows. with_number rows n) s.windows found → found ≡ Some w
    → window_at t w.serial ≡ with_number t.windows n
numbered_there t s n found w st fit finds is =
    let row = both_back WindowStands (with_number t.windows n) found w (finds t.windows st.windows) is in
    ap (window_at t) row.2.serial_is
    ∙ number_row t.windows t.next_window n row.0 fit.sound.windows_rise row.1
    ∙ sym row.1
