-- What holds of the tables of a run.
use Rattle.std.specs.Prelude.{◌≡◌, ◌<◌, ◌≤◌, ℕ, List, [], ◌∷◌, length, map, reverse, Option, Some, None, is_some, true}
use Rattle.std.specs.List.{AllByRecursion}
use Rattle.acl.specs.History.{is_open, open_count}
use Rattle.acl.specs.slots.TheConstants.{WINDOWS}
use Rattle.regions.specs.declared.layout.Shown.{Shown}
use Rattle.writelock.specs.Holding.{clients_of}
use Rattle.session_model.specs.declared.event.TheConstants.{CLIENTS}
use Rattle.session_model.specs.Tables.{Window, Client, Tables, window_at}
use Rattle.session_model.specs.Naming.{with_number}

-- the serials rise, and each of them is below this one
abbrev pub Rises : List ℕ → ℕ → Type 0
Rises [] next = Unit {0}
Rises (n ∷ ns) next = (n < next) × AllByRecursion (λ later. n < later) ns × Rises ns next

abbrev pub window_serials : List Window → List ℕ
window_serials windows = map (λ (w : Window). w.serial) windows

abbrev pub client_serials : List Client → List ℕ
client_serials clients = map (λ (c : Client). c.serial) clients

abbrev pub NumbersDiffer : List Window → Type 0
NumbersDiffer [] = Unit {0}
NumbersDiffer (w ∷ windows) = (with_number windows w.number ≡ None) × NumbersDiffer windows

-- Windows and clients are in the order of rising serials, and each serial was given before; no two
-- windows have the same number; and there are at most as many as a session may have.
pub record AreSoundRows
    (windows : List Window) (clients : List Client) (next_window next_client : ℕ)
    : Type 0 where
  pub windows_rise : Rises (window_serials windows) next_window
  pub clients_rise : Rises (client_serials clients) next_client
  pub numbers : NumbersDiffer windows
  pub few_windows : length windows ≤ WINDOWS
  pub few_clients : length clients ≤ CLIENTS

abbrev pub AreSound : Tables → Type 0
AreSound t = AreSoundRows t.windows t.clients t.next_window t.next_client

-- the acts of all steps agree with the tables: on which windows are open and how many they are, and
-- on which clients are attached, the newest first
pub record ActsAgree (t : Tables) : Type 0 where
  pub open_is : (window : ℕ) → is_open t.acts window ≡ is_some (window_at t window)
  pub count_is : open_count t.acts ≡ length t.windows
  pub clients_are :
      clients_of t.acts ≡ reverse (map (λ (c : Client). (c.serial, c.user)) t.clients)

-- the window is open, if one is named
abbrev pub IsOpen : Tables → Option ℕ → Type 0
IsOpen t None = Unit {0}
IsOpen t (Some window) = is_some (window_at t window) ≡ true

-- each region of the client shows an open window, or nothing
abbrev pub ShowsOpen : Tables → Client → Type 0
ShowsOpen t c = AllByRecursion (λ (s : Shown). IsOpen t s.window) c.layout.shown

-- What holds of the tables of each run: serials rise, window numbers differ and are below the
-- limit, the acts agree with the rows, and each window that a region shows is open.
pub record AreFit (t : Tables) : Type 0 where
  pub sound : AreSound t
  pub agree : ActsAgree t
  pub numbered : AllByRecursion (λ (w : Window). w.number < WINDOWS) t.windows
  pub shown : AllByRecursion (ShowsOpen t) t.clients
