-- Sessions that are alike.
use Rattle.std.specs.Prelude.{◌≡◌, ◌⊎◌, ℕ, ◌+◌, List, ◌++◌, codes, decimal, map}
use Rattle.std.specs.Option.{option_map}
use Rattle.keys.specs.Grammar.{items}
use Rattle.terminal_model.specs.Reading.{Terminal, reads}
use Rattle.terminal_model.specs.Writing.{Writing, writes_all}
use Rattle.windows_model.specs.Matched.{Matched}
use Rattle.session_model.specs.Tables.{Window, Client, Tables}
use Rattle.session_model.specs.Terminals.{terminal_of}
use Rattle.session_model.specs.Texts.{separated}
use Rattle.session_alike.specs.Renaming.{Renaming, layout_as}
use Rattle.session_alike.specs.Histories.{HistoriesAlike}

-- whatever is written to both terminals later, they show and answer the same
pub record TerminalsAlike (a b : Terminal) : Type 0 where
  pub screens : (later : List Writing)
      → (writes_all b later).terminal.screen ≡ (writes_all a later).terminal.screen
  pub reports : (later : List Writing) (bytes : List ℕ)
      → (reads (writes_all b later).terminal bytes).reports
      ≡ (reads (writes_all a later).terminal bytes).reports

-- two windows with the same number and title, whose terminals are alike
pub record WindowsAlike (n : Renaming) (w v : Window) : Type 0 where
  pub serial : v.serial ≡ n.window w.serial
  pub number : v.number ≡ w.number
  pub title : v.title ≡ w.title
  pub terminal : TerminalsAlike (terminal_of w) (terminal_of v)

-- Two clients of the same user, with terminals of the same size, the same pages and messages, and the
-- same open at the end of their keys. What was drawn to them may differ.
pub record ClientsAlike (n : Renaming) (c d : Client) : Type 0 where
  pub serial : d.serial ≡ n.client c.serial
  pub user : d.user ≡ c.user
  pub rows : d.rows ≡ c.rows
  pub columns : d.columns ≡ c.columns
  pub keys : (items d.keys).1 ≡ (items c.keys).1
  pub layout : d.layout ≡ layout_as n c.layout
  pub last : d.last ≡ option_map n.window c.last
  pub former : d.former ≡ option_map n.window c.former
  pub message : d.message ≡ c.message

-- Two sessions of one owner and edition, in the same mode, whose acts answer alike. Their windows and
-- clients are alike, one by one in the order of their serials, and those that come next will be.
pub record TablesAlike (n : Renaming) (t u : Tables) : Type 0 where
  pub owner : u.owner ≡ t.owner
  pub edition : u.edition ≡ t.edition
  pub is_multiuser : u.is_multiuser ≡ t.is_multiuser
  pub acts : HistoriesAlike n t.edition t.owner t.acts u.acts
  pub windows : Matched (WindowsAlike n) t.windows u.windows
  pub clients : Matched (ClientsAlike n) t.clients u.clients
  pub next_windows : (i : ℕ) → n.window (t.next_window + i) ≡ u.next_window + i
  pub next_clients : (i : ℕ) → n.client (t.next_client + i) ≡ u.next_client + i

-- ---- texts

-- a list of clients: for each one its serial, a blank and the rest of its item
abbrev pub line_of : ℕ × List ℕ → List ℕ
line_of item = decimal item.0 ++ (codes " " ++ item.1)

abbrev pub listed : List (ℕ × List ℕ) → List ℕ
listed items = separated (codes "  ") (map line_of items)

abbrev pub item_as : Renaming → ℕ × List ℕ → ℕ × List ℕ
item_as n item = (n.client item.0, item.1)

-- two lists of clients that differ in the serials alone, as `displays` gives them
pub record ListsAlike (n : Renaming) (x y : List ℕ) : Type 0 where
  pub items : List (ℕ × List ℕ)
  pub this : x ≡ listed items
  pub other : y ≡ listed (map (item_as n) items)

-- the same text, or lists of clients that differ in the serials alone
abbrev pub TextsAlike : Renaming → List ℕ → List ℕ → Type 0
TextsAlike n x y = (y ≡ x) ⊎ ListsAlike n x y
