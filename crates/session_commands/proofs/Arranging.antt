-- A deed that changes a client's page changes the row of the model's client.
use Rattle.session_commands.proofs.Vocabulary.{◌≡◌, ◌∙◌, ℕ, List, Some, true, ap, refl, sym, Way, Arrangement}
use Rattle.session_commands.proofs.Vocabulary.{split_focused, split_fault, has_room, row_of, with_row, with_layout}
use Rattle.session_commands.proofs.Vocabulary.{Client, ClientStands, Changes, serial_of}
use Rattle.session_model.specs.Tables as model
use Rattle.windows_model.proofs.Matching.{row_there}
use Rattle.windows_model.proofs.Serials.{with_back}
use Rattle.session_state.specs.Moves.{moved_to}
use Rattle.session_state.proofs.Changing.{changed, model_serial, serials}
use Rattle.session_state.proofs.Keeping.{keeps_moved, room_alike, fault_alike}

-- the page of a row that was found is another one
pub found_arranged : (F : Arrangement → Arrangement) (old new : List Client) (serial : ℕ) (x : Client)
    (l : Arrangement) → row_of serial_of old serial ≡ Some x → l ≡ F x.layout
    → new ≡ with_row serial_of old serial (moved_to l x)
    → ((m : model.Client) → ClientStands m x → has_room (F m.layout).shape m.rows m.columns ≡ true)
    → Changes (λ m. with_layout (F m.layout) m) serial old new
found_arranged F old new serial x l at same is room =
    changed (λ (k : model.Client). with_layout (F k.layout) k) old new serial x (moved_to l x) at is
    (λ m st. keeps_moved (F m.layout) l m x (moved_to l x) (same ∙ ap F st.layout_is) (room m st) refl st)

-- so is that of any row of the serial
pub arranged_by : (F : Arrangement → Arrangement) (old new : List Client) (serial : ℕ)
    → ((x : Client) → row_of serial_of old serial ≡ Some x → (l : Arrangement) × (l ≡ F x.layout)
    × (new ≡ with_row serial_of old serial (moved_to l x)))
    → ((m : model.Client) (x : Client) → ClientStands m x
    → has_room (F m.layout).shape m.rows m.columns ≡ true)
    → Changes (λ m. with_layout (F m.layout) m) serial old new
arranged_by F old new serial on room rows m st there =
    let found = row_there ClientStands model_serial serial_of serials rows old serial m st there in
    let page = on found.0 found.1 in
    found_arranged F old new serial found.0 page.0 found.1 page.1 page.2 (λ k s. room k found.0 s) rows m st there

-- a page that stays as it is
pub page_kept : (old new : List Client) (serial : ℕ) (x : Client) (l : Arrangement)
    → row_of serial_of old serial ≡ Some x → l ≡ x.layout
    → new ≡ with_row serial_of old serial (record x { layout = l }) → new ≡ old
page_kept old new serial x l at same is =
    is
    ∙ (ap (λ (k : Arrangement). with_row serial_of old serial (record x { layout = k })) same
    ∙ with_back serial_of old serial x at)

-- ---- a split

-- it is refused by a row as by the model's client that the row stands for
pub split_alike : (way : Way) (m : model.Client) (x : Client) (rows columns : ℕ) → ClientStands m x
    → rows ≡ x.shadow.rows → columns ≡ x.shadow.columns
    → split_fault way x.layout rows columns ≡ split_fault way m.layout m.rows m.columns
split_alike way m x rows columns st high wide =
    ap (λ a. split_fault way x.layout a columns) high
    ∙ (ap (λ b. split_fault way x.layout x.shadow.rows b) wide ∙ fault_alike way m x st)

-- it leaves room on the model's page
pub split_roomy : (way : Way) (m : model.Client) (x : Client) (l : Arrangement) (rows columns : ℕ)
    → l ≡ split_focused way x.layout → rows ≡ x.shadow.rows → columns ≡ x.shadow.columns
    → has_room l.shape rows columns ≡ true → ClientStands m x
    → has_room (split_focused way m.layout).shape m.rows m.columns ≡ true
split_roomy way m x l rows columns same high wide room st =
    let halves : Arrangement = split_focused way x.layout in
    room_alike (split_focused way) m x st
    (sym
    (ap (λ (k : Arrangement). has_room k.shape rows columns) same
    ∙ (ap (λ a. has_room halves.shape a columns) high ∙ ap (λ b. has_room halves.shape x.shadow.rows b) wide))
    ∙ room)
