-- A row that stands for the model's still does once both have changed alike, and has room for its page.
use Rattle.session_state.proofs.Vocabulary.{◌≡◌, ℕ, ◌<◌, ◌≤◌, ◌-◌, Bool, true, false, sym, ◌∙◌, Some, map, arith}
use Rattle.session_state.proofs.Vocabulary.{nat_lt, nat_tests, if◌then◌else◌, Arrangement, Terminal, StatusMessage}
use Rattle.session_state.proofs.Vocabulary.{Silence, focused, Knowledge, hearing, without_window, Client, attached}
use Rattle.session_state.proofs.Vocabulary.{moved_to, without, ClientStands}
use Rattle.std.proofs.Common.{refl, subst, ap, Option, None, []}
use Rattle.std.specs.Prelude.{◌&&◌, nat_le}
use Rattle.std.proofs.lemmas.Bool.{leb-true}
use Rattle.regions.specs.Layouts.{kept_alone, emptied}
use Rattle.regions.specs.Shapes.{region}
use Rattle.regions.specs.Pages.{has_room}
use Rattle.terminal_model.specs.Reading.{Read, nothing_read, reads}
use Rattle.session_model.specs.Tables as model
use Rattle.session_model.specs.Tables.{with_layout, last_after, former_after}
use Rattle.terminal_model.specs.Shows.{IsOfSize}
use Rattle.keys.specs.Kept as keys
use Rattle.regions.specs.Layouts.{one_region, split_fault, remove_focused}
use Rattle.regions.specs.declared.node.Way.{Way}
use Rattle.session_model.specs.Comings.{resized, is_client_size}
use Rattle.session_state.specs.Moves.{fitted}
use Rattle.session_state.specs.Clients.{IsScreen}

pub keeps_heard : (message : StatusMessage) (m : model.Client) (c d : Client)
    → d ≡ record c { message = message } → ClientStands m c → ClientStands (hearing message m) d
keeps_heard message m c d is st =
    subst (λ (x : Client). ClientStands (hearing message m) x) (sym is) (record {
      serial_is = st.serial_is;
      user_is = st.user_is;
      rows_are = st.rows_are;
      columns_are = st.columns_are;
      sized = st.sized;
      keys = st.keys;
      layout_is = st.layout_is;
      last_is = st.last_is;
      former_is = st.former_is;
      room = st.room;
      message_is = refl;
      known_is = st.known_is;
      screen = st.screen;
    })

-- both have the same new page
pub keeps_moved : (l k : Arrangement) (m : model.Client) (c d : Client) → k ≡ l
    → has_room l.shape m.rows m.columns ≡ true → d ≡ moved_to k c → ClientStands m c
    → ClientStands (with_layout l m) d
keeps_moved l k m c d same room is st =
    let f : Option ℕ = focused (record m { layout = l }) in
    subst (λ (x : Client). ClientStands (with_layout l m) x) (sym is) (record {
      serial_is = st.serial_is;
      user_is = st.user_is;
      rows_are = st.rows_are;
      columns_are = st.columns_are;
      sized = st.sized;
      keys = st.keys;
      layout_is = same;
      last_is =
          ap (λ (a : Arrangement). last_after (focused (record m { layout = a })) c.last) same
          ∙ ap (last_after f) st.last_is;
      former_is =
          ap
          (λ (a : Arrangement).
          former_after (focused (record m { layout = a })) c.last c.former) same
          ∙ (ap (λ o. former_after f o c.former) st.last_is
          ∙ ap (former_after f m.last) st.former_is);
      room = room;
      message_is = st.message_is;
      known_is = st.known_is;
      screen = st.screen;
    })

-- if a change leaves room on the row's page, it leaves room on the model's
pub room_alike : (F : Arrangement → Arrangement) (m : model.Client) (c : Client) → ClientStands m c
    → has_room (F c.layout).shape c.shadow.rows c.shadow.columns ≡ true
    → has_room (F m.layout).shape m.rows m.columns ≡ true
room_alike F m c st room =
    sym
    (ap (λ (l : Arrangement). has_room (F l).shape c.shadow.rows c.shadow.columns) st.layout_is
    ∙ (ap (λ r. has_room (F m.layout).shape r c.shadow.columns) st.rows_are
    ∙ ap (λ k. has_room (F m.layout).shape m.rows k) st.columns_are))
    ∙ room

-- with one region less there still is room
pub still_roomy : (m : model.Client) (c : Client) → ClientStands m c
    → ((rows columns : ℕ) → has_room c.layout.shape rows columns ≡ true
    → has_room (remove_focused c.layout).shape rows columns ≡ true)
    → has_room (remove_focused m.layout).shape m.rows m.columns ≡ true
still_roomy m c st room =
    subst
    (λ (l : Arrangement).
    has_room l.shape m.rows m.columns ≡ true
    → has_room (remove_focused l).shape m.rows m.columns ≡ true)
    st.layout_is (room m.rows m.columns) st.room

-- a split is refused on both for the same reason
pub fault_alike : (way : Way) (m : model.Client) (c : Client) → ClientStands m c
    → split_fault way c.layout c.shadow.rows c.shadow.columns
    ≡ split_fault way m.layout m.rows m.columns
fault_alike way m c st =
    ap (λ (l : Arrangement). split_fault way l c.shadow.rows c.shadow.columns) st.layout_is
    ∙ (ap (λ r. split_fault way m.layout r c.shadow.columns) st.rows_are
    ∙ ap (λ k. split_fault way m.layout m.rows k) st.columns_are)

-- ---- room

both_true : (a b : Bool) → (a && b) ≡ true → (a ≡ true) × (b ≡ true)
both_true true b is = (refl, is)
both_true false b is = absurd (cc (is))

and_true : (a b : Bool) → a ≡ true → b ≡ true → (a && b) ≡ true
and_true true b is h = h
and_true false b is h = absurd (cc (is))

lt_test : (m n : ℕ) → m < n → nat_lt m n ≡ true
lt_test m n lt = grind (arith, nat_tests, lt)

-- one region has room on each page of a client
pub room_for_one : (rows columns : ℕ) → is_client_size rows columns ≡ true
    → has_room region rows columns ≡ true
room_for_one rows columns sized =
    let a = both_true (nat_le 4 rows && nat_le rows 200 && nat_le 20 columns) (nat_le columns 300) sized in
    let b = both_true (nat_le 4 rows && nat_le rows 200) (nat_le 20 columns) a.0 in
    let d = both_true (nat_le 4 rows) (nat_le rows 200) b.0 in
    let high : 4 ≤ rows = leb-true 4 rows d.0 in
    let wide : 20 ≤ columns = leb-true 20 columns b.1 in
    let tall : 1 < rows - 1 = omega (arith, high) in
    let broad : 1 < columns = omega (arith, wide) in
    and_true (nat_lt 1 (rows - 1) && nat_lt 1 columns) true
    (and_true (nat_lt 1 (rows - 1)) (nat_lt 1 columns) (lt_test 1 (rows - 1) tall)
    (lt_test 1 columns broad)) refl

-- ---- a new client

pub reads_none : (t : Terminal) → reads t [] ≡ nothing_read t
unfolding reads
reads_none t = refl

-- nothing was drawn yet
pub undrawn : (rows columns : ℕ) → IsScreen rows columns None []
undrawn rows columns = record {
  agrees = λ t is.
      subst (λ (r : Read). IsOfSize rows columns r.terminal) (sym (reads_none t)) is;
  quiet = λ t is. ap (λ (r : Read). r.reports) (reads_none t);
  can_be_shown = tt;
  delivers = refl;
}

last_alone : (o : Option ℕ) → o ≡ last_after o None
last_alone None = refl
last_alone (Some w) = refl

former_alone : (o : Option ℕ) → None ≡ former_after o None None
former_alone None = refl
former_alone (Some w) = refl

pub new_stands : (c : Client) (shadow : Knowledge)
    → is_client_size shadow.rows shadow.columns ≡ true → keys.StandsFor c.keys []
    → c.shadow ≡ record { rows = shadow.rows; columns = shadow.columns; known = None }
    → c.layout ≡ one_region (record { window = c.last; back = 0 })
    → c.former ≡ None → c.message ≡ Silence
    → ClientStands (attached c.serial c.user shadow.rows shadow.columns c.last) c
new_stands c shadow sized read unknown layout former message = record {
  serial_is = refl;
  user_is = refl;
  rows_are = ap (λ (s : Knowledge). s.rows) unknown;
  columns_are = ap (λ (s : Knowledge). s.columns) unknown;
  sized = sized;
  keys = read;
  layout_is = layout;
  last_is = last_alone c.last;
  former_is = former ∙ former_alone c.last;
  room = room_for_one shadow.rows shadow.columns sized;
  message_is = message;
  known_is = ap (λ (s : Knowledge). s.known) unknown;
  screen = undrawn shadow.rows shadow.columns;
}

-- ---- another size

resized_room : (b : Bool) (l : Arrangement) (rows columns : ℕ) → has_room l.shape rows columns ≡ b
    → is_client_size rows columns ≡ true
    → has_room (if b then l else kept_alone l).shape rows columns ≡ true
resized_room true l rows columns is sized = is
resized_room false l rows columns is sized = room_for_one rows columns sized

pub keeps_resized : (rows columns : ℕ) (m : model.Client) (c d : Client)
    → is_client_size rows columns ≡ true → d ≡ fitted rows columns c → ClientStands m c
    → ClientStands (resized rows columns m) d
keeps_resized rows columns m c d sized is st =
    subst (λ (x : Client). ClientStands (resized rows columns m) x) (sym is) (record {
      serial_is = st.serial_is;
      user_is = st.user_is;
      rows_are = refl;
      columns_are = refl;
      sized = sized;
      keys = st.keys;
      layout_is =
          ap
          (λ (l : Arrangement). if has_room l.shape rows columns then l else kept_alone l)
          st.layout_is;
      last_is = st.last_is;
      former_is = st.former_is;
      room = resized_room (has_room m.layout.shape rows columns) m.layout rows columns refl sized;
      message_is = st.message_is;
      known_is = refl;
      screen = undrawn rows columns;
    })

-- ---- a window that is closed

pub keeps_without : (serial : ℕ) (m : model.Client) (c : Client) → ClientStands m c
    → ClientStands (without_window serial m) (without serial c)
keeps_without serial m c st = record {
  serial_is = st.serial_is;
  user_is = st.user_is;
  rows_are = st.rows_are;
  columns_are = st.columns_are;
  sized = st.sized;
  keys = st.keys;
  layout_is =
      ap (λ (l : Arrangement). record l { shown = map (emptied serial) l.shown }) st.layout_is;
  last_is = st.last_is;
  former_is = st.former_is;
  room = st.room;
  message_is = st.message_is;
  known_is = st.known_is;
  screen = st.screen;
}
