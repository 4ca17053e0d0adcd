-- If a client's row is replaced by one of the same client and page, the state stands for the new row.
use Rattle.session_input.proofs.Vocabulary.{◌≡◌, ℕ, suc, ◌≤◌, Bool, true, false, List, [], ◌∷◌, ◌++◌, Some, length}
use Rattle.session_input.proofs.Vocabulary.{refl, ap, sym, subst, ◌∙◌, if◌then◌else◌, ◌==◌, AllByRecursion, UserId}
use Rattle.session_input.proofs.Vocabulary.{Shown, Arrangement, Keeping, StandsFor, StatusMessage, Tables, Client}
use Rattle.session_input.proofs.Vocabulary.{client_at, row_of, with_row, with_client, Rises, serial_is, ClientStands}
use Rattle.session_input.proofs.Vocabulary.{AreClients, serials, State, Stands, AreFit, read_by}
use Rattle.std.proofs.Common.{map}
use Rattle.std.specs.Prelude.{reverse}
use Rattle.windows_model.proofs.Matching.{with_match, row_there}
use Rattle.session_state.specs.declared.client.Client.{Client as Row}
use Rattle.session_state.specs.Exchanges.{Exchanged}
use Rattle.session_model.specs.Sound.{ShowsOpen, IsOpen}
use Rattle.session_input.proofs.Telling.{stands_client}

abbrev pub serial : Client → ℕ
serial c = c.serial

abbrev pub row_serial : Row → ℕ
row_serial c = c.serial

abbrev who : Client → ℕ × UserId
who c = (c.serial, c.user)

-- ---- a row among rows

module _ {A : Type 0} (f : A → ℕ) where
  -- what the new row has in common with the old one stays
  mapped_stay : {X : Type 0} (g : A → X) (rows : List A) (n : ℕ) (old new : A)
      → row_of f rows n ≡ Some old → g new ≡ g old → map g (with_row f rows n new) ≡ map g rows
  mapped_stay g [] n old new at same = refl
  mapped_stay {X} g (r ∷ rs) n old new at same =
      on (f r == n) at (λ here. mapped_stay g rs n old new here same) where
        on : (b : Bool) → (if b then Some r else row_of f rs n) ≡ Some old
            → (row_of f rs n ≡ Some old → map g (with_row f rs n new) ≡ map g rs)
            → map g (if b then new ∷ rs else r ∷ with_row f rs n new) ≡ map g (r ∷ rs)
        on true here further =
            let e : r ≡ old = cc (here) in ap (λ (x : X). x ∷ map g rs) (same ∙ ap g (sym e))
        on false here further = ap (λ (xs : List X). g r ∷ xs) (further here)

  length_stays : (rows : List A) (n : ℕ) (new : A) → length (with_row f rows n new) ≡ length rows
  length_stays [] n new = refl
  length_stays (r ∷ rs) n new = on (f r == n) (length_stays rs n new) where
    on : (b : Bool) → length (with_row f rs n new) ≡ length rs
        → length (if b then new ∷ rs else r ∷ with_row f rs n new) ≡ length (r ∷ rs)
    on true further = refl
    on false further = ap (λ (k : ℕ). suc k) further

  module _ (P : A → Type 0) where
    all_at : (rows : List A) (n : ℕ) (x : A) → row_of f rows n ≡ Some x → AllByRecursion P rows
        → P x
    all_at [] n x at all = absurd (cc (at))
    all_at (r ∷ rs) n x at all = on (f r == n) at (λ here. all_at rs n x here all.1) where
      on : (b : Bool) → (if b then Some r else row_of f rs n) ≡ Some x
          → (row_of f rs n ≡ Some x → P x) → P x
      on true here further = let e : r ≡ x = cc (here) in subst P e all.0
      on false here further = further here

    all_with : (rows : List A) (n : ℕ) (new : A) → P new → AllByRecursion P rows
        → AllByRecursion P (with_row f rows n new)
    all_with [] n new p all = tt
    all_with (r ∷ rs) n new p all = on (f r == n) (all_with rs n new p all.1) where
      on : (b : Bool) → AllByRecursion P (with_row f rs n new)
          → AllByRecursion P (if b then new ∷ rs else r ∷ with_row f rs n new)
      on true further = (p, all.1)
      on false further = (all.0, further)

-- ---- tables

pub fit_put : (t : Tables) (n : ℕ) (c d : Client) → client_at t n ≡ Some c → d.serial ≡ n
    → d.user ≡ c.user → d.layout ≡ c.layout → AreFit t → AreFit (with_client t d)
fit_put t n c d at same user page fit =
    let here : row_of serial t.clients d.serial ≡ Some c =
    ap (row_of serial t.clients) same ∙ at in
    let kept : d.serial ≡ c.serial = same ∙ sym (serial_is serial t.clients n c at) in
    let ids : who d ≡ who c =
    ap (λ (k : ℕ). (k, d.user)) kept ∙ ap (λ (u : UserId). (c.serial, u)) user in
    record {
      sound = record {
        windows_rise = fit.sound.windows_rise;
        clients_rise = subst (λ (ns : List ℕ). Rises ns t.next_client)
            (sym (mapped_stay serial serial t.clients d.serial c d here kept))
            fit.sound.clients_rise;
        numbers = fit.sound.numbers;
        few_windows = fit.sound.few_windows;
        few_clients = subst (λ (k : ℕ). k ≤ 64)
            (sym (length_stays serial t.clients d.serial d)) fit.sound.few_clients;
      };
      agree = record {
        open_is = fit.agree.open_is;
        count_is = fit.agree.count_is;
        clients_are = fit.agree.clients_are
            ∙ sym (ap reverse (mapped_stay serial who t.clients d.serial c d here ids));
      };
      numbered = fit.numbered;
      shown = all_with serial (ShowsOpen t) t.clients d.serial d
          (subst (λ (l : Arrangement). AllByRecursion (λ (s : Shown). IsOpen t s.window) l.shown)
          (sym page) (all_at serial (ShowsOpen t) t.clients n c at fit.shown)) fit.shown;
    }

pub stands_put : (t : Tables) (s : State) (n : ℕ) (d : Client) (made : Row) (cs : List Row)
    → d.serial ≡ n → ClientStands d made → cs ≡ with_row row_serial s.clients n made
    → Stands t s → Stands (with_client t d) (record s { clients = cs })
stands_put t s n d made cs same new is st =
    stands_client t s n d cs same
    (subst (λ (xs : List Row). AreClients (with_row serial t.clients n d) xs) (sym is)
    (with_match ClientStands serial row_serial serials t.clients s.clients n d made new
    st.clients)) st

-- a client that has read these keys and says this
pub read_stands : (message : StatusMessage) (keys : List ℕ) (reader : Keeping) (c : Client) (row : Row)
    → StandsFor reader (c.keys ++ keys) → ClientStands c row
    → ClientStands (read_by message keys c) (record row { keys = reader; message = message })
read_stands message keys reader c row read st = record {
  serial_is = st.serial_is;
  user_is = st.user_is;
  rows_are = st.rows_are;
  columns_are = st.columns_are;
  sized = st.sized;
  keys = read;
  layout_is = st.layout_is;
  last_is = st.last_is;
  former_is = st.former_is;
  room = st.room;
  message_is = refl;
  known_is = st.known_is;
  screen = st.screen;
}

-- the state stands for that client once its reader and message were exchanged
pub stands_read : (t : Tables) (s : State) (n : ℕ) (c : Client) (keys : List ℕ)
    (reader then_reader : Keeping) (message then_message : StatusMessage) (cs : List Row)
    → client_at t n ≡ Some c → StandsFor reader (c.keys ++ keys)
    → ((r : Row) → row_of row_serial s.clients n ≡ Some r
    → Exchanged n r s.clients reader message cs then_reader then_message)
    → Stands t s → Stands (with_client t (read_by message keys c)) (record s { clients = cs })
stands_read t s n c keys reader then_reader message then_message cs at read put st =
    let found = row_there ClientStands serial row_serial serials t.clients s.clients n c
    st.clients at in
    let d : Client = read_by message keys c in
    let made : Row = record found.0 { keys = reader; message = message } in
    stands_put t s n d made cs (serial_is serial t.clients n c at)
    (read_stands message keys reader c found.0 read found.2) (put found.0 found.1).row st
