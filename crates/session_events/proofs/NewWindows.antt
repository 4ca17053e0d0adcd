-- A window that opens is the definitions' one, with the next serial and the lowest free number.
use Rattle.session_events.proofs.Vocabulary.{◌≡◌, ℕ, ◌+◌, ◌<◌, true, List, [], ◌∷◌, ◌++◌, length, ap, sym, subst, refl}
use Rattle.session_events.proofs.Vocabulary.{Option, Some, None, Ok, Err, ◌∙◌, append-nil, arith, ◌⊎◌, inl, inr}
use Rattle.session_events.proofs.Vocabulary.{is_some, nat_lt, ◌&&◌, ◌^◌, unwrap_or, UserId, Locks, LocksStandFor}
use Rattle.session_events.proofs.Vocabulary.{WindowsFault, refusal_of, NoMemory, Tables, Window, free_number, AreFit}
use Rattle.session_events.proofs.Vocabulary.{Rises, window_serials, StandFor, AnsweredIfRoom, if_true, StepOutput}
use Rattle.session_events.proofs.Vocabulary.{State, Stands, HasDone}
use Rattle.std.proofs.lemmas.Bool.{and_from}
use Rattle.std.proofs.lemmas.Bool.Decides.{nat_tests}
use Rattle.acl.specs.declared.act.Act.TheVariants as act
use Rattle.acl.specs.Table as acl
use Rattle.session_model.specs.rows.WindowsFault.TheVariants as fault
use Rattle.session_model.specs.Tables.{is_known}
use Rattle.session_model.specs.Naming.{is_title}
use Rattle.session_model.specs.Checks.{first_fault}
use Rattle.session_model.specs.Comings.{is_window_size, has_place, open_checks, new_window, opens}
use Rattle.windows.specs.declared.window.Window.{Window as Row}
use Rattle.windows.specs.Standing.{is_above, opened, new_row, numbered}
use Rattle.session_events.proofs.Passing.{both_passed, both_true}

-- what the checks say of a window that may open
pub record MayOpen (t : Tables) (user : UserId) (rows columns keep : ℕ) (title : List ℕ) : Type 0
  where
    pub known : is_known t user ≡ true
    pub sized : is_window_size rows columns keep ≡ true
    pub few : length t.windows < 40
    pub free : is_some (free_number t.windows) ≡ true
    pub left : nat_lt t.next_window (2 ^ 32) ≡ true
    pub titled : is_title title ≡ true

few_by : (n : ℕ) → nat_lt n 40 ≡ true → n < 40
few_by n is = grind (arith, nat_tests, is)

pub may_open : (t : Tables) (user : UserId) (rows columns keep : ℕ) (title : List ℕ)
    → first_fault t (open_checks t user rows columns keep title) ≡ None
    → MayOpen t user rows columns keep title
may_open t user rows columns keep title is =
    let known = both_passed (is_known t user) _ _ is in
    let screen = both_passed _ _ _ known.1 in
    let let_in = both_passed _ _ _ screen.1 in
    let sized = both_passed (is_window_size rows columns keep) _ _ let_in.1 in
    let placed = both_passed (has_place t.windows && nat_lt t.next_window (2 ^ 32)) _ _ sized.1 in
    let titled = both_passed (is_title title) _ _ placed.1 in
    let room = both_true (has_place t.windows) (nat_lt t.next_window (2 ^ 32)) placed.0 in
    let place =
    both_true (nat_lt (length t.windows) 40) (is_some (free_number t.windows)) room.0 in
    record {
      known = known.0;
      sized = sized.0;
      few = few_by (length t.windows) place.0;
      free = place.1;
      left = room.1;
      titled = titled.0;
    }

-- the next serial is above those of all windows
rise_above : (ws : List Window) (next : ℕ) → Rises (window_serials ws) next
    → is_above next ws ≡ true
rise_above [] next rises = refl
rise_above (w ∷ ws) next rises =
    let below : nat_lt w.serial next ≡ true = grind (arith, nat_tests, rises.0) in
    and_from (nat_lt w.serial next) (is_above next ws) below (rise_above ws next rises.2)

pub next_above : (t : Tables) (serial : ℕ) → AreFit t → serial ≡ t.next_window
    → is_above serial t.windows ≡ true
next_above t serial fit same =
    ap (λ n. is_above n t.windows) same ∙ rise_above t.windows t.next_window fit.sound.windows_rise

module _ (t : Tables) (user : UserId) (rows columns keep : ℕ) (title : List ℕ)
    (may : MayOpen t user rows columns keep title) (serial : ℕ)
    (serial_is : serial ≡ t.next_window) (above : is_above serial t.windows ≡ true) where
  numbered_by : (o : Option ℕ) → is_some o ≡ true
      → numbered t.windows o (λ n. new_row serial n rows columns keep title) title
      ≡ Ok (t.windows ++ new_row serial (unwrap_or o 0) rows columns keep title ∷ [])
  numbered_by None is = absurd (cc (is))
  numbered_by (Some n) is = if_true (is_title title) _ _ may.titled

  -- it opens
  opened_is : opened serial rows columns keep title t.windows
      ≡ Ok (t.windows ++ new_window t rows columns keep title ∷ [])
  opened_is =
      ap (λ o. numbered t.windows o (λ n. new_row serial n rows columns keep title) title)
      (if_true (is_above serial t.windows) _ _ above)
      ∙ numbered_by (free_number t.windows) may.free
      ∙ ap (λ k. Ok (t.windows
      ++ new_row k (unwrap_or (free_number t.windows) 0) rows columns keep title ∷ []))
      serial_is

  pub opened_rows : {A : Type 0} (a : A) (ws : List Row)
      → AnsweredIfRoom (opened serial rows columns keep title t.windows) (Ok a) ws
      → StandFor (t.windows ++ new_window t rows columns keep title ∷ []) ws
  opened_rows a ws by =
      let same : by.0 ≡ t.windows ++ new_window t rows columns keep title ∷ [] =
      cc (by.1, opened_is) in
      subst (λ (vs : List Window). StandFor vs ws) same by.2

  -- memory is refused
  pub unopened : (f : WindowsFault)
      → (f ≡ fault.NoMemory) ⊎ (opened serial rows columns keep title t.windows ≡ Err f)
      → refusal_of f ≡ NoMemory
  unopened f (inl full) = ap refusal_of full
  unopened f (inr by) = absurd (cc (by, opened_is))

  pub opened_done : (s : State) (a : acl.Table) (locks : Locks) (ws : List Row)
      (before after : StepOutput) → Stands t s
      → acl.StandsFor a t.edition t.owner (act.Opened user serial ∷ t.acts)
      → LocksStandFor locks t.edition t.owner (act.Opened user serial ∷ t.acts)
      → StandFor (t.windows ++ new_window t rows columns keep title ∷ []) ws
      → after.acts.items ≡ before.acts.items ++ act.Opened user serial ∷ []
      → after.effects.items ≡ before.effects.items
      → HasDone t (opens t user (new_window t rows columns keep title))
      (record s { acl = a; locks = locks; windows = ws; next_window = s.next_window + 1 }) before
      after
  opened_done s a locks ws before after st lists held on noted quiet = record {
    stands = record {
      acl =
          subst (λ n. acl.StandsFor a t.edition t.owner (act.Opened user n ∷ t.acts)) serial_is
          lists;
      locks =
          subst (λ n. LocksStandFor locks t.edition t.owner (act.Opened user n ∷ t.acts)) serial_is
          held;
      multiuser_is = st.multiuser_is;
      windows = on;
      clients = st.clients;
      next_window_is = ap (λ n. n + 1) st.next_window_is;
      next_client_is = st.next_client_is;
    };
    acts = noted ∙ ap (λ n. before.acts.items ++ act.Opened user n ∷ []) serial_is;
    effects = quiet ∙ sym (append-nil _);
  }
