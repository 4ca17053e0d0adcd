-- Windows that are closed, one or all, leave what the definitions' deeds leave.
use Rattle.session_commands.proofs.Vocabulary.{◌≡◌, ◌∙◌, ℕ, ◌<◌, Bool, true, false, not, List, [], ◌∷◌, ◌++◌, Option}
use Rattle.session_commands.proofs.Vocabulary.{Some, None, Ok, Err, refl, ap, sym, subst, map, filter, arith}
use Rattle.session_commands.proofs.Vocabulary.{append_assoc, reverse, if◌then◌else◌, ◌==◌, AllByRecursion, nat_tests}
use Rattle.session_commands.proofs.Vocabulary.{map-append, UserId, Edition, Act, Closed, Parted, History, followed_by}
use Rattle.session_commands.proofs.Vocabulary.{Table, StandsFor, StandsFor-all_aside, followed_by-append, clients_of}
use Rattle.session_commands.proofs.Vocabulary.{LocksStandFor, Locks, Gone, Reason, WindowsFault, refusal_of, NoWindow}
use Rattle.session_commands.proofs.Vocabulary.{Tables, window_at, row_of, Rises, Deed, is_of, removes, closes, parts}
use Rattle.session_commands.proofs.Vocabulary.{serial_is, StandFor, Client, AreClients, Keeps, StepOutput, State}
use Rattle.session_commands.proofs.Vocabulary.{Stands, AreFit, HasDone, Of, All, TellsLocks, attached_now, goes}
use Rattle.session_commands.proofs.Vocabulary.{goes_now, gone_now, parted_now, gone_row, closed_acts, closing}
use Rattle.acl.specs.declared.act.Act.TheVariants.{Gone}
use Rattle.acl.specs.Deeds.{Does}
use Rattle.session_model.specs.declared.event.Peer.TheVariants as peer
use Rattle.session_model.specs.declared.event.Reason.TheVariants as reason
use Rattle.session_model.specs.rows.WindowsFault.TheVariants as fault
use Rattle.session_model.specs.Tables as model
use Rattle.session_model.specs.Sound.{window_serials}
use Rattle.session_model.specs.Deeds.{both, without_window, without_windows}
use Rattle.windows_model.proofs.Serials.{is_equal}
use Rattle.windows.specs.declared.window.Window.{Window}
use Rattle.windows.specs.Standing.{closed, without}
use Rattle.session_state.specs.Clients.{ChangesAll}
use Rattle.session_commands.specs.Closing.{closed_row}
use Rattle.session_commands.specs.Settling.{Settled}
use Rattle.session_commands.proofs.Parting.{aside_parted, parted_are, gone_are, locks_told}
use Rattle.session_commands.proofs.LeavingRows.{given_some, given_none}

-- ---- one after another

pub closed_more : (ws : List Window) (w : Window) → closed_acts (ws ++ w ∷ []) ≡ closed_acts ws ++ Closed w.serial ∷ []
closed_more ws w = map-append closed_row ws (w ∷ [])

pub history_more : (h : History) (ws : List Window) (w : Window)
    → followed_by h (closed_acts (ws ++ w ∷ [])) ≡ Closed w.serial ∷ followed_by h (closed_acts ws)
history_more h ws w = ap (followed_by h) (closed_more ws w)
    ∙ followed_by-append h (closed_acts ws) (Closed w.serial ∷ [])

-- ---- the window of a serial

abbrev serial_of : model.Window → ℕ
serial_of w = w.serial

abbrev is_at : ℕ → model.Window → Bool
is_at s v = v.serial == s

later : (a b : ℕ) → a < b → (b == a) ≡ false
later a b lt = grind (arith, nat_tests, lt)

none_later : (s : ℕ) (rows : List model.Window) → AllByRecursion (λ m. s < m) (window_serials rows)
    → filter (is_at s) rows ≡ []
none_later s [] all = refl
none_later s (v ∷ rows) all =
    ap (λ b. if b then v ∷ filter (is_at s) rows else filter (is_at s) rows) (later s v.serial all.0)
    ∙ none_later s rows all.1

only_one : (rows : List model.Window) (s : ℕ) (w : model.Window) (next : ℕ) → Rises (window_serials rows) next
    → row_of serial_of rows s ≡ Some w → filter (is_at s) rows ≡ w ∷ []
only_one [] s w next rises here = absurd (cc (here))
only_one (v ∷ rows) s w next rises here = on (v.serial == s) refl here (only_one rows s w next rises.2) where
  on : (b : Bool) → (v.serial == s) ≡ b → (if b then Some v else row_of serial_of rows s) ≡ Some w
      → (row_of serial_of rows s ≡ Some w → filter (is_at s) rows ≡ w ∷ [])
      → (if b then v ∷ filter (is_at s) rows else filter (is_at s) rows) ≡ w ∷ []
  on true is now rest =
      let e : v ≡ w = cc (now) in
      ap (λ x. x ∷ filter (is_at s) rows) e
      ∙ ap (λ xs. w ∷ xs)
      (none_later s rows
      (subst (λ n. AllByRecursion (λ m. n < m) (window_serials rows)) (is_equal v.serial s is) rises.1))
  on false is now rest = rest now

module _ (t : Tables) (why : Reason) (window : ℕ) where
  there_by : (o : Option model.Window) (rows : List model.Window) → without t.windows window o ≡ Ok rows
      → (w : model.Window) × (o ≡ Some w) × (filter (λ (v : model.Window). not (v.serial == window)) t.windows ≡ rows)
  there_by None rows is = absurd (cc (is))
  there_by (Some w) rows is = (w, refl, cc (is))

  not_there : (o : Option model.Window) (f : WindowsFault) → without t.windows window o ≡ Err f → (o ≡ None)
      × (fault.NoSuchWindow ≡ f)
  not_there None f is = (refl, cc (is))
  not_there (Some w) f is = absurd (cc (is))

  -- there is no such window
  pub closing_refused : (f : WindowsFault) → closed window t.windows ≡ Err f → closing window why t ≡ Err (refusal_of f)
  closing_refused f is =
      let missing = not_there (window_at t window) f is in
      given_none (window_at t window) NoWindow (λ w. Ok (closes (λ v. v.serial == window) why t)) missing.0
      ∙ ap (λ e. Err (refusal_of e)) missing.1

  -- the window is closed
  pub closing_done : (s : State) (acl : Table) (locks : Locks) (windows : List Window) (clients : List Client)
      (before after : StepOutput) → Stands t s → AreFit t
      → ((edition : Edition) (owner : UserId) (h : History) → StandsFor s.acl edition owner h
      → StandsFor acl edition owner (Closed window ∷ h))
      → ((edition : Edition) (owner : UserId) (h : History) → LocksStandFor s.locks edition owner h
      → LocksStandFor locks edition owner (Closed window ∷ h))
      → ChangesAll (without_window window) s.clients clients
      → (rows : List model.Window) → closed window t.windows ≡ Ok rows → StandFor rows windows
      → after.acts.items ≡ before.acts.items ++ Closed window ∷ []
      → after.effects.items ≡ before.effects.items ++ Gone (peer.Window window) why ∷ []
      → Settled t (closing window why t) (Ok tt)
      (record s { acl = acl; locks = locks; windows = windows; clients = clients }) before after
  closing_done s acl locks windows clients before after st fit told locked changes rows answer stand acts effects =
      let d : Deed = closes (λ v. v.serial == window) why t in
      let there = there_by (window_at t window) rows answer in
      let w : model.Window = there.0 in
      let one : filter (is_at window) t.windows ≡ w ∷ [] = only_one t.windows window w t.next_window
      fit.sound.windows_rise there.1 in
      let same : w.serial ≡ window = serial_is serial_of t.windows window w there.1 in
      let closed_are : d.acts ≡ Closed window ∷ [] = ap (map (λ (v : model.Window). Closed v.serial)) one
      ∙ ap (λ n. Closed n ∷ []) same in
      let gone : d.effects ≡ Gone (peer.Window window) why ∷ [] = ap (map
      (λ (v : model.Window). Gone (peer.Window v.serial) why)) one
      ∙ ap (λ n. Gone (peer.Window n) why ∷ []) same in (
        d,
        given_some (window_at t window) NoWindow (λ w. Ok (closes (λ v. v.serial == window) why t)) w there.1,
        refl,
        record {
          stands = record {
            acl = subst (λ xs. StandsFor acl t.edition t.owner (followed_by t.acts xs)) (sym closed_are)
                (told t.edition t.owner t.acts st.acl);
            locks = subst (λ xs. LocksStandFor locks t.edition t.owner (followed_by t.acts xs)) (sym closed_are)
                (locked t.edition t.owner t.acts st.locks);
            multiuser_is = st.multiuser_is;
            windows = subst (λ ws. StandFor ws windows) (sym there.2) stand;
            clients = subst (λ ws. AreClients (without_windows ws t.clients) clients) (sym one)
                (subst (λ n. AreClients (map (without_window n) t.clients) clients) (sym same)
                (changes t.clients st.clients));
            next_window_is = st.next_window_is;
            next_client_is = st.next_client_is;
          };
          acts = acts ∙ ap (λ xs. before.acts.items ++ xs) (sym closed_are);
          effects = effects ∙ ap (λ xs. before.effects.items ++ xs) (sym gone);
        },
      )

-- ---- all windows

all_stay : {A : Type 0} (xs : List A) → filter (λ x. true) xs ≡ xs
all_stay [] = refl
all_stay (x ∷ xs) = ap (λ ys. x ∷ ys) (all_stay xs)

none_stay : {A : Type 0} (xs : List A) → filter (λ x. not true) xs ≡ []
none_stay [] = refl
none_stay (x ∷ xs) = none_stay xs

rows_same : {X : Type 0} (f : ℕ → X) (rows : List model.Window) (ws : List Window) → StandFor rows ws
    → map (λ (w : Window). f w.serial) ws ≡ map (λ (m : model.Window). f m.serial) rows
rows_same f [] [] st = refl
rows_same f (m ∷ rows) (w ∷ ws) st =
    ap (λ n. f n ∷ map (λ (w : Window). f w.serial) ws) st.0.serial_is
    ∙ ap (λ xs. f m.serial ∷ xs) (rows_same f rows ws st.1)
rows_same f [] (w ∷ ws) st = absurd st
rows_same f (m ∷ rows) [] st = absurd st

-- clients keep their serials
without_one : {X : Type 0} (f : ℕ → X) (n : ℕ) (ms : List model.Client)
    → map (λ (m : model.Client). f m.serial) (map (without_window n) ms) ≡ map (λ (m : model.Client). f m.serial) ms
without_one f n [] = refl
without_one f n (m ∷ ms) = ap (λ xs. f m.serial ∷ xs) (without_one f n ms)

without_same : {X : Type 0} (f : ℕ → X) (ws : List model.Window) (ms : List model.Client)
    → map (λ (m : model.Client). f m.serial) (without_windows ws ms) ≡ map (λ (m : model.Client). f m.serial) ms
without_same f [] ms = refl
without_same f (w ∷ ws) ms = without_same f ws (map (without_window w.serial) ms) ∙ without_one f w.serial ms

clients_closed : (ws : List Window) (h : History) → clients_of (followed_by h (closed_acts ws)) ≡ clients_of h
clients_closed [] h = refl
clients_closed (w ∷ ws) h = clients_closed ws (Closed w.serial ∷ h)

abbrev pub quits : Tables → Deed
quits t = both (closes (λ w. true) reason.Quit t) (parts (λ c. true) reason.Quit)

module _ (t : Tables) (ws : List Window) (cs : List Client) (windows : StandFor t.windows ws)
    (clients : AreClients t.clients cs) where
  abbrev closed_in : List model.Window
  closed_in = filter (λ w. true) t.windows

  rows_are : {X : Type 0} (f : ℕ → X)
      → map (λ (w : Window). f w.serial) ws ≡ map (λ (m : model.Window). f m.serial) closed_in
  rows_are f = rows_same f t.windows ws windows ∙ ap (map (λ (m : model.Window). f m.serial)) (sym (all_stay t.windows))

  clients_are : {X : Type 0} (f : ℕ → X) → map (λ (m : model.Client). f m.serial) (filter (goes All) t.clients)
      ≡ map (λ (m : model.Client). f m.serial) (filter (λ c. true) (without_windows closed_in t.clients))
  clients_are f =
      ap (map (λ (m : model.Client). f m.serial)) (all_stay t.clients)
      ∙ sym (without_same f closed_in t.clients)
      ∙ ap (map (λ (m : model.Client). f m.serial)) (sym (all_stay (without_windows closed_in t.clients)))

  acts_are : closed_acts ws ++ map (λ (m : model.Client). Parted m.serial) (filter (goes All) t.clients) ≡
      (quits t).acts
  acts_are =
      ap (λ xs. xs ++ map (λ (m : model.Client). Parted m.serial) (filter (goes All) t.clients)) (rows_are Closed)
      ∙ ap (λ xs. map (λ (m : model.Window). Closed m.serial) closed_in ++ xs) (clients_are Parted)

  noted_are : closed_acts ws ++ parted_now All cs ≡ (quits t).acts
  noted_are = ap (λ xs. closed_acts ws ++ xs) (parted_are All t.clients cs clients) ∙ acts_are

  effects_are : map (gone_row reason.Quit) ws ++ map (gone_now reason.Quit) (filter (goes_now All) cs) ≡
      (quits t).effects
  effects_are =
      ap (λ xs. xs ++ map (gone_now reason.Quit) (filter (goes_now All) cs)) (rows_are
      (λ n. Gone (peer.Window n) reason.Quit))
      ∙ ap (λ xs. map (λ (m : model.Window). Gone (peer.Window m.serial) reason.Quit) closed_in ++ xs)
      (gone_are All t.clients cs clients reason.Quit ∙ clients_are (λ n. Gone (peer.Client n) reason.Quit))

pub quit_done : (t : Tables) (s : State) (ws : List Window) (cs : List Client) (acl : Table) (mid locks : Locks)
    (found : List (ℕ × UserId)) (windows : List Window) (clients : List Client) (before after : StepOutput)
    → ws ≡ s.windows → cs ≡ s.clients → Stands t s → AreFit t
    → ((edition : Edition) (owner : UserId) (h : History) → StandsFor s.acl edition owner h
    → StandsFor acl edition owner (followed_by h (closed_acts ws)))
    → ((edition : Edition) (owner : UserId) (h : History) → LocksStandFor s.locks edition owner h
    → LocksStandFor mid edition owner (followed_by h (closed_acts ws)))
    → found ≡ reverse (attached_now cs) → TellsLocks (parted_now All cs) found mid locks → windows ≡ []
    → Keeps (λ c. not true) s.clients clients
    → after.acts.items ≡ before.acts.items ++ (closed_acts ws ++ parted_now All cs)
    → after.effects.items ≡ before.effects.items ++
    (map (gone_row reason.Quit) ws ++ map (gone_now reason.Quit) (filter (goes_now All) cs))
    → HasDone t (quits t) (record s { acl = acl; locks = locks; windows = windows; clients = clients }) before after
quit_done t s ws cs acl mid locks found windows clients before after same alike st fit told locked is tells none keeps
    acts effects =
    let rows : StandFor t.windows ws = subst (λ xs. StandFor t.windows xs) (sym same) st.windows in
    let are : AreClients t.clients cs = subst (λ xs. AreClients t.clients xs) (sym alike) st.clients in
    let closed_now : History = followed_by t.acts (closed_acts ws) in
    let parted : List Act = map (λ (m : model.Client). Parted m.serial) (filter (goes All) t.clients) in
    let order : followed_by closed_now parted ≡ followed_by t.acts (quits t).acts =
    sym (followed_by-append t.acts (closed_acts ws) parted) ∙ ap (followed_by t.acts) (acts_are t ws cs rows are) in
    record {
      stands = record {
        acl = subst (λ h. StandsFor acl t.edition t.owner h) order
            (StandsFor-all_aside acl t.edition t.owner closed_now parted (aside_parted (filter (goes All) t.clients))
            (told t.edition t.owner t.acts st.acl));
        locks = subst (λ h. LocksStandFor locks t.edition t.owner h) order
            (locks_told All t.clients cs are found mid locks t.edition t.owner closed_now t.next_client is tells
            fit.sound.clients_rise
            (clients_closed ws t.acts ∙ fit.agree.clients_are) (locked t.edition t.owner t.acts st.locks));
        multiuser_is = st.multiuser_is;
        windows = subst (λ xs. StandFor xs windows) (sym (none_stay t.windows))
            (subst (λ xs. StandFor [] xs) (sym none) tt);
        clients = subst (λ xs. AreClients xs clients)
            (none_stay t.clients ∙ sym (none_stay (without_windows (filter (λ w. true) t.windows) t.clients)))
            (keeps t.clients st.clients);
        next_window_is = st.next_window_is;
        next_client_is = st.next_client_is;
      };
      acts = acts ∙ ap (λ xs. before.acts.items ++ xs) (noted_are t ws cs rows are);
      effects = effects ∙ ap (λ xs. before.effects.items ++ xs) (effects_are t ws cs rows are);
    }

-- ---- a user who is gone

pub removed : (t : Tables) (user : UserId) (s : State) (cs : List Client) (found : List (ℕ × UserId)) (acl : Table)
    (mid locks : Locks) (clients : List Client) (noted : List Act) (before after : StepOutput)
    → cs ≡ s.clients → Stands t s → AreFit t → found ≡ reverse (attached_now cs)
    → TellsLocks (parted_now (Of user) cs) found s.locks mid
    → noted ≡ before.acts.items ++ parted_now (Of user) cs
    → Does s.acl acl noted after.acts.items (λ edition owner h. LocksStandFor mid edition owner h)
    (λ edition owner h. LocksStandFor locks edition owner h) (λ owner h. Gone user ∷ [])
    → Keeps (λ m. not (is_of user m)) s.clients clients
    → after.effects.items ≡ before.effects.items ++ map (gone_now reason.Removed) (filter (goes_now (Of user)) cs)
    → HasDone t (removes (Some user) t) (record s { acl = acl; locks = locks; clients = clients }) before after
removed t user s cs found acl mid locks clients noted before after alike st fit is tells acts_are does keeps effects =
    let are : AreClients t.clients cs = subst (λ xs. AreClients t.clients xs) (sym alike) st.clients in
    let parted : List Act = map (λ (m : model.Client). Parted m.serial) (filter (is_of user) t.clients) in
    let after_parting : History = followed_by t.acts parted in
    let done = does t.edition t.owner after_parting
    (StandsFor-all_aside s.acl t.edition t.owner t.acts parted (aside_parted (filter (is_of user) t.clients))
    st.acl) in
    let order : Gone user ∷ after_parting ≡ followed_by t.acts (parted ++ Gone user ∷ []) = sym
    (followed_by-append t.acts parted (Gone user ∷ [])) in
    record {
      stands = record {
        acl = subst (λ h. StandsFor acl t.edition t.owner h) order done.stands;
        locks = subst (λ h. LocksStandFor locks t.edition t.owner h) order
            (done.follower
            (locks_told (Of user) t.clients cs are found s.locks mid t.edition t.owner t.acts t.next_client is tells
            fit.sound.clients_rise fit.agree.clients_are st.locks));
        multiuser_is = st.multiuser_is;
        windows = st.windows;
        clients = keeps t.clients st.clients;
        next_window_is = st.next_window_is;
        next_client_is = st.next_client_is;
      };
      acts = done.acts
          ∙ ap (λ xs. xs ++ Gone user ∷ [])
          (acts_are ∙ ap (λ xs. before.acts.items ++ xs) (parted_are (Of user) t.clients cs are))
          ∙ append_assoc before.acts.items parted (Gone user ∷ []);
      effects = effects ∙ ap (λ xs. before.effects.items ++ xs) (gone_are (Of user) t.clients cs are reason.Removed);
    }
