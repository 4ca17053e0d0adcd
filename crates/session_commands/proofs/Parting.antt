-- Clients that go one after another leave the rows, acts and effects of the definitions' deed.
use Rattle.session_commands.proofs.Vocabulary.{◌≡◌, ◌∙◌, ℕ, ◌+◌, ◌<◌, Bool, true, false, not, List, [], ◌∷◌, ◌++◌, refl}
use Rattle.session_commands.proofs.Vocabulary.{ap, sym, subst, map, filter, length, take, reverse, append-nil, arith}
use Rattle.session_commands.proofs.Vocabulary.{get_or, if◌then◌else◌, ◌==◌, AllByRecursion, list_any, nat_tests}
use Rattle.session_commands.proofs.Vocabulary.{map-append, UserId, Edition, Act, Parted, History, followed_by, IsAside}
use Rattle.session_commands.proofs.Vocabulary.{StandsFor-all_aside, clients_of, LocksStandFor, Locks, ClientsStandFor}
use Rattle.session_commands.proofs.Vocabulary.{Gone, Reason, Tables, parts, AreFit, Rises, mapped_match, Client}
use Rattle.session_commands.proofs.Vocabulary.{ClientStands, AreClients, Keeps, State, Stands, TellsLocks, goes}
use Rattle.session_commands.proofs.Vocabulary.{goes_now, gone_now, parted_now, attached_now}
use Rattle.std.proofs.Common.{add-one}
use Rattle.std.specs.Prelude.{◌||◌}
use Rattle.std.proofs.Math.Seq.{take-suc}
use Rattle.std.proofs.lemmas.List.{reverse-append}
use Rattle.std.proofs.lemmas.List.Elements.{filter-append}
use Rattle.std.proofs.lemmas.List.Folds.{list_any-append}
use Rattle.rights.specs.Clients.{Differ}
use Rattle.session_model.specs.declared.event.Peer.TheVariants as peer
use Rattle.session_model.specs.Tables as model
use Rattle.session_model.specs.Sound.{client_serials}
use Rattle.windows_model.proofs.Matching.{filter_match}
use Rattle.session_state.specs.Doing.{did}
use Rattle.session_commands.specs.declared.going.Going.{Going}
use Rattle.session_commands.specs.Going.{takes, parting}

-- ---- the code's rows and the definitions'

goes_same : (g : Going) (m : model.Client) (c : Client) → ClientStands m c → goes_now g c ≡ goes g m
goes_same g m c st = ap (λ n. takes g n c.user) st.serial_is ∙ ap (λ u. takes g m.serial u) st.user_is

-- what is made of the serials of the clients that go
pub going_same : {X : Type 0} (f : ℕ → X) (g : Going) (rows : List model.Client) (cs : List Client) → AreClients rows cs
    → map (λ (c : Client). f c.serial) (filter (goes_now g) cs) ≡ map (λ (m : model.Client). f m.serial)
    (filter (goes g) rows)
going_same f g rows cs st =
    mapped_match ClientStands (λ (m : model.Client). f m.serial) (λ (c : Client). f c.serial)
    (λ m c is. ap f is.serial_is) _ _ (filter_match ClientStands (goes g) (goes_now g) (goes_same g) rows cs st)

attached_same : (rows : List model.Client) (cs : List Client) → AreClients rows cs
    → attached_now cs ≡ map (λ (m : model.Client). (m.serial, m.user)) rows
attached_same rows cs st =
    mapped_match ClientStands (λ (m : model.Client). (m.serial, m.user)) (λ (c : Client). (c.serial, c.user))
    (λ m c is. ap (λ n. (n, c.user)) is.serial_is ∙ ap (λ u. (m.serial, u)) is.user_is) rows cs st

-- ---- rows of the clients that are attached

any_back : {A : Type 0} (p : A → Bool) (xs : List A) → list_any p xs ≡ false → list_any p (reverse xs) ≡ false
any_back p [] none = refl
any_back p (x ∷ xs) none =
    ap (list_any p) (reverse-append (x ∷ []) xs) ∙ list_any-append p (reverse xs) (x ∷ [])
    ∙ on (p x) none (any_back p xs) where
      on : (b : Bool) → (b || list_any p xs) ≡ false → (list_any p xs ≡ false → list_any p (reverse xs) ≡ false)
          → (list_any p (reverse xs) || (b || false)) ≡ false
      on true is back = absurd (cc (is))
      on false is back = ap (λ a. a || false) (back is)

differ_more : (xs : List (ℕ × UserId)) (x : ℕ × UserId) → Differ xs → list_any (λ d. d.0 == x.0) xs ≡ false
    → Differ (xs ++ x ∷ [])
differ_more [] x apart none = (refl, tt)
differ_more (y ∷ xs) x apart none = on (y.0 == x.0) refl none (differ_more xs x apart.1) where
  other : (a b : ℕ) → (a == b) ≡ false → (b == a) ≡ false
  other a b is = grind (arith, nat_tests, is)

  on : (b : Bool) → (y.0 == x.0) ≡ b → (b || list_any (λ d. d.0 == x.0) xs) ≡ false
      → (list_any (λ d. d.0 == x.0) xs ≡ false → Differ (xs ++ x ∷ [])) → Differ (y ∷ (xs ++ x ∷ []))
  on true is all rest = absurd (cc (all))
  on false is all rest = (
    list_any-append (λ (d : ℕ × UserId). d.0 == y.0) xs (x ∷ [])
        ∙ ap (λ b. b || ((x.0 == y.0) || false)) apart.0 ∙ ap (λ b. b || false) (other y.0 x.0 is),
    rest all,
  )

abbrev pairs : List model.Client → List (ℕ × UserId)
pairs rows = map (λ (m : model.Client). (m.serial, m.user)) rows

none_above : (n : ℕ) (rows : List model.Client) → AllByRecursion (λ m. n < m) (client_serials rows)
    → list_any (λ d. d.0 == n) (pairs rows) ≡ false
none_above n [] all = refl
none_above n (m ∷ rows) all =
    ap (λ b. b || list_any (λ d. d.0 == n) (pairs rows)) (above n m.serial all.0) ∙ none_above n rows all.1 where
      above : (a b : ℕ) → a < b → (b == a) ≡ false
      above a b lt = grind (arith, nat_tests, lt)

rising_differ : (rows : List model.Client) (next : ℕ) → Rises (client_serials rows) next
    → Differ (reverse (pairs rows))
rising_differ [] next rises = tt
rising_differ (m ∷ rows) next rises =
    subst Differ (sym (reverse-append ((m.serial, m.user) ∷ []) (pairs rows)))
    (differ_more (reverse (pairs rows)) (m.serial, m.user) (rising_differ rows next rises.2)
    (any_back (λ (d : ℕ × UserId). d.0 == m.serial) (pairs rows) (none_above m.serial rows rises.1)))

-- the rows of all clients, the last one first
pub rows_stand : (rows : List model.Client) (cs : List Client) (found : List (ℕ × UserId)) (h : History) (next : ℕ)
    → AreClients rows cs → found ≡ reverse (attached_now cs) → Rises (client_serials rows) next
    → clients_of h ≡ reverse (pairs rows) → ClientsStandFor found h
rows_stand rows cs found h next st is rises are =
    let same : found ≡ reverse (pairs rows) = is ∙ ap reverse (attached_same rows cs st) in
    (same ∙ sym are, subst Differ (sym same) (rising_differ rows next rises))

pub row_more : (cs : List Client) (c : Client)
    → reverse (attached_now (cs ++ c ∷ [])) ≡ (c.serial, c.user) ∷ reverse (attached_now cs)
row_more cs c =
    ap reverse (map-append (λ (d : Client). (d.serial, d.user)) cs (c ∷ []))
    ∙ reverse-append (attached_now cs) ((c.serial, c.user) ∷ [])

-- ---- one after another

module _ (g : Going) (xs : List Client) (c : Client) where
  going_more : goes_now g c ≡ true → filter (goes_now g) (xs ++ c ∷ []) ≡ filter (goes_now g) xs ++ c ∷ []
  going_more goes =
      filter-append (goes_now g) xs (c ∷ [])
      ∙ ap (λ b. filter (goes_now g) xs ++ (if b then c ∷ [] else [])) goes

  pub parted_more : goes_now g c ≡ true → parted_now g (xs ++ c ∷ []) ≡ parted_now g xs ++ Parted c.serial ∷ []
  parted_more goes = ap (map parting) (going_more goes) ∙ map-append parting (filter (goes_now g) xs) (c ∷ [])

  pub parted_same : goes_now g c ≡ false → parted_now g (xs ++ c ∷ []) ≡ parted_now g xs
  parted_same stays =
      ap (map parting) (filter-append (goes_now g) xs (c ∷ [])
      ∙ ap (λ b. filter (goes_now g) xs ++ (if b then c ∷ [] else [])) stays ∙ append-nil (filter (goes_now g) xs))

pub at_place : {A : Type 0} (xs : List A) (i : ℕ) (x : A) → i < length xs → x ≡ get_or xs i x
    → take (i + 1) xs ≡ take i xs ++ x ∷ []
at_place xs i x inside is =
    ap (λ k. take k xs) (add-one i) ∙ take-suc xs i x inside ∙ ap (λ y. take i xs ++ y ∷ []) (sym is)

-- ---- the tables

pub aside_parted : (ms : List model.Client) → AllByRecursion IsAside (map (λ (m : model.Client). Parted m.serial) ms)
aside_parted [] = tt
aside_parted (m ∷ ms) = (tt, aside_parted ms)

module _ (g : Going) (rows : List model.Client) (cs : List Client) (st : AreClients rows cs) where
  pub parted_are : parted_now g cs ≡ map (λ (m : model.Client). Parted m.serial) (filter (goes g) rows)
  parted_are = going_same Parted g rows cs st

  pub gone_are : (why : Reason)
      → map (gone_now why) (filter (goes_now g) cs) ≡ map (λ (m : model.Client). Gone (peer.Client m.serial) why)
      (filter (goes g) rows)
  gone_are why = going_same (λ n. Gone (peer.Client n) why) g rows cs st

  -- the locks stand for the tables once they are told, also after other acts of these clients
  pub locks_told : (found : List (ℕ × UserId)) (old new : Locks) (edition : Edition) (owner : UserId) (h : History)
      (next : ℕ) → found ≡ reverse (attached_now cs) → TellsLocks (parted_now g cs) found old new
      → Rises (client_serials rows) next → clients_of h ≡ reverse (pairs rows) → LocksStandFor old edition owner h
      → LocksStandFor new edition owner
      (followed_by h (map (λ (m : model.Client). Parted m.serial) (filter (goes g) rows)))
  locks_told found old new edition owner h next is tells rises are stand =
      subst (λ acts. LocksStandFor new edition owner (followed_by h acts)) parted_are
      (tells edition owner h stand (rows_stand rows cs found h next st is rises are))

pub went : (t : Tables) (g : Going) (why : Reason) (s : State) (cs : List Client) (found : List (ℕ × UserId))
    (locks : Locks) (clients : List Client) → cs ≡ s.clients → Stands t s → AreFit t
    → found ≡ reverse (attached_now cs) → TellsLocks (parted_now g cs) found s.locks locks
    → Keeps (λ m. not (goes g m)) s.clients clients
    → Stands (did t (parts (goes g) why t)) (record s { locks = locks; clients = clients })
went t g why s cs found locks clients same st fit is tells keeps =
    let acts : List Act = map (λ (m : model.Client). Parted m.serial) (filter (goes g) t.clients) in
    let are : AreClients t.clients cs = subst (λ xs. AreClients t.clients xs) (sym same) st.clients in
    record {
      acl = StandsFor-all_aside s.acl t.edition t.owner t.acts acts (aside_parted (filter (goes g) t.clients)) st.acl;
      locks = locks_told g t.clients cs are found s.locks locks t.edition t.owner t.acts t.next_client is tells
          fit.sound.clients_rise fit.agree.clients_are st.locks;
      multiuser_is = st.multiuser_is;
      windows = st.windows;
      clients = keeps t.clients st.clients;
      next_window_is = st.next_window_is;
      next_client_is = st.next_client_is;
    }
