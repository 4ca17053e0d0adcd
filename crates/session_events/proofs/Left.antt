-- The users who left windows by the code's rows are those by the definitions' tables.
use Rattle.session_events.proofs.Vocabulary.{◌≡◌, ◌∙◌, ℕ, ◌+◌, Bool, true, false, List, [], ◌∷◌, ◌++◌, Option, Some}
use Rattle.session_events.proofs.Vocabulary.{None, refl, ap, sym, subst, length, take, drop, append_assoc, arith, ◌≤◌}
use Rattle.session_events.proofs.Vocabulary.{Result, Ok, Err, is_ok, if◌then◌else◌, ◌&&◌, map, UserId, Edition, Act}
use Rattle.session_events.proofs.Vocabulary.{Left, History, followed_by, followed_by-append, LocksStandFor, Locks}
use Rattle.session_events.proofs.Vocabulary.{Tables, left_acts, AreClients, State, Stands, Focus, focus_now, focuses_of}
use Rattle.session_events.proofs.Vocabulary.{left_window, leaving, all_left}
use Rattle.std.proofs.Common.{◌-◌, length-drop}
use Rattle.std.specs.Prelude.{IsOk, ◌||◌, slice_get}
use Rattle.std.specs.List.{AllByRecursion, list_any}
use Rattle.std.proofs.lemmas.List.{take_all}
use Rattle.std.specs.Option.{option_and_then}
use Rattle.regions.specs.declared.layout.Shown.{Shown}
use Rattle.regions.specs.Layouts.{Arrangement}
use Rattle.acl.specs.Commands.{IsAside}
use Rattle.acl.specs.Table.{StandsFor}
use Rattle.acl.proofs.AsideLemmas.{StandsFor-all_aside}
use Rattle.acl.specs.Same.{same_user}
use Rattle.session_model.specs.Tables as model
use Rattle.session_model.specs.Tables.{focused, is_window, shows, is_in_focus}
use Rattle.session_model.specs.Deeds.{Deed}
use Rattle.session_model.specs.Outcomes.{left_acts_of}
use Rattle.windows_model.proofs.Matching.{length_match}
use Rattle.session_state.specs.declared.client.Client.{Client}
use Rattle.session_state.specs.Moves.{in_focus}
use Rattle.session_state.specs.Clients.{ClientStands}
use Rattle.session_state.specs.Doing.{did}
use Rattle.session_events.specs.Leaving.{focus_by, focus_in, ended, looks_at, shows_now}

-- ---- what is in focus

same_focus : (m : model.Client) (c : Client) → ClientStands m c → in_focus c ≡ focused m
same_focus m c st =
    ap (λ (l : Arrangement). option_and_then (λ (s : Shown). s.window) (slice_get l.shown l.focus)) st.layout_is

same_shows : (user : UserId) (w : ℕ) (m : model.Client) (c : Client) → ClientStands m c
    → shows_now user w c ≡ shows user w m
same_shows user w m c st =
    ap (λ u. same_user u user && is_window w (in_focus c)) st.user_is
    ∙ ap (λ o. same_user m.user user && is_window w o) (same_focus m c st)

now_same : (user : UserId) (w : ℕ) (rows : List model.Client) (cs : List Client) → AreClients rows cs
    → list_any (shows_now user w) cs ≡ is_in_focus rows user w
now_same user w [] [] st = refl
now_same user w (m ∷ rows) (c ∷ cs) st =
    ap (λ b. b || list_any (shows_now user w) cs) (same_shows user w m c st.0)
    ∙ ap (λ b. shows user w m || b) (now_same user w rows cs st.1)
now_same user w [] (c ∷ cs) st = absurd st
now_same user w (m ∷ rows) [] st = absurd st

before_same : (user : UserId) (w : ℕ) (rows : List model.Client)
    → list_any (looks_at user w) (focuses_of rows) ≡ is_in_focus rows user w
before_same user w [] = refl
before_same user w (m ∷ rows) = ap (λ b. shows user w m || b) (before_same user w rows)

-- ---- users who have left

by_if : (user : UserId) (w : ℕ) (a b : Bool)
    → leaving user (if a || b then (let none : Option ℕ = None in none) else Some w) ≡
    (if a || b then (let none : List Act = [] in none) else leaving user (Some w))
by_if user w true b = refl
by_if user w false true = refl
by_if user w false false = refl

one_same : (m : model.Client) (o : Option ℕ) (rows now : List model.Client) (cs : List Client) → AreClients now cs
    → leaving m.user (left_window m.user o (focuses_of rows) cs) ≡ left_acts_of m o rows now
one_same m None rows now cs st = refl
one_same m (Some w) rows now cs st =
    by_if m.user w (list_any (looks_at m.user w) (focuses_of rows)) (list_any (shows_now m.user w) cs)
    ∙ ap (λ a. if a || list_any (shows_now m.user w) cs then [] else leaving m.user (Some w))
    (before_same m.user w rows)
    ∙ ap (λ b. if is_in_focus rows m.user w || b then [] else leaving m.user (Some w)) (now_same m.user w now cs st)

-- the users who have left, by the focuses before and the clients now
pub left_same : (rows now : List model.Client) (cs : List Client) → AreClients now cs
    → all_left (focuses_of rows) cs ≡ left_acts rows now
left_same [] now cs st = refl
left_same (m ∷ rows) now cs st =
    ap (λ acts. acts ++ all_left (focuses_of rows) cs) (one_same m (focused m) rows now cs st)
    ∙ ap (λ acts. left_acts_of m (focused m) rows now ++ acts) (left_same rows now cs st)

-- ---- one focus after another

module _ (now : List Client) where
  pub one_more : (before : List Focus) (i : ℕ) (f : Focus) (so_far : List Act) → drop i before ≡ f ∷ drop (i + 1) before
      → so_far ++ all_left (drop i before) now ≡ all_left before now
      → (so_far ++ leaving f.user (left_window f.user f.window (drop (i + 1) before) now)) ++ all_left
      (drop (i + 1) before) now ≡ all_left before now
  one_more before i f so_far at is =
      append_assoc so_far (leaving f.user (left_window f.user f.window (drop (i + 1) before) now))
      (all_left (drop (i + 1) before) now)
      ∙ ap (λ fs. so_far ++ all_left fs now) (sym at) ∙ is

-- ---- what each client has in focus

focuses_same : (rows : List model.Client) (cs : List Client) → AreClients rows cs → map focus_now cs ≡ focuses_of rows
focuses_same [] [] st = refl
focuses_same (m ∷ rows) (c ∷ cs) st =
    ap (λ u. focus_by u (in_focus c) ∷ map focus_now cs) st.0.user_is
    ∙ ap (λ o. focus_by m.user o ∷ map focus_now cs) (same_focus m c st.0)
    ∙ ap (λ fs. focus_in m ∷ fs) (focuses_same rows cs st.1)
focuses_same [] (c ∷ cs) st = absurd st
focuses_same (m ∷ rows) [] st = absurd st

pub all_focused : (rows : List model.Client) (cs items : List Client) (i : ℕ) (made : List Focus) → AreClients rows cs
    → length rows ≤ 64
    → items ≡ cs → length items ≤ i → (length items ≤ 64 → made ≡ map focus_now (take i items)) → made ≡ focuses_of rows
all_focused rows cs items i made st few same past is =
    let lengths : length rows ≡ length items = sym (length_match ClientStands rows cs st) ∙ ap length (sym same) in
    is (omega arith) ∙ ap (map focus_now) (take_all i items past ∙ same) ∙ focuses_same rows cs st

-- ---- a step's end

aside_append : (xs ys : List Act) → AllByRecursion IsAside xs → AllByRecursion IsAside ys
    → AllByRecursion IsAside (xs ++ ys)
aside_append [] ys one rest = rest
aside_append (x ∷ xs) ys one rest = (one.0, aside_append xs ys one.1 rest)

aside_by : (user : UserId) (w : ℕ) (b : Bool)
    → AllByRecursion IsAside (if b then (let none : List Act = [] in none) else Left user w ∷ [])
aside_by user w true = tt
aside_by user w false = (tt, tt)

aside_one : (m : model.Client) (o : Option ℕ) (rows now : List model.Client)
    → AllByRecursion IsAside (left_acts_of m o rows now)
aside_one m None rows now = tt
aside_one m (Some w) rows now = aside_by m.user w (is_in_focus rows m.user w || is_in_focus now m.user w)

aside_left : (rows now : List model.Client) → AllByRecursion IsAside (left_acts rows now)
aside_left [] now = tt
aside_left (m ∷ rows) now = aside_append (left_acts_of m (focused m) rows now) (left_acts rows now)
    (aside_one m (focused m) rows now) (aside_left rows now)

-- the state stands for the step's last tables
pub has_ended : (t : Tables) (d : Deed) (s : State) (locks : Locks) (acts : List Act)
    → acts ≡ left_acts t.clients d.tables.clients → Stands (did t d) s
    → ((edition : Edition) (owner : UserId) (h : History) → LocksStandFor s.locks edition owner h
    → LocksStandFor locks edition owner (followed_by h acts))
    → Stands (ended t d) (record s { locks = locks })
has_ended t d s locks acts are st told =
    let left : List Act = left_acts t.clients d.tables.clients in
    let order : followed_by t.acts (d.acts ++ left) ≡ followed_by (followed_by t.acts d.acts) left = followed_by-append
    t.acts d.acts left in
    record {
      acl = subst (λ h. StandsFor s.acl d.tables.edition d.tables.owner h) (sym order)
          (StandsFor-all_aside s.acl d.tables.edition d.tables.owner (followed_by t.acts d.acts) left
          (aside_left t.clients d.tables.clients) st.acl);
      locks = subst (λ h. LocksStandFor locks d.tables.edition d.tables.owner h)
          (ap (followed_by (followed_by t.acts d.acts)) are ∙ sym order)
          (told d.tables.edition d.tables.owner (followed_by t.acts d.acts) st.locks);
      multiuser_is = st.multiuser_is;
      windows = st.windows;
      clients = st.clients;
      next_window_is = st.next_window_is;
      next_client_is = st.next_client_is;
    }

-- a slice's rest
pub rest_is : {A : Type 0} (xs : List A) (i : ℕ) → take (length xs - i) (drop i xs) ≡ drop i xs
rest_is xs i = take_all (length xs - i) (drop i xs) (omega (arith, length-drop i xs))

-- an element that was pushed
pub pushed : {A E X : Type 0} (r : Result A E) (before after : List X) (x : X) → IsOk r
    → after ≡ (if is_ok r then before ++ x ∷ [] else before) → after ≡ before ++ x ∷ []
pushed (Ok a) before after x ok is = is
pushed (Err e) before after x ok is = absurd (cc (ok))
