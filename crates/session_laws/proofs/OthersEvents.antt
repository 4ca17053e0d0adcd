-- What an event of another user that gives no command does to a lock.
use Rattle.session_laws.proofs.Vocabulary.{◌≡◌, ℕ, Bool, true, false, not, List, [], ◌∷◌, ◌++◌, Option, Some, None}
use Rattle.session_laws.proofs.Vocabulary.{refl, ap, sym, ◌∙◌, subst, map, filter, arith, ◌==◌, AllByRecursion}
use Rattle.session_laws.proofs.Vocabulary.{option_map, nat_tests, UserId, Act, same_user, first_fault, verdicts}
use Rattle.session_laws.proofs.Vocabulary.{changing, parts, closes, entering, without_windows, outcome, Outcome}
use Rattle.session_laws.proofs.Vocabulary.{left_acts, finished, done, reply_of, where_passed, attach_checks, attaches}
use Rattle.session_laws.proofs.Vocabulary.{new_client, open_checks, opens, new_window, outputs, AreFit, Tables, Window}
use Rattle.session_laws.proofs.Vocabulary.{Client, window_at, client_at, with_client, focused, EventValue, Attach}
use Rattle.session_laws.proofs.Vocabulary.{Detach, Keys, Command, Open, Output, Closed, Draw, equal, all_weaken}
use Rattle.session_laws.proofs.Vocabulary.{all_append, all_map, all_of, all_passed, stood, user_of, client_user}
use Rattle.acl.specs.declared.act.Act.TheVariants as act
use Rattle.acl.specs.declared.act.Object.TheVariants as object
use Rattle.session_model.specs.declared.event.Reason.TheVariants as reason
use Rattle.session_laws.proofs.Leaving.{none_left}
use Rattle.session_laws.proofs.Outcomes as outcomes
use Rattle.session_laws.proofs.Outcomes.{Change, change_of, Changes, changes}
use Rattle.session_laws.proofs.Unread.{row_at}
use Rattle.session_laws.proofs.Events.{gives_commands, all_left, changed_by}
use Rattle.session_laws.proofs.Callers.{Own, unique}
use Rattle.session_laws.proofs.GuestsLeaving.{left_where, nobody, parted, turned, appended, shut}
use Rattle.session_laws.proofs.HolderActs.{moves, IsCalm}
use Rattle.session_laws.proofs.OthersActs.{both_all, Alone, alone, Silent, Others, Elsewhere, others_part, calm_left}
use Rattle.session_laws.proofs.OthersActs.{others_left, elsewhere_left}

-- what such an event does to the lock: it leaves it to its holder, or the window's program ended
module _ (t : Tables) (w : ℕ) (x : UserId) where
  pub data Touches (event : EventValue) (acts : List Act) : Type 0 where
    leaves_it :
        (b : Bool) → AllByRecursion (IsCalm t.edition t.owner t.acts x w b) acts
        → AllByRecursion (λ a. moves a ≡ false) acts → Touches event acts
    closes_it : event ≡ Closed w → AllByRecursion Silent acts → Touches event acts

-- the event isn't the user's own
abbrev pub Apart : Tables → UserId → EventValue → Type 0
Apart t x event = (u : UserId) → user_of t event ≡ Some u → same_user u x ≡ false

module _ (t : Tables) (fit : AreFit t) (w : ℕ) (x : UserId) (old : stood t (object.Window w) ≡ true) where
  abbrev Calm : Bool → Act → Type 0
  Calm b a = IsCalm t.edition t.owner t.acts x w b a

  abbrev Plainly : Act → Type 0
  Plainly a = moves a ≡ false

  abbrev Happens : EventValue → List Act → Type 0
  Happens event acts = Touches t w x event acts

  abbrev HappensIn : EventValue → Outcome → Type 0
  HappensIn event o = Happens event o.acts

  nothing : (event : EventValue) → Happens event []
  nothing event = leaves_it false tt tt

  quiet : (event : EventValue) → Happens event (left_acts t.clients t.clients)
  quiet event = subst (Happens event) (sym (none_left t.clients)) (nothing event)

  not_new : (t.next_window == w) ≡ false
  not_new = grind (arith, nat_tests, old)

  attach_happens : (user : UserId) (rows columns : ℕ)
      → HappensIn (Attach user rows columns) (outcome t (Attach user rows columns))
  attach_happens user rows columns =
      let c : Client = new_client t user rows columns in
      outcomes.passed (HappensIn (Attach user rows columns)) t (verdicts t (attach_checks t user rows columns))
      (first_fault t (attach_checks t user rows columns)) (reply_of 0 t.next_client 0 None) (attaches t c)
      (λ r is. nothing (Attach user rows columns))
      (λ is. leaves_it true
      (all_append (Calm true) (act.Attached t.next_client user ∷ entering user (focused c))
      (left_acts t.clients (t.clients ++ c ∷ [])) (refl, enters (focused c))
      (subst (AllByRecursion (Calm true)) (sym (none c)) tt))
      (all_append Plainly (act.Attached t.next_client user ∷ entering user (focused c))
      (left_acts t.clients (t.clients ++ c ∷ [])) (refl, plain (focused c))
      (all_left Plainly t.clients (t.clients ++ c ∷ []) (λ u n. refl)))) where
        enters : (o : Option ℕ) → AllByRecursion (Calm true) (entering user o)
        enters None = tt
        enters (Some n) = (refl, tt)

        plain : (o : Option ℕ) → AllByRecursion Plainly (entering user o)
        plain None = tt
        plain (Some n) = (refl, tt)

        none : (c : Client) → left_acts t.clients (t.clients ++ c ∷ []) ≡ []
        none c = nobody (left_acts t.clients (t.clients ++ c ∷ []))
            (left_where (λ u n. ⊥) t.clients (t.clients ++ c ∷ []) (appended t.clients (c ∷ [])))

  open_happens : (user : UserId) (rows columns keep : ℕ) (title : List ℕ)
      → HappensIn (Open user rows columns keep title) (outcome t (Open user rows columns keep title))
  open_happens user rows columns keep title =
      let y : Window = new_window t rows columns keep title in
      outcomes.passed (HappensIn (Open user rows columns keep title)) t
      (verdicts t (open_checks t user rows columns keep title))
      (first_fault t (open_checks t user rows columns keep title)) (reply_of 0 y.serial y.number None)
      (opens t user y)
      (λ r is. nothing (Open user rows columns keep title))
      (λ is. leaves_it false (not_new, subst (AllByRecursion (Calm false)) (sym (none_left t.clients)) tt)
      (refl, subst (AllByRecursion Plainly) (sym (none_left t.clients)) tt))

  own_client : (event : EventValue) (client : ℕ) (c : Client) → user_of t event ≡ client_user t client
      → client_at t client ≡ Some c → Apart t x event → same_user c.user x ≡ false
  own_client event client c of at apart = apart c.user (of ∙ ap (option_map (λ (d : Client). d.user)) at)

  detach_happens : (client : ℕ) → Apart t x (Detach client) → HappensIn (Detach client) (outcome t (Detach client))
  detach_happens client apart =
      outcomes.found (HappensIn (Detach client)) t
      (λ c. finished t [] done (parts (λ d. d.serial == client) reason.Detached t)) (client_at t client)
      (nothing (Detach client))
      (λ c at. leaves_it false
      (all_append (Calm false) gone (left_acts t.clients rest)
      (all_map (Calm false) (λ (d : Client). act.Parted d.serial)
      (filter (λ (d : Client). d.serial == client) t.clients)
      (all_passed (λ (d : Client). Calm false (act.Parted d.serial)) (λ (d : Client). d.serial == client) t.clients
      (all_weaken (λ (d : Client). Alone t.clients d × Own client c.user d)
      (λ (d : Client). (d.serial == client) ≡ true → Calm false (act.Parted d.serial)) t.clients
      (λ d both here. others_part t fit w x d both.0
      (ap (λ u. same_user u x) (both.1 here) ∙ own_client (Detach client) client c refl at apart))
      (both_all (Alone t.clients) (Own client c.user) t.clients (alone t.clients t.next_client fit.sound.clients_rise)
      (unique t.clients t.next_client client c fit.sound.clients_rise at)))))
      (calm_left t w x false (Others x) (left_acts t.clients rest) (others_left t w x)
      (left_where (Others x) t.clients rest (parted (Others x) (λ d. d.serial == client) t.clients
      (all_weaken (Own client c.user) (λ (d : Client). (d.serial == client) ≡ true → (n : ℕ) → (Others x) d.user n)
      t.clients
      (λ d own here n. ap (λ u. same_user u x) (own here) ∙ own_client (Detach client) client c refl at apart)
      (unique t.clients t.next_client client c fit.sound.clients_rise at))))))
      (all_append Plainly gone (left_acts t.clients rest)
      (all_map Plainly (λ (d : Client). act.Parted d.serial) (filter (λ (d : Client). d.serial == client) t.clients)
      (all_of (λ (d : Client). Plainly (act.Parted d.serial))
      (filter (λ (d : Client). d.serial == client) t.clients) (λ d. refl)))
      (all_left Plainly t.clients rest (λ u n. refl)))) where
        gone : List Act
        gone = map (λ (d : Client). act.Parted d.serial) (filter (λ (d : Client). d.serial == client) t.clients)

        rest : List Client
        rest = filter (λ (d : Client). not (d.serial == client)) t.clients

  change_happens : (event : EventValue) (y : Change) → change_of event ≡ Some y → Changes event y → Apart t x event
      → HappensIn event (outcome t event)
  change_happens event y is f apart =
      subst (HappensIn event) (sym (f.happens t))
      (outcomes.found (HappensIn event) t (λ c. where_passed t y.checks done (changing (with_client t (y.row c))))
      (client_at t y.client) (nothing event)
      (λ c at. outcomes.passed (HappensIn event) t (verdicts t y.checks) (first_fault t y.checks) done
      (changing (with_client t (y.row c)))
      (λ r fails. nothing event)
      (λ passes. leaves_it false
      (calm_left t w x false (Others x) (left_acts t.clients (with_client t (y.row c)).clients) (others_left t w x)
      (left_where (Others x) t.clients (with_client t (y.row c)).clients
      (turned (Others x) t.clients (y.row c).serial (y.row c)
      (λ r here n. ap (λ u. same_user u x) (same_row c r at here)
      ∙ own_client event y.client c (changed_by t event y is) at apart))))
      (all_left Plainly t.clients (with_client t (y.row c)).clients (λ u n. refl))))) where
        same_row : (c r : Client) → client_at t y.client ≡ Some c → client_at t (y.row c).serial ≡ Some r
            → r.user ≡ c.user
        same_row c r at here = let same : Some r ≡ Some c = sym here ∙ ap (client_at t) (f.serial c)
            ∙ row_at t y.client c at in let e : r ≡ c = cc (same) in ap (λ (d : Client). d.user) e

  closed_happens : (window : ℕ) → HappensIn (Closed window) (outcome t (Closed window))
  closed_happens window =
      outcomes.found (HappensIn (Closed window)) t
      (λ y. finished t [] done (closes (λ z. z.serial == window) reason.Detached t)) (window_at t window)
      (nothing (Closed window))
      (λ y at. on (window == w) refl) where
        gone : List Window
        gone = filter (λ (z : Window). z.serial == window) t.windows

        serials : AllByRecursion (λ (z : Window). z.serial ≡ window) gone
        serials = all_passed (λ (z : Window). z.serial ≡ window) (λ (z : Window). z.serial == window) t.windows
            (all_of (λ (z : Window). (z.serial == window) ≡ true → z.serial ≡ window) t.windows
            (λ z goes. equal z.serial window goes))

        on : (b : Bool) → (window == w) ≡ b
            → Happens (Closed window)
            (map (λ (z : Window). act.Closed z.serial) gone ++ left_acts t.clients (without_windows gone t.clients))
        on true here =
            closes_it (ap Closed (equal window w here))
            (all_append Silent (map (λ (z : Window). act.Closed z.serial) gone)
            (left_acts t.clients (without_windows gone t.clients))
            (all_map Silent (λ (z : Window). act.Closed z.serial) gone
            (all_of (λ (z : Window). Unit {0}) gone (λ z. tt)))
            (all_left Silent t.clients (without_windows gone t.clients) (λ u n. tt)))
        on false off =
            leaves_it false
            (all_append (Calm false) (map (λ (z : Window). act.Closed z.serial) gone)
            (left_acts t.clients (without_windows gone t.clients))
            (all_map (Calm false) (λ (z : Window). act.Closed z.serial) gone
            (all_weaken (λ (z : Window). z.serial ≡ window) (λ (z : Window). Calm false (act.Closed z.serial)) gone
            (λ z e. ap (λ n. n == w) e ∙ off) serials))
            (calm_left t w x false (Elsewhere window) (left_acts t.clients (without_windows gone t.clients))
            (elsewhere_left t w x window off)
            (left_where (Elsewhere window) t.clients (without_windows gone t.clients)
            (shut window gone t.clients serials))))
            (all_append Plainly (map (λ (z : Window). act.Closed z.serial) gone)
            (left_acts t.clients (without_windows gone t.clients))
            (all_map Plainly (λ (z : Window). act.Closed z.serial) gone
            (all_of (λ (z : Window). Plainly (act.Closed z.serial)) gone (λ z. refl)))
            (all_left Plainly t.clients (without_windows gone t.clients) (λ u n. refl)))

  pub plain_happens : (event : EventValue) → gives_commands event ≡ false → Apart t x event
      → HappensIn event (outcome t event)
  plain_happens (Attach user rows columns) not apart = attach_happens user rows columns
  plain_happens (Open user rows columns keep title) not apart = open_happens user rows columns keep title
  plain_happens (Detach client) not apart = detach_happens client apart
  plain_happens (Closed window) not apart = closed_happens window
  plain_happens (Output window bytes) not apart =
      outcomes.found (HappensIn (Output window bytes)) t (λ y. finished t [] done (outputs t y bytes))
      (window_at t window) (nothing (Output window bytes)) (λ y at. quiet (Output window bytes))
  plain_happens (Draw client) not apart =
      outcomes.found (HappensIn (Draw client)) t (λ c. finished t [] done (changing t)) (client_at t client)
      (nothing (Draw client)) (λ c at. quiet (Draw client))
  plain_happens (Keys client bytes) not apart = absurd (cc (not))
  plain_happens (Command user number bytes) not apart = absurd (cc (not))
  plain_happens event not apart = change_happens event _ refl (changes event _ refl) apart
