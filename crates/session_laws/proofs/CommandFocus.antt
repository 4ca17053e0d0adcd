-- How each command moves the focus of clients, command by command.
use Rattle.session_laws.proofs.Vocabulary.{◌≡◌, ℕ, zero, suc, Bool, true, false, not, List, [], ◌∷◌, ◌++◌, Option, Some}
use Rattle.session_laws.proofs.Vocabulary.{None, refl, ap, sym, ◌∙◌, map, filter, inl, inr, ⊎_elim, ◌⊎◌, if◌then◌else◌}
use Rattle.session_laws.proofs.Vocabulary.{◌==◌, AllByRecursion, UserId, Act, named_by, Order, Shown, Arrangement}
use Rattle.session_laws.proofs.Vocabulary.{emptied, Reason, Detached, Killed, Quit, SingleUser, Tables, Window, Client}
use Rattle.session_laws.proofs.Vocabulary.{row_of, with_row, with_layout, focused, Caller, Deed, removes, parts, closes}
use Rattle.session_laws.proofs.Vocabulary.{is_of, without_window, without_windows, enters, arranges, entering, hearing}
use Rattle.session_laws.proofs.Vocabulary.{does, caller_client, SomeOf, Rises, client_serials, row_replaced, other_way}
use Rattle.session_laws.proofs.Vocabulary.{entered_by, all_weaken, all_filter, all_map, members, some_weaken, itself}
use Rattle.acl.specs.declared.act.Act.TheVariants as act
use Rattle.session_model.specs.declared.event.StatusMessage.TheVariants as message
use Rattle.session_model.specs.Deeds as deeds
use Rattle.session_laws.proofs.Unread.{caller_row}
use Rattle.session_laws.proofs.Doing.{Either, caller_is}
use Rattle.session_laws.proofs.Moving.{AllRights}
use Rattle.session_laws.proofs.Inputs.{append_nil}
use Rattle.session_laws.proofs.Showing.{at_place}
use Rattle.session_laws.proofs.Shapes as shapes
use Rattle.session_laws.proofs.Shapes.{acted_rights}

-- ---- acts that enter no window

pub rights_enter : (acts : List Act) → AllRights acts → entered_by acts ≡ None
rights_enter [] all = refl
rights_enter (act.Entered user window ∷ acts) all = absurd (let is : false ≡ true = all.0 in cc (is))
rights_enter (act.Opened by window ∷ acts) all = absurd (let is : false ≡ true = all.0 in cc (is))
rights_enter (a ∷ acts) all = rights_enter acts all.1

parted_enter : (cs : List Client) (more : List Act)
    → entered_by (map (λ (c : Client). act.Parted c.serial) cs ++ more) ≡ entered_by more
parted_enter [] more = refl
parted_enter (c ∷ cs) more = parted_enter cs more

closed_enter : (ws : List Window) (more : List Act)
    → entered_by (map (λ (w : Window). act.Closed w.serial) ws ++ more) ≡ entered_by more
closed_enter [] more = refl
closed_enter (w ∷ ws) more = closed_enter ws more

-- ---- how a client's row goes on

-- the window in its focus was there before, or was entered by this client
abbrev pub GoesOn : (ℕ → Option (UserId × ℕ)) → Client → Client → Type 0
GoesOn f c d =
    (d.serial ≡ c.serial) × (d.user ≡ c.user)
    × ((w : ℕ) → focused d ≡ Some w → (f c.serial ≡ Some (c.user, w)) ⊎ ((f c.serial ≡ None) × (focused c ≡ Some w)))

abbrev pub AllGoOn : List Client → (ℕ → Option (UserId × ℕ)) → List Client → Type 0
AllGoOn cs f ds = AllByRecursion (λ d. SomeOf (λ c. GoesOn f c d) cs) ds

pub alike : (cs : List Client) (f g : ℕ → Option (UserId × ℕ)) (ds : List Client) → ((n : ℕ) → g n ≡ f n)
    → AllGoOn cs f ds → AllGoOn cs g ds
alike cs f g ds same all = all_weaken (λ d. SomeOf (λ c. GoesOn f c d) cs) (λ d. SomeOf (λ c. GoesOn g c d) cs) ds
    (λ d some. some_weaken (λ c. GoesOn f c d) (λ c. GoesOn g c d) cs (λ c go. (
      go.0,
      go.1,
      λ w is. ⊎_elim
          (λ (here : f c.serial ≡ Some (c.user, w)). inl (same c.serial ∙ here))
          (λ old. inr (same c.serial ∙ old.0, old.1)) (go.2 w is),
    )) some) all

-- the same window is in its focus, or none
abbrev pub Same : Client → Client → Type 0
Same c d = (d.serial ≡ c.serial) × (d.user ≡ c.user) × ((w : ℕ) → focused d ≡ Some w → focused c ≡ Some w)

abbrev pub Kept : List Client → List Client → Type 0
Kept cs ds = AllByRecursion (λ d. SomeOf (λ c. Same c d) cs) ds

pub kept_same : (cs : List Client) → Kept cs cs
kept_same cs = all_weaken (λ d. SomeOf (λ c. c ≡ d) cs) (λ d. SomeOf (λ c. Same c d) cs) cs
    (λ d some. some_weaken (λ c. c ≡ d) (λ c. Same c d) cs
    (λ c e. (sym (ap (λ (x : Client). x.serial) e), sym (ap (λ (x : Client). x.user) e), λ w is. ap focused e ∙ is))
    some) (members cs)

pub kept_fewer : (p : Client → Bool) (cs ds : List Client) → Kept cs ds → Kept cs (filter p ds)
kept_fewer p cs ds all = all_filter (λ d. SomeOf (λ c. Same c d) cs) p ds all

pub kept_map : (g : Client → Client) (cs ds : List Client) → ((d : Client) → Same d (g d)) → Kept cs ds
    → Kept cs (map g ds)
kept_map g cs ds same all = all_map (λ d. SomeOf (λ c. Same c d) cs) g ds
    (all_weaken (λ d. SomeOf (λ c. Same c d) cs) (λ d. SomeOf (λ c. Same c (g d)) cs) ds
    (λ d some. some_weaken (λ c. Same c d) (λ c. Same c (g d)) cs
    (λ c s. let t = same d in (t.0 ∙ s.0, t.1 ∙ s.1, λ w is. s.2 w (t.2 w is))) some) all)

pub kept_go : (cs ds : List Client) (f : ℕ → Option (UserId × ℕ)) → ((n : ℕ) → f n ≡ None) → Kept cs ds
    → AllGoOn cs f ds
kept_go cs ds f none all = all_weaken (λ d. SomeOf (λ c. Same c d) cs) (λ d. SomeOf (λ c. GoesOn f c d) cs) ds
    (λ d some. some_weaken (λ c. Same c d) (λ c. GoesOn f c d) cs
    (λ c s. (s.0, s.1, λ w is. inr (none c.serial, s.2 w is))) some) all

-- ---- windows that are closed

emptied_window : (serial : ℕ) (o : Option ℕ) (back w : ℕ)
    → (emptied serial (record { window = o; back = back })).window ≡ Some w → o ≡ Some w
emptied_window serial None back w is = is
emptied_window serial (Some n) back w is = on (n == serial) is where
  on : (b : Bool)
      →
      (let s : Shown = if b then record { window = None; back = back } else record { window = Some n; back = back } in
      s).window ≡ Some w → Some n ≡ Some w
  on true is = absurd (cc (is))
  on false is = is

-- the window that a region shows
emptied_place : (serial : ℕ) (shown : List Shown) (n w : ℕ) → at_place (map (emptied serial) shown) n ≡ Some w
    → at_place shown n ≡ Some w
emptied_place serial [] n w is = is
emptied_place serial (s ∷ shown) zero w is = emptied_window serial s.window s.back w is
emptied_place serial (s ∷ shown) (suc n) w is = emptied_place serial shown n w is

pub without_kept : (cs : List Client) (ws : List Window) (ds : List Client) → Kept cs ds
    → Kept cs (without_windows ws ds)
without_kept cs [] ds all = all
without_kept cs (w ∷ ws) ds all = without_kept cs ws (map (without_window w.serial) ds)
    (kept_map (without_window w.serial) cs ds
    (λ d. (refl, refl, λ v is. emptied_place w.serial d.layout.shown d.layout.focus v is)) all)

pub row_goes : (f : ℕ → Option (UserId × ℕ)) (c x : Client) → GoesOn f c x
    → ((n : ℕ) → (c.serial == n) ≡ false → f n ≡ None) → (cs : List Client) (next : ℕ)
    → Rises (client_serials cs) next → row_of (λ (r : Client). r.serial) cs c.serial ≡ Some c
    → AllGoOn cs f (with_row (λ (r : Client). r.serial) cs c.serial x)
row_goes f c x own none cs next rise is = row_replaced (λ (r : Client). r.serial) (GoesOn f) c x own
    (λ r off. (refl, refl, λ w is. inr (none r.serial (other_way r.serial c.serial off), is))) cs next rise is

-- ---- the rows

abbrev pub is_mine : Option ℕ → ℕ → Bool
is_mine None n = false
is_mine (Some m) n = m == n

abbrev pub entered_of : Caller → List Act → ℕ → Option (UserId × ℕ)
entered_of k acts n = if is_mine k.client n then entered_by acts else None

pub record HasGone (t : Tables) (k : Caller) (d : Deed) : Type 0 where
  pub all : AllGoOn t.clients (entered_of k d.acts) d.tables.clients

pub none_if : {A : Type 0} (b : Bool) → (if b then (let none : Option A = None in none) else None) ≡ None
none_if true = refl
none_if false = refl

calm : (t : Tables) (k : Caller) (d : Deed) → entered_by d.acts ≡ None → Kept t.clients d.tables.clients → HasGone t k d
calm t k d none kept = record {
  all = kept_go t.clients d.tables.clients (entered_of k d.acts)
      (λ n. ap (λ o. if is_mine k.client n then o else None) none ∙ none_if (is_mine k.client n)) kept;
}

rights : (t : Tables) (k : Caller) (acts : List Act) → AllRights acts → HasGone t k (deeds.acting t acts)
rights t k acts all = calm t k (deeds.acting t acts) (rights_enter acts all) (kept_same t.clients)

lists : (t : Tables) (k : Caller) (bytes : List ℕ) → HasGone t k (deeds.listing t bytes)
lists t k bytes = calm t k (deeds.listing t bytes) refl (kept_same t.clients)

parts_gone : (t : Tables) (k : Caller) (p : Client → Bool) (why : Reason) → HasGone t k (parts p why t)
parts_gone t k p why = calm t k (parts p why t)
    (sym (ap entered_by (append_nil (parts p why t).acts)) ∙ parted_enter (filter p t.clients) [])
    (kept_fewer (λ c. not (p c)) t.clients t.clients (kept_same t.clients))

removal_gone : (t : Tables) (k : Caller) (o : Option UserId) → HasGone t k (removes o t)
removal_gone t k None = calm t k (removes None t) refl (kept_same t.clients)
removal_gone t k (Some u) = calm t k (removes (Some u) t) (parted_enter (filter (is_of u) t.clients) (act.Gone u ∷ []))
    (kept_fewer (λ c. not (is_of u c)) t.clients t.clients (kept_same t.clients))

closes_gone : (t : Tables) (k : Caller) (p : Window → Bool) (why : Reason) → HasGone t k (closes p why t)
closes_gone t k p why = calm t k (closes p why t)
    (sym (ap entered_by (append_nil (closes p why t).acts)) ∙ closed_enter (filter p t.windows) [])
    (without_kept t.clients (filter p t.windows) t.clients (kept_same t.clients))

quit_gone : (t : Tables) (k : Caller) → HasGone t k (deeds.both (closes (λ w. true) Quit t) (parts (λ c. true) Quit))
quit_gone t k =
    let first : Deed = closes (λ w. true) Quit t in
    let second : Deed = parts (λ c. true) Quit first.tables in
    calm t k (deeds.both first (parts (λ c. true) Quit))
    (closed_enter (filter (λ (w : Window). true) t.windows) second.acts ∙ sym (ap entered_by (append_nil second.acts))
    ∙ parted_enter (filter (λ (c : Client). true) first.tables.clients) [])
    (kept_fewer (λ c. not true) t.clients first.tables.clients
    (without_kept t.clients (filter (λ (w : Window). true) t.windows) t.clients (kept_same t.clients)))

module _ (t : Tables) (k : Caller) (s : Rises (client_serials t.clients) t.next_client) where
  mine_here : (c : Client) → caller_client t k ≡ Some c → is_mine k.client c.serial ≡ true
  mine_here c is = ap (λ o. is_mine o c.serial) (caller_is t k.client c is) ∙ itself c.serial

  mine_off : (c : Client) (n : ℕ) → caller_client t k ≡ Some c → (c.serial == n) ≡ false → is_mine k.client n ≡ false
  mine_off c n is off = ap (λ o. is_mine o n) (caller_is t k.client c is) ∙ off

  -- the client's focus may move, and its user then enters the window that it shows
  entered : (c : Client) (l : Arrangement) → caller_client t k ≡ Some c → HasGone t k (enters t c l)
  entered c l is =
      let d : Client = with_layout l c in
      let acts : List Act = entering c.user (focused d) in record {
        all = row_goes (entered_of k acts) c d (
          refl,
          refl,
          λ w at. inl
              (ap (λ (b : Bool). if b then entered_by acts else None) (mine_here c is)
              ∙ ap (λ o. entered_by (entering c.user o)) at),
        )
            (λ n off. ap (λ (b : Bool). if b then entered_by acts else None) (mine_off c n is off))
            t.clients t.next_client s (caller_row t k.client c is);
      }

  arranged : (c : Client) (l : Arrangement) → caller_client t k ≡ Some c
      → ((w : ℕ) → at_place l.shown l.focus ≡ Some w → focused c ≡ Some w) → HasGone t k (arranges t c l)
  arranged c l is same = record {
    all = row_goes (entered_of k []) c (with_layout l c)
        (refl, refl, λ w at. inr (none_if (is_mine k.client c.serial), same w at))
        (λ n off. none_if (is_mine k.client n)) t.clients t.next_client s (caller_row t k.client c is);
  }

  gone_deed : (c : Order) (d : Deed) → shapes.Shape t k c d → HasGone t k d
  gone_deed c d (shapes.lists bytes none tells) = lists t k bytes
  gone_deed c d (shapes.acts all none acted) = rights t k all (acted_rights t k c all acted)
  gone_deed c d (shapes.enters_page x l of at shows) = entered x l at
  gone_deed c d (shapes.keeps_page x l of at shows same) = arranged x l at same
  gone_deed c d (shapes.shut is) = calm t k _
      (sym (ap entered_by (append_nil (parts (λ x. not (is_of t.owner x)) SingleUser t).acts))
      ∙ parted_enter (filter (λ x. not (is_of t.owner x)) t.clients) [])
      (kept_fewer (λ x. not (not (is_of t.owner x))) t.clients t.clients (kept_same t.clients))
  gone_deed c d (shapes.told bytes is) = calm t k _ refl
      (kept_map (hearing (message.Text _)) t.clients t.clients (λ x. (refl, refl, λ w is. is)) (kept_same t.clients))
  gone_deed c d (shapes.removed word is clear) = removal_gone t k (named_by word)
  gone_deed c d (shapes.detached x is at) = parts_gone t k _ Detached
  gone_deed c d (shapes.killed w is at) = closes_gone t k _ Killed
  gone_deed c d (shapes.quits is) = quit_gone t k
  gone_deed c d kind = calm t k _ refl (kept_same t.clients)

  pub gone : (c : Order) → Either (HasGone t k) (does t k c)
  gone c = shapes.by_shape (HasGone t k) t k c (gone_deed c)
