-- Which acts each command has, and what it leaves unchanged.
use Rattle.session_laws.proofs.Vocabulary.{all_made, ◌≡◌, ℕ, Bool, true, false, not, List, [], ◌∷◌, Option, Some, None}
use Rattle.session_laws.proofs.Vocabulary.{refl, ap, sym, ◌∙◌, subst, map, filter, ◌==◌, AllByRecursion, UserId, Act}
use Rattle.session_laws.proofs.Vocabulary.{named_by, Order, Arrangement, Detached, Killed, SingleUser, Quit, Tables}
use Rattle.session_laws.proofs.Vocabulary.{Window, Client, with_layout, focused, known_users, names_of, new_leader_of}
use Rattle.session_laws.proofs.Vocabulary.{Caller, Deed, removes, parts, closes, entering, without_windows, does}
use Rattle.session_laws.proofs.Vocabulary.{caller_client, mask_entries, IsOn, not_so, equal, all_weaken, all_append}
use Rattle.session_laws.proofs.Vocabulary.{contradicts, name_of, changes_rights, needs}
use Rattle.acl.specs.declared.act.Act.TheVariants as act
use Rattle.command_lang.specs.declared.command.Command.TheVariants as command
use Rattle.session_model.specs.Deeds as deeds
use Rattle.session_laws.proofs.Doing.{Either, caller_is}
use Rattle.session_laws.proofs.Listing.{is_listing, AllListing, change_list, add_list, group_list, mask_list}
use Rattle.session_laws.proofs.Shapes as shapes

-- which acts a command of this caller has
abbrev pub IsActOf : Caller → Order → Act → Type 0
IsActOf k c (act.Known user) = changes_rights (name_of c) ≡ true
IsActOf k c (act.Gone user) = changes_rights (name_of c) ≡ true
IsActOf k c (act.Set user bit object value) = changes_rights (name_of c) ≡ true
IsActOf k c (act.Grouped user leader) = changes_rights (name_of c) ≡ true
IsActOf k c (act.Masked by user bit value) = changes_rights (name_of c) ≡ true
IsActOf k c (act.Preset kind bit value) = changes_rights (name_of c) ≡ true
IsActOf k c (act.Entered user w) = (user ≡ k.user) × (changes_rights (name_of c) ≡ false)
IsActOf k (command.Acldel word) (act.Parted client) = Unit {0}
IsActOf k (command.Multiuser is_on) (act.Parted client) = is_on ≡ false
IsActOf k (command.Writelock mode) (act.Mode by w m) = (by ≡ k.user) × IsOn k.window w × (m ≡ mode)
IsActOf k (command.Defwritelock mode) (act.Default m) = Unit {0}
IsActOf k command.Detach (act.Parted client) = k.client ≡ Some client
IsActOf k command.Kill (act.Closed w) = IsOn k.window w
IsActOf k command.Quit (act.Closed w) = Unit {0}
IsActOf k command.Quit (act.Parted client) = Unit {0}
IsActOf k _ _ = ⊥

abbrev pub is_mode : Order → Bool
is_mode (command.Multiuser is_on) = true
is_mode _ = false

-- the acts of list commands
listing : (k : Caller) (c : Order) (acts : List Act) → changes_rights (name_of c) ≡ true → AllListing acts
    → AllByRecursion (IsActOf k c) acts
listing k c acts changes all = all_weaken (λ a. is_listing a ≡ true) (IsActOf k c) acts one all where
  one : (a : Act) → is_listing a ≡ true → IsActOf k c a
  one (act.Known user) is = changes
  one (act.Gone user) is = changes
  one (act.Set user bit object value) is = changes
  one (act.Grouped user leader) is = changes
  one (act.Masked by user bit value) is = changes
  one (act.Preset kind bit value) is = changes
  one a is = absurd (cc (is))

-- the acts of a command's row, and what the row leaves unchanged
pub record IsRow (t : Tables) (k : Caller) (c : Order) (d : Deed) : Type 0 where
  pub acts : AllByRecursion (IsActOf k c) d.acts
  pub owner : d.tables.owner ≡ t.owner
  pub edition : d.tables.edition ≡ t.edition
  pub next_window : d.tables.next_window ≡ t.next_window
  pub mode : is_mode c ≡ false → d.tables.is_multiuser ≡ t.is_multiuser

-- the client that gives a command belongs to the caller's user
abbrev pub IsCaller : Tables → Caller → Type 0
IsCaller t k = (c : Client) → caller_client t k ≡ Some c → c.user ≡ k.user

row : (t : Tables) (k : Caller) (c : Order) (d : Deed) → AllByRecursion (IsActOf k c) d.acts → d.tables.owner ≡ t.owner
    → d.tables.edition ≡ t.edition
    → d.tables.next_window ≡ t.next_window → d.tables.is_multiuser ≡ t.is_multiuser → IsRow t k c d
row t k c d acts owner edition next mode = record
    { acts = acts; owner = owner; edition = edition; next_window = next; mode = λ other. mode }

entering_acts : (k : Caller) (c : Order) (user : UserId) (o : Option ℕ) → ((w : ℕ) → IsActOf k c (act.Entered user w))
    → AllByRecursion (IsActOf k c) (entering user o)
entering_acts k c user None on = tt
entering_acts k c user (Some w) on = (on w, tt)

entered : (t : Tables) (k : Caller) (c : Order) (d : Client) (l : Arrangement)
    → ((w : ℕ) → IsActOf k c (act.Entered d.user w)) → IsRow t k c (deeds.enters t d l)
entered t k c d l on = row t k c _ (entering_acts k c d.user (focused (with_layout l d)) on) refl refl refl refl

parted_acts : (k : Caller) (c : Order) (goes : Client → Bool) (cs : List Client)
    → ((d : Client) → goes d ≡ true → IsActOf k c (act.Parted d.serial))
    → AllByRecursion (IsActOf k c) (map (λ (d : Client). act.Parted d.serial) (filter goes cs))
parted_acts k c goes cs on = all_made (IsActOf k c) (λ (d : Client). act.Parted d.serial) goes cs on

closed_acts : (k : Caller) (c : Order) (goes : Window → Bool) (ws : List Window)
    → ((w : Window) → goes w ≡ true → IsActOf k c (act.Closed w.serial))
    → AllByRecursion (IsActOf k c) (map (λ (w : Window). act.Closed w.serial) (filter goes ws))
closed_acts k c goes ws on = all_made (IsActOf k c) (λ (w : Window). act.Closed w.serial) goes ws on

removal : (t : Tables) (k : Caller) (word : List ℕ) (o : Option UserId) → IsRow t k (command.Acldel word) (removes o t)
removal t k word None = row t k _ _ tt refl refl refl refl
removal t k word (Some u) =
    row t k (command.Acldel word) _
    (all_append (IsActOf k (command.Acldel word))
    (map (λ (d : Client). act.Parted d.serial) (filter (deeds.is_of u) t.clients)) (act.Gone u ∷ [])
    (parted_acts k (command.Acldel word) (deeds.is_of u) t.clients (λ d goes. tt)) (refl, tt)) refl refl refl refl

own_window : (k : Caller) (w : Window) (n : ℕ) → k.window ≡ Some w → w.serial ≡ n → IsOn k.window n
own_window k w n is same = subst (λ o. IsOn o n) (sym is) same

-- a command on rights needs multiuser mode
needs_mode : (c : Order) → changes_rights (name_of c) ≡ true → (needs c).multiuser ≡ true
needs_mode (command.Acladd users) is = refl
needs_mode (command.Aclchg users bits list) is = refl
needs_mode (command.Acldel user) is = refl
needs_mode (command.Aclgrp user leader) is = refl
needs_mode (command.Aclumask masks) is = refl
needs_mode c is = absurd (cc (is))

-- ---- the kinds

module _ (t : Tables) (k : Caller) (by : IsCaller t k) where
  as_row : (c x : Order) (d : Deed) → c ≡ x → IsRow t k x d → IsRow t k c d
  as_row c x d is r = subst (λ (y : Order). IsRow t k y d) (sym is) r

  no_right : (c : Order) → (needs c).multiuser ≡ false → changes_rights (name_of c) ≡ false
  no_right c none = not_so (changes_rights (name_of c)) (λ is. contradicts (needs c).multiuser (needs_mode c is) none)

  on_rights : (c x : Order) (acts : List Act) → c ≡ x → changes_rights (name_of x) ≡ true → AllListing acts
      → AllByRecursion (IsActOf k c) acts
  on_rights c x acts is changes all = listing k c acts (ap (λ (y : Order). changes_rights (name_of y)) is ∙ changes) all

  acted_row : (c : Order) (acts : List Act) → shapes.Acted t k c acts → AllByRecursion (IsActOf k c) acts
  acted_row c acts (shapes.added names all is clear every) = on_rights c _ _ is refl
      (add_list (known_users t) (names_of t names) all)
  acted_row c acts (shapes.changed names bits list all is clear objects) = on_rights c _ _ is refl
      (change_list (known_users t) (names_of t names) bits all)
  acted_row c acts (shapes.grouped word leader is clear) = on_rights c _ _ is refl
      (group_list (named_by word) (new_leader_of leader))
  acted_row c acts (shapes.masked masks is clear) = on_rights c _ _ is refl (mask_list k.user (mask_entries t masks))
  acted_row c acts (shapes.locked w mode is at) = (
    subst (λ (y : Order). IsActOf k y (act.Mode k.user w.serial mode)) (sym is)
        (refl, own_window k w w.serial at refl, refl),
    tt,
  )
  acted_row c acts (shapes.preset mode is) = (subst (λ (y : Order). IsActOf k y (act.Default mode)) (sym is) tt, tt)

  shut_row : IsRow t k (command.Multiuser false)
      (parts (λ d. not (deeds.is_of t.owner d)) SingleUser (record t { is_multiuser = false }))
  shut_row = record {
    acts = parted_acts k (command.Multiuser false) (λ d. not (deeds.is_of t.owner d)) t.clients (λ d goes. refl);
    owner = refl;
    edition = refl;
    next_window = refl;
    mode = λ other. absurd (cc (other));
  }

  opened_row : IsRow t k (command.Multiuser true) (deeds.changing (record t { is_multiuser = true }))
  opened_row = record
      { acts = tt; owner = refl; edition = refl; next_window = refl; mode = λ other. absurd (cc (other)) }

  detached_row : (d : Client) → caller_client t k ≡ Some d
      → IsRow t k command.Detach (parts (λ (x : Client). x.serial == d.serial) Detached t)
  detached_row d is =
      row t k command.Detach _
      (parted_acts k command.Detach (λ (x : Client). x.serial == d.serial) t.clients
      (λ x goes. caller_is t k.client d is ∙ ap Some (sym (equal x.serial d.serial goes)))) refl refl refl refl

  killed_row : (w : Window) → k.window ≡ Some w
      → IsRow t k command.Kill (closes (λ (v : Window). v.serial == w.serial) Killed t)
  killed_row w is =
      row t k command.Kill _
      (closed_acts k command.Kill (λ (v : Window). v.serial == w.serial) t.windows
      (λ v goes. own_window k w v.serial is (sym (equal v.serial w.serial goes)))) refl refl refl refl

  quit_row : IsRow t k command.Quit (deeds.both (closes (λ w. true) Quit t) (parts (λ d. true) Quit))
  quit_row =
      row t k command.Quit _
      (all_append (IsActOf k command.Quit)
      (map (λ (w : Window). act.Closed w.serial) (filter (λ (w : Window). true) t.windows)) _
      (closed_acts k command.Quit (λ (w : Window). true) t.windows (λ w goes. tt))
      (parted_acts k command.Quit (λ (d : Client). true)
      (without_windows (filter (λ (w : Window). true) t.windows) t.clients) (λ d goes. tt))) refl refl refl refl

  deed_row : (c : Order) (d : Deed) → shapes.Shape t k c d → IsRow t k c d
  deed_row c d (shapes.acts all none acted) = row t k c _ (acted_row c all acted) refl refl refl refl
  deed_row c d (shapes.enters_page x l of at shows) = entered t k c x l (λ w. (by x at, no_right c of.1))
  deed_row c d (shapes.opened is) = as_row c _ _ is opened_row
  deed_row c d (shapes.shut is) = as_row c _ _ is shut_row
  deed_row c d (shapes.removed word is clear) = as_row c _ _ is (removal t k word (named_by word))
  deed_row c d (shapes.detached x is at) = as_row c _ _ is (detached_row x at)
  deed_row c d (shapes.killed w is at) = as_row c _ _ is (killed_row w at)
  deed_row c d (shapes.quits is) = as_row c _ _ is quit_row
  deed_row c d kind = row t k c _ tt refl refl refl refl

pub row_of : (t : Tables) (k : Caller) → IsCaller t k → (c : Order) → Either (IsRow t k c) (does t k c)
row_of t k by c = shapes.by_shape (IsRow t k c) t k c (deed_row t k by c)
