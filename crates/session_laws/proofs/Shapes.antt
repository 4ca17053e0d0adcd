-- Which kind of deed each command does, command by command. A fact of deeds is then proved once for
-- each kind.
-- A kind that only one command does names that command by an equation: a match on the command would
-- have to be made again for each of them.
use Rattle.session_laws.proofs.Vocabulary.{◌≡◌, ℕ, ◌-◌, true, false, not, List, [], ◌∷◌, ◌++◌, Option, Some, None, Ok}
use Rattle.session_laws.proofs.Vocabulary.{Err, refl, ap, ◌==◌, slice_get, codes, option_map, option_map_or}
use Rattle.session_laws.proofs.Vocabulary.{option_and_then, Act, LockMode, Object, BitChange, UserId, named_by}
use Rattle.session_laws.proofs.Vocabulary.{change_fault, known_name_fault, group_acts, mask_fault, mask_acts, Order}
use Rattle.session_laws.proofs.Vocabulary.{Leader, Mask, Users, Arrangement, empty, Writing, Size, Detached, Killed}
use Rattle.session_laws.proofs.Vocabulary.{Quit, SingleUser, Refusal, Acl, Windows, NoWindow, NoSuchWindow, Tables}
use Rattle.session_laws.proofs.Vocabulary.{Window, Client, window_at, with_window, focused, known_users, leaders_in}
use Rattle.session_laws.proofs.Vocabulary.{add_acts_in, group_fault_in, names_of, objects_of, every_window}
use Rattle.session_laws.proofs.Vocabulary.{every_command, new_leader_of, window_named, window_after, window_before}
use Rattle.session_laws.proofs.Vocabulary.{group_text, Caller, Deed, Answer, given, unless, removes, parts, closes}
use Rattle.session_laws.proofs.Vocabulary.{is_of, selects, enters, arranges, former_of, changing, acting, listing, both}
use Rattle.session_laws.proofs.Vocabulary.{input_of, tells, writes, shown_in_focus, does, caller_client, on_client}
use Rattle.session_laws.proofs.Vocabulary.{known_fault, changing_bits, mask_entries, is_taken, coding_of, told_by}
use Rattle.session_laws.proofs.Vocabulary.{needs, order_writing}
use Rattle.acl.specs.declared.act.Act.TheVariants as act
use Rattle.acl.specs.Names.{name_of}
use Rattle.command_lang.specs.declared.command.Command.TheVariants as command
use Rattle.terminal_model.specs.Writing as written
use Rattle.session_laws.proofs.Doing.{Either, is_plain, giving, by_given, by_unless, by_refused, by_clear, by_changes}
use Rattle.session_laws.proofs.Doing.{by_shown}
use Rattle.session_laws.proofs.Moving.{AllRights, change_rights, add_rights, group_rights, mask_rights}
use Rattle.session_laws.proofs.Showing.{IsThere, ShowsNoOther, Shows, at_place, split_place, alone_place}
use Rattle.session_laws.proofs.Showing.{scrolled_place, named_there, after_there, before_there, at_there, insert_all}
use Rattle.session_laws.proofs.Showing.{remove_all, set_all, get_all}

-- ---- acts

-- Acts on rights and locks, as a command without a fault has them.
pub data Acted (t : Tables) (k : Caller) (c : Order) : List Act → Type 0 where
  added : (names : Users) (all : List Object) → c ≡ command.Acladd names
      → change_fault t.owner (known_users t) (names_of t names) ≡ None
      → every_window t ++ every_command ≡ all → Acted t k c (add_acts_in t (names_of t names) all)
  changed : (names : Users) (bits : List BitChange) (list : List (List ℕ)) (all : List Object)
      → c ≡ command.Aclchg names bits list → change_fault t.owner (known_users t) (names_of t names) ≡ None
      → objects_of t list ≡ Some all → Acted t k c (changing_bits t (names_of t names) bits all)
  grouped : (word : List ℕ) (leader : Leader) → c ≡ command.Aclgrp word (Some leader)
      → group_fault_in t (named_by word) (new_leader_of leader) ≡ None
      → Acted t k c (group_acts (named_by word) (new_leader_of leader))
  masked : (masks : List Mask) → c ≡ command.Aclumask masks
      → mask_fault t.owner (known_users t) (mask_entries t masks) ≡ None
      → Acted t k c (mask_acts k.user (mask_entries t masks))
  locked : (w : Window) (mode : LockMode) → c ≡ command.Writelock mode → k.window ≡ Some w
      → Acted t k c (act.Mode k.user w.serial mode ∷ [])
  preset : (mode : LockMode) → c ≡ command.Defwritelock mode → Acted t k c (act.Default mode ∷ [])

pub acted_rights : (t : Tables) (k : Caller) (c : Order) (acts : List Act) → Acted t k c acts → AllRights acts
acted_rights t k c acts (added names all is clear every) = add_rights (known_users t) (names_of t names) all
acted_rights t k c acts (changed names bits list all is clear objects) = change_rights (known_users t)
    (names_of t names) bits all
acted_rights t k c acts (grouped word leader is clear) = group_rights (named_by word) (new_leader_of leader)
acted_rights t k c acts (masked masks is clear) = mask_rights k.user (mask_entries t masks)
acted_rights t k c acts (locked w mode is at) = (refl, tt)
acted_rights t k c acts (preset mode is) = (refl, tt)

-- ---- the kinds

-- the command writes to no window, and isn't one on rights
abbrev pub IsOfPages : Order → Type 0
IsOfPages c = (order_writing c ≡ []) × ((needs c).multiuser ≡ false)

-- A command's deed in these tables, for this caller. A kind that only one command does names the
-- command.
pub data Shape (t : Tables) (k : Caller) (c : Order) : Deed → Type 0 where
  lists : (bytes : List ℕ) → order_writing c ≡ [] → told_by t (giving k c) c ≡ Some bytes
      → Shape t k c (listing t bytes)
  acts : (all : List Act) → order_writing c ≡ [] → Acted t k c all → Shape t k c (acting t all)
  enters_page : (d : Client) (l : Arrangement) → IsOfPages c → caller_client t k ≡ Some d → ShowsNoOther t d l
      → Shape t k c (enters t d l)
  keeps_page : (d : Client) (l : Arrangement) → IsOfPages c → caller_client t k ≡ Some d → ShowsNoOther t d l
      → ((w : ℕ) → at_place l.shown l.focus ≡ Some w → focused d ≡ Some w) → Shape t k c (arranges t d l)
  writes_to : (w : Window) (what : Writing) → order_writing c ≡ what ∷ [] → k.window ≡ Some w
      → Shape t k c (writes t w what)
  opened : c ≡ command.Multiuser true → Shape t k c (changing (record t { is_multiuser = true }))
  shut : c ≡ command.Multiuser false
      → Shape t k c (parts (λ d. not (is_of t.owner d)) SingleUser (record t { is_multiuser = false }))
  told : (bytes : List ℕ) → c ≡ command.Wall bytes → Shape t k c (tells (name_of k.user ++ (codes ": " ++ bytes)) t)
  removed : (word : List ℕ) → c ≡ command.Acldel word → known_fault t word ≡ None
      → Shape t k c (removes (named_by word) t)
  fitted : (w : Window) (rows columns : ℕ) → c ≡ command.Fit → k.window ≡ Some w
      → Shape t k c (record (writes t w (written.Size rows columns)) { effects = Size w.serial rows columns ∷ [] })
  titled : (w : Window) (bytes : List ℕ) → c ≡ command.Title bytes → k.window ≡ Some w
      → Shape t k c (changing (with_window t (record w { title = bytes })))
  numbered : (w : Window) (n : ℕ) → c ≡ command.Number n → k.window ≡ Some w → is_taken t w n ≡ false
      → Shape t k c (changing (with_window t (record w { number = n })))
  typed : (w : Window) (bytes : List ℕ) → c ≡ command.Stuff bytes → k.window ≡ Some w
      → Shape t k c (record (changing t) { effects = input_of w.serial bytes })
  detached : (d : Client) → c ≡ command.Detach → caller_client t k ≡ Some d
      → Shape t k c (parts (λ (e : Client). e.serial == d.serial) Detached t)
  killed : (w : Window) → c ≡ command.Kill → k.window ≡ Some w
      → Shape t k c (closes (λ (v : Window). v.serial == w.serial) Killed t)
  quits : c ≡ command.Quit → Shape t k c (both (closes (λ w. true) Quit t) (parts (λ d. true) Quit))

-- ---- the rows

group_shape : (t : Tables) (k : Caller) (word : List ℕ) (o : Option UserId) → named_by word ≡ o
    → Either (Shape t k (command.Aclgrp word None))
    (unless Acl (known_name_fault t.owner (known_users t) o)
    (listing t (option_map_or (λ u. group_text u (leaders_in t u)) o [])))
unfolding unless
group_shape t k word None is = refl
group_shape t k word (Some u) is = by_unless (Shape t k (command.Aclgrp word None)) _ _ _ (λ f. refl)
    (lists (group_text u (leaders_in t u)) refl (ap (option_map (λ u. group_text u (leaders_in t u))) is))

module _ (t : Tables) (k : Caller) where
  on_page : (c : Order) (f : Client → Answer) → ((d : Client) → caller_client t k ≡ Some d → Either (Shape t k c) (f d))
      → Either (Shape t k c) (on_client t k f)
  on_page c f on = by_given (Shape t k c) (caller_client t k) NoWindow f refl on

  on_own : (c : Order) (f : Window → Answer) → ((w : Window) → k.window ≡ Some w → Either (Shape t k c) (f w))
      → Either (Shape t k c) (given k.window NoWindow f)
  on_own c f on = by_given (Shape t k c) k.window NoWindow f refl on

  -- the region in focus shows a window that is found by a number or title
  shows_found : (c : Order) (o : Client → Option Window) (r : Refusal) → is_plain r ≡ true → IsOfPages c
      → ((d : Client) (w : Window) → o d ≡ Some w → IsThere t.windows w)
      → Either (Shape t k c) (on_client t k (λ d. given (o d) r (λ w. Ok (selects t d w))))
  shows_found c o r is of there = by_shown (Shape t k c) t k o r is (λ d w at found.
      enters_page d _ of at
      (λ has opens all. set_all (Shows has) d.layout.shown d.layout.focus
      (record { window = Some w.serial; back = 0 }) (opens w (there d w found)) all))

  pub shape : (c : Order) → Either (Shape t k c) (does t k c)
  shape (command.Acladd names) = by_changes (Shape t k _) t (change_fault t.owner (known_users t) (names_of t names)) _
      _ (λ clear all is. acts _ refl (added names all refl clear (cc (is))))
  shape (command.Aclchg names bits list) = by_changes (Shape t k _) t
      (change_fault t.owner (known_users t) (names_of t names)) _ _
      (λ clear all is. acts _ refl (changed names bits list all refl clear is))
  shape (command.Acldel word) = by_clear (Shape t k _) Acl (known_fault t word) _ (λ f. refl)
      (λ clear. removed word refl clear)
  shape (command.Aclgrp word None) = group_shape t k word (named_by word) refl
  shape (command.Aclgrp word (Some leader)) = by_clear (Shape t k _) Acl
      (group_fault_in t (named_by word) (new_leader_of leader)) _ (λ f. refl)
      (λ clear. acts _ refl (grouped word leader refl clear))
  shape (command.Aclumask masks) = by_clear (Shape t k _) Acl
      (mask_fault t.owner (known_users t) (mask_entries t masks)) _ (λ f. refl)
      (λ clear. acts _ refl (masked masks refl clear))
  shape (command.Multiuser true) = opened refl
  shape (command.Multiuser false) = shut refl
  shape (command.Writelock mode) = on_own _ _ (λ w at. acts _ refl (locked w mode refl at))
  shape (command.Defwritelock mode) = acts _ refl (preset mode refl)
  shape (command.Wall bytes) = told bytes refl
  shape command.Screen = lists _ refl refl
  shape command.Windows = lists _ refl refl
  shape command.Displays = lists _ refl refl
  shape (command.Select word) = shows_found _ (λ d. window_named t.windows word) (Windows NoSuchWindow) refl
      (refl, refl) (λ d. named_there t.windows word)
  shape command.Next = shows_found _ (λ d. window_after t.windows k.window) NoWindow refl (refl, refl)
      (λ d. after_there t.windows k.window)
  shape command.Prev = shows_found _ (λ d. window_before t.windows k.window) NoWindow refl (refl, refl)
      (λ d. before_there t.windows k.window)
  shape command.Other = shows_found _ (λ d. option_and_then (window_at t) (former_of d)) NoWindow refl (refl, refl)
      (λ d. at_there t (former_of d))
  shape (command.Split vertical) = on_page _ _
      (λ d is. by_unless (Shape t k _) _ _ _ (λ f. refl) (keeps_page d _ (refl, refl) is
      (λ has opens all. insert_all (Shows has) d.layout.shown _ empty tt all)
      (split_place d.layout.shown d.layout.focus)))
  shape command.Focus = on_page _ _ (λ d is. enters_page d _ (refl, refl) is (λ has opens all. all))
  shape command.Remove = on_page _ _
      (λ d is. by_refused (Shape t k _) _ _ _ refl
      (λ no. enters_page d _ (refl, refl) is
      (λ has opens all. remove_all (Shows has) d.layout.shown d.layout.focus all)))
  shape command.Only = on_page _ _ (λ d is. keeps_page d _ (refl, refl) is
      (λ has opens all. (get_all (Shows has) d.layout.shown d.layout.focus empty tt all, tt))
      (alone_place (slice_get d.layout.shown d.layout.focus)))
  shape (command.Scrollview n) = on_page _ _ (λ d is. keeps_page d _ (refl, refl) is
      (λ has opens all. set_all (Shows has) d.layout.shown d.layout.focus (record (shown_in_focus d) { back = n })
      (get_all (Shows has) d.layout.shown d.layout.focus empty tt all) all)
      (scrolled_place d.layout.shown d.layout.focus n))
  shape command.Fit = on_page _ _
      (λ d is. on_own _ _
      (λ w at. by_given (Shape t k _) _ _ _ refl
      (λ box there. by_refused (Shape t k _) _ _ _ refl (λ no. fitted w (box.rows - 1) box.columns refl at))))
  shape (command.Title bytes) = on_own _ _ (λ w at. by_refused (Shape t k _) _ _ _ refl (λ no. titled w bytes refl at))
  shape (command.Number n) = on_own _ _
      (λ w at. by_refused (Shape t k _) (is_taken t w n) _ _ refl (λ free. numbered w n refl at free))
  shape command.Clear = on_own _ _ (λ w at. writes_to w written.Clear refl at)
  shape command.Reset = on_own _ _ (λ w at. writes_to w written.Reset refl at)
  shape (command.Encoding coding) = on_own _ _ (λ w at. writes_to w (written.Encoding (coding_of coding)) refl at)
  shape (command.Stuff bytes) = on_own _ _ (λ w at. typed w bytes refl at)
  shape command.Detach = on_page _ _ (λ d is. detached d refl is)
  shape command.Kill = on_own _ _ (λ w at. killed w refl at)
  shape command.Quit = quits refl

-- if a fact holds for each kind of deed, it holds for each command's deed
pub by_shape : (P : Deed → Type 0) (t : Tables) (k : Caller) (c : Order) → ((d : Deed) → Shape t k c d → P d)
    → Either P (does t k c)
by_shape P t k c on = through (does t k c) (shape t k c) where
  through : (a : Answer) → Either (Shape t k c) a → Either P a
  through (Ok d) is = on d is
  through (Err r) is = is

-- a command that does no deed is refused for a reason of its own
pub own : (t : Tables) (k : Caller) (c : Order) → Either (λ d. Unit {0}) (does t k c)
own t k c = by_shape (λ d. Unit {0}) t k c (λ d is. tt)
