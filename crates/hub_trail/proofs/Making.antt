-- Which acts each command does, command by command.
use Rattle.hub_trail.proofs.Vocabulary.{◌≡◌, ℕ, Bool, true, false, not, List, [], ◌∷◌, ◌++◌, Option, Some, None, Ok}
use Rattle.hub_trail.proofs.Vocabulary.{refl, ap, sym, ◌∙◌, subst, map, filter, ◌==◌, AllByRecursion, option_and_then}
use Rattle.hub_trail.proofs.Vocabulary.{UserId, Act, same_user, named_by, change_fault, mask_fault, same_user-refl}
use Rattle.hub_trail.proofs.Vocabulary.{name_of, Arrangement, Quit, StatusMessage, Refusal, Acl, Windows, NoWindow}
use Rattle.hub_trail.proofs.Vocabulary.{NoSuchWindow, Tables, Window, Client, window_at, client_at, with_client}
use Rattle.hub_trail.proofs.Vocabulary.{with_layout, focused, known_users, group_fault_in, names_of, new_leader_of}
use Rattle.hub_trail.proofs.Vocabulary.{window_named, Caller, left_acts, Deed, Answer, removes, parts, closes, is_of}
use Rattle.hub_trail.proofs.Vocabulary.{enters, entering, without_windows, does, caller_client}
use Rattle.hub_trail.proofs.Vocabulary.{mask_entries, Either, is_plain, none_left, nobody_left, equal, itself}
use Rattle.hub_trail.proofs.Vocabulary.{all_weaken, all_append, all_map, all_of, all_passed, all_left, IsMine, makes}
use Rattle.hub_trail.proofs.Vocabulary.{LeftBy, left_where, parted}
use Rattle.acl.specs.declared.act.Act.TheVariants as act
use Rattle.command_lang.specs.declared.command.Command.{Command as Order}
use Rattle.command_lang.specs.declared.command.Command.TheVariants as command
use Rattle.regions.specs.Layouts.{kept_alone, split_focused, remove_focused, next_focus}
use Rattle.session.specs.event.Reason.TheVariants.{Detached}
use Rattle.session.specs.Naming.{window_after, window_before}
use Rattle.session.specs.Deeds.{given, arranges, former_of, showing, shown_in_focus, both, hearing}
use Rattle.session.specs.Commands.{on_client, known_fault, is_taken, way_of}
use Rattle.session.proofs.Doing.{by_given, by_unless, by_refused, by_clear, by_changes, by_shown, caller_is}
use Rattle.session.proofs.CommandActs.{IsCaller}
use Rattle.hub_trail.specs.Fitting.{is_client}
use Rattle.session.proofs.GuestsLeaving.{turned}
use Rattle.hub_trail.proofs.Listed.{change_all, add_all, group_all, mask_all}

module _ (t : Tables) (k : Caller) (by : IsCaller t k) (mine : IsMine t k) where
  abbrev pub Made : Order → Act → Type 0
  Made c a = makes k.client k.user (name_of c) a ≡ true

  -- the acts of the deed, and those of users who then leave windows, are acts that the command can
  -- do
  abbrev pub Fine : Order → Deed → Type 0
  Fine c d = AllByRecursion (Made c) (d.acts ++ left_acts t.clients d.tables.clients)

  then_left : (c : Order) (acts : List Act) (after : List Client) → AllByRecursion (Made c) acts
      → AllByRecursion (Made c) (left_acts t.clients after)
      → AllByRecursion (Made c) (acts ++ left_acts t.clients after)
  then_left c acts after = all_append (Made c) acts (left_acts t.clients after)

  -- nobody leaves a window
  still : (c : Order) (acts : List Act) → AllByRecursion (Made c) acts
      → AllByRecursion (Made c) (acts ++ left_acts t.clients t.clients)
  still c acts all = then_left c acts t.clients all (subst (AllByRecursion (Made c)) (sym (none_left t.clients)) tt)

  -- any user may leave a window
  anyone : (c : Order) (acts : List Act) (after : List Client) → ((u : UserId) (w : ℕ) → Made c (act.Left u w))
      → AllByRecursion (Made c) acts → AllByRecursion (Made c) (acts ++ left_acts t.clients after)
  anyone c acts after on all = then_left c acts after all (all_left (Made c) t.clients after on)

  abbrev Mine : UserId → ℕ → Type 0
  Mine u w = same_user u k.user ≡ true

  own : (u : UserId) → u ≡ k.user → same_user u k.user ≡ true
  own u is = ap (λ v. same_user v k.user) is ∙ same_user-refl k.user

  -- only the command's own user leaves a window
  himself : (c : Order) (acts : List Act) → ((u : UserId) (w : ℕ) → same_user u k.user ≡ true → Made c (act.Left u w))
      → AllByRecursion (LeftBy Mine) acts → AllByRecursion (Made c) acts
  himself c acts on all = all_weaken (LeftBy Mine) (Made c) acts one all where
    one : (a : Act) → LeftBy Mine a → Made c a
    one (act.Left u w) is = on u w is
    one a is = absurd is

  row_own : (d r : Client) → caller_client t k ≡ Some d → client_at t d.serial ≡ Some r → r.user ≡ k.user
  row_own d r at is = by r (ap (option_and_then (client_at t)) (caller_is t k.client d at) ∙ is)

  page_left : (c : Order) (d : Client) (l : Arrangement) → caller_client t k ≡ Some d
      → ((u : UserId) (w : ℕ) → same_user u k.user ≡ true → Made c (act.Left u w))
      → AllByRecursion (Made c) (left_acts t.clients (with_client t (with_layout l d)).clients)
  page_left c d l at on =
      himself c (left_acts t.clients (with_client t (with_layout l d)).clients) on
      (left_where Mine t.clients (with_client t (with_layout l d)).clients
      (turned Mine t.clients d.serial (with_layout l d) (λ r is w. own r.user (row_own d r at is))))

  enters_acts : (c : Order) (d : Client) (o : Option ℕ) → caller_client t k ≡ Some d
      → ((u : UserId) (w : ℕ) → same_user u k.user ≡ true → Made c (act.Entered u w))
      → AllByRecursion (Made c) (entering d.user o)
  enters_acts c d None at on = tt
  enters_acts c d (Some w) at on = (on d.user w (own d.user (by d at)), tt)

  enters_fine : (c : Order) (d : Client) (l : Arrangement) → caller_client t k ≡ Some d
      → ((u : UserId) (w : ℕ) → same_user u k.user ≡ true → Made c (act.Entered u w))
      → ((u : UserId) (w : ℕ) → same_user u k.user ≡ true → Made c (act.Left u w)) → Fine c (enters t d l)
  enters_fine c d l at enter left = then_left c (entering d.user (focused (with_layout l d)))
      (with_client t (with_layout l d)).clients (enters_acts c d (focused (with_layout l d)) at enter)
      (page_left c d l at left)

  arranges_fine : (c : Order) (d : Client) (l : Arrangement) → caller_client t k ≡ Some d
      → ((u : UserId) (w : ℕ) → same_user u k.user ≡ true → Made c (act.Left u w)) → Fine c (arranges t d l)
  arranges_fine c d l at left = page_left c d l at left

  parted_all : (c : Order) (goes : Client → Bool) (cs : List Client)
      → ((d : Client) → goes d ≡ true → Made c (act.Parted d.serial))
      → AllByRecursion (Made c) (map (λ (d : Client). act.Parted d.serial) (filter goes cs))
  parted_all c goes cs on =
      all_map (Made c) (λ (d : Client). act.Parted d.serial) (filter goes cs)
      (all_passed (λ (d : Client). Made c (act.Parted d.serial)) goes cs
      (all_of (λ (d : Client). goes d ≡ true → Made c (act.Parted d.serial)) cs on))

  closed_all : (c : Order) (goes : Window → Bool) (ws : List Window) → ((w : ℕ) → Made c (act.Closed w))
      → AllByRecursion (Made c) (map (λ (w : Window). act.Closed w.serial) (filter goes ws))
  closed_all c goes ws on = all_map (Made c) (λ (w : Window). act.Closed w.serial) (filter goes ws)
      (all_of (λ (w : Window). Made c (act.Closed w.serial)) (filter goes ws) (λ w. on w.serial))

  removal : (word : List ℕ) (o : Option UserId) → Fine (command.Acldel word) (removes o t)
  removal word None = anyone (command.Acldel word) [] t.clients (λ u w. refl) tt
  removal word (Some u) =
      anyone (command.Acldel word) (map (λ (d : Client). act.Parted d.serial)
      (filter (is_of u) t.clients) ++ act.Gone u ∷ []) (filter (λ d. not (is_of u d)) t.clients) (λ v w. refl)
      (all_append (Made (command.Acldel word)) (map (λ (d : Client). act.Parted d.serial) (filter (is_of u) t.clients))
      (act.Gone u ∷ []) (parted_all (command.Acldel word) (is_of u) t.clients (λ d goes. refl)) (refl, tt))

  client_is : (o : Option ℕ) (n : ℕ) → o ≡ Some n → is_client o n ≡ true
  client_is None n is = absurd (cc (is))
  client_is (Some m) n is = let same : m ≡ n = cc (is) in ap (λ x. x == n) same ∙ itself n

  detached : (d : Client) → caller_client t k ≡ Some d
      → Fine command.Detach (parts (λ (e : Client). e.serial == d.serial) Detached t)
  detached d at =
      let given_by : k.client ≡ Some d.serial = caller_is t k.client d at in
      then_left command.Detach (map (λ (e : Client). act.Parted e.serial)
      (filter (λ (e : Client). e.serial == d.serial) t.clients))
      (filter (λ (e : Client). not (e.serial == d.serial)) t.clients)
      (parted_all command.Detach (λ (e : Client). e.serial == d.serial) t.clients
      (λ e goes. client_is k.client e.serial (given_by ∙ ap Some (sym (equal e.serial d.serial goes)))))
      (himself command.Detach (left_acts t.clients (filter (λ (e : Client). not (e.serial == d.serial)) t.clients))
      (λ u w is. is)
      (left_where Mine t.clients (filter (λ (e : Client). not (e.serial == d.serial)) t.clients)
      (parted Mine (λ (e : Client). e.serial == d.serial) t.clients
      (all_weaken (λ (e : Client). (e.serial == d.serial) ≡ true → e.user ≡ k.user)
      (λ (e : Client). (e.serial == d.serial) ≡ true → (w : ℕ) → Mine e.user w) t.clients
      (λ e his here w. own e.user (his here)) (mine d.serial given_by)))))

  quits : Fine command.Quit (both (closes (λ w. true) Quit t) (parts (λ d. true) Quit))
  quits =
      let closed : List Act = map (λ (w : Window). act.Closed w.serial) (filter (λ (w : Window). true) t.windows) in
      let rest : List Client = without_windows (filter (λ (w : Window). true) t.windows) t.clients in
      let gone : List Act = map (λ (d : Client). act.Parted d.serial) (filter (λ (d : Client). true) rest) in
      anyone command.Quit (closed ++ gone) (filter (λ (d : Client). not true) rest) (λ u w. refl)
      (all_append (Made command.Quit) closed gone (closed_all command.Quit (λ w. true) t.windows (λ w. refl))
      (parted_all command.Quit (λ d. true) rest (λ d goes. refl)))

  shows_fine : (c : Order) (o : Client → Option Window) (r : Refusal) → is_plain r ≡ true
      → ((u : UserId) (w : ℕ) → same_user u k.user ≡ true → Made c (act.Entered u w))
      → ((u : UserId) (w : ℕ) → same_user u k.user ≡ true → Made c (act.Left u w))
      → Either (Fine c) (on_client t k (λ d. given (o d) r (λ w. Ok (Rattle.session.specs.Deeds.selects t d w))))
  shows_fine c o r is enter left = by_shown (Fine c) t k o r is
      (λ d w at there. enters_fine c d (showing d (record { window = Some w.serial; back = 0 })) at enter left)

  on_page : (c : Order) (f : Client → Answer) → ((d : Client) → caller_client t k ≡ Some d → Either (Fine c) (f d))
      → Either (Fine c) (on_client t k f)
  on_page c f on = by_given (Fine c) (caller_client t k) NoWindow f refl on

  on_own : (c : Order) (f : Window → Answer) → ((w : Window) → k.window ≡ Some w → Either (Fine c) (f w))
      → Either (Fine c) (given k.window NoWindow f)
  on_own c f on = by_given (Fine c) k.window NoWindow f refl on

  heard : (m : StatusMessage) (cs : List Client)
      → map Rattle.session.specs.Promises.unread
      (map (hearing m) cs) ≡ map Rattle.session.specs.Promises.unread cs
  heard m [] = refl
  heard m (c ∷ cs) = ap (λ ds. Rattle.session.specs.Promises.unread c ∷ ds) (heard m cs)

  pub fine : (c : Order) → Either (Fine c) (does t k c)
  fine (command.Acladd names) =
      by_changes (Fine (command.Acladd names)) t (change_fault t.owner (known_users t) (names_of t names)) _ _
      (λ clear all is. still (command.Acladd names) _
      (add_all (Made (command.Acladd names)) (λ u. refl) (λ u b o v. refl) (known_users t) (names_of t names) all))
  fine (command.Aclchg names bits list) =
      by_changes (Fine (command.Aclchg names bits list)) t (change_fault t.owner (known_users t) (names_of t names)) _ _
      (λ clear all is. still (command.Aclchg names bits list) _
      (change_all (Made (command.Aclchg names bits list)) (λ u. refl) (λ u b o v. refl) (known_users t)
      (names_of t names) bits all))
  fine (command.Acldel word) = by_clear (Fine (command.Acldel word)) Acl (known_fault t word) _ (λ f. refl)
      (λ clear. removal word (named_by word))
  fine (command.Aclgrp word None) = by_unless (Fine (command.Aclgrp word None)) Acl (known_fault t word) _ (λ f. refl)
      (still (command.Aclgrp word None) [] tt)
  fine (command.Aclgrp word (Some leader)) =
      by_clear (Fine (command.Aclgrp word (Some leader))) Acl
      (group_fault_in t (named_by word) (new_leader_of leader)) _ (λ f. refl)
      (λ clear. still (command.Aclgrp word (Some leader)) _
      (group_all (Made (command.Aclgrp word (Some leader))) (λ u l. refl) (named_by word) (new_leader_of leader)))
  fine (command.Aclumask masks) =
      by_clear (Fine (command.Aclumask masks)) Acl (mask_fault t.owner (known_users t) (mask_entries t masks)) _
      (λ f. refl)
      (λ clear. still (command.Aclumask masks) _
      (mask_all (Made (command.Aclumask masks)) k.user (λ u b v. same_user-refl k.user) (λ kind b v. refl)
      (mask_entries t masks)))
  fine (command.Multiuser true) = still (command.Multiuser true) [] tt
  fine (command.Multiuser false) =
      anyone (command.Multiuser false)
      (map (λ (d : Client). act.Parted d.serial) (filter (λ d. not (is_of t.owner d)) t.clients)) _ (λ u w. refl)
      (parted_all (command.Multiuser false) (λ d. not (is_of t.owner d)) t.clients (λ d goes. refl))
  fine (command.Writelock mode) = on_own (command.Writelock mode) _
      (λ w at. still (command.Writelock mode) (act.Mode k.user w.serial mode ∷ []) (same_user-refl k.user, tt))
  fine (command.Defwritelock mode) = still (command.Defwritelock mode) (act.Default mode ∷ []) (refl, tt)
  fine (command.Wall bytes) = subst (AllByRecursion (Made (command.Wall bytes)))
      (sym (nobody_left t.clients (map (hearing _) t.clients) (heard _ t.clients))) tt
  fine (command.Select word) = shows_fine (command.Select word) (λ d. window_named t.windows word)
      (Windows NoSuchWindow) refl (λ u w is. is) (λ u w is. is)
  fine command.Next = shows_fine command.Next (λ d. window_after t.windows k.window) NoWindow refl (λ u w is. is)
      (λ u w is. is)
  fine command.Prev = shows_fine command.Prev (λ d. window_before t.windows k.window) NoWindow refl (λ u w is. is)
      (λ u w is. is)
  fine command.Other = shows_fine command.Other (λ d. option_and_then (window_at t) (former_of d)) NoWindow refl
      (λ u w is. is) (λ u w is. is)
  fine (command.Split vertical) = on_page (command.Split vertical) _
      (λ d at. by_unless (Fine (command.Split vertical)) _ _ _ (λ f. refl)
      (arranges_fine (command.Split vertical) d (split_focused (way_of vertical) d.layout) at (λ u w is. is)))
  fine command.Focus = on_page command.Focus _
      (λ d at. enters_fine command.Focus d (record d.layout { focus = next_focus d.layout }) at (λ u w is. is)
      (λ u w is. is))
  fine command.Remove = on_page command.Remove _
      (λ d at. by_refused (Fine command.Remove) _ _ _ refl
      (λ no. enters_fine command.Remove d (remove_focused d.layout) at (λ u w is. is) (λ u w is. is)))
  fine command.Only = on_page command.Only _
      (λ d at. arranges_fine command.Only d (kept_alone d.layout) at (λ u w is. is))
  fine (command.Scrollview n) = on_page (command.Scrollview n) _
      (λ d at. arranges_fine (command.Scrollview n) d (showing d (record (shown_in_focus d) { back = n })) at
      (λ u w is. is))
  fine command.Fit = on_page command.Fit _
      (λ d at. on_own command.Fit _ (λ w in_it. by_given (Fine command.Fit) _ _ _ refl
      (λ box there. by_refused (Fine command.Fit) _ _ _ refl (λ no. still command.Fit [] tt))))
  fine (command.Title bytes) = on_own (command.Title bytes) _
      (λ w at. by_refused (Fine (command.Title bytes)) _ _ _ refl (λ no. still (command.Title bytes) [] tt))
  fine (command.Number n) = on_own (command.Number n) _
      (λ w at. by_refused (Fine (command.Number n)) (is_taken t w n) _ _ refl (λ free. still (command.Number n) [] tt))
  fine command.Clear = on_own command.Clear _ (λ w at. still command.Clear [] tt)
  fine command.Reset = on_own command.Reset _ (λ w at. still command.Reset [] tt)
  fine (command.Encoding coding) = on_own (command.Encoding coding) _ (λ w at. still (command.Encoding coding) [] tt)
  fine (command.Stuff bytes) = on_own (command.Stuff bytes) _ (λ w at. still (command.Stuff bytes) [] tt)
  fine command.Detach = on_page command.Detach _ (λ d at. detached d at)
  fine command.Kill = on_own command.Kill _ (λ w at.
      anyone command.Kill (map (λ (v : Window). act.Closed v.serial)
      (filter (λ (v : Window). v.serial == w.serial) t.windows)) _ (λ u x. refl)
      (closed_all command.Kill (λ (v : Window). v.serial == w.serial) t.windows (λ x. refl)))
  fine command.Quit = quits
  fine c = still c [] tt
