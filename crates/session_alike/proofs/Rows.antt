-- Each command does the same in sessions that are alike.
use Rattle.session_alike.proofs.Vocabulary.{◌≡◌, ℕ, ◌-◌, Bool, true, false, not, List, [], ◌∷◌, ◌++◌, Option, Some}
use Rattle.session_alike.proofs.Vocabulary.{None, Ok, refl, ap, sym, ◌∙◌, subst, length, ◌==◌, nat_lt, codes, slice_set}
use Rattle.session_alike.proofs.Vocabulary.{option_and_then, option_map, UserId, mask_acts, mask_fault, name_of}
use Rattle.session_alike.proofs.Vocabulary.{named_by, same_user, Order, Shown, Way, Arrangement, kept_alone, next_focus}
use Rattle.session_alike.proofs.Vocabulary.{remove_focused, split_fault, split_focused, BothOrNone, Matched, Size, Acl}
use Rattle.session_alike.proofs.Vocabulary.{NoWindow, Regions, Windows, caller_client, coding_of, does, focus_of}
use Rattle.session_alike.proofs.Vocabulary.{mask_entries, on_client, on_window, way_of, Answer, Deed, arranges}
use Rattle.session_alike.proofs.Vocabulary.{changing, fits, focused_box, former_of, input_of, is_of, selects, showing}
use Rattle.session_alike.proofs.Vocabulary.{shown_in_focus, tells, given, refused_if, unless, Refusal, Caller}
use Rattle.session_alike.proofs.Vocabulary.{new_leader_of, Client, Tables, Window, client_at, focused, known_users}
use Rattle.session_alike.proofs.Vocabulary.{window_at, with_layout, windows_text, Renaming, layout_as, refusal_as}
use Rattle.session_alike.proofs.Vocabulary.{shown_as, ClientsAlike, ListsAlike, TablesAlike, WindowsAlike, EffectsAlike}
use Rattle.session_alike.proofs.Vocabulary.{then_both, cases_as}
use Rattle.acl.specs.declared.act.Act.TheVariants as act
use Rattle.command_lang.specs.declared.command.Command.TheVariants as command
use Rattle.terminal_model.specs.Writing as written
use Rattle.session_model.specs.declared.event.Reason.TheVariants as reason
use Rattle.session_model.specs.rows.WindowsFault.TheVariants as fault
use Rattle.session_alike.proofs.Answering.{given_alike, refused_alike, same_one, unless_alike}
use Rattle.session_alike.proofs.Arranging as arrangement
use Rattle.session_alike.proofs.Changing.{AnswersAlike, DeedsAlike, acting_alike, arranged_alike, closes_alike, deed_as}
use Rattle.session_alike.proofs.Changing.{done, enters_alike, input_as, listing_alike, mode_alike, parts_alike}
use Rattle.session_alike.proofs.Changing.{put_client_alike, put_window_alike, tells_alike, writes_alike}
use Rattle.session_alike.proofs.Checking.{CallersAlike, serial_as}
use Rattle.session_alike.proofs.Finding.{client_alike, client_serials, focused_as, window_in, window_serials}
use Rattle.session_alike.proofs.Granting.{group_acts_as, mask_acts_as}
use Rattle.session_alike.proofs.Listing.{clients_text_alike, windows_text_alike}
use Rattle.session_alike.proofs.Naming.{after_both, before_both, every_alike, masks_alike, named_both, names_alike}
use Rattle.session_alike.proofs.Naming.{objects_alike, taken_alike}
use Rattle.session_alike.proofs.Lists.{Same, adding, changes_alike, group_fault_alike, known_fault_alike}
use Rattle.session_alike.proofs.Lists.{leaders_named_alike, mask_fault_alike, no_list, quits_alike, removes_alike}
use Rattle.session_alike.proofs.Lists.{setting}
use Rattle.acl.specs.declared.entries.AclFault.{AclFault}
use Rattle.regions.specs.declared.layout.RegionFault.TheVariants.{LastRegion, TooSmall}
use Rattle.regions.specs.declared.rect.Rect.{Rect}

-- what a command lists: only the lists of `displays` differ, in the serials of clients
abbrev pub ListedBy : Renaming → Order → List ℕ → List ℕ → Type 0
ListedBy n command.Displays = ListsAlike n
ListedBy n _ = Same

module _ (n : Renaming) (t u : Tables) (a : TablesAlike n t u) where
  abbrev D : Deed → Deed → Type 0
  D d e = DeedsAlike n t.acts u.acts d e

  abbrev A : Answer → Answer → Type 0
  A x y = AnswersAlike n Same t.acts u.acts x y

  -- ---- pages

  module _ (c d : Client) (r : ClientsAlike n c d) where
    arranges_alike : (l m : Arrangement) → m ≡ layout_as n l → D (arranges t c l) (arranges u d m)
    arranges_alike l m same = deed_as refl
        (put_client_alike n t u a (with_layout l c) (with_layout m d) (arranged_alike n c d r l m same)) tt

    showing_as : (s x : Shown) → x ≡ shown_as n s → showing d x ≡ layout_as n (showing c s)
    showing_as s x same =
        ap (showing d) same
        ∙ ap (λ (l : Arrangement). record l { shown = slice_set l.shown l.focus (shown_as n s) }) r.layout
        ∙ arrangement.put_as n c.layout s

    in_focus_alike : shown_in_focus d ≡ shown_as n (shown_in_focus c)
    in_focus_alike = cc (r.layout, arrangement.in_focus_as n c.layout)

    selects_alike : (w v : Window) → WindowsAlike n w v → D (selects t c w) (selects u d v)
    selects_alike w v s =
        enters_alike n t u a c d r (showing c (record { window = Some w.serial; back = 0 }))
        (showing d (record { window = Some v.serial; back = 0 }))
        (showing_as (record { window = Some w.serial; back = 0 }) (record { window = Some v.serial; back = 0 })
        (ap (λ x. record { window = Some x; back = 0 }) s.serial))

    former_alike : former_of d ≡ option_map n.window (former_of c)
    former_alike = cases_as (λ x y. y ≡ option_map n.window x) n.window (λ w. d.former) (focused c) (focused d)
        (focused_as n c d r.layout) r.last (λ w. r.former)

    split_alike : (way : Way) → split_fault way d.layout d.rows d.columns ≡ split_fault way c.layout c.rows c.columns
    split_alike way =
        cc (r.layout, arrangement.fault_as n way c.layout d.rows d.columns, r.rows, r.columns)

    box_alike : focused_box d ≡ focused_box c
    box_alike = cc (r.layout, r.rows, r.columns)

  fits_alike : (w v : Window) → WindowsAlike n w v → (box : Rect) → A (fits t w box) (fits u v box)
  fits_alike w v r box =
      let d : D (Rattle.session_model.specs.Deeds.writes t w (written.Size (box.rows - 1) box.columns))
      (Rattle.session_model.specs.Deeds.writes u v (written.Size (box.rows - 1) box.columns)) =
      writes_alike n t u a w v r (written.Size (box.rows - 1) box.columns) in
      refused_alike n Same t.acts u.acts (nat_lt (box.rows - 1) 2) _ refl (Regions TooSmall) _ _
      (done (deed_as refl d.tables (ap (λ s. Size s (box.rows - 1) box.columns) r.serial, tt)) tt)

  -- ---- the rows
  module _ (k l : Caller) (r : CallersAlike n k l) where
    caller_alike : BothOrNone (ClientsAlike n) (caller_client t k) (caller_client u l)
    caller_alike = subst (λ o. BothOrNone (ClientsAlike n) (caller_client t k) (option_and_then (client_at u) o))
        (sym r.client) (then_both (ClientsAlike n) (client_at t) (client_at u) n.client k.client (client_alike n t u a))

    by_client : (F G : Client → Answer) → ((c d : Client) → ClientsAlike n c d → A (F c) (G d))
        → A (on_client t k F) (on_client u l G)
    by_client F G same =
        given_alike n Same t.acts u.acts (ClientsAlike n) _ _ NoWindow F G caller_alike same

    by_window : (F G : Window → Answer) → ((w v : Window) → WindowsAlike n w v → A (F w) (G v))
        → A (on_window t k F) (on_window u l G)
    by_window F G same =
        given_alike n Same t.acts u.acts (WindowsAlike n) k.window l.window NoWindow F G r.window same

    -- the client selects the window that is found, if one is
    selecting : (o p : Client → Option Window) (why : Refusal)
        → ((c d : Client) → ClientsAlike n c d → BothOrNone (WindowsAlike n) (o c) (p d))
        → A (on_client t k (λ c. given (o c) why (λ w. Ok (selects t c w))))
        (on_client u l (λ d. given (p d) (refusal_as n why) (λ v. Ok (selects u d v))))
    selecting o p why found =
        by_client _ _ (λ c d s. given_alike n Same t.acts u.acts (WindowsAlike n) (o c) (p d) why
        (λ w. Ok (selects t c w)) (λ v. Ok (selects u d v)) (found c d s)
        (λ w v q. done (selects_alike c d s w v q) tt))

    focus_in : focus_of l ≡ option_map n.window (focus_of k)
    focus_in =
        ap (option_and_then (λ client. option_map (λ (w : Window). w.serial) l.window)) r.client ∙ on k.client where
          on : (o : Option ℕ)
              → option_and_then (λ client. option_map (λ (w : Window). w.serial) l.window) (option_map n.client o)
              ≡ option_map n.window (option_and_then (λ client. option_map (λ (w : Window). w.serial) k.window) o)
          on None = refl
          on (Some client) = serial_as n k.window l.window r.window

    windows_listed : windows_text u l.user (focus_of l) ≡ windows_text t k.user (focus_of k)
    windows_listed = cc (r.user, focus_in, windows_text_alike n t u a k.user (focus_of k))

    typed_in : (bytes : List ℕ) (w v : Window) → WindowsAlike n w v
        → D (record (changing t) { effects = input_of w.serial bytes })
        (record (changing u) { effects = input_of v.serial bytes })
    typed_in bytes w v s = deed_as refl a
        (subst (λ x. Matched (EffectsAlike n) (input_of w.serial bytes) (input_of x bytes)) (sym s.serial)
        (input_as n w.serial bytes))

    put_alike : (x y : Window) → WindowsAlike n x y
        → D (changing (Rattle.session_model.specs.Tables.with_window t x))
        (changing (Rattle.session_model.specs.Tables.with_window u y))
    put_alike x y s = deed_as refl (put_window_alike n t u a x y s) tt

    -- a fault of a name or a group, or acts
    unless_so : (o p : Option AclFault) → p ≡ o → (d e : Deed) → A (Ok d) (Ok e) → A (unless Acl o d) (unless Acl p e)
    unless_so o p same d e alike = unless_alike n Same t.acts u.acts Acl (λ f. refl) o p same d e alike

    refused_so : (b c : Bool) → c ≡ b → (why : Refusal) (d e : Deed) → A (Ok d) (Ok e)
        → A (refused_if b why d) (refused_if c (refusal_as n why) e)
    refused_so b c same why d e alike = refused_alike n Same t.acts u.acts b c same why d e alike

    pub does_alike : (c : Order) → AnswersAlike n (ListedBy n c) t.acts u.acts (does t k c) (does u l c)
    does_alike (command.Acladd names) =
        changes_alike n t u a _ _ (names_alike n t u a names) _ _ (ap Some (every_alike n t u a)) _ _
        (adding n t u a _ _ (names_alike n t u a names))
    does_alike (command.Aclchg names bits list) =
        changes_alike n t u a _ _ (names_alike n t u a names) _ _ (objects_alike n t u a list) _ _
        (setting n t u a _ _ (names_alike n t u a names) bits)
    does_alike (command.Acldel word) =
        unless_so _ _ (known_fault_alike n t u a word) _ _
        (done (removes_alike n t u a (named_by word)) (no_list n t u a (named_by word)))
    does_alike (command.Aclgrp word None) =
        unless_so _ _ (known_fault_alike n t u a word) _ _
        (done (listing_alike n t u a _ _) (leaders_named_alike n t u a word))
    does_alike (command.Aclgrp word (Some leader)) =
        unless_so _ _ (group_fault_alike n t u a (named_by word) (new_leader_of leader)) _ _
        (done (acting_alike n t u a _ _ (group_acts_as n (named_by word) (new_leader_of leader))) tt)
    does_alike (command.Aclumask masks) =
        unless_so _ _ (ap (mask_fault u.owner (known_users u)) (masks_alike n t u a masks)
        ∙ mask_fault_alike n t u a (mask_entries t masks)) _ _
        (done (acting_alike n t u a _ _ (ap (λ (v : UserId). mask_acts v (mask_entries u masks)) r.user
        ∙ ap (mask_acts k.user) (masks_alike n t u a masks) ∙ mask_acts_as n k.user (mask_entries t masks))) tt)
    does_alike (command.Multiuser true) =
        done (deed_as refl (mode_alike n t u a true) tt) tt
    does_alike (command.Multiuser false) =
        done (parts_alike n (record t { is_multiuser = false }) (record u { is_multiuser = false })
        (mode_alike n t u a false) (λ c. not (is_of t.owner c)) (λ c. not (is_of u.owner c)) reason.SingleUser
        (λ c d s. ap not (ap (λ (x : UserId). same_user d.user x) a.owner
        ∙ ap (λ (x : UserId). same_user x t.owner) s.user))) tt
    does_alike (command.Writelock mode) =
        by_window _ _ (λ w v s. done (acting_alike n t u a _ _
        (ap (λ (x : UserId). act.Mode x v.serial mode ∷ []) r.user
        ∙ ap (λ x. act.Mode k.user x mode ∷ []) s.serial)) tt)
    does_alike (command.Defwritelock mode) = done (acting_alike n t u a _ _ refl) tt
    does_alike (command.Wall bytes) =
        subst (λ (v : UserId). A (Ok (tells (name_of k.user ++ (codes ": " ++ bytes)) t))
        (Ok (tells (name_of v ++ (codes ": " ++ bytes)) u))) (sym r.user) (done (tells_alike n t u a _) tt)
    does_alike command.Screen = done (listing_alike n t u a _ _) refl
    does_alike command.Windows = done (listing_alike n t u a _ _) windows_listed
    does_alike command.Displays = done (listing_alike n t u a _ _) (clients_text_alike n t u a)
    does_alike (command.Select word) =
        selecting _ _ (Windows fault.NoSuchWindow) (λ c d s. named_both n t.windows u.windows a.windows word)
    does_alike command.Next =
        selecting _ _ NoWindow (λ c d s. after_both n t.windows u.windows a.windows k.window l.window r.window)
    does_alike command.Prev =
        selecting _ _ NoWindow (λ c d s. before_both n t.windows u.windows a.windows k.window l.window r.window)
    does_alike command.Other =
        selecting _ _ NoWindow
        (λ c d s. subst (λ o. BothOrNone (WindowsAlike n) (option_and_then (window_at t) (former_of c))
        (option_and_then (window_at u) o)) (sym (former_alike c d s)) (window_in n t u a (former_of c)))
    does_alike (command.Split vertical) =
        by_client _ _ (λ c d s. unless_alike n Same t.acts u.acts Regions (λ f. refl) _ _
        (split_alike c d s (way_of vertical)) _ _ (done (arranges_alike c d s _ _
        (ap (split_focused (way_of vertical)) s.layout ∙ arrangement.split_as n (way_of vertical) c.layout)) tt))
    does_alike command.Focus =
        by_client _ _ (λ c d s. done (enters_alike n t u a c d s _ _
        (ap (λ (x : Arrangement). record x { focus = next_focus x }) s.layout ∙ arrangement.next_as n c.layout)) tt)
    does_alike command.Remove =
        by_client _ _ (λ c d s. refused_so _ _ (ap (λ (x : Arrangement). length x.shown == 1) s.layout
        ∙ ap (λ count. count == 1) (arrangement.shown_count n c.layout)) (Regions LastRegion) _ _
        (done (enters_alike n t u a c d s _ _ (ap remove_focused s.layout ∙ arrangement.removed_as n c.layout)) tt))
    does_alike command.Only =
        by_client _ _ (λ c d s. done (arranges_alike c d s _ _
        (ap kept_alone s.layout ∙ arrangement.alone_as n c.layout)) tt)
    does_alike (command.Scrollview back) =
        by_client _ _ (λ c d s. done (arranges_alike c d s _ _ (showing_as c d s _ _
        (ap (λ (x : Shown). record x { back = back }) (in_focus_alike c d s)))) tt)
    does_alike command.Fit =
        by_client _ _ (λ c d s. by_window _ _ (λ w v q. given_alike n Same t.acts u.acts (λ (x y : Rect). y ≡ x) _ _
        NoWindow (fits t w) (fits u v) (same_one (focused_box c) (focused_box d) (box_alike c d s))
        (λ x y same. subst (λ (z : Rect). A (fits t w x) (fits u v z)) (sym same) (fits_alike w v q x))))
    does_alike (command.Title bytes) =
        by_window _ _ (λ w v s. refused_so _ _ refl (Windows fault.BadTitle) _ _
        (done (put_alike (record w { title = bytes }) (record v { title = bytes })
        (record { serial = s.serial; number = s.number; title = refl; terminal = s.terminal })) tt))
    does_alike (command.Number m) =
        by_window _ _ (λ w v s. refused_so _ _ (taken_alike n t u a w v s m) (Windows fault.NumberTaken) _ _
        (done (put_alike (record w { number = m }) (record v { number = m })
        (record { serial = s.serial; number = refl; title = s.title; terminal = s.terminal })) tt))
    does_alike command.Clear = by_window _ _ (λ w v s. done (writes_alike n t u a w v s written.Clear) tt)
    does_alike command.Reset = by_window _ _ (λ w v s. done (writes_alike n t u a w v s written.Reset) tt)
    does_alike (command.Encoding coding) =
        by_window _ _ (λ w v s. done (writes_alike n t u a w v s (written.Encoding (coding_of coding))) tt)
    does_alike (command.Stuff bytes) = by_window _ _ (λ w v s. done (typed_in bytes w v s) tt)
    does_alike command.Detach =
        by_client _ _ (λ c d s. done (parts_alike n t u a _ _ reason.Detached
        (λ x y q. ap (λ z. y.serial == z) s.serial ∙ client_serials n x y q c.serial)) tt)
    does_alike command.Kill =
        by_window _ _ (λ w v s. done (closes_alike n t u a _ _ reason.Killed
        (λ x y q. ap (λ z. y.serial == z) s.serial ∙ window_serials n x y q w.serial)) tt)
    does_alike command.Quit = done (quits_alike n t u a) tt
