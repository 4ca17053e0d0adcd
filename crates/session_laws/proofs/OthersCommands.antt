-- What a command of another user does to a lock.
use Rattle.session_laws.proofs.Vocabulary.{◌≡◌, ℕ, Bool, true, false, not, List, [], ◌∷◌, ◌++◌, Option, Some, None}
use Rattle.session_laws.proofs.Vocabulary.{refl, ap, sym, ◌∙◌, subst, map, filter, ◌==◌, AllByRecursion}
use Rattle.session_laws.proofs.Vocabulary.{option_and_then, UserId, MaskEntry, mask_acts, Act, LockMode, Off, Auto, On}
use Rattle.session_laws.proofs.Vocabulary.{named_by, same_user, same_user-true, frees, Order, needs, of_lock}
use Rattle.session_laws.proofs.Vocabulary.{Arrangement, StatusMessage, first_fault, checks_by, does, caller_client}
use Rattle.session_laws.proofs.Vocabulary.{mask_entries, Deed, removes, is_of, entering, hearing, without_windows}
use Rattle.session_laws.proofs.Vocabulary.{names_of, new_leader_of, left_acts, Given, IsOn, unread, holder_in, AreFit}
use Rattle.session_laws.proofs.Vocabulary.{Tables, Window, Client, client_at, with_client, with_layout, focused}
use Rattle.session_laws.proofs.Vocabulary.{known_users, Entry, not_so, contradicts, equal, all_weaken, all_append}
use Rattle.session_laws.proofs.Vocabulary.{all_map, all_of, all_passed, FreesBy}
use Rattle.acl.specs.declared.act.Act.TheVariants as act
use Rattle.command_lang.specs.declared.command.Command.TheVariants as command
use Rattle.session_laws.proofs.Doing.{Either, caller_is}
use Rattle.session_laws.proofs.Leaving.{none_left}
use Rattle.session_laws.proofs.Shapes as shapes
use Rattle.session_laws.proofs.Unread.{SameClients, nobody_left}
use Rattle.session_laws.proofs.Listing.{is_listing, AllListing, change_list, add_list, group_list}
use Rattle.session_laws.proofs.CommandActs.{IsCaller}
use Rattle.session_laws.proofs.Steps.{with_clients}
use Rattle.session_laws.proofs.Events.{all_left}
use Rattle.session_laws.proofs.Callers.{Own, IsOf, unique, all_mapped, own_read}
use Rattle.session_laws.proofs.GuestsLeaving.{Leaves, left_where, parted, turned, shut}
use Rattle.session_laws.proofs.HolderActs.{moves, IsCalm, KeepsWindow}
use Rattle.session_laws.proofs.OthersActs.{split_all, both_all, Alone, alone, takes_rights, mask_all, Silent}
use Rattle.session_laws.proofs.OthersActs.{listing_silent, any_window, not_true, Others, Elsewhere, others_part}
use Rattle.session_laws.proofs.OthersActs.{calm_left, others_left, elsewhere_left, listing_calm, lock_free}

module _ (t : Tables) (w : ℕ) (x : UserId) where
  abbrev CalmActs : List Act → Type 0
  CalmActs acts = AllByRecursion (IsCalm t.edition t.owner t.acts x w false) acts

  -- What a command does to the lock: it leaves it to its holder; or it changes access lists, and
  -- leaves the lock if the holder keeps the window; or it frees the lock.
  pub data Affects (g : Given) (c : Order) (acts : List Act) : Type 0 where
    calms : CalmActs acts → AllByRecursion (λ a. moves a ≡ false) acts → Affects g c acts
    lists :
        takes_rights c ≡ true → (KeepsWindow t.edition t.owner t.acts x w false t.acts acts → CalmActs acts)
        → AllByRecursion Silent acts → Affects g c acts
    frees_it : ((e : Entry) → FreesBy t e w x g c) → AllByRecursion Silent acts → Affects g c acts

module _ (t : Tables) (fit : AreFit t) (w : ℕ) (x : UserId) (held : holder_in t w ≡ Some x) where
  abbrev Calm : Bool → Act → Type 0
  Calm b a = IsCalm t.edition t.owner t.acts x w b a

  abbrev Plainly : Act → Type 0
  Plainly a = moves a ≡ false

  abbrev Keeps : List Act → Type 0
  Keeps acts = KeepsWindow t.edition t.owner t.acts x w false t.acts acts

  module _ (g : Given) (cs : List Client) (same : SameClients t cs) (by : IsCaller (with_clients t cs) g.caller)
      (of : IsOf t g.caller) (other : same_user g.caller.user x ≡ false)
      (passed : first_fault t (checks_by t g.caller (needs g.order)) ≡ None) where
    abbrev v : Tables
    v = with_clients t cs

    abbrev Comes : Order → List Act → Type 0
    Comes c acts = Affects t w x g c acts

    abbrev ComesOf : Order → Deed → Type 0
    ComesOf c d = Comes c (d.acts ++ left_acts cs d.tables.clients)

    alone_cs : AllByRecursion (Alone t.clients) cs
    alone_cs = all_mapped (Alone t.clients) unread cs
        (subst (AllByRecursion (Alone t.clients)) (sym same)
        (all_map (Alone t.clients) unread t.clients (alone t.clients t.next_client fit.sound.clients_rise)))

    still_calm : (c : Order) (acts : List Act) → AllByRecursion (Calm false) acts → AllByRecursion Plainly acts
        → Comes c (acts ++ left_acts cs cs)
    still_calm c acts calm plain =
        calms
        (all_append (Calm false) acts (left_acts cs cs) calm
        (subst (AllByRecursion (Calm false)) (sym (none_left cs)) tt))
        (all_append Plainly acts (left_acts cs cs) plain (subst (AllByRecursion Plainly) (sym (none_left cs)) tt))

    still_lists : (c : Order) (acts : List Act) → takes_rights c ≡ true → AllListing acts
        → Comes c (acts ++ left_acts cs cs)
    still_lists c acts changes all =
        let all_acts : AllListing (acts ++ left_acts cs cs) = all_append (λ a. is_listing a ≡ true) acts
        (left_acts cs cs) all (subst AllListing (sym (none_left cs)) tt) in
        lists changes
        (λ keeps. all_weaken (λ a. (is_listing a ≡ true) × (frees a x w ≡ false)) (Calm false) (acts ++ left_acts cs cs)
        (λ a both. listing_calm t w x a both.0 both.1)
        (both_all (λ a. is_listing a ≡ true) (λ a. frees a x w ≡ false) (acts ++ left_acts cs cs) all_acts keeps.none))
        (all_weaken (λ a. is_listing a ≡ true) Silent (acts ++ left_acts cs cs) listing_silent all_acts)

    lefts_plain : (after : List Client) → AllByRecursion Plainly (left_acts cs after)
    lefts_plain after = all_left Plainly cs after (λ u n. refl)

    own_left : (after : List Client) → AllByRecursion (Leaves (Others x) after) cs
        → AllByRecursion (Calm false) (left_acts cs after)
    own_left after leaves = calm_left t w x false (Others x) (left_acts cs after) (others_left t w x)
        (left_where (Others x) cs after leaves)

    row_own : (d r : Client) → caller_client v g.caller ≡ Some d → client_at v d.serial ≡ Some r
        → r.user ≡ g.caller.user
    row_own d r at is = by r (ap (option_and_then (client_at v)) (caller_is v g.caller.client d at) ∙ is)

    theirs : (u : UserId) → u ≡ g.caller.user → same_user u x ≡ false
    theirs u is = ap (λ y. same_user y x) is ∙ other

    page_comes : (c : Order) (d : Client) (l : Arrangement) (acts : List Act) → caller_client v g.caller ≡ Some d
        → AllByRecursion (Calm false) acts → AllByRecursion Plainly acts
        → Comes c (acts ++ left_acts cs (with_client v (with_layout l d)).clients)
    page_comes c d l acts at calm plain =
        let turns : List Client = (with_client v (with_layout l d)).clients in
        calms
        (all_append (Calm false) acts (left_acts cs turns) calm
        (own_left turns
        (turned (Others x) cs d.serial (with_layout l d) (λ r is n. theirs r.user (row_own d r at is)))))
        (all_append Plainly acts (left_acts cs turns) plain (lefts_plain turns))

    entering_calm : (u : UserId) (o : Option ℕ) → AllByRecursion (Calm false) (entering u o)
    entering_calm u None = tt
    entering_calm u (Some n) = (refl, tt)

    entering_plain : (u : UserId) (o : Option ℕ) → AllByRecursion Plainly (entering u o)
    entering_plain u None = tt
    entering_plain u (Some n) = (refl, tt)

    parted_acts : (P : Act → Type 0) (goes : Client → Bool)
        → ((d : Client) → Alone t.clients d → goes d ≡ true → P (act.Parted d.serial))
        → AllByRecursion P (map (λ (d : Client). act.Parted d.serial) (filter goes cs))
    parted_acts P goes on =
        all_map P (λ (d : Client). act.Parted d.serial) (filter goes cs)
        (all_passed (λ (d : Client). P (act.Parted d.serial)) goes cs
        (all_weaken (Alone t.clients) (λ (d : Client). goes d ≡ true → P (act.Parted d.serial)) cs
        (λ d own here. on d own here) alone_cs))

    -- clients of other users go
    part_comes : (c : Order) (goes : Client → Bool) → ((d : Client) → goes d ≡ true → same_user d.user x ≡ false)
        → Comes c
        (map (λ (d : Client). act.Parted d.serial) (filter goes cs) ++ left_acts cs (filter (λ d. not (goes d)) cs))
    part_comes c goes others =
        let gone : List Act = map (λ (d : Client). act.Parted d.serial) (filter goes cs) in
        let rest : List Client = filter (λ d. not (goes d)) cs in
        calms
        (all_append (Calm false) gone (left_acts cs rest)
        (parted_acts (Calm false) goes (λ d own here. others_part t fit w x d own (others d here)))
        (own_left rest
        (parted (Others x) goes cs
        (all_of (λ (d : Client). goes d ≡ true → (n : ℕ) → (Others x) d.user n) cs (λ d here n. others d here)))))
        (all_append Plainly gone (left_acts cs rest) (parted_acts Plainly goes (λ d own here. refl)) (lefts_plain rest))

    parted_silent : (goes : Client → Bool) (ds : List Client)
        → AllByRecursion Silent (map (λ (d : Client). act.Parted d.serial) (filter goes ds))
    parted_silent goes ds = all_map Silent (λ (d : Client). act.Parted d.serial) (filter goes ds)
        (all_of (λ (d : Client). Unit {0}) (filter goes ds) (λ d. tt))

    closed_silent : (goes : Window → Bool)
        → AllByRecursion Silent (map (λ (d : Window). act.Closed d.serial) (filter goes t.windows))
    closed_silent goes = all_map Silent (λ (d : Window). act.Closed d.serial) (filter goes t.windows)
        (all_of (λ (d : Window). Unit {0}) (filter goes t.windows) (λ d. tt))

    then_silent : (acts : List Act) (after : List Client) → AllByRecursion Silent acts
        → AllByRecursion Silent (acts ++ left_acts cs after)
    then_silent acts after all = all_append Silent acts (left_acts cs after) all (all_left Silent cs after (λ u n. tt))

    -- ---- writelock

    apart : same_user x g.caller.user ≡ false
    apart = not_so (same_user x g.caller.user)
        (λ is. let e : x ≡ g.caller.user = same_user-true x g.caller.user is in contradicts
        (same_user x g.caller.user) is
        (ap (λ y. same_user y g.caller.user) e ∙ ap (same_user g.caller.user) (sym e) ∙ other))

    not_here : (mode : LockMode) → g.order ≡ command.Writelock mode → (n : ℕ) → IsOn g.caller.window n
        → (n == w) ≡ false
    not_here mode at n on = not_so (n == w)
        (λ is. locked mode passes (subst (IsOn g.caller.window) (equal n w is) on)) where
          passes : first_fault t (checks_by t g.caller (of_lock mode)) ≡ None
          passes = subst (λ o. first_fault t (checks_by t g.caller (needs o)) ≡ None) at passed

          locked : (m : LockMode) → first_fault t (checks_by t g.caller (of_lock m)) ≡ None → IsOn g.caller.window w → ⊥
          locked Off is here = contradicts (same_user x g.caller.user)
              (lock_free t w x g.caller.user held g.caller.window here (of_lock Off) refl false refl is) apart
          locked Auto is here = contradicts (same_user x g.caller.user)
              (lock_free t w x g.caller.user held g.caller.window here (of_lock Auto) refl true refl is) apart
          locked On is here = contradicts (same_user x g.caller.user)
              (lock_free t w x g.caller.user held g.caller.window here (of_lock On) refl true refl is) apart

    -- ---- each kind

    acted : (acts : List Act) → shapes.Acted v g.caller g.order acts → Comes g.order (acts ++ left_acts cs cs)
    acted _ (shapes.added names all is clear every) =
        still_lists g.order _ (ap takes_rights is) (add_list (known_users v) (names_of v names) all)
    acted _ (shapes.changed names bits list all is clear objects) =
        still_lists g.order _ (ap takes_rights is) (change_list (known_users v) (names_of v names) bits all)
    acted _ (shapes.grouped word leader is clear) = still_lists g.order _ (ap takes_rights is)
        (group_list (named_by word) (new_leader_of leader))
    acted _ (shapes.masked masks is clear) =
        let entries : List MaskEntry = mask_entries v masks in
        still_calm g.order (mask_acts g.caller.user entries)
        (mask_all (Calm false) g.caller.user (λ u b y. refl) (λ kind b y. refl) entries)
        (mask_all Plainly g.caller.user (λ u b y. refl) (λ kind b y. refl) entries)
    acted _ (shapes.locked y mode is at) = still_calm g.order (act.Mode g.caller.user y.serial mode ∷ [])
        (not_here mode is y.serial (subst (λ o. IsOn o y.serial) (sym at) refl), tt) (refl, tt)
    acted _ (shapes.preset mode is) = still_calm g.order (act.Default mode ∷ []) (refl, tt) (refl, tt)

    is_of_user : (u : UserId) (d : Client) → is_of u d ≡ true → same_user u x ≡ false → same_user d.user x ≡ false
    is_of_user u d here not = ap (λ y. same_user y x) (same_user-true d.user u here) ∙ not

    removal : (o : Option UserId) → takes_rights g.order ≡ true
        → Comes g.order ((removes o v).acts ++ left_acts cs (removes o v).tables.clients)
    removal None changes = still_calm g.order [] tt tt
    removal (Some u) changes =
        lists changes (λ keeps. on (same_user u x) refl keeps)
        (then_silent (gone ++ act.Gone u ∷ []) rest
        (all_append Silent gone (act.Gone u ∷ []) (parted_silent (is_of u) cs) (tt, tt))) where
          gone : List Act
          gone = map (λ (d : Client). act.Parted d.serial) (filter (is_of u) cs)

          rest : List Client
          rest = filter (λ d. not (is_of u d)) cs

          not_gone : Keeps ((gone ++ act.Gone u ∷ []) ++ left_acts cs rest) → same_user u x ≡ false
          not_gone keeps =
              (split_all (λ a. frees a x w ≡ false) gone (act.Gone u ∷ [])
              (split_all (λ a. frees a x w ≡ false) (gone ++ act.Gone u ∷ []) (left_acts cs rest) keeps.none).0).1.0

          on : (b : Bool) → same_user u x ≡ b → Keeps ((gone ++ act.Gone u ∷ []) ++ left_acts cs rest)
              → AllByRecursion (Calm false) ((gone ++ act.Gone u ∷ []) ++ left_acts cs rest)
          on true is keeps = contradicts (same_user u x) is (not_gone keeps)
          on false is keeps =
              all_append (Calm false) (gone ++ act.Gone u ∷ []) (left_acts cs rest)
              (all_append (Calm false) gone (act.Gone u ∷ [])
              (parted_acts (Calm false) (is_of u)
              (λ d own here. others_part t fit w x d own (is_of_user u d here is))) (is, tt))
              (own_left rest
              (parted (Others x) (is_of u) cs
              (all_of (λ (d : Client). is_of u d ≡ true → (n : ℕ) → (Others x) d.user n) cs
              (λ d here n. is_of_user u d here is))))

    shut_off : g.order ≡ command.Multiuser false
        → Comes g.order
        (map (λ (d : Client). act.Parted d.serial) (filter (λ d. not (is_of t.owner d)) cs) ++ left_acts cs
        (filter (λ d. not (not (is_of t.owner d))) cs))
    shut_off is = on (same_user t.owner x) refl where
      on : (b : Bool) → same_user t.owner x ≡ b
          → Comes g.order
          (map (λ (d : Client). act.Parted d.serial) (filter (λ d. not (is_of t.owner d)) cs) ++ left_acts cs
          (filter (λ d. not (not (is_of t.owner d))) cs))
      on false off = frees_it (λ e. subst (λ o. FreesBy t e w x g o) (sym is) off)
          (then_silent _ (filter (λ d. not (not (is_of t.owner d))) cs) (parted_silent (λ d. not (is_of t.owner d)) cs))
      on true own = part_comes g.order (λ d. not (is_of t.owner d))
          (λ d here. ap (same_user d.user) (sym (same_user-true t.owner x own)) ∙ not_true (is_of t.owner d) here)

    detached : (d : Client) → caller_client v g.caller ≡ Some d
        → Comes g.order
        (map (λ (e : Client). act.Parted e.serial) (filter (λ (e : Client). e.serial == d.serial) cs) ++ left_acts cs
        (filter (λ (e : Client). not (e.serial == d.serial)) cs))
    detached d at =
        let gone : List Act = map (λ (e : Client). act.Parted e.serial)
        (filter (λ (e : Client). e.serial == d.serial) cs) in
        let rest : List Client = filter (λ (e : Client). not (e.serial == d.serial)) cs in
        calms (all_append (Calm false) gone (left_acts cs rest)
        (all_map (Calm false) (λ (e : Client). act.Parted e.serial) (filter (λ (e : Client). e.serial == d.serial) cs)
        (all_passed (λ (e : Client). Calm false (act.Parted e.serial)) (λ (e : Client). e.serial == d.serial) cs
        (all_weaken (λ (e : Client). Alone t.clients e × Own d.serial g.caller.user e)
        (λ (e : Client). (e.serial == d.serial) ≡ true → Calm false (act.Parted e.serial)) cs
        (λ e both here. others_part t fit w x e both.0 (theirs e.user (both.1 here)))
        (both_all (Alone t.clients) (Own d.serial g.caller.user) cs alone_cs owns))))
        (own_left rest
        (parted (Others x) (λ (e : Client). e.serial == d.serial) cs
        (all_weaken (Own d.serial g.caller.user)
        (λ (e : Client). (e.serial == d.serial) ≡ true → (n : ℕ) → (Others x) e.user n) cs
        (λ e own here n. theirs e.user (own here)) owns))))
        (all_append Plainly gone (left_acts cs rest)
        (parted_acts Plainly (λ (e : Client). e.serial == d.serial) (λ e own here. refl)) (lefts_plain rest)) where
          owns : AllByRecursion (Own d.serial g.caller.user) cs
          owns =
              let r = of d.serial (caller_is v g.caller.client d at) in
              own_read t cs d.serial g.caller.user same
              (subst (λ u. AllByRecursion (Own d.serial u) t.clients) r.2
              (unique t.clients t.next_client d.serial r.0 fit.sound.clients_rise r.1))

    killed : (y : Window) → g.order ≡ command.Kill → g.caller.window ≡ Some y
        → Comes g.order
        (map (λ (z : Window). act.Closed z.serial) (filter (λ (z : Window). z.serial == y.serial) t.windows) ++
        left_acts cs (without_windows (filter (λ (z : Window). z.serial == y.serial) t.windows) cs))
    killed y is at = on (y.serial == w) refl where
      gone : List Window
      gone = filter (λ (z : Window). z.serial == y.serial) t.windows

      serials : AllByRecursion (λ (z : Window). z.serial ≡ y.serial) gone
      serials = all_passed (λ (z : Window). z.serial ≡ y.serial) (λ (z : Window). z.serial == y.serial) t.windows
          (all_of (λ (z : Window). (z.serial == y.serial) ≡ true → z.serial ≡ y.serial) t.windows
          (λ z goes. equal z.serial y.serial goes))

      on : (b : Bool) → (y.serial == w) ≡ b
          → Comes g.order (map (λ (z : Window). act.Closed z.serial) gone ++ left_acts cs (without_windows gone cs))
      on true here = frees_it (λ e. subst (λ o. FreesBy t e w x g o) (sym is) (any_window y w g.caller.window at here))
          (then_silent _ (without_windows gone cs) (closed_silent (λ (z : Window). z.serial == y.serial)))
      on false off =
          calms
          (all_append (Calm false) (map (λ (z : Window). act.Closed z.serial) gone)
          (left_acts cs (without_windows gone cs))
          (all_map (Calm false) (λ (z : Window). act.Closed z.serial) gone
          (all_weaken (λ (z : Window). z.serial ≡ y.serial) (λ (z : Window). Calm false (act.Closed z.serial)) gone
          (λ z e. ap (λ n. n == w) e ∙ off) serials))
          (calm_left t w x false (Elsewhere y.serial) (left_acts cs (without_windows gone cs))
          (elsewhere_left t w x y.serial off)
          (left_where (Elsewhere y.serial) cs (without_windows gone cs) (shut y.serial gone cs serials))))
          (all_append Plainly (map (λ (z : Window). act.Closed z.serial) gone) (left_acts cs (without_windows gone cs))
          (all_map Plainly (λ (z : Window). act.Closed z.serial) gone
          (all_of (λ (z : Window). Plainly (act.Closed z.serial)) gone (λ z. refl)))
          (lefts_plain (without_windows gone cs)))

    heard : (m : StatusMessage) (ds : List Client) → map unread (map (hearing m) ds) ≡ map unread ds
    heard m [] = refl
    heard m (c ∷ ds) = ap (λ es. unread c ∷ es) (heard m ds)

    told : (m : StatusMessage) → Comes g.order (left_acts cs (map (hearing m) cs))
    told m = subst (Comes g.order) (sym (nobody_left cs (map (hearing m) cs) (heard m cs))) (calms tt tt)

    quits : g.order ≡ command.Quit
        → let all : List Window = filter (λ (z : Window). true) t.windows in let rest : List Client = without_windows
        all cs in
        Comes g.order
        ((map (λ (z : Window). act.Closed z.serial) all ++ map (λ (d : Client). act.Parted d.serial)
        (filter (λ (d : Client). true) rest)) ++ left_acts cs (filter (λ (d : Client). not true) rest))
    quits is =
        let all : List Window = filter (λ (z : Window). true) t.windows in
        let rest : List Client = without_windows all cs in
        frees_it (λ e. subst (λ o. FreesBy t e w x g o) (sym is) tt)
        (then_silent
        (map (λ (z : Window). act.Closed z.serial) all ++ map (λ (d : Client). act.Parted d.serial)
        (filter (λ (d : Client). true) rest)) (filter (λ (d : Client). not true) rest)
        (all_append Silent (map (λ (z : Window). act.Closed z.serial) all)
        (map (λ (d : Client). act.Parted d.serial) (filter (λ (d : Client). true) rest))
        (closed_silent (λ (z : Window). true)) (parted_silent (λ (d : Client). true) rest)))

    deed_comes : (d : Deed) → shapes.Shape v g.caller g.order d → ComesOf g.order d
    deed_comes d (shapes.acts all none is) = acted all is
    deed_comes d (shapes.enters_page y l is at shows) = page_comes g.order y l
        (entering y.user (focused (with_layout l y))) at (entering_calm y.user (focused (with_layout l y)))
        (entering_plain y.user (focused (with_layout l y)))
    deed_comes d (shapes.keeps_page y l is at shows keeps) = page_comes g.order y l [] at tt tt
    deed_comes d (shapes.shut is) = shut_off is
    deed_comes d (shapes.told bytes is) = told _
    deed_comes d (shapes.removed word is clear) = removal (named_by word) (ap takes_rights is)
    deed_comes d (shapes.detached y is at) = detached y at
    deed_comes d (shapes.killed y is at) = killed y is at
    deed_comes d (shapes.quits is) = quits is
    deed_comes d kind = still_calm g.order [] tt tt

    pub does_comes : Either (ComesOf g.order) (does v g.caller g.order)
    does_comes = shapes.by_shape (ComesOf g.order) v g.caller g.order deed_comes
