-- The acts of a command can follow those of the tables.
use Rattle.hub_trail.proofs.Vocabulary.{◌≡◌, ◌∙◌, ℕ, Bool, true, false, ◌||◌, List, [], ◌∷◌, Option, Some, None, map}
use Rattle.hub_trail.proofs.Vocabulary.{refl, ap, subst, if◌then◌else◌, MatchOption, AllByRecursion, option_map}
use Rattle.hub_trail.proofs.Vocabulary.{option_and_then, and_from, Act, Write, Execute, UserId, Edition, History}
use Rattle.hub_trail.proofs.Vocabulary.{followed_by, is_open, named_by, known_name_fault, name_of, Arrangement, Check}
use Rattle.hub_trail.proofs.Vocabulary.{Quit, Tables, Window, Client, client_at, with_layout, focused, known_users}
use Rattle.hub_trail.proofs.Vocabulary.{may_in, names_of, new_leader_of, Caller, passes, first_fault, checks}
use Rattle.hub_trail.proofs.Vocabulary.{window_checks, Deed, parts, removes, is_of, closes, entering, enters, does}
use Rattle.hub_trail.proofs.Vocabulary.{caller_client, mask_entries, Either, has, serials, IsThere, Holds, has_there}
use Rattle.hub_trail.proofs.Vocabulary.{all_append, CanFollow, follow_append}
use Rattle.acl.specs.declared.act.Act.TheVariants as act
use Rattle.acl.specs.declared.act.LockMode.{LockMode}
use Rattle.acl.specs.declared.act.LockMode.TheVariants.{Off, Auto, On}
use Rattle.acl.specs.declared.act.Object.TheVariants as object
use Rattle.writelock.specs.Holding.{is_off}
use Rattle.command_lang.specs.declared.command.Command.{Command}
use Rattle.command_lang.specs.declared.command.Command.TheVariants as command
use Rattle.session.specs.refusal.Check.TheVariants.{Right as right}
use Rattle.session.specs.event.Reason.TheVariants.{Removed}
use Rattle.command_lang.specs.Needs.{typing}
use Rattle.session.specs.Checks.{refusal_of}
use Rattle.session.proofs.Showing.{ShowsNoOther}
use Rattle.session.proofs.Shapes as shapes
use Rattle.session.proofs.Shapes.{Acted, Shape, by_shape}
use Rattle.session.proofs.FitCommands.{page_of}
use Rattle.session.proofs.Unread.{row_at}
use Rattle.hub_trail.proofs.Following.{is_free, AllFree, free_follow, users_stay, change_leads, add_leads, mask_leads}
use Rattle.hub_trail.proofs.Following.{here_follow, removal_follows, group_follows}
use Rattle.hub_trail.proofs.Naming.{OpenIs, AreThere, there_open, every_there, list_there, focus_open}

abbrev pub Follows : Tables → List Act → Type 0
Follows t acts = CanFollow t.edition t.owner t.acts acts

-- ---- checks

-- if there is no fault, each check passes
pub each_passes : (t : Tables) (cs : List Check) → first_fault t cs ≡ None → AllByRecursion (λ c. passes t c ≡ true) cs
each_passes t [] none = tt
each_passes t (c ∷ cs) none = on (passes t c) none (each_passes t cs) where
  on : (b : Bool) → (if b then first_fault t cs else Some (refusal_of t c)) ≡ None
      → (first_fault t cs ≡ None → AllByRecursion (λ d. passes t d ≡ true) cs)
      → (b ≡ true) × AllByRecursion (λ d. passes t d ≡ true) cs
  on true e rest = (refl, rest e)
  on false e rest = absurd (cc (e))

-- ---- acts that come after any others

free_parted : (cs : List Client) → AllFree (map (λ (c : Client). act.Parted c.serial) cs)
free_parted [] = tt
free_parted (c ∷ cs) = (refl, free_parted cs)

free_closed : (ws : List Window) → AllFree (map (λ (w : Window). act.Closed w.serial) ws)
free_closed [] = tt
free_closed (w ∷ ws) = (refl, free_closed ws)

pub free_follows : (t : Tables) (acts : List Act) → AllFree acts → Follows t acts
free_follows t acts free = free_follow t.edition t.owner t.acts acts free

pub parted_follow : (t : Tables) (cs : List Client) → Follows t (map (λ (c : Client). act.Parted c.serial) cs)
parted_follow t cs = free_follows t _ (free_parted cs)

pub closed_follow : (t : Tables) (ws : List Window) → Follows t (map (λ (w : Window). act.Closed w.serial) ws)
closed_follow t ws = free_follows t _ (free_closed ws)

-- ---- entering

pub entering_follows : (edition : Edition) (owner : UserId) (h : History) (user : UserId) (o : Option ℕ)
    → MatchOption o (Unit {0}) (λ n. is_open h n ≡ true)
    → CanFollow edition owner h (entering user o)
entering_follows edition owner h user None is = tt
entering_follows edition owner h user (Some n) is = (is, tt)

own_row : (t : Tables) (o : Option ℕ) (c : Client) → option_and_then (client_at t) o ≡ Some c
    → client_at t c.serial ≡ Some c
own_row t None c is = absurd (cc (is))
own_row t (Some n) c is = row_at t n c is

-- ---- list commands

removed_follow : (t : Tables) (o : Option UserId) → known_name_fault t.owner (known_users t) o ≡ None
    → Follows t (removes o t).acts
removed_follow t None none = tt
removed_follow t (Some u) none =
    let parted : List Act = (parts (is_of u) Removed t).acts in
    let free : AllFree parted = free_parted _ in
    follow_append t.edition t.owner t.acts parted (act.Gone u ∷ []) (free_follows t parted free)
    (removal_follows t.edition t.owner (followed_by t.acts parted) (Some u)
    (ap (λ us. known_name_fault t.owner us (Some u)) (users_stay t.owner t.acts parted free) ∙ none))

-- ---- write locks

may_write : (t : Tables) (k : Caller) (c : Command) (w : Window) → k.window ≡ Some w
    → first_fault t
    (right k.user Execute (object.Command (name_of c)) ∷ window_checks k.user typing
    (option_map (λ (v : Window). v.serial) k.window)) ≡ None
    → may_in t k.user Write (object.Window w.serial) ≡ true
may_write t k c w is none =
    let cs : List Check = right k.user Execute (object.Command (name_of c)) ∷ window_checks k.user typing
    (Some w.serial) in
    let each : AllByRecursion (λ d. passes t d ≡ true) cs =
    each_passes t cs
    (subst
    (λ (o : Option Window). first_fault t
    (right k.user Execute (object.Command (name_of c)) ∷ window_checks k.user typing
    (option_map (λ (v : Window). v.serial) o)) ≡ None) is none) in
    each.1.1.0

off_or_may : (t : Tables) (k : Caller) (mode : LockMode) (w : Window) → k.window ≡ Some w
    → first_fault t (checks t k (command.Writelock mode)) ≡ None
    → (is_off mode || may_in t k.user Write (object.Window w.serial)) ≡ true
off_or_may t k Off w is none = refl
off_or_may t k Auto w is none = may_write t k (command.Writelock Auto) w is none
off_or_may t k On w is none = may_write t k (command.Writelock On) w is none

-- ---- the kinds

module _ (t : Tables) (agree : OpenIs t) (k : Caller) (h : Holds t)
    (row : (w : Window) → k.window ≡ Some w → IsThere t.windows w) where
  abbrev pub Is : Deed → Type 0
  Is d = Follows t d.acts

  -- a client that turns to another window or region shows one that is in the tables
  page_follows : (c : Client) (l : Arrangement) → caller_client t k ≡ Some c → ShowsNoOther t c l → Is (enters t c l)
  page_follows c l at shows =
      let d : Client = with_layout l c in
      entering_follows t.edition t.owner t.acts d.user (focused d)
      (focus_open t agree d
      (shows (has (serials t)) (has_there t.windows) (page_of t c.serial c (own_row t k.client c at) h)))

  acted_follow : (c : Command) (acts : List Act) → first_fault t (checks t k c) ≡ None → Acted t k c acts
      → Follows t acts
  acted_follow c acts none (shapes.added names all is clear every) =
      here_follow t.edition t.owner t.acts _ _
      (add_leads t.edition t.owner t.acts (known_users t) (names_of t names) all clear
      (subst (AreThere t) every (every_there t agree)))
  acted_follow c acts none (shapes.changed names bits list all is clear objects) =
      here_follow t.edition t.owner t.acts _ _
      (change_leads t.edition t.owner t.acts (known_users t) (names_of t names) bits all clear
      (list_there t agree list all objects))
  acted_follow c acts none (shapes.grouped word leader is clear) = group_follows t.edition t.owner t.acts
      (named_by word) (new_leader_of leader) clear
  acted_follow c acts none (shapes.masked masks is clear) =
      here_follow t.edition t.owner t.acts _ _
      (mask_leads t.edition t.owner t.acts (known_users t) k.user (mask_entries t masks) clear)
  acted_follow c acts none (shapes.locked w mode is at) = (
    and_from _ _ (there_open t agree w (row w at))
        (off_or_may t k mode w at (subst (λ (x : Command). first_fault t (checks t k x) ≡ None) is none)),
    tt,
  )
  acted_follow c acts none (shapes.preset mode is) = (refl, tt)

  deed_follows : (c : Command) (d : Deed) → first_fault t (checks t k c) ≡ None → Shape t k c d → Is d
  deed_follows c d none (shapes.lists bytes still tells) = tt
  deed_follows c d none (shapes.acts all still acted) = acted_follow c all none acted
  deed_follows c d none (shapes.enters_page x l of at shows) = page_follows x l at shows
  deed_follows c d none (shapes.keeps_page x l of at shows same) = tt
  deed_follows c d none (shapes.writes_to w what one at) = tt
  deed_follows c d none (shapes.opened is) = tt
  deed_follows c d none (shapes.shut is) = parted_follow t _
  deed_follows c d none (shapes.told bytes is) = tt
  deed_follows c d none (shapes.removed word is clear) = removed_follow t (named_by word) clear
  deed_follows c d none (shapes.fitted w rows columns is at) = tt
  deed_follows c d none (shapes.titled w bytes is at) = tt
  deed_follows c d none (shapes.numbered w n is at free) = tt
  deed_follows c d none (shapes.typed w bytes is at) = tt
  deed_follows c d none (shapes.detached x is at) = parted_follow t _
  deed_follows c d none (shapes.killed w is at) = closed_follow t _
  deed_follows c d none (shapes.quits is) = free_follows t _
      (all_append (λ a. is_free a ≡ true) (closes (λ w. true) Quit t).acts _ (free_closed _) (free_parted _))

  pub follows : (c : Command) → first_fault t (checks t k c) ≡ None → Either Is (does t k c)
  follows c none = by_shape Is t k c (λ d is. deed_follows c d none is)
