-- The lines of a setup up to the masks, and what the others leave as it is.
use Rattle.trail_again.proofs.Vocabulary.{◌≡◌, ◌∙◌, Bool, true, false, List, [], ◌∷◌, ◌++◌, refl, ap, sym, subst}
use Rattle.trail_again.proofs.Vocabulary.{if◌then◌else◌, ◌||◌, Option, Some, None, AllByRecursion, flat_map, Act}
use Rattle.trail_again.proofs.Vocabulary.{LockMode, Object, PresetKind, Bit, Edition, UserId, History, among}
use Rattle.trail_again.proofs.Vocabulary.{followed_by, is_known, leaders_of, users_of, same_user, followed_by-append}
use Rattle.trail_again.proofs.Vocabulary.{same_user-sym, same_user-refl, same_user-true, default_of, Known, parts_by}
use Rattle.trail_again.proofs.Vocabulary.{said_bits, SetupState, every_command}
use Rattle.acl.specs.declared.act.Act.TheVariants as act
use Rattle.acl.specs.declared.act.LockMode.TheVariants as lock_mode
use Rattle.acl.specs.declared.act.PresetKind.TheVariants as preset
use Rattle.trail_again.proofs.Blocks.{HasNothing, Lists, OpenMasks, group_acts, name_acts, names_list, names_nothing}
use Rattle.trail_again.proofs.Blocks.{names_users, nothing, presets_without, sets_without}
use Rattle.trail_again.proofs.Giving.{Waits, all_groups_off, given_off, user_acts}
use Rattle.trail_again.proofs.Lawful.{IsLawful, Leads as CanLeadOf, not_owner}
use Rattle.trail_again.proofs.Leaving.{opener_without, openers_nothing, openers_without}
use Rattle.trail_again.proofs.Masking.{opener_acts, opener_part, said, said_in, said_of}
use Rattle.trail_again.proofs.Openers.{AreOthers, Said}
use Rattle.trail_again.proofs.Putting.{CanLead, PartsLead, default_acts, first_acts, parts_nothing, parts_then}
use Rattle.trail_again.proofs.SetupLines.{IsNamedOther, changes_of}
use Rattle.trail_again.proofs.Setting.{presets_on}
use Rattle.trail_again.proofs.Touching.{Without, leaders_stay, none_append, none_flat, on_leaders, on_users, stays}
use Rattle.trail_again.proofs.Touching.{users_stay, known_stays}
use Rattle.trail_again.proofs.Wording.{HasName}

-- ---- the mode of new locks

abbrev pub on_default : Act → Bool
on_default (act.Default mode) = true
on_default a = false

pub default_stays : (a : Act) (h : History) → on_default a ≡ false → default_of (a ∷ h) ≡ default_of h
default_stays (act.Default mode) h off = absurd (cc (off))
default_stays a h off = refl

-- ---- members of lists

pub or_true : (a b : Bool) → b ≡ true → (a || b) ≡ true
or_true true b e = refl
or_true false b e = e

pub from_members : (P : UserId → Type 0) (xs : List UserId) → ((u : UserId) → among xs u ≡ true → P u)
    → AllByRecursion P xs
from_members P [] each = tt
from_members P (x ∷ xs) each = (
  each x (ap (λ b. b || among xs x) (same_user-refl x)),
  from_members P xs (λ u is. each u (or_true (same_user u x) (among xs u) is)),
)

pub of_member : (P : UserId → Type 0) (xs : List UserId) (u : UserId) → AllByRecursion P xs → among xs u ≡ true → P u
of_member P [] u all is = absurd (let wrong : false ≡ true = is in cc)
of_member P (x ∷ xs) u all is = at (same_user u x) refl is (λ e. of_member P xs u all.1 e)
  where
    at : (b : Bool) → same_user u x ≡ b → (b || among xs u) ≡ true → (among xs u ≡ true → P u) → P u
    at true e f later = subst P (sym (same_user-true u x e)) all.0
    at false e f later = later f

-- names that become known change nothing but users, rights and masks
pub names_off : (on : Act → Bool) → ((u : UserId) → on (act.Known u) ≡ false)
    → ((u : UserId) (bit : Bit) (o : Object) (v : Bool) → on (act.Set u bit o v) ≡ false)
    → (us : List UserId) → Without on (flat_map name_acts us)
names_off on known set us = none_flat on name_acts us
    (λ u. (known u, sets_without on set u nothing every_command))

module _ (edition : Edition) (owner : UserId) (acts from : History) (s : SetupState) (others : List UserId)
    (l : IsLawful edition owner acts others) (named : AllByRecursion HasName others) where
  abbrev pub m : Known
  m = record { state = s; users = owner ∷ others }

  abbrev pub leaders : UserId → List UserId
  leaders u = leaders_of edition acts u

  -- the users are known
  abbrev pub Users : History → Type 0
  Users h = users_of owner h ≡ owner ∷ others

  pub other_of : (h : History) → Users h → (u : UserId) → among others u ≡ true → IsNamedOther owner h u
  other_of h users u is = record {
    named = of_member HasName others u named is;
    apart = not_owner owner others u l.apart is;
    known = ap (λ (us : List UserId). among us u) users ∙ or_true (same_user u owner) (among others u) is;
  }

  -- ---- masks

  said_others : (by : UserId) (h : History) → Users h → AreOthers owner h (said owner from m by)
  said_others by h users = both_parts (said_of owner from m by owner) (flat_map (said_of owner from m by) others)
      (off (same_user owner by) (same_user owner owner) _ (same_user-refl owner))
      (rest others (from_members (IsNamedOther owner h) others (λ u is. other_of h users u is)))
    where
      both_parts : (xs ys : List Said) → AreOthers owner h xs → AreOthers owner h ys → AreOthers owner h (xs ++ ys)
      both_parts [] ys a b = b
      both_parts (x ∷ xs) ys a b = (a.0, both_parts xs ys a.1 b)

      off : (a b : Bool) (o : Option (List Bool)) → b ≡ true
          → AreOthers owner h (said_in owner (if a || b then None else o))
      off true b o e = tt
      off false true o e = tt
      off false false o e = absurd (let wrong : false ≡ true = e in cc)

      one : (u : UserId) (o : Option (List Bool)) → IsNamedOther owner h u → AreOthers owner h (said_in u o)
      one u None is = tt
      one u (Some given) is = (is, tt)

      rest : (us : List UserId) → AllByRecursion (IsNamedOther owner h) us
          → AreOthers owner h (flat_map (said_of owner from m by) us)
      rest [] all = tt
      rest (u ∷ us) all = both_parts (said_of owner from m by u) (flat_map (said_of owner from m by) us)
          (one u (said_bits false owner from m by u) all.0) (rest us all.1)

  -- an opener: the owner or another user
  abbrev pub Opens : UserId → Type 0
  Opens by = same_user owner by ≡ false → among others by ≡ true

  opener_lead : (by : UserId) (h : History) → Users h → Lists owner h → Opens by
      → PartsLead edition owner (parts_by false owner from m [] by) h (followed_by h (opener_acts owner from m by))
  opener_lead by h users lists opens =
      opener_part edition owner from m by h
      (λ e. (sym (same_user-true owner by e), said_others by h users))
      (λ e. record {
        other = other_of h users by (opens e);
        lists = lists by ∙ (other_of h users by (opens e)).known;
        all = said_others by h users;
      })

  pub openers_lead : (us : List UserId) (h : History) → Users h → Lists owner h → AllByRecursion Opens us
      → PartsLead edition owner (flat_map (parts_by false owner from m []) us) h
      (followed_by h (flat_map (opener_acts owner from m) us))
  openers_lead [] h users lists all = parts_nothing edition owner h
  openers_lead (by ∷ us) h users lists all =
      let next : History = followed_by h (opener_acts owner from m by) in
      let off = opener_without on_users (λ b u bit v. refl) (λ u bit o v. refl) owner from m by in
      let same : users_of owner next ≡ users_of owner h = stays (users_of owner) on_users (users_stay owner)
      (opener_acts owner from m by) h off in
      subst (λ (g : History). PartsLead edition owner (flat_map (parts_by false owner from m []) (by ∷ us)) h g)
      (sym (followed_by-append h (opener_acts owner from m by) (flat_map (opener_acts owner from m) us)))
      (parts_then edition owner (parts_by false owner from m [] by) (flat_map (parts_by false owner from m
      []) us) h next
      (followed_by next (flat_map (opener_acts owner from m) us)) (opener_lead by h users lists all.0)
      (openers_lead us next (same ∙ users)
      (λ u. stays (λ g. is_known owner g u) on_users (known_stays owner u) (opener_acts owner from m by) h off
      ∙ lists u ∙ ap (λ (us : List UserId). among us u) (sym same)) all.1))

  pub all_open : AllByRecursion Opens (owner ∷ others)
  all_open = (
    (λ e. absurd (let wrong : true ≡ false = sym (same_user-refl owner) ∙ e in cc)),
    from_members Opens others (λ u is e. is),
  )

  -- ---- leaders

  pub waits : (h : History) → Users h → ((u : UserId) → leaders_of edition h u ≡ []) → (u : UserId)
      → among others u ≡ true → Waits edition owner leaders h u
  waits h users none u is = record {
    other = other_of h users u is;
    lead = each (leaders u) (l.led u).lead;
    few = (l.led u).few;
    yet = none u;
  }
    where
      each : (ls : List UserId) → AllByRecursion (CanLeadOf others u) ls → AllByRecursion (CanLead edition owner h u) ls
      each [] all = tt
      each (v ∷ ls) all = ((other_of h users v all.0.0, all.0.1), each ls all.1)

  -- ---- stage after stage

  abbrev pub h1 : History
  h1 = followed_by [] first_acts

  abbrev pub named_acts : List Act
  named_acts = flat_map name_acts others

  abbrev pub mask_acts : List Act
  mask_acts = flat_map (opener_acts owner from m) (owner ∷ others)

  abbrev pub leader_acts : List Act
  leader_acts = flat_map (group_acts leaders) others

  abbrev pub right_acts : List Act
  right_acts = flat_map (user_acts edition owner from) others

  abbrev pub window_acts : List Act
  window_acts = presets_on preset.Windows (changes_of s.on_windows)

  abbrev pub command_acts : List Act
  command_acts = presets_on preset.Commands (changes_of s.on_commands)

  -- what is known after some acts, of those that set neither users nor anything else
  pub default_off : (on : Act → Bool) → ((mode : LockMode) → on (act.Default mode) ≡ false)
      → Without on (default_acts s.default)
  default_off on off = at s.default
    where
      at : (mode : LockMode) → Without on (default_acts mode)
      at lock_mode.Off = tt
      at lock_mode.Auto = (off lock_mode.Auto, tt)
      at lock_mode.On = (off lock_mode.On, tt)

  -- values before the lines of leaders
  pub record Stage (h : History) : Type 0 where
    pub users : Users h
    pub lists : Lists owner h
    pub nothing : HasNothing owner h
    pub led : (u : UserId) → leaders_of edition h u ≡ []
    pub lock : default_of h ≡ lock_mode.Off

  pub first_stage : (users_of owner h1 ≡ owner ∷ []) × Lists owner h1 × HasNothing owner h1 × OpenMasks h1
      × ((u : UserId) → leaders_of edition h1 u ≡ [])
  first_stage = (
    refl,
    (λ u. ap (λ b. b || false) (same_user-sym owner u)),
    (λ u bit c. refl),
    (λ by u bit. refl),
    (λ u. refl),
  )

  pub named_stage : (h : History) → users_of owner h ≡ owner ∷ [] → Lists owner h → HasNothing owner h
      → ((u : UserId) → leaders_of edition h u ≡ []) → default_of h ≡ lock_mode.Off → Stage (followed_by h named_acts)
  named_stage h users lists none led lock = record {
    users = names_users owner others h ∙ ap (λ (us : List UserId). us ++ others) users;
    lists = names_list owner others h lists;
    nothing = names_nothing owner others h none;
    led = λ u. stays (λ g. leaders_of edition g u) on_leaders (leaders_stay edition u) named_acts h
        (names_off on_leaders (λ v. refl) (λ v bit o x. refl) others) ∙ led u;
    lock = stays default_of on_default default_stays named_acts h
        (names_off on_default (λ v. refl) (λ v bit o x. refl) others) ∙ lock;
  }

  pub masked_stage : (h : History) → Stage h → Stage (followed_by h mask_acts)
  masked_stage h g = record {
    users = stays (users_of owner) on_users (users_stay owner) mask_acts h
        (openers_without on_users (λ b u bit v. refl) (λ u bit o v. refl) owner from m (owner ∷ others)) ∙ g.users;
    lists = λ u. stays (λ k. is_known owner k u) on_users (known_stays owner u) mask_acts h
        (openers_without on_users (λ b u bit v. refl) (λ u bit o v. refl) owner from m (owner ∷ others)) ∙ g.lists u
        ∙ ap (λ (us : List UserId). among us u)
        (sym (stays (users_of owner) on_users (users_stay owner) mask_acts h
        (openers_without on_users (λ b u bit v. refl) (λ u bit o v. refl) owner from m (owner ∷ others))));
    nothing = openers_nothing owner from m (owner ∷ others) h g.nothing;
    led = λ u. stays (λ k. leaders_of edition k u) on_leaders (leaders_stay edition u) mask_acts h
        (openers_without on_leaders (λ b v bit x. refl) (λ v bit o x. refl) owner from m (owner ∷ others)) ∙ g.led u;
    lock = stays default_of on_default default_stays mask_acts h
        (openers_without on_default (λ b v bit x. refl) (λ v bit o x. refl) owner from m (owner ∷ others)) ∙ g.lock;
  }

  -- acts after the masks
  abbrev pub rest_acts : List Act
  rest_acts = leader_acts ++ (right_acts ++ (window_acts ++ (command_acts ++ default_acts s.default)))

  pub rest_off : (on : Act → Bool) → ((u : UserId) (leader : Option UserId) → on (act.Grouped u leader) ≡ false)
      → ((u : UserId) (bit : Bit) (o : Object) (v : Bool) → on (act.Set u bit o v) ≡ false)
      → ((kind : PresetKind) (bit : Bit) (v : Bool) → on (act.Preset kind bit v) ≡ false)
      → ((mode : LockMode) → on (act.Default mode) ≡ false) → Without on rest_acts
  rest_off on grouped set presets default =
      none_append on leader_acts (right_acts ++ (window_acts ++ (command_acts ++ default_acts s.default)))
      (all_groups_off on grouped leaders others)
      (none_append on right_acts (window_acts ++ (command_acts ++ default_acts s.default))
      (given_off edition owner from on set others) (last_off on presets default))
    where
      last_off : (on : Act → Bool) → ((kind : PresetKind) (bit : Bit) (v : Bool) → on (act.Preset kind bit v) ≡ false)
          → ((mode : LockMode) → on (act.Default mode) ≡ false)
          → Without on (window_acts ++ (command_acts ++ default_acts s.default))
      last_off on presets default =
          none_append on window_acts (command_acts ++ default_acts s.default)
          (presets_without on presets preset.Windows (changes_of s.on_windows))
          (none_append on command_acts (default_acts s.default)
          (presets_without on presets preset.Commands (changes_of s.on_commands)) (default_off on default))
