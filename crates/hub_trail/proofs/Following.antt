-- The acts of a list command that isn't refused can follow one another, after those of the tables.
use Rattle.hub_trail.proofs.Vocabulary.{◌≡◌, ◌∙◌, Bool, true, false, not, ◌||◌, List, [], ◌∷◌, ◌++◌, Option, Some, None}
use Rattle.hub_trail.proofs.Vocabulary.{refl, ap, sym, subst, if◌then◌else◌, nat_lt, length, AllByRecursion, list_any}
use Rattle.hub_trail.proofs.Vocabulary.{option_or, or_left, or_right, and_from, Act, Object, Bit, BitChange, Edition}
use Rattle.hub_trail.proofs.Vocabulary.{MaskEntry, MaskScope, NewLeader, UserId, same_user, History, followed_by, among}
use Rattle.hub_trail.proofs.Vocabulary.{there, new_name_fault, known_name_fault, change_fault, mask_fault, with_name}
use Rattle.hub_trail.proofs.Vocabulary.{names_user, sets_on, sets, user_acts, name_acts, change_acts, new_acts}
use Rattle.hub_trail.proofs.Vocabulary.{known_acts, added, name_sets, names_sets, add_acts, scope_acts, mask_acts}
use Rattle.hub_trail.proofs.Vocabulary.{group_acts, same_user-refl, CanFollow, follow_append}
use Rattle.std.specs.Prelude.{is_none}
use Rattle.acl.specs.declared.act.Act.TheVariants as act
use Rattle.acl.specs.declared.act.Object.TheVariants.{Window, Command}
use Rattle.acl.specs.declared.entries.MaskScope.TheVariants as scope
use Rattle.acl.specs.declared.entries.NewLeader.TheVariants.{Nobody, Named}
use Rattle.acl.specs.declared.entries.AclFault.TheVariants.{OwnerKept, TooManyUsers, UnknownUser}
use Rattle.acl.specs.History.{users_of, leaders_of}
use Rattle.acl.specs.Commands.{scope_fault, group_fault, leader_fault, with_names, removal_acts}
use Rattle.acl.proofs.NameLemmas.{among-with_name, among-with_names}
use Rattle.session.proofs.ActsOfMoves.{followed_append}
use Rattle.session.proofs.Moving.{is_aside}
use Rattle.hub_trail.proofs.Sights.{any_behind}
use Rattle.rights.specs.Acts.{can_follow}

-- ---- acts after acts

-- acts that may come after any others
abbrev pub is_free : Act → Bool
is_free (act.Known u) = false
is_free (act.Gone u) = false
is_free (act.Set u bit object value) = false
is_free (act.Grouped u leader) = false
is_free (act.Masked by u bit value) = false
is_free (act.Opened by w) = false
is_free (act.Attached client user) = false
is_free (act.Entered u w) = false
is_free (act.Mode by w mode) = false
is_free a = true

abbrev pub AllFree : List Act → Type 0
AllFree acts = AllByRecursion (λ a. is_free a ≡ true) acts

free_one : (edition : Edition) (owner : UserId) (h : History) (a : Act) → is_free a ≡ true
    → can_follow edition owner h a ≡ true
free_one edition owner h (act.Known u) is = absurd (cc (is))
free_one edition owner h (act.Gone u) is = absurd (cc (is))
free_one edition owner h (act.Set u bit object value) is = absurd (cc (is))
free_one edition owner h (act.Grouped u leader) is = absurd (cc (is))
free_one edition owner h (act.Masked by u bit value) is = absurd (cc (is))
free_one edition owner h (act.Opened by w) is = absurd (cc (is))
free_one edition owner h (act.Attached client user) is = absurd (cc (is))
free_one edition owner h (act.Entered u w) is = absurd (cc (is))
free_one edition owner h (act.Mode by w mode) is = absurd (cc (is))
free_one edition owner h a is = refl

pub free_follow : (edition : Edition) (owner : UserId) (h : History) (acts : List Act) → AllFree acts
    → CanFollow edition owner h acts
free_follow edition owner h [] free = tt
free_follow edition owner h (a ∷ acts) free =
    (free_one edition owner h a free.0, free_follow edition owner (a ∷ h) acts free.1)

-- such acts leave the known users unchanged
users_free : (owner : UserId) (h : History) (a : Act) → is_free a ≡ true → users_of owner (a ∷ h) ≡ users_of owner h
users_free owner h (act.Known u) is = absurd (cc (is))
users_free owner h (act.Gone u) is = absurd (cc (is))
users_free owner h a is = refl

pub users_stay : (owner : UserId) (h : History) (acts : List Act) → AllFree acts
    → users_of owner (followed_by h acts) ≡ users_of owner h
users_stay owner h [] free = refl
users_stay owner h (a ∷ acts) free = users_stay owner (a ∷ h) acts free.1 ∙ users_free owner h a free.0

-- ---- faults

pub first_none : {F : Type 0} (a b : Option F) → option_or a b ≡ None → a ≡ None
first_none None b e = refl
first_none (Some x) b e = absurd (cc (e))

pub second_none : {F : Type 0} (a b : Option F) → option_or a b ≡ None → b ≡ None
second_none None b e = e
second_none (Some x) b e = absurd (cc (e))

-- a name that may become known isn't the owner's
not_owner : (owner : UserId) (users : List UserId) (u : UserId) → new_name_fault owner users (Some u) ≡ None
    → same_user owner u ≡ false
not_owner owner users u none = on (same_user owner u) (among users u || nat_lt (length users) 64) none where
  on : (b c : Bool) → (if b then Some OwnerKept else (if c then None else Some TooManyUsers)) ≡ None → b ≡ false
  on true c e = absurd (cc (e))
  on false c e = refl

-- a name can be named after it became known
known_name : (owner : UserId) (users : List UserId) (u : UserId) → same_user owner u ≡ false → among users u ≡ true
    → known_name_fault owner users (Some u) ≡ None
known_name owner users u other known = ap
    (λ (b : Bool). if b then Some OwnerKept else (if among users u then None else Some UnknownUser)) other
    ∙ ap (λ (b : Bool). if b then None else Some UnknownUser) known

-- the names are known, and none is the owner's
abbrev AreNamed : UserId → List UserId → List (Option UserId) → Type 0
AreNamed owner users names = AllByRecursion (λ name. known_name_fault owner users name ≡ None) names

-- the names of a change are known after it made them known
named : (owner : UserId) (users : List UserId) (names : List (Option UserId)) → change_fault owner users names ≡ None
    → AreNamed owner (with_names users names) names
named owner users [] none = tt
named owner users (None ∷ names) none = absurd (cc (none))
named owner users (Some u ∷ names) none = (
  known_name owner (with_names users (Some u ∷ names)) u
      (not_owner owner users u
      (first_none (new_name_fault owner users (Some u)) (change_fault owner (with_name users (Some u)) names) none))
      (among-with_names (with_name users (Some u)) names u
      ∙ or_left _ (list_any (names_user u) names)
      (among-with_name users (Some u) u ∙ or_right (among users u) _ (same_user-refl u))),
  named owner (with_name users (Some u)) names
      (second_none (new_name_fault owner users (Some u)) (change_fault owner (with_name users (Some u)) names) none),
)

-- ---- what acts lead to

-- acts that open and close nothing leave the objects that are there
still : (a : Act) (h : History) (o : Object) → is_aside a ≡ true → there (a ∷ h) o ≡ there h o
still a h (Command c) is = refl
still (act.Opened by w) h (Window v) is = absurd (cc (is))
still (act.Closed w) h (Window v) is = absurd (cc (is))
still a h (Window v) is = refl

module _ (edition : Edition) (owner : UserId) (g : History) where
  -- after these acts the known users are these, and the objects that were there are there
  pub record IsAt (h : History) (users : List UserId) : Type 0 where
    pub users_are : users_of owner h ≡ users
    pub stays : (o : Object) → there h o ≡ there g o

  pub record Goes (h : History) (acts : List Act) (users : List UserId) : Type 0 where
    pub follow : CanFollow edition owner h acts
    pub leads : IsAt (followed_by h acts) users

  abbrev pub Leads : List UserId → List Act → List UserId → Type 0
  Leads users acts more = (h : History) → IsAt h users → Goes h acts more

  nothing_leads : (users : List UserId) → Leads users [] users
  nothing_leads users h here = record { follow = tt; leads = here }

  then_leads : (users between more : List UserId) (xs ys : List Act) → Leads users xs between → Leads between ys more
      → Leads users (xs ++ ys) more
  then_leads users between more xs ys first second h here =
      let one : Goes h xs between = first h here in
      let two : Goes (followed_by h xs) ys more = second (followed_by h xs) one.leads in
      record {
        follow = follow_append edition owner h xs ys one.follow two.follow;
        leads = subst (λ (k : History). IsAt k more) (sym (followed_append h xs ys)) two.leads;
      }

  -- an act that leaves the known users
  one_leads : (users : List UserId) (a : Act) → is_aside a ≡ true
      → ((h : History) → users_of owner (a ∷ h) ≡ users_of owner h)
      → ((h : History) → IsAt h users → can_follow edition owner h a ≡ true) → Leads users (a ∷ []) users
  one_leads users a aside same can h here = record {
    follow = (can h here, tt);
    leads = record { users_are = same h ∙ here.users_are; stays = λ o. still a h o aside ∙ here.stays o };
  }

  -- ---- sets

  abbrev AreThere : List Object → Type 0
  AreThere objects = AllByRecursion (λ o. there g o ≡ true) objects

  set_leads : (users : List UserId) (u : UserId) (bit : Bit) (o : Object) (value : Bool)
      → known_name_fault owner users (Some u) ≡ None → there g o ≡ true
      → Leads users (act.Set u bit o value ∷ []) users
  set_leads users u bit o value none is = one_leads users (act.Set u bit o value) refl (λ h. refl) (λ h here.
      and_from _ _ (ap (λ us. is_none (known_name_fault owner us (Some u))) here.users_are ∙ ap is_none none)
      (here.stays o ∙ is))

  sets_on_lead : (users : List UserId) (u : UserId) (bits : List BitChange) (o : Object)
      → known_name_fault owner users (Some u) ≡ None → there g o ≡ true
      → Leads users (sets_on u bits o) users
  sets_on_lead users u [] o none is = nothing_leads users
  sets_on_lead users u (b ∷ bits) o none is =
      then_leads users users users (act.Set u b.bit o b.value ∷ []) (sets_on u bits o)
      (set_leads users u b.bit o b.value none is) (sets_on_lead users u bits o none is)

  sets_lead : (users : List UserId) (u : UserId) (bits : List BitChange) (objects : List Object)
      → known_name_fault owner users (Some u) ≡ None → AreThere objects
      → Leads users (sets u bits objects) users
  sets_lead users u bits [] none all = nothing_leads users
  sets_lead users u bits (o ∷ objects) none all =
      then_leads users users users (sets_on u bits o) (sets u bits objects) (sets_on_lead users u bits o none all.0)
      (sets_lead users u bits objects none all.1)

  -- ---- names that become known

  known_leads : (users : List UserId) (u : UserId) → new_name_fault owner users (Some u) ≡ None → among users u ≡ false
      → Leads users (act.Known u ∷ []) (users ++ u ∷ [])
  known_leads users u none new h here = record {
    follow = (
      and_from _ _ (ap (λ us. not (among us u)) here.users_are ∙ ap not new)
          (ap (λ us. is_none (new_name_fault owner us (Some u))) here.users_are ∙ ap is_none none),
      tt,
    );
    leads = record {
      users_are = ap (λ us. us ++ u ∷ []) here.users_are;
      stays = λ o. still (act.Known u) h o refl
          ∙ here.stays o;
    };
  }

  among_last : (users : List UserId) (u : UserId) → among (users ++ u ∷ []) u ≡ true
  among_last users u = any_behind (same_user u) users (u ∷ []) (or_left (same_user u u) false (same_user-refl u))

  name_leads : (users : List UserId) (name : Option UserId) (bits : List BitChange) (objects : List Object)
      → new_name_fault owner users name ≡ None → AreThere objects
      → Leads users (name_acts users name bits objects) (with_name users name)
  name_leads users None bits objects none all = absurd (cc (none))
  name_leads users (Some u) bits objects none all = on (among users u) refl where
    on : (b : Bool) → among users u ≡ b
        → Leads users (user_acts b u bits objects) (if b then users else users ++ u ∷ [])
    on true is = sets_lead users u bits objects (known_name owner users u (not_owner owner users u none) is) all
    on false is =
        then_leads users (users ++ u ∷ []) (users ++ u ∷ []) (act.Known u ∷ []) (sets u bits objects)
        (known_leads users u none is)
        (sets_lead (users ++ u ∷ []) u bits objects
        (known_name owner (users ++ u ∷ []) u (not_owner owner users u none) (among_last users u)) all)

  pub change_leads : (users : List UserId) (names : List (Option UserId)) (bits : List BitChange)
      (objects : List Object) → change_fault owner users names ≡ None → AreThere objects
      → Leads users (change_acts users names bits objects) (with_names users names)
  change_leads users [] bits objects none all = nothing_leads users
  change_leads users (name ∷ names) bits objects none all =
      then_leads users (with_name users name) (with_names users (name ∷ names)) (name_acts users name bits objects)
      (change_acts (with_name users name) names bits objects)
      (name_leads users name bits objects
      (first_none (new_name_fault owner users name) (change_fault owner (with_name users name) names) none) all)
      (change_leads (with_name users name) names bits objects
      (second_none (new_name_fault owner users name) (change_fault owner (with_name users name) names) none) all)

  -- ---- acladd

  new_leads : (users : List UserId) (name : Option UserId) → new_name_fault owner users name ≡ None
      → Leads users (new_acts users name) (with_name users name)
  new_leads users None none = nothing_leads users
  new_leads users (Some u) none = on (among users u) refl where
    on : (b : Bool) → among users u ≡ b
        → Leads users (if b then [] else act.Known u ∷ []) (if b then users else users ++ u ∷ [])
    on true is = nothing_leads users
    on false is = known_leads users u none is

  all_known_lead : (users : List UserId) (names : List (Option UserId)) → change_fault owner users names ≡ None
      → Leads users (known_acts users names) (with_names users names)
  all_known_lead users [] none = nothing_leads users
  all_known_lead users (name ∷ names) none =
      then_leads users (with_name users name) (with_names users (name ∷ names)) (new_acts users name)
      (known_acts (with_name users name) names)
      (new_leads users name
      (first_none (new_name_fault owner users name) (change_fault owner (with_name users name) names) none))
      (all_known_lead (with_name users name) names
      (second_none (new_name_fault owner users name) (change_fault owner (with_name users name) names) none))

  names_lead : (users : List UserId) (objects : List Object) (names : List (Option UserId)) → AreNamed owner users names
      → AreThere objects → Leads users (names_sets objects names) users
  names_lead users objects [] known all = nothing_leads users
  names_lead users objects (None ∷ names) known all = absurd (cc (known.0))
  names_lead users objects (Some u ∷ names) known all =
      then_leads users users users (name_sets added objects (Some u)) (names_sets objects names)
      (sets_lead users u added objects known.0 all) (names_lead users objects names known.1 all)

  pub add_leads : (users : List UserId) (names : List (Option UserId)) (objects : List Object)
      → change_fault owner users names ≡ None → AreThere objects
      → Leads users (add_acts users names objects) (with_names users names)
  add_leads users names objects none all =
      then_leads users (with_names users names) (with_names users names) (known_acts users names)
      (names_sets objects names)
      (all_known_lead users names none)
      (names_lead (with_names users names) objects names (named owner users names none) all)

  -- ---- aclumask

  scope_leads : (users : List UserId) (by : UserId) (s : MaskScope) (bit : Bit) (value : Bool)
      → scope_fault owner users s ≡ None → Leads users (scope_acts by s bit value) users
  scope_leads users by (scope.Preset kind) bit value none = one_leads users (act.Preset kind bit value) refl (λ h. refl)
      (λ h here. refl)
  scope_leads users by (scope.User None) bit value none = absurd (cc (none))
  scope_leads users by (scope.User (Some u)) bit value none = one_leads users (act.Masked by u bit value) refl
      (λ h. refl) (λ h here.
      ap (λ us. is_none (known_name_fault owner us (Some u))) here.users_are ∙ ap is_none none)

  pub mask_leads : (users : List UserId) (by : UserId) (entries : List MaskEntry)
      → mask_fault owner users entries ≡ None → Leads users (mask_acts by entries) users
  mask_leads users by [] none = nothing_leads users
  mask_leads users by (e ∷ entries) none =
      then_leads users users users (scope_acts by e.scope e.bit e.value) (mask_acts by entries)
      (scope_leads users by e.scope e.bit e.value
      (first_none (scope_fault owner users e.scope) (mask_fault owner users entries) none))
      (mask_leads users by entries
      (second_none (scope_fault owner users e.scope) (mask_fault owner users entries) none))

  -- acts that follow those before them
  pub here_follow : (acts : List Act) (more : List UserId) → Leads (users_of owner g) acts more
      → CanFollow edition owner g acts
  here_follow acts more leads = let all : Goes g acts more = leads g (record { users_are = refl; stays = λ o. refl }) in
      all.follow

  -- ---- acldel and aclgrp

  pub removal_follows : (name : Option UserId) → known_name_fault owner (users_of owner g) name ≡ None
      → CanFollow edition owner g (removal_acts name)
  removal_follows None none = tt
  removal_follows (Some u) none = (ap is_none none, tt)

  pub group_follows : (name : Option UserId) (leader : NewLeader)
      → group_fault edition owner (users_of owner g) (leaders_of edition g) name leader ≡ None
      → CanFollow edition owner g (group_acts name leader)
  group_follows None leader none = tt
  group_follows (Some u) Nobody none = (ap is_none none, tt)
  group_follows (Some u) (Named (Some l)) none = (ap is_none none, tt)
  group_follows (Some u) (Named None) none =
      absurd
      (cc
      (second_none (known_name_fault owner (users_of owner g) (Some u))
      (leader_fault edition owner (users_of owner g) (leaders_of edition g) (Some u) (Named None)) none))
