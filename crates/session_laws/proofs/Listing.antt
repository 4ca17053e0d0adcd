-- Which acts a list command has.
use Rattle.session_laws.proofs.Vocabulary.{◌≡◌, Bool, true, false, List, [], ◌∷◌, ◌++◌, Option, Some, None, refl}
use Rattle.session_laws.proofs.Vocabulary.{if◌then◌else◌, AllByRecursion, UserId, Bit, BitChange, Act, Object}
use Rattle.session_laws.proofs.Vocabulary.{MaskEntry, MaskScope, NewLeader, among, change_acts, name_acts, user_acts}
use Rattle.session_laws.proofs.Vocabulary.{sets, sets_on, with_name, add_acts, known_acts, new_acts, names_sets}
use Rattle.session_laws.proofs.Vocabulary.{name_sets, added, group_acts, mask_acts, scope_acts, all_append}
use Rattle.acl.specs.declared.act.Act.TheVariants as act
use Rattle.acl.specs.declared.entries.MaskScope.TheVariants as scope

-- an act on access lists
abbrev pub is_listing : Act → Bool
is_listing (act.Known user) = true
is_listing (act.Gone user) = true
is_listing (act.Set user bit object value) = true
is_listing (act.Grouped user leader) = true
is_listing (act.Masked by user bit value) = true
is_listing (act.Preset kind bit value) = true
is_listing _ = false

abbrev pub AllListing : List Act → Type 0
AllListing acts = AllByRecursion (λ a. is_listing a ≡ true) acts

both : (a b : List Act) → AllListing a → AllListing b → AllListing (a ++ b)
both a b p q = all_append (λ a. is_listing a ≡ true) a b p q

sets_on_list : (u : UserId) (bits : List BitChange) (o : Object) → AllListing (sets_on u bits o)
sets_on_list u [] o = tt
sets_on_list u (b ∷ bits) o = (refl, sets_on_list u bits o)

sets_list : (u : UserId) (bits : List BitChange) (objects : List Object) → AllListing (sets u bits objects)
sets_list u bits [] = tt
sets_list u bits (o ∷ objects) = both (sets_on u bits o) (sets u bits objects) (sets_on_list u bits o)
    (sets_list u bits objects)

user_list : (known : Bool) (u : UserId) (bits : List BitChange) (objects : List Object)
    → AllListing (user_acts known u bits objects)
user_list true u bits objects = sets_list u bits objects
user_list false u bits objects = (refl, sets_list u bits objects)

name_list : (users : List UserId) (name : Option UserId) (bits : List BitChange) (objects : List Object)
    → AllListing (name_acts users name bits objects)
name_list users None bits objects = tt
name_list users (Some u) bits objects = user_list (among users u) u bits objects

pub change_list : (users : List UserId) (names : List (Option UserId)) (bits : List BitChange) (objects : List Object)
    → AllListing (change_acts users names bits objects)
change_list users [] bits objects = tt
change_list users (name ∷ names) bits objects =
    both (name_acts users name bits objects) (change_acts (with_name users name) names bits objects)
    (name_list users name bits objects) (change_list (with_name users name) names bits objects)

new_list : (users : List UserId) (name : Option UserId) → AllListing (new_acts users name)
new_list users None = tt
new_list users (Some u) = on (among users u) where
  on : (b : Bool) → AllListing (if b then [] else act.Known u ∷ [])
  on true = tt
  on false = (refl, tt)

known_list : (users : List UserId) (names : List (Option UserId)) → AllListing (known_acts users names)
known_list users [] = tt
known_list users (name ∷ names) = both (new_acts users name) (known_acts (with_name users name) names)
    (new_list users name) (known_list (with_name users name) names)

name_sets_list : (bits : List BitChange) (objects : List Object) (name : Option UserId)
    → AllListing (name_sets bits objects name)
name_sets_list bits objects None = tt
name_sets_list bits objects (Some u) = sets_list u bits objects

names_sets_list : (objects : List Object) (names : List (Option UserId)) → AllListing (names_sets objects names)
names_sets_list objects [] = tt
names_sets_list objects (name ∷ names) = both (name_sets added objects name) (names_sets objects names)
    (name_sets_list added objects name) (names_sets_list objects names)

pub add_list : (users : List UserId) (names : List (Option UserId)) (objects : List Object)
    → AllListing (add_acts users names objects)
add_list users names objects = both (known_acts users names) (names_sets objects names) (known_list users names)
    (names_sets_list objects names)

pub group_list : (name : Option UserId) (leader : NewLeader) → AllListing (group_acts name leader)
group_list None leader = tt
group_list (Some u) leader = (refl, tt)

scope_list : (by : UserId) (s : MaskScope) (bit : Bit) (value : Bool) → AllListing (scope_acts by s bit value)
scope_list by (scope.User None) bit value = tt
scope_list by s bit value = (refl, tt)

pub mask_list : (by : UserId) (entries : List MaskEntry) → AllListing (mask_acts by entries)
mask_list by [] = tt
mask_list by (e ∷ entries) = both (scope_acts by e.scope e.bit e.value) (mask_acts by entries)
    (scope_list by e.scope e.bit e.value) (mask_list by entries)
