-- List commands give the same acts on windows under other serials.
use Rattle.session_alike.proofs.Vocabulary.{◌≡◌, Bool, true, false, List, [], ◌∷◌, Option, Some, None, refl, ap, map}
use Rattle.session_alike.proofs.Vocabulary.{if◌then◌else◌, Object, Bit, BitChange, MaskEntry, MaskScope, NewLeader}
use Rattle.session_alike.proofs.Vocabulary.{UserId, among, add_acts, added, change_acts, group_acts, known_acts}
use Rattle.session_alike.proofs.Vocabulary.{mask_acts, name_acts, name_sets, names_sets, new_acts, scope_acts, sets}
use Rattle.session_alike.proofs.Vocabulary.{sets_on, user_acts, with_name, Renaming, act_as, object_as, map_append}
use Rattle.acl.specs.declared.act.Act.TheVariants as act
use Rattle.acl.specs.declared.entries.MaskScope.TheVariants as scope

module _ (n : Renaming) where
  sets_on_as : (u : UserId) (changes : List BitChange) (o : Object)
      → sets_on u changes (object_as n o) ≡ map (act_as n) (sets_on u changes o)
  sets_on_as u [] o = refl
  sets_on_as u (change ∷ changes) o =
      ap (λ acts. act.Set u change.bit (object_as n o) change.value ∷ acts) (sets_on_as u changes o)

  sets_as : (u : UserId) (changes : List BitChange) (os : List Object)
      → sets u changes (map (object_as n) os) ≡ map (act_as n) (sets u changes os)
  sets_as u changes [] = refl
  sets_as u changes (o ∷ os) =
      map_append (act_as n) (sets_on u changes o) (sets u changes os) _ _ (sets_on_as u changes o)
      (sets_as u changes os)

  user_acts_as : (b : Bool) (u : UserId) (changes : List BitChange) (os : List Object)
      → user_acts b u changes (map (object_as n) os) ≡ map (act_as n) (user_acts b u changes os)
  user_acts_as true u changes os = sets_as u changes os
  user_acts_as false u changes os = ap (λ acts. act.Known u ∷ acts) (sets_as u changes os)

  name_acts_as : (users : List UserId) (name : Option UserId) (changes : List BitChange) (os : List Object)
      → name_acts users name changes (map (object_as n) os) ≡ map (act_as n) (name_acts users name changes os)
  name_acts_as users None changes os = refl
  name_acts_as users (Some u) changes os = user_acts_as (among users u) u changes os

  pub change_acts_as : (users : List UserId) (names : List (Option UserId)) (changes : List BitChange)
      (os : List Object)
      → change_acts users names changes (map (object_as n) os) ≡ map (act_as n) (change_acts users names changes os)
  change_acts_as users [] changes os = refl
  change_acts_as users (name ∷ names) changes os =
      map_append (act_as n) (name_acts users name changes os) (change_acts (with_name users name) names changes os) _ _
      (name_acts_as users name changes os) (change_acts_as (with_name users name) names changes os)

  new_acts_as : (users : List UserId) (name : Option UserId)
      → new_acts users name ≡ map (act_as n) (new_acts users name)
  new_acts_as users None = refl
  new_acts_as users (Some u) = on (among users u) where
    on : (b : Bool) → (if b then [] else act.Known u ∷ []) ≡ map (act_as n) (if b then [] else act.Known u ∷ [])
    on true = refl
    on false = refl

  known_acts_as : (users : List UserId) (names : List (Option UserId))
      → known_acts users names ≡ map (act_as n) (known_acts users names)
  known_acts_as users [] = refl
  known_acts_as users (name ∷ names) =
      map_append (act_as n) (new_acts users name) (known_acts (with_name users name) names) _ _
      (new_acts_as users name) (known_acts_as (with_name users name) names)

  name_sets_as : (os : List Object) (name : Option UserId)
      → name_sets added (map (object_as n) os) name ≡ map (act_as n) (name_sets added os name)
  name_sets_as os None = refl
  name_sets_as os (Some u) = sets_as u added os

  names_sets_as : (os : List Object) (names : List (Option UserId))
      → names_sets (map (object_as n) os) names ≡ map (act_as n) (names_sets os names)
  names_sets_as os [] = refl
  names_sets_as os (name ∷ names) =
      map_append (act_as n) (name_sets added os name) (names_sets os names) _ _ (name_sets_as os name)
      (names_sets_as os names)

  pub add_acts_as : (users : List UserId) (names : List (Option UserId)) (os : List Object)
      → add_acts users names (map (object_as n) os) ≡ map (act_as n) (add_acts users names os)
  add_acts_as users names os =
      map_append (act_as n) (known_acts users names) (names_sets os names) _ _ (known_acts_as users names)
      (names_sets_as os names)

  pub group_acts_as : (name : Option UserId) (leader : NewLeader)
      → group_acts name leader ≡ map (act_as n) (group_acts name leader)
  group_acts_as None leader = refl
  group_acts_as (Some u) leader = refl

  scope_acts_as : (by : UserId) (s : MaskScope) (bit : Bit) (value : Bool)
      → scope_acts by s bit value ≡ map (act_as n) (scope_acts by s bit value)
  scope_acts_as by (scope.Preset kind) bit value = refl
  scope_acts_as by (scope.User None) bit value = refl
  scope_acts_as by (scope.User (Some u)) bit value = refl

  pub mask_acts_as : (by : UserId) (es : List MaskEntry) → mask_acts by es ≡ map (act_as n) (mask_acts by es)
  mask_acts_as by [] = refl
  mask_acts_as by (e ∷ es) =
      map_append (act_as n) (scope_acts by e.scope e.bit e.value) (mask_acts by es) _ _
      (scope_acts_as by e.scope e.bit e.value) (mask_acts_as by es)
