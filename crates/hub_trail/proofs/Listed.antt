-- Which acts a list command has.
use Rattle.hub_trail.proofs.Vocabulary.{Bool, true, false, List, [], ◌∷◌, Option, Some, None, if◌then◌else◌}
use Rattle.hub_trail.proofs.Vocabulary.{AllByRecursion, UserId, Bit, BitChange, Act, Object, MaskEntry, MaskScope}
use Rattle.hub_trail.proofs.Vocabulary.{NewLeader, among, change_acts, name_acts, user_acts, sets, sets_on, with_name}
use Rattle.hub_trail.proofs.Vocabulary.{add_acts, known_acts, new_acts, names_sets, name_sets, added, group_acts}
use Rattle.hub_trail.proofs.Vocabulary.{mask_acts, scope_acts, all_append}
use Rattle.acl.specs.declared.act.Act.TheVariants as act
use Rattle.acl.specs.declared.act.PresetKind.{PresetKind}
use Rattle.acl.specs.declared.entries.MaskScope.TheVariants as scope

module _ (P : Act → Type 0) (known : (u : UserId) → P (act.Known u))
    (set : (u : UserId) (bit : Bit) (o : Object) (value : Bool) → P (act.Set u bit o value)) where
  sets_on_all : (u : UserId) (bits : List BitChange) (o : Object) → AllByRecursion P (sets_on u bits o)
  sets_on_all u [] o = tt
  sets_on_all u (b ∷ bits) o = (set u b.bit o b.value, sets_on_all u bits o)

  sets_all : (u : UserId) (bits : List BitChange) (objects : List Object) → AllByRecursion P (sets u bits objects)
  sets_all u bits [] = tt
  sets_all u bits (o ∷ objects) =
      all_append P (sets_on u bits o) (sets u bits objects) (sets_on_all u bits o) (sets_all u bits objects)

  user_all : (is_known : Bool) (u : UserId) (bits : List BitChange) (objects : List Object)
      → AllByRecursion P (user_acts is_known u bits objects)
  user_all true u bits objects = sets_all u bits objects
  user_all false u bits objects = (known u, sets_all u bits objects)

  name_all : (users : List UserId) (name : Option UserId) (bits : List BitChange) (objects : List Object)
      → AllByRecursion P (name_acts users name bits objects)
  name_all users None bits objects = tt
  name_all users (Some u) bits objects = user_all (among users u) u bits objects

  pub change_all : (users : List UserId) (names : List (Option UserId)) (bits : List BitChange) (objects : List Object)
      → AllByRecursion P (change_acts users names bits objects)
  change_all users [] bits objects = tt
  change_all users (name ∷ names) bits objects =
      all_append P (name_acts users name bits objects) (change_acts (with_name users name) names bits objects)
      (name_all users name bits objects) (change_all (with_name users name) names bits objects)

  new_all : (users : List UserId) (name : Option UserId) → AllByRecursion P (new_acts users name)
  new_all users None = tt
  new_all users (Some u) = on (among users u) where
    on : (b : Bool) → AllByRecursion P (if b then [] else act.Known u ∷ [])
    on true = tt
    on false = (known u, tt)

  known_all : (users : List UserId) (names : List (Option UserId)) → AllByRecursion P (known_acts users names)
  known_all users [] = tt
  known_all users (name ∷ names) = all_append P (new_acts users name) (known_acts (with_name users name) names)
      (new_all users name) (known_all (with_name users name) names)

  name_sets_all : (bits : List BitChange) (objects : List Object) (name : Option UserId)
      → AllByRecursion P (name_sets bits objects name)
  name_sets_all bits objects None = tt
  name_sets_all bits objects (Some u) = sets_all u bits objects

  names_sets_all : (objects : List Object) (names : List (Option UserId)) → AllByRecursion P (names_sets objects names)
  names_sets_all objects [] = tt
  names_sets_all objects (name ∷ names) = all_append P (name_sets added objects name) (names_sets objects names)
      (name_sets_all added objects name) (names_sets_all objects names)

  pub add_all : (users : List UserId) (names : List (Option UserId)) (objects : List Object)
      → AllByRecursion P (add_acts users names objects)
  add_all users names objects = all_append P (known_acts users names) (names_sets objects names) (known_all users names)
      (names_sets_all objects names)

pub group_all : (P : Act → Type 0) → ((u : UserId) (leader : Option UserId) → P (act.Grouped u leader))
    → (name : Option UserId) (leader : NewLeader) → AllByRecursion P (group_acts name leader)
group_all P on None leader = tt
group_all P on (Some u) leader = (on u _, tt)

module _ (P : Act → Type 0) (by : UserId)
    (masked : (u : UserId) (bit : Bit) (value : Bool) → P (act.Masked by u bit value))
    (preset : (kind : PresetKind) (bit : Bit) (value : Bool) → P (act.Preset kind bit value)) where
  scope_all : (s : MaskScope) (bit : Bit) (value : Bool) → AllByRecursion P (scope_acts by s bit value)
  scope_all (scope.Preset kind) bit value = (preset kind bit value, tt)
  scope_all (scope.User None) bit value = tt
  scope_all (scope.User (Some u)) bit value = (masked u bit value, tt)

  pub mask_all : (entries : List MaskEntry) → AllByRecursion P (mask_acts by entries)
  mask_all [] = tt
  mask_all (e ∷ entries) = all_append P (scope_acts by e.scope e.bit e.value) (mask_acts by entries)
      (scope_all e.scope e.bit e.value) (mask_all entries)
