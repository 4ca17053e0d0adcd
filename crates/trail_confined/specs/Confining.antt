-- Whether users are confined on windows to come: what that rests on, and what of it doesn't hold.
use Rattle.std.specs.Prelude.{◌≡◌, ◌↔◌, Bool, true, false, not, ◌&&◌, List, [], ◌∷◌, ◌++◌, filter, is_some}
use Rattle.std.specs.List.{AllByRecursion, flat_map, list_any}
use Rattle.acl.specs.declared.bits.Bit.{Bit}
use Rattle.acl.specs.declared.bits.Bit.TheVariants.{Read, Write, Execute}
use Rattle.acl.specs.declared.command_name.CommandName.{CommandName}
use Rattle.acl.specs.declared.command_name.CommandName.TheVariants as name
use Rattle.acl.specs.declared.act.Object.TheVariants as object
use Rattle.acl.specs.declared.leaders.Edition.{Edition}
use Rattle.acl.specs.declared.user_id.UserId.{UserId}
use Rattle.acl.specs.History.{History, among, is_known, leaders_of, mask, may, users_of}
use Rattle.acl.specs.Same.{same_bit}
use Rattle.hub.specs.rights.Rights.{Rights}
use Rattle.hub.specs.Following.{StandsAfter}
use Rattle.trail_confined.specs.declared.premises.Premise.{Premise}
use Rattle.trail_confined.specs.declared.premises.Premise.TheVariants as premise
use Rattle.trail_rights.specs.declared.settler.RightsSetting.TheVariants as setting
use Rattle.trail_rights.specs.declared.settler.Settler.{Settler}
use Rattle.trail_rights.specs.Settling.{settler_in}

-- ---- what confinement rests on, after the acts of a history

-- the commands that change users, rights, leaders, masks and presets
abbrev pub changes_rights : CommandName → Bool
changes_rights name.Acladd = true
changes_rights name.Aclchg = true
changes_rights name.Acldel = true
changes_rights name.Aclgrp = true
changes_rights name.Aclumask = true
changes_rights _ = false

-- none of these users has x on a command that changes rights
abbrev pub AreGuests : Edition → UserId → History → (UserId → Bool) → Type 0
AreGuests edition owner h users =
    (user : UserId) (c : CommandName) → users user ≡ true → changes_rights c ≡ true →
    may edition owner h user Execute (object.Command c) ≡ false

-- the users who may open windows: each known user who has x on screen, as the owner has
abbrev pub may_open : Edition → UserId → History → UserId → Bool
may_open edition owner h user =
    is_known owner h user && may edition owner h user Execute (object.Command name.Screen)

-- the users whose entries count for a user: the user, and then their leaders
abbrev pub circle : Edition → History → UserId → List UserId
circle edition h user = user ∷ leaders_of edition h user

-- these users and their leaders are known, none of them opens windows, and whoever does masks the
-- bit for each of them
pub record AreShutOut (edition : Edition) (owner : UserId) (h : History) (users : UserId → Bool)
    (bit : Bit) : Type 0 where
  pub known :
      (user : UserId) → users user ≡ true →
      AllByRecursion (λ u. is_known owner h u ≡ true) (circle edition h user)
  pub openers :
      (user : UserId) → users user ≡ true →
      AllByRecursion (λ u. may_open edition owner h u ≡ false) (circle edition h user)
  pub masks :
      (opener user : UserId) → may_open edition owner h opener ≡ true → users user ≡ true →
      AllByRecursion (λ u. mask h opener u bit ≡ false) (circle edition h user)

-- so these users are confined: as long as nobody else is granted a command that changes rights,
-- none of them gets the bit on a window that is opened later
pub record AreConfined (edition : Edition) (owner : UserId) (h : History) (users : UserId → Bool)
    (bit : Bit) : Type 0 where
  pub guests : AreGuests edition owner h users
  pub shut_out : AreShutOut edition owner h users bit

-- ---- premise by premise

abbrev pub holds : Edition → UserId → History → Premise → Bool
holds edition owner h (premise.NoPower user c) =
    not (may edition owner h user Execute (object.Command c))
holds edition owner h (premise.IsKnown user) = is_known owner h user
holds edition owner h (premise.OpensNone user) = not (may_open edition owner h user)
holds edition owner h (premise.Masks opener user bit) = not (mask h opener user bit)

-- the bits for which a premise is one
abbrev pub concerns : Bit → Premise → Bool
concerns bit (premise.Masks opener user c) = same_bit c bit
concerns bit _ = true

abbrev pub powers_of : UserId → List Premise
powers_of user =
    premise.NoPower user name.Acladd ∷ premise.NoPower user name.Aclchg
    ∷ premise.NoPower user name.Acldel ∷ premise.NoPower user name.Aclgrp
    ∷ premise.NoPower user name.Aclumask ∷ []

abbrev pub standing_of : UserId → List Premise
standing_of user = premise.IsKnown user ∷ premise.OpensNone user ∷ []

abbrev pub masks_by : UserId → UserId → List Premise
masks_by user opener =
    premise.Masks opener user Read ∷ premise.Masks opener user Write
    ∷ premise.Masks opener user Execute ∷ []

abbrev pub masks_of : List UserId → UserId → List Premise
masks_of openers user = flat_map (masks_by user) openers

abbrev pub openers_of : Edition → UserId → History → List UserId
openers_of edition owner h = filter (may_open edition owner h) (users_of owner h)

-- the known users, and then those of these who aren't known
abbrev pub users_with : UserId → History → List UserId → List UserId
users_with owner h others = users_of owner h ++ filter (λ u. not (is_known owner h u)) others

abbrev pub circles_of : Edition → History → List UserId → List UserId
circles_of edition h users = flat_map (circle edition h) users

abbrev pub premises_of : Edition → UserId → History → List UserId → List Premise
premises_of edition owner h users =
    flat_map powers_of users ++ (flat_map standing_of (circles_of edition h users)
    ++ flat_map (masks_of (openers_of edition owner h)) (circles_of edition h users))

-- the premises that don't hold
abbrev pub failing_of : Edition → UserId → History → List UserId → List Premise
failing_of edition owner h users =
    filter (λ p. not (holds edition owner h p)) (premises_of edition owner h users)

-- ---- as the code has it

-- whether it can be told if a premise holds: for a mask, only if the mask is looked for
abbrev pub is_asked : List Settler → Premise → Bool
is_asked settlers (premise.Masks opener user bit) =
    is_some (settler_in settlers (setting.Mask opener user bit))
is_asked settlers _ = true

-- ---- laws

-- users are confined exactly if each premise holds that concerns the bit: of any history for
-- which tables stand
abbrev pub ConfinementIsDecided : Type 0
ConfinementIsDecided =
    (r : Rights) (edition : Edition) (owner : UserId) (h : History) (users : List UserId)
    (bit : Bit) → StandsAfter r edition owner h →
    (list_any (concerns bit) (failing_of edition owner h users) ≡ false)
    ↔ AreConfined edition owner h (among users) bit
