-- The act that decides a user's bit on an object.
use Rattle.std.specs.Prelude.{◌≡◌, Bool, false, ◌&&◌, ◌||◌, if◌then◌else◌, List, [], ◌∷◌, ◌++◌}
use Rattle.std.specs.Prelude.{Option, Some, None, is_some, unwrap_or}
use Rattle.acl.specs.declared.act.Act.{Act}
use Rattle.acl.specs.declared.act.Act.TheVariants.{Known, Gone, Set, Opened}
use Rattle.acl.specs.declared.act.Object.{Object}
use Rattle.acl.specs.declared.act.Object.TheVariants.{Window, Command}
use Rattle.acl.specs.declared.bits.Bit.{Bit}
use Rattle.acl.specs.declared.user_id.UserId.{UserId}
use Rattle.acl.specs.History.{decision, has, there, latest, decides_known, decides_open}
use Rattle.acl.specs.Same.{same_user, same_bit, same_object}
use Rattle.trail_rights.specs.declared.acts.Mark.{Mark}
use Rattle.trail_rights.specs.declared.decider.Decider.{Decider}
use Rattle.trail_rights.specs.Marks.{Marked, acts_in}

-- the latest act that decides, with its mark
abbrev pub deciding : UserId → Marked → UserId → Bit → Object → Option (Mark × Act)
deciding owner [] u bit object = None
deciding owner (p ∷ marked) u bit object =
    if is_some (decision owner p.1 (acts_in marked) u bit object) then Some p
    else deciding owner marked u bit object

-- ---- laws

-- none of these later acts decides, each after the acts before it
abbrev pub NoneDecides : UserId → Marked → Marked → UserId → Bit → Object → Type 0
NoneDecides owner [] before u bit object = Unit {0}
NoneDecides owner (p ∷ later) before u bit object =
    (decision owner p.1 (acts_in (later ++ before)) u bit object ≡ None)
    × NoneDecides owner later before u bit object

-- an act, after the acts before it, gives the user's bit its value, and no later act decides
pub record IsLatest (owner : UserId) (marked : Marked) (u : UserId) (bit : Bit) (object : Object)
    (p : Mark × Act) : Type 0 where
  pub later : Marked
  pub before : Marked
  pub all : marked ≡ later ++ p ∷ before
  pub value : decision owner p.1 (acts_in before) u bit object
      ≡ Some (has owner (acts_in marked) u bit object)
  pub last : NoneDecides owner later (p ∷ before) u bit object

-- if no act decides, the user hasn't the bit
abbrev pub IsDecided : UserId → Marked → UserId → Bit → Object → Option (Mark × Act) → Type 0
IsDecided owner marked u bit object None = has owner (acts_in marked) u bit object ≡ false
IsDecided owner marked u bit object (Some p) = IsLatest owner marked u bit object p

abbrev pub DecidingIsLatest : Type 0
DecidingIsLatest =
    (owner : UserId) (marked : Marked) (u : UserId) (bit : Bit) (object : Object)
    → IsDecided owner marked u bit object (deciding owner marked u bit object)

-- ---- as the code has it

-- whether the act decides, by whether the user is known and the object there
abbrev pub decides : Decider → Act → Bool
decides d (Known v) = same_user v d.user && d.there
decides d (Gone v) = same_user v d.user
decides d (Set v bit object value) =
    same_user v d.user && same_bit bit d.bit && same_object object d.object
decides d (Opened by w) =
    same_object (Window w) d.object
    && (same_user by d.user || (same_user d.owner d.user || d.listed))
decides d a = false

abbrev pub there_after : Act → Object → Bool → Bool
there_after a (Window w) before = unwrap_or (decides_open w a) before
there_after a (Command c) before = before

abbrev pub decider_after : Mark → Act → Decider → Decider
decider_after m a d = record d {
  listed = unwrap_or (decides_known d.user a) d.listed;
  there = there_after a d.object d.there;
  found = if decides d a then Some (m, a) else d.found;
}

-- a decider before the first act
abbrev pub first_decider : UserId → UserId → Bit → Object → Decider
first_decider owner u bit object = record {
  owner = owner;
  user = u;
  bit = bit;
  object = object;
  listed = false;
  there = there [] object;
  found = None;
}

-- whose bit on which object a decider looks for
abbrev pub sought_by : Decider → UserId × Bit × Object
sought_by d = (d.user, d.bit, d.object)

-- what was found after these acts is the latest that decides
pub record HasDecided (owner : UserId) (marked : Marked) (d : Decider) : Type 0 where
  pub owner_is : d.owner ≡ owner
  pub listed : d.listed ≡ latest (decides_known d.user) false (acts_in marked)
  pub there_is : d.there ≡ there (acts_in marked) d.object
  pub found : d.found ≡ deciding owner marked d.user d.bit d.object

-- what the first decider has found that looks for a user's bit on an object
abbrev pub found_in : List Decider → UserId → Bit → Object → Option (Mark × Act)
found_in [] u bit object = None
found_in (d ∷ deciders) u bit object =
    if same_user u d.user && same_bit bit d.bit && same_object object d.object then d.found
    else found_in deciders u bit object
