-- What is computed of listed users, and of each name that became known, gives what the law of
-- confinement asks of tables.
use Rattle.session_laws.proofs.Vocabulary.{◌≡◌, Bool, true, false, List, [], ◌∷◌, refl, sym, subst, inl, inr, ◌||◌, ◌⊎◌}
use Rattle.session_laws.proofs.Vocabulary.{AllByRecursion, UserId, Bit, Execute, CommandName, mask, same_user}
use Rattle.session_laws.proofs.Vocabulary.{same_user-true, Tables, is_known, may_in, contradicts, and_first, all_weaken}
use Rattle.session_laws.proofs.Vocabulary.{changes_rights, AreGuests, may_open, circle, AreShutOut, is_among}
use Rattle.acl.specs.declared.command_name.CommandName.TheVariants as name
use Rattle.acl.specs.declared.act.Object.TheVariants as object
use Rattle.session_laws.proofs.WorkedKnowing.{named, each_known}

pub among : (P : UserId → Type 0) (users : List UserId) → AllByRecursion P users → (u : UserId)
    → is_among users u ≡ true → P u
among P [] all u is = absurd (cc (is))
among P (v ∷ users) all u is = on (same_user v u) refl is (among P users all.1 u) where
  on : (b : Bool) → same_user v u ≡ b → (b || is_among users u) ≡ true → (is_among users u ≡ true → P u) → P u
  on true same is later = subst P (same_user-true v u same) all.0
  on false same is later = later is

-- the user has x on none of the five commands
abbrev pub None5 : Tables → UserId → Type 0
None5 t u =
    (may_in t u Execute (object.Command name.Acladd) ≡ false)
    × (may_in t u Execute (object.Command name.Aclchg) ≡ false)
    × (may_in t u Execute (object.Command name.Acldel) ≡ false)
    × (may_in t u Execute (object.Command name.Aclgrp) ≡ false)
    × (may_in t u Execute (object.Command name.Aclumask) ≡ false)

pub none_of_five : (t : Tables) (u : UserId) → None5 t u → (c : CommandName) → changes_rights c ≡ true
    → may_in t u Execute (object.Command c) ≡ false
none_of_five t u five name.Acladd is = five.0
none_of_five t u five name.Aclchg is = five.1
none_of_five t u five name.Acldel is = five.2
none_of_five t u five name.Aclgrp is = five.3
none_of_five t u five name.Aclumask is = five.4
none_of_five t u five c is = absurd (cc (is))

pub guests : (t : Tables) (users : List UserId) → AllByRecursion (None5 t) users → AreGuests t (is_among users)
guests t users all user c is changes = none_of_five t user (among (None5 t) users all user is) c changes

-- the user has no leader, is known, and may open nothing
pub record IsOut (t : Tables) (u : UserId) : Type 0 where
  pub circled : circle t u ≡ u ∷ []
  pub known : is_known t u ≡ true
  pub opens : may_open t u ≡ false

-- this user, if they may open windows, masks the bit for each of these users
abbrev pub Masks : Tables → Bit → List UserId → UserId → Type 0
Masks t bit users v = AllByRecursion (λ u. mask t.acts v u bit ≡ false) users

abbrev pub Shuts : Tables → Bit → List UserId → UserId → Type 0
Shuts t bit users v = (may_open t v ≡ false) ⊎ Masks t bit users v

module _ (t : Tables) (bit : Bit) (users : List UserId) (out : AllByRecursion (IsOut t) users) where
  -- a fact of all users holds in the circle of each of them
  circled : (P : UserId → Type 0) → AllByRecursion P users → (user : UserId) → is_among users user ≡ true
      → AllByRecursion P (circle t user)
  circled P all user is =
      subst (AllByRecursion P) (sym (among (IsOut t) users out user is).circled) (among P users all user is, tt)

  masked : (v : UserId) → Shuts t bit users v → may_open t v ≡ true → Masks t bit users v
  masked v (inl not) may = contradicts (may_open t v) may not
  masked v (inr all) may = all

  pub shut_out : (names : List UserId) → named t.acts ≡ names → AllByRecursion (Shuts t bit users) (t.owner ∷ names)
      → AreShutOut t (is_among users) bit
  shut_out names are all = record {
    known = circled (λ u. is_known t u ≡ true)
        (all_weaken (IsOut t) (λ u. is_known t u ≡ true) users (λ u o. o.known) out);
    openers = circled (λ u. may_open t u ≡ false)
        (all_weaken (IsOut t) (λ u. may_open t u ≡ false) users (λ u o. o.opens) out);
    masks = λ opener user may is.
        circled (λ u. mask t.acts opener u bit ≡ false)
        (masked opener
        (each_known (Shuts t bit users) opener t.owner t.acts all.0
        (subst (AllByRecursion (Shuts t bit users)) (sym are) all.1)
        (and_first (is_known t opener) (may_in t opener Execute (object.Command name.Screen)) may)) may) user is;
  }
