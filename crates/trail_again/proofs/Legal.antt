-- Acts each of which may come after those before it keep users and leaders lawful.
use Rattle.trail_again.proofs.Vocabulary.{◌≡◌, ◌∙◌, ℕ, ◌<◌, ◌≤◌, Bool, true, false, not, List, [], ◌∷◌, refl, ap, sym}
use Rattle.trail_again.proofs.Vocabulary.{subst, ◌||◌, ◌&&◌, if◌then◌else◌, Option, Some, None, length, arith, nat_le}
use Rattle.trail_again.proofs.Vocabulary.{nat_lt, is_none, option_or, nat_tests, Act, Edition, First, Second, UserId}
use Rattle.trail_again.proofs.Vocabulary.{USERS, History, among, followed_by, leaders_of, leaders_with, users_of}
use Rattle.trail_again.proofs.Vocabulary.{same_user, same_user-sym, AclFault, NoSuchGroup, OwnerKept, TooManyGroups}
use Rattle.trail_again.proofs.Vocabulary.{TooManyUsers, UnknownUser, known_name_fault, CanFollow, can_follow}
use Rattle.acl.specs.declared.act.Act.TheVariants as act
use Rattle.acl.specs.declared.entries.NewLeader.TheVariants.{Named}
use Rattle.acl.specs.Commands.{leader_fault, new_name_fault}
use Rattle.trail_again.proofs.Lawful.{AreLeaders, Fits, Good, IsLawful, one_grouped, one_less, one_more}

-- ---- acts of a legal trail

off_both : (a b : Bool) → (not a && b) ≡ true → (a ≡ false) × (b ≡ true)
off_both true b e = absurd (cc (e))
off_both false b e = (refl, e)

no_fault : (o : Option AclFault) → is_none o ≡ true → o ≡ None
no_fault None e = refl
no_fault (Some f) e = absurd (cc (e))

-- a name that may become known has room
has_room : (a b c : Bool) → a ≡ false → b ≡ false
    → (if a then Some OwnerKept else (if b || c then None else Some TooManyUsers)) ≡ None → c ≡ true
has_room true b c e f g = absurd (cc (e))
has_room false true c e f g = absurd (cc (f))
has_room false false true e f g = refl
has_room false false false e f g = absurd (cc (g))

new_apart : (a b c : Bool) → (if a then Some OwnerKept else (if b || c then None else Some TooManyUsers)) ≡ None
    → a ≡ false
new_apart true b c e = absurd (cc (e))
new_apart false b c e = refl

known_parts : (a b : Bool) → (if a then Some OwnerKept else (if b then None else Some UnknownUser)) ≡ None
    → (a ≡ false) × (b ≡ true)
known_parts true b e = absurd (cc (e))
known_parts false true e = (refl, refl)
known_parts false false e = absurd (cc (e))

first_none : (o p : Option AclFault) → option_or o p ≡ None → (o ≡ None) × (p ≡ None)
first_none None p e = (refl, e)
first_none (Some f) p e = absurd (cc (e))

leader_parts : (a b c d : Bool)
    → (if a then Some OwnerKept else (if not (b && not c) then Some NoSuchGroup
    else (if d then None else Some TooManyGroups))) ≡ None
    → (a ≡ false) × (b ≡ true) × (c ≡ false) × (d ≡ true)
leader_parts true b c d e = absurd (cc (e))
leader_parts false false c d e = absurd (cc (e))
leader_parts false true true d e = absurd (cc (e))
leader_parts false true false true e = (refl, refl, refl, refl)
leader_parts false true false false e = absurd (cc (e))

at_most : (m n : ℕ) → nat_le m n ≡ true → m ≤ n
at_most m n e = grind (arith, nat_tests, e)

less : (m n : ℕ) → nat_lt m n ≡ true → m < n
less m n e = grind (arith, nat_tests, e)

-- a known user, not the owner, is one of the others
pub among_others : (owner : UserId) (others us : List UserId) (u : UserId) → us ≡ owner ∷ others
    → same_user owner u ≡ false → among us u ≡ true → among others u ≡ true
among_others owner others us u same apart is = at (same_user u owner) (same_user-sym u owner ∙ apart)
    (sym (ap (λ (l : List UserId). among l u) same) ∙ is)
  where
    at : (b : Bool) → b ≡ false → (b || among others u) ≡ true → among others u ≡ true
    at true e f = absurd (cc (e))
    at false e f = f

module _ (edition : Edition) (owner : UserId) (h : History) (others : List UserId)
    (l : IsLawful edition owner h others) where
  same_lawful : (a : Act) → users_of owner (a ∷ h) ≡ users_of owner h
      → ((u : UserId) → leaders_of edition (a ∷ h) u ≡ leaders_of edition h u) → Good edition owner (a ∷ h)
  same_lawful a users led = (
    others,
    record {
      users = users ∙ l.users;
      apart = l.apart;
      few = l.few;
      led = λ u. subst (AreLeaders edition others u) (sym (led u)) (l.led u);
    },
  )

  after_known : (v : UserId) → can_follow edition owner h (act.Known v) ≡ true → Good edition owner (act.Known v ∷ h)
  after_known v can =
      let parts = off_both (among (users_of owner h) v) (is_none (new_name_fault owner (users_of owner h)
      (Some v))) can in
      let fine = no_fault (new_name_fault owner (users_of owner h) (Some v)) parts.1 in
      let apart = new_apart (same_user owner v) (among (users_of owner h) v) (nat_lt (length (users_of owner h)) USERS)
      fine in
      one_more edition owner h others l v parts.0
      (less (length (users_of owner h)) USERS
      (has_room (same_user owner v) (among (users_of owner h) v) (nat_lt (length (users_of owner h)) USERS) apart
      parts.0 fine))

  after_gone : (v : UserId) → can_follow edition owner h (act.Gone v) ≡ true → Good edition owner (act.Gone v ∷ h)
  after_gone v can =
      one_less edition owner h others l v
      (known_parts (same_user owner v) (among (users_of owner h) v)
      (no_fault (known_name_fault owner (users_of owner h) (Some v)) can)).0

  after_grouped : (v : UserId) (leader : Option UserId) → can_follow edition owner h (act.Grouped v leader) ≡ true
      → Good edition owner (act.Grouped v leader ∷ h)
  after_grouped v None can =
      let parts = first_none (known_name_fault owner (users_of owner h) (Some v)) None
      (no_fault (option_or (known_name_fault owner (users_of owner h) (Some v)) None) can) in
      let known = known_parts (same_user owner v) (among (users_of owner h) v) parts.0 in
      one_grouped edition owner h others l v (among_others owner others (users_of owner h) v l.users known.0 known.1)
      None tt (none_few edition (leaders_of edition h v))
    where
      none_few : (e : Edition) (ls : List UserId) → length (leaders_with e None ls) ≤ 8
      none_few First ls = omega arith
      none_few Second ls = omega arith
  after_grouped v (Some leader) can =
      let fault = leader_fault edition owner (users_of owner h) (leaders_of edition h) (Some v) (Named (Some leader)) in
      let parts = first_none (known_name_fault owner (users_of owner h) (Some v)) fault
      (no_fault (option_or (known_name_fault owner (users_of owner h) (Some v)) fault) can) in
      let known = known_parts (same_user owner v) (among (users_of owner h) v) parts.0 in
      let led = leader_parts (same_user owner leader) (among (users_of owner h) leader) (same_user v leader)
      (nat_le (length (leaders_with edition (Some leader) (leaders_of edition h v))) 8) parts.1 in
      one_grouped edition owner h others l v (among_others owner others (users_of owner h) v l.users known.0 known.1)
      (Some leader) (among_others owner others (users_of owner h) leader l.users led.0 led.1, led.2)
      (at_most (length (leaders_with edition (Some leader) (leaders_of edition h v))) 8 led.3)

  after_one : (a : Act) → can_follow edition owner h a ≡ true → Good edition owner (a ∷ h)
  after_one (act.Known v) can = after_known v can
  after_one (act.Gone v) can = after_gone v can
  after_one (act.Grouped v leader) can = after_grouped v leader can
  after_one a can = same_lawful a refl (λ u. refl)

pub lawful : (edition : Edition) (owner : UserId) (acts : List Act) (h : History) → Good edition owner h
    → CanFollow edition owner h acts → Good edition owner (followed_by h acts)
lawful edition owner [] h good can = good
lawful edition owner (a ∷ acts) h good can =
    lawful edition owner acts (a ∷ h) (after_one edition owner h good.0 good.1 a can.0) can.1

pub lawful_first : (edition : Edition) (owner : UserId) → Good edition owner []
lawful_first edition owner = (
  [],
  record {
    users = refl;
    apart = (refl, tt);
    few = omega arith;
    led = λ u. record { lead = tt; fit = none_fit edition; few = omega arith; none = λ new. refl };
  },
)
  where
    none_fit : (e : Edition) → Fits e []
    none_fit First = omega arith
    none_fit Second = tt
