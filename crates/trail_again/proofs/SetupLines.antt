-- The kinds of a setup's lines: what each leads to.
use Rattle.trail_again.proofs.Vocabulary.{◌≡◌, ◌∙◌, ℕ, ◌+◌, ◌≤◌, ◌<◌, Bool, true, false, not, List, [], ◌∷◌, ◌++◌, refl}
use Rattle.trail_again.proofs.Vocabulary.{ap, sym, subst, if◌then◌else◌, ◌||◌, ◌&&◌, Option, Some, None, length, map}
use Rattle.trail_again.proofs.Vocabulary.{arith, codes, append_assoc, length-append, slice_index_or, nat_lt, nat_le}
use Rattle.trail_again.proofs.Vocabulary.{AllByRecursion, flat_map, option_or, bytes_eq, nat_tests, append-nil, Act}
use Rattle.trail_again.proofs.Vocabulary.{Object, BitChange, Edition, NoSuchGroup, OwnerKept, TooManyGroups}
use Rattle.trail_again.proofs.Vocabulary.{TooManyUsers, UnknownUser, UserId, USERS, known_name_fault, sets, History}
use Rattle.trail_again.proofs.Vocabulary.{among, followed_by, leaders_of, leaders_with, users_of, begins_with_letter}
use Rattle.trail_again.proofs.Vocabulary.{name_of, named_by, is_name, same_user, line_caller, every_command, objects_of}
use Rattle.trail_again.proofs.Vocabulary.{Tables, bits_text, given_text, session_after, same_user-sym}
use Rattle.acl.specs.declared.act.Act.TheVariants as act
use Rattle.acl.specs.declared.act.LockMode.TheVariants as lock_mode
use Rattle.acl.specs.declared.command_name.CommandName.TheVariants as name
use Rattle.acl.specs.declared.entries.NewLeader.TheVariants as new_leader
use Rattle.acl.specs.Commands.{change_acts, change_fault, group_fault, leader_fault, user_acts, with_name}
use Rattle.command_lang.specs.declared.command.Command.TheVariants as command
use Rattle.command_lang.specs.declared.command.Leader.TheVariants as leader
use Rattle.command_lang.specs.declared.command.Users.TheVariants as users
use Rattle.trail_again.proofs.Blocks.{name_acts, nothing}
use Rattle.trail_again.proofs.Doing.{does_change, does_group, here}
use Rattle.trail_again.proofs.Leading.{Leads}
use Rattle.trail_again.proofs.Reading.{line_of}
use Rattle.trail_again.proofs.Saying.{owner_leads}
use Rattle.trail_again.proofs.Setting.{Distinct, set_bits}
use Rattle.trail_again.proofs.Wording.{BitsSay, HasName, IsItem, NameText, joined, name_no_comma, is_a_name}
use Rattle.trail_again.proofs.Wording.{name_text_is, says_change, says_group, says_auto, says_on}

-- ---- bits

pub bits_say : (r w x : Bool) → BitsSay (bits_text r w x) (set_bits r w x)
bits_say true true true = record { word = refl; fine = refl; means = refl; begins = refl }
bits_say true true false = record { word = refl; fine = refl; means = refl; begins = refl }
bits_say true false true = record { word = refl; fine = refl; means = refl; begins = refl }
bits_say true false false = record { word = refl; fine = refl; means = refl; begins = refl }
bits_say false true true = record { word = refl; fine = refl; means = refl; begins = refl }
bits_say false true false = record { word = refl; fine = refl; means = refl; begins = refl }
bits_say false false true = record { word = refl; fine = refl; means = refl; begins = refl }
bits_say false false false = record { word = refl; fine = refl; means = refl; begins = refl }

abbrev pub nth_bit : List Bool → ℕ → Bool
nth_bit given n = slice_index_or given n false

abbrev pub changes_of : List Bool → List BitChange
changes_of given = set_bits (nth_bit given 0) (nth_bit given 1) (nth_bit given 2)

pub given_say : (given : List Bool) → BitsSay (given_text given) (changes_of given)
given_say given = bits_say (nth_bit given 0) (nth_bit given 1) (nth_bit given 2)

-- ---- users

-- a known user, not the owner, whose name names them
pub record IsNamedOther (owner : UserId) (h : History) (u : UserId) : Type 0 where
  pub named : HasName u
  pub apart : same_user owner u ≡ false
  pub known : among (users_of owner h) u ≡ true

pub name_is_item : (u : UserId) → HasName u → IsItem (name_of u)
name_is_item u named =
    let t : NameText (name_of u) = name_text_is u named in
    (t.word, name_no_comma (name_of u) t)

pub letter_first : (u : UserId) → HasName u → begins_with_letter (name_of u) ≡ true
letter_first u named = (name_text_is u named).begins

items_of_users : (us : List UserId) → AllByRecursion HasName us → AllByRecursion IsItem (map name_of us)
items_of_users [] all = tt
items_of_users (u ∷ us) all = (name_is_item u all.0, items_of_users us all.1)

named_users : (us : List UserId) → AllByRecursion HasName us → map named_by (map name_of us) ≡ map (λ u. Some u) us
named_users [] all = refl
named_users (u ∷ us) all = (λ j. all.0 j ∷ named_users us all.1 j)

pub known_is_fine : (owner : UserId) (us : List UserId) (u : UserId) → same_user owner u ≡ false → among us u ≡ true
    → known_name_fault owner us (Some u) ≡ None
known_is_fine owner us u apart known =
    ap (λ b. if b then Some OwnerKept else (if among us u then None else Some UnknownUser)) apart
    ∙ ap (λ b. if b then None else Some UnknownUser) known

module _ (edition : Edition) (owner : UserId) (h : History) where
  abbrev mine : List UserId
  mine = users_of owner h

  -- ---- aclchg of one user

  one_change : (u : UserId) (changes : List BitChange) (objects : List Object) → among mine u ≡ true
      → change_acts mine (Some u ∷ []) changes objects ≡ sets u changes objects
  one_change u changes objects known = ap (λ b. user_acts b u changes objects ++ []) known
      ∙ append-nil (sets u changes objects)

  one_fine : (u : UserId) → same_user owner u ≡ false → among mine u ≡ true
      → change_fault owner mine (Some u ∷ []) ≡ None
  one_fine u apart known =
      ap (λ b. option_or (if b then Some OwnerKept
      else (if among mine u || nat_lt (length mine) USERS then None else Some TooManyUsers)) None) apart
      ∙ ap (λ b. option_or (if b || nat_lt (length mine) USERS then None else Some TooManyUsers) None) known

  pub change_leads : (u : UserId) (b : List ℕ) (changes : List BitChange) (i : List ℕ) (is : List (List ℕ))
      (objects : List Object) → IsNamedOther owner h u → BitsSay b changes → IsItem i → AllByRecursion IsItem is
      → objects_of (here edition owner h) (i ∷ is) ≡ Some objects
      → Leads owner (session_after edition owner h)
      (line_of name.Aclchg (joined (name_of u) [] ∷ b ∷ joined i is ∷ []) ++ 0x0A ∷ [])
      (session_after edition owner (followed_by h (sets u changes objects)))
  change_leads u b changes i is objects o s item items there =
      subst (λ (acts : List Act). Leads owner (session_after edition owner h)
      (line_of name.Aclchg (joined (name_of u) [] ∷ b ∷ joined i is ∷ []) ++ 0x0A ∷ [])
      (session_after edition owner (followed_by h acts))) (one_change u changes objects o.known)
      (owner_leads edition owner h name.Aclchg (joined (name_of u) [] ∷ b ∷ joined i is ∷ [])
      (command.Aclchg (users.Listed (name_of u ∷ [])) changes (i ∷ is))
      (change_acts mine (Some u ∷ []) changes objects)
      (says_change (name_of u) [] b changes i is (letter_first u o.named) (name_is_item u o.named) tt s item items)
      refl
      (does_change edition owner h (line_caller (here edition owner h) owner None) (name_of u ∷ []) (i ∷ is) changes
      (u ∷ []) objects (ap (λ (x : Option UserId). x ∷ []) o.named) (one_fine u o.apart o.known) there))

-- ---- aclchg of names that become known

middle_apart : (xs : List UserId) (y : UserId) (ys : List UserId) (u : UserId) → among (xs ++ y ∷ ys) u ≡ false
    → same_user u y ≡ false
middle_apart [] y ys u new = first (same_user u y) (among ys u) new
  where
    first : (a b : Bool) → (a || b) ≡ false → a ≡ false
    first true b e = e
    first false b e = refl
middle_apart (x ∷ xs) y ys u new = at (same_user u x) new (λ e. middle_apart xs y ys u e)
  where
    at : (b : Bool) → (b || among (xs ++ y ∷ ys) u) ≡ false
        → (among (xs ++ y ∷ ys) u ≡ false → same_user u y ≡ false) → same_user u y ≡ false
    at true f later = absurd (cc (f))
    at false f later = later f

middle_new : (xs : List UserId) (y : UserId) (ys : List UserId) → Distinct (xs ++ y ∷ ys) → among xs y ≡ false
middle_new [] y ys d = refl
middle_new (x ∷ xs) y ys d =
    ap (λ b. b || among xs y)
    (same_user-sym y x ∙ middle_apart xs y ys x d.0) ∙ middle_new xs y ys d.1

-- names that are new after these users
pub record NewNames (owner : UserId) (us xs : List UserId) : Type 0 where
  pub named : AllByRecursion HasName xs
  pub apart : AllByRecursion (λ u. same_user owner u ≡ false) xs
  pub each : Distinct (us ++ xs)
  pub few : length (us ++ xs) ≤ USERS

next_names : (owner : UserId) (us : List UserId) (y : UserId) (ys : List UserId) → NewNames owner us (y ∷ ys)
    → NewNames owner (us ++ y ∷ []) ys
next_names owner us y ys n = record {
  named = n.named.1;
  apart = n.apart.1;
  each = subst Distinct (sym (append_assoc us (y ∷ []) ys)) n.each;
  few = subst (λ (l : List UserId). length l ≤ USERS) (sym (append_assoc us (y ∷ []) ys)) n.few;
}

pub later_names : (owner : UserId) (us ys zs : List UserId) → NewNames owner us (ys ++ zs)
    → NewNames owner (us ++ ys) zs
later_names owner us [] zs n = subst (λ (l : List UserId). NewNames owner l zs) (sym (append-nil us)) n
later_names owner us (y ∷ ys) zs n =
    subst (λ (l : List UserId). NewNames owner l zs) (append_assoc us (y ∷ []) ys)
    (later_names owner (us ++ y ∷ []) ys zs (next_names owner us y (ys ++ zs) n))

front_names : (owner : UserId) (us ys zs : List UserId) → NewNames owner us (ys ++ zs)
    → AllByRecursion HasName ys
front_names owner us ys zs n = fronts_of ys n.named
  where
    fronts_of : (l : List UserId) → AllByRecursion HasName (l ++ zs) → AllByRecursion HasName l
    fronts_of [] all = tt
    fronts_of (x ∷ l) all = (all.0, fronts_of l all.1)

room : (us : List UserId) (y : UserId) (ys : List UserId) → length (us ++ y ∷ ys) ≤ USERS
    → nat_lt (length us) USERS ≡ true
room us y ys few =
    let longer : length (us ++ y ∷ ys) ≡ length us + length (y ∷ ys) = length-append us (y ∷ ys) in
    lower (length us) USERS (omega (arith, few, longer))
  where
    lower : (m n : ℕ) → m < n → nat_lt m n ≡ true
    lower m n l = grind (arith, nat_tests, l)

names_fine : (owner : UserId) (us ys zs : List UserId) → NewNames owner us (ys ++ zs)
    → change_fault owner us (map (λ u. Some u) ys) ≡ None
names_fine owner us [] zs n = refl
names_fine owner us (y ∷ ys) zs n =
    let new = middle_new us y (ys ++ zs) n.each in
    ap (λ b. option_or (if b then Some OwnerKept
    else (if among us y || nat_lt (length us) USERS then None else Some TooManyUsers))
    (change_fault owner (with_name us (Some y)) (map (λ u. Some u) ys))) n.apart.0
    ∙ ap (λ b. option_or (if b || nat_lt (length us) USERS then None else Some TooManyUsers)
    (change_fault owner (if b then us else us ++ y ∷ []) (map (λ u. Some u) ys))) new
    ∙ ap (λ b. option_or (if b then None else Some TooManyUsers)
    (change_fault owner (us ++ y ∷ []) (map (λ u. Some u) ys))) (room us y (ys ++ zs) n.few)
    ∙ names_fine owner (us ++ y ∷ []) ys zs (next_names owner us y (ys ++ zs) n)

names_acts : (owner : UserId) (us ys zs : List UserId) → NewNames owner us (ys ++ zs)
    → change_acts us (map (λ u. Some u) ys) nothing every_command ≡ flat_map name_acts ys
names_acts owner us [] zs n = refl
names_acts owner us (y ∷ ys) zs n =
    let new = middle_new us y (ys ++ zs) n.each in
    ap (λ b. user_acts b y nothing every_command
    ++ change_acts (if b then us else us ++ y ∷ []) (map (λ u. Some u) ys) nothing every_command) new
    ∙ ap (λ (l : List Act). name_acts y ++ l)
    (names_acts owner (us ++ y ∷ []) ys zs (next_names owner us y (ys ++ zs) n))

-- the commands that `?` names
every_object : (t : Tables) → objects_of t (codes "?" ∷ []) ≡ Some every_command
every_object t = refl

pub off_bits : BitsSay (codes "-rwx") nothing
off_bits = record { word = refl; fine = refl; means = refl; begins = refl }

pub mark_item : IsItem (codes "?")
mark_item = (refl, (refl, tt))

pub names_lead : (edition : Edition) (owner : UserId) (h : History) (y : UserId) (ys zs : List UserId)
    → NewNames owner (users_of owner h) (y ∷ (ys ++ zs))
    → Leads owner (session_after edition owner h)
    (line_of name.Aclchg (joined (name_of y) (map name_of ys) ∷ codes "-rwx" ∷ joined (codes "?") [] ∷ []) ++ 0x0A ∷ [])
    (session_after edition owner (followed_by h (flat_map name_acts (y ∷ ys))))
names_lead edition owner h y ys zs n =
    let named = front_names owner (users_of owner h) (y ∷ ys) zs n in
    subst (λ (acts : List Act). Leads owner (session_after edition owner h)
    (line_of name.Aclchg (joined (name_of y) (map name_of ys) ∷ codes "-rwx" ∷ joined (codes "?") [] ∷ []) ++ 0x0A ∷ [])
    (session_after edition owner (followed_by h acts))) (names_acts owner (users_of owner h) (y ∷ ys) zs n)
    (owner_leads edition owner h name.Aclchg
    (joined (name_of y) (map name_of ys) ∷ codes "-rwx" ∷ joined (codes "?") [] ∷ [])
    (command.Aclchg (users.Listed (name_of y ∷ map name_of ys)) nothing (codes "?" ∷ []))
    (change_acts (users_of owner h) (map (λ u. Some u) (y ∷ ys)) nothing every_command)
    (says_change (name_of y) (map name_of ys) (codes "-rwx") nothing (codes "?") [] (letter_first y named.0)
    (name_is_item y named.0) (items_of_users ys named.1) off_bits mark_item tt)
    refl
    (does_change edition owner h (line_caller (here edition owner h) owner None) (name_of y ∷ map name_of ys)
    (codes "?" ∷ []) nothing (y ∷ ys) every_command (named_users (y ∷ ys) named)
    (names_fine owner (users_of owner h) (y ∷ ys) zs n) (every_object (here edition owner h))))

-- ---- aclgrp

pub group_fine : (edition : Edition) (owner : UserId) (us : List UserId) (led : UserId → List UserId) (u l : UserId)
    → known_name_fault owner us (Some u) ≡ None → same_user owner l ≡ false → among us l ≡ true
    → same_user u l ≡ false → length (leaders_with edition (Some l) (led u)) ≤ 8
    → group_fault edition owner us led (Some u) (new_leader.Named (Some l)) ≡ None
group_fine edition owner us led u l known apart there other few =
    ap (λ f. option_or f (leader_fault edition owner us led (Some u) (new_leader.Named (Some l)))) known
    ∙ ap (λ b. if b then Some OwnerKept else (if not (among us l && not (same_user u l)) then Some NoSuchGroup
    else (if nat_le (length (leaders_with edition (Some l) (led u))) 8 then None else Some TooManyGroups))) apart
    ∙ (λ j. if not (there j && not (other j)) then Some NoSuchGroup
    else (if nat_le (length (leaders_with edition (Some l) (led u))) 8 then None else Some TooManyGroups))
    ∙ ap (λ b. if b then None else Some TooManyGroups)
    (most (length (leaders_with edition (Some l) (led u))) few)
  where
    most : (n : ℕ) → n ≤ 8 → nat_le n 8 ≡ true
    most n l = grind (arith, nat_tests, l)

no_nobody : (word : List ℕ) → is_name word ≡ true → bytes_eq word (codes "none") ≡ false
no_nobody word is = grind (arith, nat_tests)

pub group_leads : (edition : Edition) (owner : UserId) (h : History) (u l : UserId) → IsNamedOther owner h u
    → IsNamedOther owner h l → same_user u l ≡ false
    → length (leaders_with edition (Some l) (leaders_of edition h u)) ≤ 8
    → Leads owner (session_after edition owner h) (line_of name.Aclgrp (name_of u ∷ name_of l ∷ []) ++ 0x0A ∷ [])
    (session_after edition owner (followed_by h (act.Grouped u (Some l) ∷ [])))
group_leads edition owner h u l o p other few =
    owner_leads edition owner h name.Aclgrp (name_of u ∷ name_of l ∷ [])
    (command.Aclgrp (name_of u) (Some (leader.Named (name_of l)))) (act.Grouped u (Some l) ∷ [])
    (says_group (name_of u) (name_of l) (name_text_is u o.named).word (name_text_is l p.named).word
    (no_nobody (name_of l) (is_a_name l p.named)))
    refl
    (does_group edition owner h (line_caller (here edition owner h) owner None) (name_of u) (name_of l) u l o.named
    p.named
    (group_fine edition owner (users_of owner h) (leaders_of edition h) u l
    (known_is_fine owner (users_of owner h) u o.apart o.known) p.apart p.known other few))

-- ---- defwritelock

pub auto_leads : (edition : Edition) (owner : UserId) (h : History)
    → Leads owner (session_after edition owner h) (line_of name.Defwritelock (codes "auto" ∷ []) ++ 0x0A ∷ [])
    (session_after edition owner (followed_by h (act.Default lock_mode.Auto ∷ [])))
auto_leads edition owner h = owner_leads edition owner h name.Defwritelock (codes "auto" ∷ [])
    (command.Defwritelock lock_mode.Auto) (act.Default lock_mode.Auto ∷ [])
    says_auto refl refl

pub on_leads : (edition : Edition) (owner : UserId) (h : History)
    → Leads owner (session_after edition owner h) (line_of name.Defwritelock (codes "on" ∷ []) ++ 0x0A ∷ [])
    (session_after edition owner (followed_by h (act.Default lock_mode.On ∷ [])))
on_leads edition owner h = owner_leads edition owner h name.Defwritelock (codes "on" ∷ [])
    (command.Defwritelock lock_mode.On) (act.Default lock_mode.On ∷ [])
    says_on refl refl
