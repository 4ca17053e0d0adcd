-- Users are confined exactly if each premise holds.
use Rattle.trail_confined.proofs.Vocabulary.{◌≡◌, ◌∙◌, Bool, true, false, not, ◌&&◌, ◌||◌, List, [], ◌∷◌, ◌++◌, refl}
use Rattle.trail_confined.proofs.Vocabulary.{ap, sym, subst, ◌↔◌, cond, filter, AllByRecursion, flat_map, list_any}
use Rattle.trail_confined.proofs.Vocabulary.{Edition, UserId, History, among, is_known, mask, may, users_of, may_open}
use Rattle.trail_confined.proofs.Vocabulary.{circle, holds, concerns, powers_of, standing_of, masks_by, masks_of}
use Rattle.trail_confined.proofs.Vocabulary.{openers_of, circles_of, premises_of}
use Rattle.std.proofs.lemmas.Bool.{false≢true}
use Rattle.acl.specs.declared.bits.Bit.{Bit}
use Rattle.acl.specs.declared.bits.Bit.TheVariants.{Read, Write, Execute}
use Rattle.acl.specs.declared.command_name.CommandName.{CommandName}
use Rattle.acl.specs.declared.command_name.CommandName.TheVariants as name
use Rattle.acl.specs.declared.act.Object.TheVariants as object
use Rattle.acl.specs.Same.{same_user, same_bit}
use Rattle.acl.proofs.StandsForLemmas.{same_user-true, same_user-refl}
use Rattle.trail_confined.specs.declared.premises.Premise.{Premise}
use Rattle.trail_confined.specs.Confining.{changes_rights, AreConfined, failing_of}

-- ---- lists

all_append : {X : Type 0} (P : X → Type 0) (xs ys : List X) → AllByRecursion P xs → AllByRecursion P ys
    → AllByRecursion P (xs ++ ys)
all_append P [] ys all more = more
all_append P (x ∷ xs) ys all more = (all.0, all_append P xs ys all.1 more)

all_front : {X : Type 0} (P : X → Type 0) (xs ys : List X) → AllByRecursion P (xs ++ ys) → AllByRecursion P xs
all_front P [] ys all = tt
all_front P (x ∷ xs) ys all = (all.0, all_front P xs ys all.1)

all_behind : {X : Type 0} (P : X → Type 0) (xs ys : List X) → AllByRecursion P (xs ++ ys) → AllByRecursion P ys
all_behind P [] ys all = all
all_behind P (x ∷ xs) ys all = all_behind P xs ys all.1

all_parts : {X A : Type 0} (P : A → Type 0) (f : X → List A) (xs : List X) → AllByRecursion P (flat_map f xs)
    → AllByRecursion (λ x. AllByRecursion P (f x)) xs
all_parts P f [] all = tt
all_parts P f (x ∷ xs) all =
    (all_front P (f x) (flat_map f xs) all, all_parts P f xs (all_behind P (f x) (flat_map f xs) all))

all_joined : {X A : Type 0} (P : A → Type 0) (f : X → List A) (xs : List X)
    → AllByRecursion (λ x. AllByRecursion P (f x)) xs → AllByRecursion P (flat_map f xs)
all_joined P f [] all = tt
all_joined P f (x ∷ xs) all = all_append P (f x) (flat_map f xs) all.0 (all_joined P f xs all.1)

all_weaker : {X : Type 0} (P Q : X → Type 0) (xs : List X) → ((x : X) → P x → Q x) → AllByRecursion P xs
    → AllByRecursion Q xs
all_weaker P Q [] on all = tt
all_weaker P Q (x ∷ xs) on all = (on x all.0, all_weaker P Q xs on all.1)

either : (b c : Bool) → c ≡ true → (b || c) ≡ true
either true c e = refl
either false c e = e

at_user : (Q : UserId → Type 0) (users : List UserId) (u : UserId) → AllByRecursion Q users → among users u ≡ true → Q u
at_user Q [] u all is = absurd (false≢true is)
at_user Q (v ∷ users) u all is = by (same_user u v) refl is (at_user Q users u all.1)
  where
    by : (b : Bool) → same_user u v ≡ b → (b || among users u) ≡ true → (among users u ≡ true → Q u) → Q u
    by true e is rest = subst Q (sym (same_user-true u v e)) all.0
    by false e is rest = rest is

each_user : (Q : UserId → Type 0) (users : List UserId) → ((u : UserId) → among users u ≡ true → Q u)
    → AllByRecursion Q users
each_user Q [] on = tt
each_user Q (v ∷ users) on = (
  on v (ap (λ b. b || among users v) (same_user-refl v)),
  each_user Q users (λ u is. on u (either (same_user u v) (among users u) is)),
)

kept : (p : UserId → Bool) (users : List UserId) (u : UserId) → among users u ≡ true → p u ≡ true
    → among (filter p users) u ≡ true
kept p [] u is e = is
kept p (v ∷ users) u is e = by (same_user u v) refl (p v) refl is (λ rest. kept p users u rest e)
  where
    by : (b : Bool) → same_user u v ≡ b → (c : Bool) → p v ≡ c → (b || among users u) ≡ true
        → (among users u ≡ true → among (filter p users) u ≡ true)
        → among (cond c (v ∷ filter p users) (filter p users)) u ≡ true
    by true same true q is rest = ap (λ b. b || among (filter p users) u) same
    by true same false q is rest = absurd (false≢true (sym q ∙ ap p (sym (same_user-true u v same)) ∙ e))
    by false same true q is rest = either (same_user u v) (among (filter p users) u) (rest is)
    by false same false q is rest = rest is

each_kept : (Q : UserId → Type 0) (p : UserId → Bool) (users : List UserId) → ((u : UserId) → p u ≡ true → Q u)
    → AllByRecursion Q (filter p users)
each_kept Q p [] on = tt
each_kept Q p (v ∷ users) on = by (p v) refl (each_kept Q p users on)
  where
    by : (b : Bool) → p v ≡ b → AllByRecursion Q (filter p users)
        → AllByRecursion Q (cond b (v ∷ filter p users) (filter p users))
    by true e rest = (on v e, rest)
    by false e rest = rest

-- ---- premises that hold

is_not : (b : Bool) → b ≡ false → not b ≡ true
is_not false e = refl
is_not true e = absurd (false≢true (sym e))

not_is : (b : Bool) → not b ≡ true → b ≡ false
not_is false e = refl
not_is true e = absurd (false≢true e)

module _ (edition : Edition) (owner : UserId) (h : History) (bit : Bit) where
  abbrev Holds : Premise → Type 0
  Holds p = concerns bit p ≡ true → holds edition owner h p ≡ true

  abbrev fails : Premise → Bool
  fails p = not (holds edition owner h p)

  none_fail : (ps : List Premise) → list_any (concerns bit) (filter fails ps) ≡ false → AllByRecursion Holds ps
  none_fail [] none = tt
  none_fail (p ∷ ps) none = by (holds edition owner h p) refl (concerns bit p) refl none (none_fail ps)
    where
      by : (b : Bool) → holds edition owner h p ≡ b → (c : Bool) → concerns bit p ≡ c
          → list_any (concerns bit) (cond (not b) (p ∷ filter fails ps) (filter fails ps)) ≡ false
          → (list_any (concerns bit) (filter fails ps) ≡ false → AllByRecursion Holds ps) → Holds p
          × AllByRecursion Holds ps
      by true e c q none rest = ((λ _. e), rest none)
      by false e true q none rest = absurd
          (false≢true (sym none ∙ ap (λ k. k || list_any (concerns bit) (filter fails ps)) q))
      by false e false q none rest = (
        (λ is. absurd (false≢true (sym q ∙ is))),
        rest
            (sym (ap (λ k. k || list_any (concerns bit) (filter fails ps)) q) ∙ none),
      )

  all_hold : (ps : List Premise) → AllByRecursion Holds ps → list_any (concerns bit) (filter fails ps) ≡ false
  all_hold [] all = refl
  all_hold (p ∷ ps) all = by (holds edition owner h p) refl (concerns bit p) refl (all_hold ps all.1)
    where
      by : (b : Bool) → holds edition owner h p ≡ b → (c : Bool) → concerns bit p ≡ c
          → list_any (concerns bit) (filter fails ps) ≡ false
          → list_any (concerns bit) (cond (not b) (p ∷ filter fails ps) (filter fails ps)) ≡ false
      by true e c q rest = rest
      by false e true q rest = absurd (false≢true (sym e ∙ all.0 q))
      by false e false q rest = ap (λ k. k || list_any (concerns bit) (filter fails ps)) q ∙ rest

  -- ---- of one user

  abbrev HasNoPower : UserId → Type 0
  HasNoPower u = (c : CommandName) → changes_rights c ≡ true → may edition owner h u Execute (object.Command c) ≡ false

  no_power : (u : UserId) → AllByRecursion Holds (powers_of u) → HasNoPower u
  no_power u all name.Acladd is = not_is _ (all.0 refl)
  no_power u all name.Aclchg is = not_is _ (all.1.0 refl)
  no_power u all name.Acldel is = not_is _ (all.1.1.0 refl)
  no_power u all name.Aclgrp is = not_is _ (all.1.1.1.0 refl)
  no_power u all name.Aclumask is = not_is _ (all.1.1.1.1.0 refl)
  no_power u all c is = absurd (false≢true is)

  powerless : (u : UserId) → HasNoPower u → AllByRecursion Holds (powers_of u)
  powerless u none = (
    (λ _. is_not _ (none name.Acladd refl)),
    (
      (λ _. is_not _ (none name.Aclchg refl)),
      (
        (λ _. is_not _ (none name.Acldel refl)),
        (
          (λ _. is_not _ (none name.Aclgrp refl)),
          ((λ _. is_not _ (none name.Aclumask refl)), tt),
        ),
      ),
    ),
  )

  abbrev IsMasked : UserId → UserId → Type 0
  IsMasked u opener = mask h opener u bit ≡ false

  masked : (u opener : UserId) (b : Bit) → b ≡ bit → AllByRecursion Holds (masks_by u opener) → IsMasked u opener
  masked u opener Read is all = not_is (mask h opener u bit)
      (subst (λ b. not (mask h opener u b) ≡ true) is (all.0 (ap (same_bit Read) (sym is))))
  masked u opener Write is all = not_is (mask h opener u bit)
      (subst (λ b. not (mask h opener u b) ≡ true) is (all.1.0 (ap (same_bit Write) (sym is))))
  masked u opener Execute is all = not_is (mask h opener u bit)
      (subst (λ b. not (mask h opener u b) ≡ true) is (all.1.1.0 (ap (same_bit Execute) (sym is))))

  mask_at : (u opener : UserId) (b c : Bit) → b ≡ bit → mask h opener u b ≡ false → same_bit c b ≡ true
      → not (mask h opener u c) ≡ true
  mask_at u opener Read Read is e same = is_not _ e
  mask_at u opener Write Write is e same = is_not _ e
  mask_at u opener Execute Execute is e same = is_not _ e
  mask_at u opener Read Write is e same = absurd (false≢true same)
  mask_at u opener Read Execute is e same = absurd (false≢true same)
  mask_at u opener Write Read is e same = absurd (false≢true same)
  mask_at u opener Write Execute is e same = absurd (false≢true same)
  mask_at u opener Execute Read is e same = absurd (false≢true same)
  mask_at u opener Execute Write is e same = absurd (false≢true same)

  masking : (u opener : UserId) → IsMasked u opener → AllByRecursion Holds (masks_by u opener)
  masking u opener e =
      (mask_at u opener bit Read refl e, (mask_at u opener bit Write refl e, (mask_at u opener bit Execute refl e, tt)))

  -- ---- of all

  abbrev Known : UserId → Type 0
  Known u = is_known owner h u ≡ true

  abbrev OpensNone : UserId → Type 0
  OpensNone u = may_open edition owner h u ≡ false

  module _ (users : List UserId) (listed : (u : UserId) → is_known owner h u ≡ true → among (users_of owner h) u ≡ true)
    where
      opener_known : (a b : Bool) → (a && b) ≡ true → a ≡ true
      opener_known true b e = refl
      opener_known false b e = absurd (false≢true e)

      among_openers : (o : UserId) → may_open edition owner h o ≡ true → among (openers_of edition owner h) o ≡ true
      among_openers o is = kept (may_open edition owner h) (users_of owner h) o
          (listed o (opener_known (is_known owner h o) _ is)) is

      module _ (all : AllByRecursion Holds (premises_of edition owner h users)) where
        abbrev circles : List UserId
        circles = circles_of edition h users

        powers : AllByRecursion (λ u. AllByRecursion Holds (powers_of u)) users
        powers = all_parts Holds powers_of users (all_front Holds (flat_map powers_of users) _ all)

        rest : AllByRecursion Holds
            (flat_map standing_of circles ++ flat_map (masks_of (openers_of edition owner h)) circles)
        rest = all_behind Holds (flat_map powers_of users) _ all

        standing : AllByRecursion (λ u. AllByRecursion Holds (standing_of u)) circles
        standing = all_parts Holds standing_of circles (all_front Holds (flat_map standing_of circles) _ rest)

        maskings : AllByRecursion (λ u. AllByRecursion Holds (masks_of (openers_of edition owner h) u)) circles
        maskings = all_parts Holds (masks_of (openers_of edition owner h)) circles
            (all_behind Holds (flat_map standing_of circles) _ rest)

        -- what holds of all who are in circles holds in each one's
        within : (Q : UserId → Type 0) → AllByRecursion Q circles → (user : UserId) → among users user ≡ true
            → AllByRecursion Q (circle edition h user)
        within Q each user is = at_user (λ u. AllByRecursion Q (circle edition h u)) users user
            (all_parts Q (circle edition h) users each) is

        confined_by : AreConfined edition owner h (among users) bit
        confined_by = record {
          guests = λ user c is changes. no_power user
              (at_user (λ u. AllByRecursion Holds (powers_of u)) users user powers is) c changes;
          shut_out = record {
            known = within Known
                (all_weaker (λ u. AllByRecursion Holds (standing_of u)) Known circles (λ u two. two.0 refl) standing);
            openers = within OpensNone
                (all_weaker (λ u. AllByRecursion Holds (standing_of u)) OpensNone circles
                (λ u two. not_is _ (two.1.0 refl)) standing);
            masks = λ opener user may is. within (λ u. mask h opener u bit ≡ false)
                (all_weaker (λ u. AllByRecursion Holds (masks_of (openers_of edition owner h) u))
                (λ u. mask h opener u bit ≡ false) circles
                (λ u each. masked u opener bit refl
                (at_user (λ o. AllByRecursion Holds (masks_by u o)) (openers_of edition owner h) opener
                (all_parts Holds (masks_by u) (openers_of edition owner h) each) (among_openers opener may)))
                maskings) user is;
          };
        }

      holding : AreConfined edition owner h (among users) bit → AllByRecursion Holds (premises_of edition owner h users)
      holding is =
          all_append Holds (flat_map powers_of users) _
          (all_joined Holds powers_of users
          (each_user (λ u. AllByRecursion Holds (powers_of u)) users
          (λ u in_users. powerless u (λ c changes. is.guests u c in_users changes))))
          (all_append Holds (flat_map standing_of (circles_of edition h users)) _
          (all_joined Holds standing_of (circles_of edition h users)
          (all_joined (λ u. AllByRecursion Holds (standing_of u)) (circle edition h) users
          (each_user (λ v. AllByRecursion (λ u. AllByRecursion Holds (standing_of u)) (circle edition h v)) users
          (λ v in_users. stand (circle edition h v) (is.shut_out.known v in_users) (is.shut_out.openers v in_users)))))
          (all_joined Holds (masks_of (openers_of edition owner h)) (circles_of edition h users)
          (all_joined (λ u. AllByRecursion Holds (masks_of (openers_of edition owner h) u)) (circle edition h) users
          (each_user
          (λ v. AllByRecursion (λ u. AllByRecursion Holds (masks_of (openers_of edition owner h) u))
          (circle edition h v)) users
          (λ v in_users. mask_all (openers_of edition owner h) (circle edition h v)
          (each_kept (λ o. AllByRecursion (λ u. IsMasked u o) (circle edition h v)) (may_open edition owner h)
          (users_of owner h) (λ o may. is.shut_out.masks o v may in_users)))))))
        where
          stand : (us : List UserId) → AllByRecursion Known us → AllByRecursion OpensNone us
              → AllByRecursion (λ u. AllByRecursion Holds (standing_of u)) us
          stand [] known none = tt
          stand (u ∷ us) known none = (((λ _. known.0), ((λ _. is_not _ none.0), tt)), stand us known.1 none.1)

          one_mask : (os : List UserId) (u : UserId) → AllByRecursion (IsMasked u) os
              → AllByRecursion Holds (masks_of os u)
          one_mask os u all = all_joined Holds (masks_by u) os
              (all_weaker (IsMasked u) (λ o. AllByRecursion Holds (masks_by u o)) os (λ o e. masking u o e) all)

          heads : (os : List UserId) (u : UserId) (us : List UserId)
              → AllByRecursion (λ o. AllByRecursion (λ v. IsMasked v o) (u ∷ us)) os → AllByRecursion (IsMasked u) os
          heads os u us all = all_weaker (λ o. AllByRecursion (λ v. IsMasked v o) (u ∷ us)) (IsMasked u) os
              (λ o both. both.0) all

          tails : (os : List UserId) (u : UserId) (us : List UserId)
              → AllByRecursion (λ o. AllByRecursion (λ v. IsMasked v o) (u ∷ us)) os
              → AllByRecursion (λ o. AllByRecursion (λ v. IsMasked v o) us) os
          tails os u us all = all_weaker (λ o. AllByRecursion (λ v. IsMasked v o) (u ∷ us))
              (λ o. AllByRecursion (λ v. IsMasked v o) us) os (λ o both. both.1) all

          mask_all : (os us : List UserId) → AllByRecursion (λ o. AllByRecursion (λ u. IsMasked u o) us) os
              → AllByRecursion (λ u. AllByRecursion Holds (masks_of os u)) us
          mask_all os [] all = tt
          mask_all os (u ∷ us) all = (one_mask os u (heads os u us all), mask_all os us (tails os u us all))

      pub confinement_decided : (list_any (concerns bit) (failing_of edition owner h users) ≡ false)
          ↔ AreConfined edition owner h (among users) bit
      confinement_decided = (
        (λ none. confined_by (none_fail (premises_of edition owner h users) none)),
        (λ is. all_hold (premises_of edition owner h users) (holding is)),
      )
