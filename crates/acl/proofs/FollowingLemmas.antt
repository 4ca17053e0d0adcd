-- The acts of a command that isn't refused may follow the history, each after the ones before it.
use Rattle.acl.proofs.Vocabulary.{◌≡◌, ◌∙◌, ◌≤◌, ◌&&◌, not, nat_le, sym, ℕ, ap, Bool, true, false, ◌||◌, List, [], ◌∷◌}
use Rattle.acl.proofs.Vocabulary.{◌++◌, Option, Some, None, unwrap_or, All, suc, arith, slice_index_or, length, drop}
use Rattle.acl.proofs.Vocabulary.{refl, Result, Ok, Err, OnOk, subst, if◌then◌else◌, option_or, same_user, Edition}
use Rattle.acl.proofs.Vocabulary.{UserId, Bit, BitChange, Object, Window, Command, Act, Known, Set, AclFault, History}
use Rattle.acl.proofs.Vocabulary.{followed_by, leaders_of, leaders_with, is_known, users_of, among, there, decided}
use Rattle.acl.proofs.Vocabulary.{latest, decides_known, Answers, AllMayFollow, sets_on, sets, user_acts, change_acts}
use Rattle.acl.proofs.Vocabulary.{new_acts, known_acts, names_sets, add_acts, added, chosen_leader, with_name}
use Rattle.acl.proofs.Vocabulary.{with_names, names_user, scope_acts, mask_acts, known_name_fault, group_fault}
use Rattle.acl.proofs.Vocabulary.{leader_fault, group_acts, removal_acts, Table, StandsFor, list_any, list_any-append}
use Rattle.std.proofs.Math.Seq.{drop-append_seam}
use Rattle.acl_words.specs.declared.entries.MaskEntry.{MaskEntry}
use Rattle.acl_words.specs.declared.entries.MaskScope.{MaskScope}
use Rattle.acl_words.specs.declared.entries.MaskScope.TheVariants as scope
use Rattle.acl_words.specs.declared.entries.NewLeader.{NewLeader}
use Rattle.acl_words.specs.declared.entries.NewLeader.TheVariants.{Nobody, Named}
use borrow.Author.Tests.{leb-true}
use Rattle.acl_words.specs.declared.entries.AclFault.TheVariants.{UnknownUser, OwnerKept, NoSuchGroup, TooManyGroups}
use Rattle.acl.specs.Deeds.{IsDone, TakesAll, FollowsAll}
use Rattle.acl.proofs.StandsForLemmas.{same_user-true, same_user-refl}
pub use Rattle.acl_words.proofs.SameLemmas.{same_user-sym}
use Rattle.acl.proofs.NameLemmas.{among-with_name, among-with_names}
use Rattle.acl.proofs.RowLemmas.{is_some-lookup}

pub followed_by-append : (h : History) (xs ys : List Act) → followed_by h (xs ++ ys) ≡ followed_by (followed_by h xs) ys
followed_by-append h [] ys = refl
followed_by-append h (x ∷ xs) ys = followed_by-append (x ∷ h) xs ys

AllMayFollow-append : (edition : Edition) (owner : UserId) (h : History) (xs ys : List Act)
    → AllMayFollow edition owner h xs → AllMayFollow edition owner (followed_by h xs) ys
    → AllMayFollow edition owner h (xs ++ ys)
AllMayFollow-append edition owner h [] ys a b = b
AllMayFollow-append edition owner h (x ∷ xs) ys a b = (a.0, AllMayFollow-append edition owner (x ∷ h) xs ys a.1 b)

or-true : (c : Bool) → (c || true) ≡ true
or-true true = refl
or-true false = refl

or-false : (c : Bool) → (c || false) ≡ c
or-false true = refl
or-false false = refl

-- a set leaves the objects that are there
there-Set : (h : History) (u : UserId) (bit : Bit) (place : Object) (value : Bool) (object : Object)
    → there (Set u bit place value ∷ h) object ≡ there h object
there-Set h u bit place value (Window w) = refl
there-Set h u bit place value (Command c) = refl

there-Known : (h : History) (u : UserId) (object : Object) → there (Known u ∷ h) object ≡ there h object
there-Known h u (Window w) = refl
there-Known h u (Command c) = refl

module _ (edition : Edition) (owner : UserId) (u : UserId) (changes : List BitChange) where
  -- sets make nobody known, and leave the objects that are there
  known-sets_on : (v : UserId) (h : History) (cs : List BitChange) (object : Object)
      → is_known owner (followed_by h (sets_on u cs object)) v ≡ is_known owner h v
  known-sets_on v h [] object = refl
  known-sets_on v h (c ∷ cs) object = known-sets_on v (Set u c.bit object c.value ∷ h) cs object

  known-sets : (v : UserId) (h : History) (objects : List Object)
      → is_known owner (followed_by h (sets u changes objects)) v ≡ is_known owner h v
  known-sets v h [] = refl
  known-sets v h (object ∷ objects) =
      ap (λ g. is_known owner g v) (followed_by-append h (sets_on u changes object) (sets u changes objects))
      ∙ known-sets v (followed_by h (sets_on u changes object)) objects ∙ known-sets_on v h changes object

  there-sets_on : (place : Object) (h : History) (cs : List BitChange) (object : Object)
      → there (followed_by h (sets_on u cs object)) place ≡ there h place
  there-sets_on place h [] object = refl
  there-sets_on place h (c ∷ cs) object = there-sets_on place (Set u c.bit object c.value ∷ h) cs object
      ∙ there-Set h u c.bit object c.value place

  there-sets : (place : Object) (h : History) (objects : List Object)
      → there (followed_by h (sets u changes objects)) place ≡ there h place
  there-sets place h [] = refl
  there-sets place h (object ∷ objects) =
      ap (λ g. there g place) (followed_by-append h (sets_on u changes object) (sets u changes objects))
      ∙ there-sets place (followed_by h (sets_on u changes object)) objects ∙ there-sets_on place h changes object

  allowed-sets_on : (h : History) (cs : List BitChange) (object : Object) → is_known owner h u ≡ true
      → there h object ≡ true → AllMayFollow edition owner h (sets_on u cs object)
  allowed-sets_on h [] object known here = tt
  allowed-sets_on h (c ∷ cs) object known here = (
    (known, here),
    allowed-sets_on (Set u c.bit object c.value ∷ h) cs object known
        (there-Set h u c.bit object c.value object ∙ here),
  )

  -- if the same objects are there in two histories, a list's objects are there in both
  all_there : (g h : History) (objects : List Object) → ((place : Object) → there g place ≡ there h place)
      → All (λ object. there h object ≡ true) objects → All (λ object. there g object ≡ true) objects
  all_there g h objects same all = λ k d below. same (slice_index_or objects k d) ∙ all k d below

  allowed-sets : (h : History) (objects : List Object) → is_known owner h u ≡ true
      → All (λ object. there h object ≡ true) objects → AllMayFollow edition owner h (sets u changes objects)
  allowed-sets h [] known all = tt
  allowed-sets h (object ∷ objects) known all =
      AllMayFollow-append edition owner h (sets_on u changes object) (sets u changes objects)
      (allowed-sets_on h changes object known (all 0 object (omega arith)))
      (allowed-sets (followed_by h (sets_on u changes object)) objects (known-sets_on u h changes object ∙ known)
      (all_there (followed_by h (sets_on u changes object)) h objects (λ place. there-sets_on place h changes object)
      (λ k d below. all (suc k) d (omega arith))))

  -- the users who are known after one user's acts
  known-user_acts : (v : UserId) (h : History) (objects : List Object) (b : Bool) → is_known owner h u ≡ b
      → is_known owner (followed_by h (user_acts b u changes objects)) v ≡ (is_known owner h v || same_user u v)
  known-user_acts v h objects true e = known-sets v h objects ∙ by (same_user u v) refl
    where
      by : (c : Bool) → same_user u v ≡ c → is_known owner h v ≡ (is_known owner h v || c)
      by true p = ap (is_known owner h) (sym (same_user-true u v p)) ∙ e ∙ sym (or-true (is_known owner h v))
      by false p = sym (or-false (is_known owner h v))
  known-user_acts v h objects false e = known-sets v (Known u ∷ h) objects ∙ by (same_user owner v) (same_user u v)
    where
      by : (c d : Bool)
          → (c || unwrap_or (decided d true) (latest (decides_known v) false h)) ≡
          ((c || latest (decides_known v) false h) || d)
      by true d = refl
      by false true = sym (or-true (latest (decides_known v) false h))
      by false false = sym (or-false (latest (decides_known v) false h))

  there-user_acts : (place : Object) (h : History) (objects : List Object) (b : Bool)
      → there (followed_by h (user_acts b u changes objects)) place ≡ there h place
  there-user_acts place h objects true = there-sets place h objects
  there-user_acts place h objects false = there-sets place (Known u ∷ h) objects ∙ there-Known h u place

  allowed-user_acts : (h : History) (objects : List Object) (b : Bool) → is_known owner h u ≡ b
      → All (λ object. there h object ≡ true) objects → AllMayFollow edition owner h (user_acts b u changes objects)
  allowed-user_acts h objects true e all = allowed-sets h objects e all
  allowed-user_acts h objects false e all =
      (e, allowed-sets (Known u ∷ h) objects now (all_there (Known u ∷ h) h objects (there-Known h u) all))
    where
      now : is_known owner (Known u ∷ h) u ≡ true
      now = ap (λ c. same_user owner u || unwrap_or (decided c true) (latest (decides_known u) false h))
          (same_user-refl u) ∙ or-true (same_user owner u)

-- the acts of a change of bits may follow, if these are the known users
pub allowed-change_acts : (edition : Edition) (owner : UserId) (h : History) (users : List UserId)
    (names : List (Option UserId)) (changes : List BitChange) (objects : List Object)
    → ((v : UserId) → is_known owner h v ≡ among users v) → All (λ object. there h object ≡ true) objects
    → AllMayFollow edition owner h (change_acts users names changes objects)
allowed-change_acts edition owner h users [] changes objects agrees all = tt
allowed-change_acts edition owner h users (None ∷ names) changes objects agrees all = allowed-change_acts edition owner
    h users names changes objects agrees all
allowed-change_acts edition owner h users (Some u ∷ names) changes objects agrees all =
    let acts = user_acts (among users u) u changes objects in
    AllMayFollow-append edition owner h acts (change_acts (with_name users (Some u)) names changes objects)
    (allowed-user_acts edition owner u changes h objects (among users u) (agrees u) all)
    (allowed-change_acts edition owner (followed_by h acts) (with_name users (Some u)) names changes objects
    (λ v. known-user_acts edition owner u changes v h objects (among users u) (agrees u)
    ∙ (λ i. agrees v i || same_user-sym u v i) ∙ sym (among-with_name users (Some u) v))
    (all_there edition owner u changes (followed_by h acts) h objects
    (λ place. there-user_acts edition owner u changes place h objects (among users u)) all))

-- each of these names is known
abbrev AreKnown : UserId → History → List (Option UserId) → Type 0
AreKnown owner h [] = Unit {0}
AreKnown owner h (None ∷ names) = AreKnown owner h names
AreKnown owner h (Some u ∷ names) = (is_known owner h u ≡ true) × AreKnown owner h names

module _ (edition : Edition) (owner : UserId) where
  -- the users who are known after the acts by which a name becomes known
  known-new_acts : (v : UserId) (h : History) (users : List UserId) (name : Option UserId)
      → ((w : UserId) → is_known owner h w ≡ among users w)
      → is_known owner (followed_by h (new_acts users name)) v ≡ among (with_name users name) v
  known-new_acts v h users None agrees = agrees v
  known-new_acts v h users (Some u) agrees = by (among users u) refl
    where
      by : (b : Bool) → among users u ≡ b
          → is_known owner (followed_by h (if b then [] else Known u ∷ [])) v ≡ among
          (if b then users else users ++ u ∷ []) v
      by true e = agrees v
      by false e = known-user_acts edition owner u [] v h [] false (agrees u ∙ e)
          ∙ (λ i. agrees v i || same_user-sym u v i) ∙ pushed
        where
          pushed : (among users v || same_user v u) ≡ among (users ++ u ∷ []) v
          pushed = ap (λ c. among users v || c) (sym (or-false (same_user v u)))
              ∙ sym (list_any-append (same_user v) users (u ∷ []))

  there-new_acts : (place : Object) (h : History) (users : List UserId) (name : Option UserId)
      → there (followed_by h (new_acts users name)) place ≡ there h place
  there-new_acts place h users None = refl
  there-new_acts place h users (Some u) = by (among users u)
    where
      by : (b : Bool) → there (followed_by h (if b then [] else Known u ∷ [])) place ≡ there h place
      by true = refl
      by false = there-Known h u place

  allowed-new_acts : (h : History) (users : List UserId) (name : Option UserId)
      → ((w : UserId) → is_known owner h w ≡ among users w) → AllMayFollow edition owner h (new_acts users name)
  allowed-new_acts h users None agrees = tt
  allowed-new_acts h users (Some u) agrees = by (among users u) refl
    where
      by : (b : Bool) → among users u ≡ b → AllMayFollow edition owner h (if b then [] else Known u ∷ [])
      by true e = tt
      by false e = (agrees u ∙ e, tt)

  known-known_acts : (v : UserId) (h : History) (users : List UserId) (names : List (Option UserId))
      → ((w : UserId) → is_known owner h w ≡ among users w)
      → is_known owner (followed_by h (known_acts users names)) v ≡ among (with_names users names) v
  known-known_acts v h users [] agrees = agrees v
  known-known_acts v h users (name ∷ names) agrees =
      ap (λ g. is_known owner g v)
      (followed_by-append h (new_acts users name) (known_acts (with_name users name) names))
      ∙ known-known_acts v (followed_by h (new_acts users name)) (with_name users name) names
      (λ w. known-new_acts w h users name agrees)

  there-known_acts : (place : Object) (h : History) (users : List UserId) (names : List (Option UserId))
      → there (followed_by h (known_acts users names)) place ≡ there h place
  there-known_acts place h users [] = refl
  there-known_acts place h users (name ∷ names) =
      ap (λ g. there g place) (followed_by-append h (new_acts users name) (known_acts (with_name users name) names))
      ∙ there-known_acts place (followed_by h (new_acts users name)) (with_name users name) names
      ∙ there-new_acts place h users name

  allowed-known_acts : (h : History) (users : List UserId) (names : List (Option UserId))
      → ((w : UserId) → is_known owner h w ≡ among users w) → AllMayFollow edition owner h (known_acts users names)
  allowed-known_acts h users [] agrees = tt
  allowed-known_acts h users (name ∷ names) agrees =
      AllMayFollow-append edition owner h (new_acts users name) (known_acts (with_name users name) names)
      (allowed-new_acts h users name agrees)
      (allowed-known_acts (followed_by h (new_acts users name)) (with_name users name) names
      (λ w. known-new_acts w h users name agrees))

  -- if the same users are known in two histories, a list's names are known in both
  are_known : (g h : History) (names : List (Option UserId)) → ((v : UserId) → is_known owner g v ≡ is_known owner h v)
      → AreKnown owner h names → AreKnown owner g names
  are_known g h [] same all = tt
  are_known g h (None ∷ names) same all = are_known g h names same all
  are_known g h (Some u ∷ names) same all = (same u ∙ all.0, are_known g h names same all.1)

  allowed-names_sets : (h : History) (objects : List Object) (names : List (Option UserId)) → AreKnown owner h names
      → All (λ object. there h object ≡ true) objects → AllMayFollow edition owner h (names_sets objects names)
  allowed-names_sets h objects [] known all = tt
  allowed-names_sets h objects (None ∷ names) known all = allowed-names_sets h objects names known all
  allowed-names_sets h objects (Some u ∷ names) known all =
      let after = followed_by h (sets u added objects) in
      AllMayFollow-append edition owner h (sets u added objects) (names_sets objects names)
      (allowed-sets edition owner u added h objects known.0 all)
      (allowed-names_sets after objects names
      (are_known after h names (λ v. known-sets edition owner u added v h objects) known.1)
      (all_there edition owner u added after h objects (λ place. there-sets edition owner u added place h objects) all))

-- each of the names is among the users who are known after them
named : (owner : UserId) (g : History) (users : List UserId) (names : List (Option UserId))
    → ((v : UserId) → is_known owner g v ≡ among (with_names users names) v) → AreKnown owner g names
named owner g users [] known = tt
named owner g users (None ∷ names) known = named owner g users names known
named owner g users (Some u ∷ names) known = (
  known u ∙ among-with_names (with_name users (Some u)) names u
      ∙ ap (λ c. c || list_any (names_user u) names) (here u),
  named owner g (with_name users (Some u)) names known,
)
  where
    here : (u : UserId) → among (with_name users (Some u)) u ≡ true
    here u = among-with_name users (Some u) u ∙ ap (λ c. among users u || c) (same_user-refl u)
        ∙ or-true (among users u)

-- the acts of an addition of names may follow, if these are the known users
pub allowed-add_acts : (edition : Edition) (owner : UserId) (h : History) (users : List UserId)
    (names : List (Option UserId)) (objects : List Object)
    → ((v : UserId) → is_known owner h v ≡ among users v) → All (λ object. there h object ≡ true) objects
    → AllMayFollow edition owner h (add_acts users names objects)
allowed-add_acts edition owner h users names objects agrees all =
    let after = followed_by h (known_acts users names) in
    AllMayFollow-append edition owner h (known_acts users names) (names_sets objects names)
    (allowed-known_acts edition owner h users names agrees)
    (allowed-names_sets edition owner after objects names
    (named owner after users names (λ v. known-known_acts edition owner v h users names agrees))
    (all_there edition owner owner added after h objects (λ place. there-known_acts edition owner place h users names)
    all))

-- the act that sets a mask or a preset may always follow
pub allowed-mask_acts : (edition : Edition) (owner : UserId) (h : History) (by : UserId) (entries : List MaskEntry)
    → AllMayFollow edition owner h (mask_acts by entries)
allowed-mask_acts edition owner h by [] = tt
allowed-mask_acts edition owner h by (e ∷ entries) = at e.scope (λ g. allowed-mask_acts edition owner g by entries)
  where
    at : (s : MaskScope) → ((g : History) → AllMayFollow edition owner g (mask_acts by entries))
        → AllMayFollow edition owner h (scope_acts by s e.bit e.value ++ mask_acts by entries)
    at (scope.Preset kind) rest = (tt, rest _)
    at (scope.User None) rest = rest h
    at (scope.User (Some u)) rest = (tt, rest _)

-- the users of a table are the known users
pub known-among : (t : Table) (edition : Edition) (owner : UserId) (h : History) → StandsFor t edition owner h
    → (v : UserId) → is_known owner h v ≡ among (users_of owner h) v
known-among t edition owner h s v = sym (s.known v) ∙ is_some-lookup (same_user v) t.rows
    ∙ ap (λ users. among users v) s.users

-- the user whom a known name names is known
known_name : (owner : UserId) (users : List UserId) (u : UserId) → known_name_fault owner users (Some u) ≡ None
    → among users u ≡ true
known_name owner users u e = by (same_user owner u) (among users u) e
  where
    by : (c d : Bool) → (if c then Some OwnerKept else (if d then None else Some UnknownUser)) ≡ None → d ≡ true
    by true d e = cc
    by false true e = refl
    by false false e = cc

-- the act that removes a known user, not the owner, may follow
pub allowed-removal_acts : (edition : Edition) (owner : UserId) (h : History) (users : List UserId)
    (name : Option UserId) → known_name_fault owner users name ≡ None → AllMayFollow edition owner h (removal_acts name)
allowed-removal_acts edition owner h users None e = tt
allowed-removal_acts edition owner h users (Some u) e = (by (same_user owner u) (among users u) e, tt)
  where
    by : (c d : Bool) → (if c then Some OwnerKept else (if d then None else Some UnknownUser)) ≡ None → c ≡ false
    by true d e = cc
    by false d e = refl

-- the act that gives a known user a leader or none may follow, if then at most eight lead the user
pub allowed-group_acts : (edition : Edition) (owner : UserId) (h : History) (users : List UserId) (name : Option UserId)
    (leader : NewLeader)
    → ((v : UserId) → is_known owner h v ≡ among users v)
    → group_fault edition owner users (leaders_of edition h) name leader ≡ None
    → AllMayFollow edition owner h (group_acts name leader)
allowed-group_acts edition owner h users None leader agrees e = tt
allowed-group_acts edition owner h users (Some u) leader agrees e = (
  (
    agrees u
        ∙ known_name owner users u
        (first (known_name_fault owner users (Some u))
        (leader_fault edition owner users (leaders_of edition h) (Some u) leader) e),
    few leader
        (second (known_name_fault owner users (Some u))
        (leader_fault edition owner users (leaders_of edition h) (Some u) leader) e),
  ),
  tt,
)
  where
    first : (f g : Option AclFault) → option_or f g ≡ None → f ≡ None
    first None g e = refl
    first (Some x) g e = cc

    second : (f g : Option AclFault) → option_or f g ≡ None → g ≡ None
    second None g e = e
    second (Some x) g e = cc

    fits : (n : ℕ) (c d b : Bool) → nat_le n 8 ≡ b
        → (if c then Some OwnerKept else (if not d then Some NoSuchGroup else (if b then None else Some TooManyGroups)))
        ≡ None → n ≤ 8
    fits n true d b e f = cc
    fits n false false b e f = cc
    fits n false true true e f = leb-true n 8 e
    fits n false true false e f = cc

    few : (l : NewLeader) → leader_fault edition owner users (leaders_of edition h) (Some u) l ≡ None
        → length (leaders_with edition (chosen_leader l) (leaders_of edition h u)) ≤ 8
    few Nobody f = omega arith
    few (Named None) f = cc
    few (Named (Some l)) f = fits (length (leaders_with edition (Some l) (leaders_of edition h u))) (same_user owner l)
        (among users l && not (same_user u l))
        (nat_le (length (leaders_with edition (Some l) (leaders_of edition h u))) 8) refl f

-- a result that is Ok has no fault
pub at_ok : {X : Type 0} {x : X} (r : Result X AclFault) (fault : Option AclFault) → r ≡ Ok x → Answers r fault
    → fault ≡ None
at_ok r fault e a = subst (λ o. Answers o fault) e a

-- facts about the Ok results of several calls, put together
pub on_ok_all : {T E P Q R S X : Type 0} (r : Result T E) → OnOk r P → OnOk r Q → OnOk r R → OnOk r S
    → (P → Q → R → S → X) → OnOk r X
on_ok_all (Ok x) p q r s f = f p q r s
on_ok_all (Err e) p q r s f = tt

module _ (old new : Table) (start : ℕ) (before planned after given : List Act)
    (follows followed : Edition → UserId → History → Type 0) where
  -- a command whose planned acts were carried out is done
  pub is_done : start ≡ length before → planned ≡ before ++ given → after ≡ planned
      → TakesAll old new (drop start planned) → FollowsAll follows followed old (drop start planned)
      → (edition : Edition) (owner : UserId) (h : History) → StandsFor old edition owner h
      → AllMayFollow edition owner h given → IsDone edition owner h given new before after follows followed
  is_done at is same stands follower edition owner h s allowed = record {
    follow = allowed;
    stands = subst (λ acts. StandsFor new edition owner (followed_by h acts)) tail
        (stands edition owner h s (subst (AllMayFollow edition owner h) (sym tail) allowed));
    acts = same ∙ is;
    follower = λ f. subst (λ acts. followed edition owner (followed_by h acts)) tail
        (follower edition owner h s (subst (AllMayFollow edition owner h) (sym tail) allowed) f);
  }
    where
      tail : drop start planned ≡ given
      tail = (λ i. drop (at i) (is i)) ∙ drop-append_seam before given
