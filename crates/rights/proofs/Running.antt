-- Acts that set bits of one user on objects whose locks nobody holds.
use Rattle.rights.proofs.Vocabulary.{◌≡◌, ◌∙◌, ◌∷◌, ◌++◌, [], List, Bool, true, false, Some, refl, ap, sym, subst}
use Rattle.rights.proofs.Vocabulary.{is_none, All, length, AllByRecursion, All-cons, All-nil, Act, Set, Object, Window}
use Rattle.rights.proofs.Vocabulary.{Command, Bit, Read, Write, Execute, BitChange, Edition, UserId, sets, sets_on}
use Rattle.rights.proofs.Vocabulary.{known_name_fault, History, followed_by, users_of, there, open_count, Locks}
use Rattle.rights.proofs.Vocabulary.{clients_of, LocksStandFor, followed_by-append, CanFollow, IsUnlocked, is_unheld}
use Rattle.rights.proofs.Vocabulary.{is_nameable}
use Rattle.rights.proofs.Redoing.{both}
use Rattle.rights.proofs.Unfreed.{leaves_locks, locks_left}

-- acts after acts
pub follow_append : (edition : Edition) (owner : UserId) (h : History) (xs ys : List Act) → CanFollow edition owner h xs
    → CanFollow edition owner (followed_by h xs) ys
    → CanFollow edition owner h (xs ++ ys)
follow_append edition owner h [] ys these those = those
follow_append edition owner h (x ∷ xs) ys these those =
    (these.0, follow_append edition owner (x ∷ h) xs ys these.1 those)

-- a bit on an object whose lock nobody holds
unheld_leaves : (edition : Edition) (owner : UserId) (h : History) (bit : Bit) (object : Object) (value : Bool)
    → is_unheld edition owner h object ≡ true → leaves_locks edition owner h bit object value ≡ true
unheld_leaves edition owner h Read (Window w) value e = refl
unheld_leaves edition owner h Execute (Window w) value e = refl
unheld_leaves edition owner h Write (Window w) true e = refl
unheld_leaves edition owner h Write (Window w) false e = e
unheld_leaves edition owner h Read (Command c) value e = refl
unheld_leaves edition owner h Execute (Command c) value e = refl
unheld_leaves edition owner h Write (Command c) value e = refl

-- what acts that set bits leave
abbrev pub Leaves : Locks → Edition → UserId → History → History → Type 0
Leaves locks edition owner h now =
    LocksStandFor locks edition owner now × (clients_of now ≡ clients_of h) × (open_count now ≡ open_count h)
    × (users_of owner now ≡ users_of owner h)

module _ (locks : Locks) (edition : Edition) (owner : UserId) (u : UserId)
  where
    on_one : (changes : List BitChange) (object : Object) → IsUnlocked locks object → (h : History)
        → LocksStandFor locks edition owner h → is_nameable owner h u ≡ true
        → CanFollow edition owner h (sets_on u changes object)
        × Leaves locks edition owner h (followed_by h (sets_on u changes object))
    on_one [] object free h s named = (tt, (s, refl, refl, refl))
    on_one (c ∷ changes) object free h s named =
        let now = free edition owner h s in
        let rest = on_one changes object free (Set u c.bit object c.value ∷ h)
        (locks_left edition owner h u c.bit object c.value (unheld_leaves edition owner h c.bit object c.value now.1)
        locks s) named in (
          (both (is_nameable owner h u) (there h object) named now.0, rest.0),
          rest.1,
        )

    pub on_all : (changes : List BitChange) (objects : List Object) → AllByRecursion (IsUnlocked locks) objects
        → (h : History) → LocksStandFor locks edition owner h → is_nameable owner h u ≡ true
        → CanFollow edition owner h (sets u changes objects)
        × Leaves locks edition owner h (followed_by h (sets u changes objects))
    on_all changes [] free h s named = (tt, (s, refl, refl, refl))
    on_all changes (o ∷ objects) free h s named =
        let one = on_one changes o free.0 h s named in
        let mid = followed_by h (sets_on u changes o) in
        let still : is_nameable owner mid u ≡ true =
        ap (λ users. is_none (known_name_fault owner users (Some u))) one.1.3 ∙ named in
        let rest = on_all changes objects free.1 mid one.1.0 still in (
          follow_append edition owner h (sets_on u changes o) (sets u changes objects) one.0 rest.0,
          subst (Leaves locks edition owner h) (sym (followed_by-append h (sets_on u changes o) (sets u changes objects)))
              (rest.1.0, rest.1.1 ∙ one.1.1, rest.1.2 ∙ one.1.2, rest.1.3 ∙ one.1.3),
        )

pub all_there : (locks : Locks) (edition : Edition) (owner : UserId) (h : History) → LocksStandFor locks edition owner h
    → (objects : List Object) → AllByRecursion (IsUnlocked locks) objects
    → All (λ object. there h object ≡ true) objects
all_there locks edition owner h s [] free = All-nil (λ (object : Object). there h object ≡ true)
all_there locks edition owner h s (o ∷ objects) free =
    All-cons (λ object. there h object ≡ true) o objects (free.0 edition owner h s).0
    (all_there locks edition owner h s objects free.1)

-- the rest of acts can follow the first ones
pub follow_rest : (edition : Edition) (owner : UserId) (h : History) (xs ys : List Act)
    → CanFollow edition owner h (xs ++ ys) → CanFollow edition owner (followed_by h xs) ys
follow_rest edition owner h [] ys all = all
follow_rest edition owner h (x ∷ xs) ys all = follow_rest edition owner (x ∷ h) xs ys all.1

pub none_left : {X : Type 0} (xs : List X) → length xs ≡ 0 → xs ≡ []
none_left [] e = refl
none_left (x ∷ xs) e = absurd (cc (e))
