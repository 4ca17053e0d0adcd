-- Facts of lists of acts that grow at their end.
use Rattle.acl.proofs.Vocabulary.{◌≡◌, ◌∙◌, ◌+◌, ◌<◌, ℕ, Bool, true, false, drop, length, slice_index_or, count_by}
use Rattle.acl.proofs.Vocabulary.{if◌then◌else◌, ap, sym, refl, List, [], ◌∷◌, ◌++◌, append_assoc, Option, Some, None}
use Rattle.acl.proofs.Vocabulary.{Err, option_or, AclFault, Act, UserId, BitChange, Object, Known, among, Keeps}
use Rattle.acl.proofs.Vocabulary.{Answers, sets, user_acts, name_acts, new_acts, name_sets}
use Rattle.std.proofs.lemmas.List.Sums.{sum_by-cons}
use Rattle.acl.proofs.InPlace.{drop-next}
use Rattle.acl_words.specs.declared.entries.AclFault.TheVariants.{UnknownUser, OwnerKept, TooManyUsers, ReservedName}
use Rattle.acl_words.specs.declared.entries.AclFault.TheVariants.{NoSuchGroup, NoMemory, TooManyGroups}

pub append-nil : (xs : List Act) → xs ≡ xs ++ []
append-nil [] = refl
append-nil (x ∷ xs) = ap (λ ys. x ∷ ys) (append-nil xs)

-- a list keeps itself
pub keeps-all : (xs : List Act) → Keeps xs xs
keeps-all xs = ([], append-nil xs)

-- a list that keeps xs still does after it is replaced by an equal list
pub keeps-same : (xs ys zs : List Act) → Keeps xs ys → zs ≡ ys → Keeps xs zs
keeps-same xs ys zs k e = (k.0, e ∙ k.1)

-- keeping is transitive
pub keeps-on : (xs ys zs : List Act) → Keeps xs ys → Keeps ys zs → Keeps xs zs
keeps-on xs ys zs k l = (k.0 ++ l.0, l.1 ∙ ap (λ ws. ws ++ l.0) k.1 ∙ append_assoc xs k.0 l.0)

-- an error that is the first of two faults is the first of both together
pub answers-first : (X Y : Type 0) (e : AclFault) (f g : Option AclFault) → Answers {X = X} (Err e) f
    → Answers {X = Y} (Err e) (option_or f g)
answers-first X Y UnknownUser f g a = ap (λ o. option_or o g) a
answers-first X Y OwnerKept f g a = ap (λ o. option_or o g) a
answers-first X Y TooManyUsers f g a = ap (λ o. option_or o g) a
answers-first X Y ReservedName f g a = ap (λ o. option_or o g) a
answers-first X Y NoSuchGroup f g a = ap (λ o. option_or o g) a
answers-first X Y TooManyGroups f g a = ap (λ o. option_or o g) a
answers-first X Y NoMemory f g a = tt

-- if there is no first fault, the second counts
pub option_or-none : (f g : Option AclFault) → f ≡ None → option_or f g ≡ g
option_or-none f g e = ap (λ o. option_or o g) e

-- the number of acts counted from i on
pub counted : (p : Act → Bool) (xs : List Act) (i : ℕ) (d : Act) → i < length xs
    → count_by p (drop i xs) ≡ (if p (slice_index_or xs i d) then 1 else 0) + count_by p (drop (i + 1) xs)
counted p xs i d below = ap (count_by p) (sym (drop-next xs i d below))
    ∙ sum_by-cons (λ y. if p y then 1 else 0) (slice_index_or xs i d) (drop (i + 1) xs)

-- the acts for a name: it becomes known if it isn't, and then its bits are set
pub name_acts-parts : (users : List UserId) (name : Option UserId) (changes : List BitChange) (objects : List Object)
    → name_acts users name changes objects ≡ new_acts users name ++ name_sets changes objects name
name_acts-parts users None changes objects = refl
name_acts-parts users (Some u) changes objects = by (among users u)
  where
    by : (b : Bool) → user_acts b u changes objects ≡ (if b then [] else Known u ∷ []) ++ sets u changes objects
    by true = refl
    by false = refl
