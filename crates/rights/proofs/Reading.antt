-- Acts that set bits of one user, one object after another.
use Rattle.rights.proofs.Vocabulary.{◌≡◌, ◌∙◌, ◌∷◌, ◌++◌, [], List, ap, sym, append-nil, AllByRecursion, Act, Object}
use Rattle.rights.proofs.Vocabulary.{BitChange, UserId, sets, sets_on}
use Rattle.std.proofs.lemmas.List.{append_assoc}

pub all_more : {X : Type 0} (P : X → Type 0) (xs : List X) (x : X) → AllByRecursion P xs → P x
    → AllByRecursion P (xs ++ x ∷ [])
all_more P [] x all one = (one, tt)
all_more P (y ∷ xs) x all one = (all.0, all_more P xs x all.1 one)

-- one object more
sets_more : (u : UserId) (changes : List BitChange) (objects : List Object) (o : Object)
    → sets u changes (objects ++ o ∷ []) ≡ sets u changes objects ++ sets_on u changes o
sets_more u changes [] o = append-nil (sets_on u changes o)
sets_more u changes (p ∷ objects) o =
    ap (λ xs. sets_on u changes p ++ xs) (sets_more u changes objects o)
    ∙ sym (append_assoc (sets_on u changes p) (sets u changes objects) (sets_on u changes o))

pub read_more : (u : UserId) (changes : List BitChange) (objects : List Object) (o : Object)
    (acts rest behind : List Act)
    → acts ≡ sets u changes objects ++ rest → rest ≡ sets_on u changes o ++ behind
    → acts ≡ sets u changes (objects ++ o ∷ []) ++ behind
read_more u changes objects o acts rest behind all next =
    all ∙ (ap (λ xs. sets u changes objects ++ xs) next
    ∙ (sym (append_assoc (sets u changes objects) (sets_on u changes o) behind)
    ∙ ap (λ xs. xs ++ behind) (sym (sets_more u changes objects o))))
