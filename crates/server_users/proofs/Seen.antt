-- What a loop has seen of a list of users.
use Rattle.server_users.proofs.Vocabulary.{◌≡◌, ℕ, ◌+◌, ◌<◌, ◌≤◌, List, [], ◌∷◌, length, get_or, take, map, refl, sym}
use Rattle.server_users.proofs.Vocabulary.{◌∙◌, ap, subst, ⊎_elim, length-map, name_of, User, names, entries_of}
use Rattle.std.specs.List.{Contains}
use Rattle.std.proofs.lemmas.List.{map_more, get_or-map, take_all}
use Rattle.std.proofs.lemmas.List.Elements.{Contains-push_cases, Contains-get_or}

abbrev pub name_at : User → List ℕ
name_at u = name_of u.id

pub names_are : (us : List User) → names (entries_of us) ≡ map name_at us
names_are [] = refl
names_are (u ∷ us) = ap (λ ns. name_of u.id ∷ ns) (names_are us)

pub not_yet : {X : Type 0} (f : User → X) (us : List User) (i : ℕ) (d : User) (x : X)
    → i < length us
    → (Contains (map f (take i us)) x → ⊥) → (f (get_or us i d) ≡ x → ⊥)
    → Contains (map f (take (i + 1) us)) x → ⊥
not_yet f us i d x lt none other w =
    ⊎_elim none other (Contains-push_cases (map f (take i us)) (f (get_or us i d)) x (subst
    (λ l. Contains l x) (map_more f us i d lt) w))

pub here : {X : Type 0} (f : User → X) (us : List User) (i : ℕ) (d : User) (x : X) → i < length us
    → f (get_or us i d) ≡ x → Contains (map f us) x
here f us i d x lt e = subst (Contains (map f us)) (get_or-map f us i d x lt
    ∙ e) (Contains-get_or (map f us) i x (rw (length-map us f) lt))

-- all of the list was seen
pub nowhere : {X : Type 0} (f : User → X) (us : List User) (i : ℕ) (x : X) → length us ≤ i
    → (Contains (map f (take i us)) x → ⊥) → Contains (map f us) x → ⊥
nowhere f us i x all none w = none (subst (λ l. Contains (map f l) x) (sym (take_all i us all)) w)
