-- A user's leaders: names at the front of a fixed array. The unused places hold the blank name.
use Rattle.std.specs.Prelude.{◌≡◌, ℕ, Bool, not, ◌-◌, ◌≤◌, List, [], ◌∷◌, ◌++◌, Option, Some, None}
use Rattle.std.specs.Prelude.{filter, length, take, drop, replicate, if◌then◌else◌}
use Rattle.std.specs.List.{list_any}
use Rattle.std.proofs.Common.{take-append-drop, length-take-le, ap, ◌∙◌, sym, subst}
use Rattle.acl_words.specs.Same.{same_user}
use Rattle.acl_words.specs.declared.leaders.Edition.{Edition}
use Rattle.acl_words.specs.declared.leaders.Edition.TheVariants.{First, Second}
use Rattle.acl_words.specs.declared.user_id.UserId.{UserId}

-- whether the user is one of these
abbrev pub among : List UserId → UserId → Bool
among users u = list_any (same_user u) users

-- aclgrp: a user's leaders, after the user is given a leader or none. In the first edition a new
-- leader takes the former leader's place. In the second the new leader comes last, and one who
-- already leads the user keeps their place
abbrev pub leaders_with : Edition → Option UserId → List UserId → List UserId
leaders_with edition None before = []
leaders_with First (Some leader) before = leader ∷ []
leaders_with Second (Some leader) before =
    if among before leader then before else before ++ leader ∷ []

-- the leaders, without the user who is gone
abbrev pub remaining_leaders : UserId → List UserId → List UserId
remaining_leaders gone leaders = filter (λ leader. not (same_user gone leader)) leaders

-- the name that stands in an unused place: 20 zeros
abbrev pub blank : UserId
blank = record { name = replicate 20 0 }

abbrev pub AreFront : ℕ → List UserId → Type 0
AreFront count names =
    (count ≤ 8) × (length names ≡ 8) × (drop count names ≡ replicate (8 - count) blank)

-- the fixed array that holds the list
abbrev pub array_of : List UserId → List UserId
array_of xs = xs ++ replicate (8 - length xs) blank

pub length-front : (count : ℕ) (names : List UserId) → AreFront count names
    → length (take count names) ≡ count
length-front count names h =
    let P : ℕ → Type 0 = λ n. count ≤ n in
    length-take-le count names (subst P (sym h.1) h.0)

pub array_of-take : (count : ℕ) (names : List UserId) → AreFront count names
    → array_of (take count names) ≡ names
array_of-take count names h =
    ap (λ n. take count names ++ replicate (8 - n) blank) (length-front count names h)
    ∙ ap (λ r. take count names ++ r) (sym h.2)
    ∙ take-append-drop count names
