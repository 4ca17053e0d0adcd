-- What is read from a row or a mask, if an act decides it.
use Rattle.acl.proofs.Vocabulary.{◌≡◌, ℕ, Bool, true, false, ◌&&◌, ◌||◌, refl, List, [], Option, None, is_some}
use Rattle.acl.proofs.Vocabulary.{unwrap_or, if◌then◌else◌, option_map_or, allows, decided, bits_on, UserId, Bit, Bits}
use Rattle.acl.proofs.Vocabulary.{Object, Row}

-- a value read from a choice, if an act decides it
pub step : {X Y : Type 0} (f : X → Y) (c : Bool) (x y : X) (g : Option Y) (r : Y) → (c ≡ true → f x ≡ unwrap_or g r)
    → f y ≡ r → f (if c then x else y) ≡ unwrap_or (if c then g else None) r
step f true x y g r taken left = taken refl
step f false x y g r taken left = left

-- a value read from a choice, if an act decides only some of the objects
pub step_of : {X Y : Type 0} (f : X → Y) (c d e : Bool) (x y : X) (v r : Y)
    → (c ≡ true → f x ≡ unwrap_or (decided (d && e) v) r) → f y ≡ r
    → f (if c then x else y) ≡ unwrap_or (decided (c && d && e) v) r
step_of f true d e x y v r taken left = taken refl
step_of f false d e x y v r taken left = left

pub or-true : (c : Bool) → (c || true) ≡ true
or-true true = refl
or-true false = refl

pub or-false : (c : Bool) → (c || false) ≡ c
or-false true = refl
or-false false = refl

-- whether a user is known, if an act decides it
pub known_step : (c d : Bool) (v r : Bool) (x y : Option Row) → (c ≡ true → is_some x ≡ (d || v)) → is_some y ≡ (d || r)
    → is_some (if c then x else y) ≡ (d || unwrap_or (decided c v) r)
known_step true d v r x y taken left = taken refl
known_step false d v r x y taken left = left

abbrev pub at_row : List (Option ℕ) → Bit → Object → Option Row → Bool
at_row windows bit object row = option_map_or (λ r. allows bit (bits_on windows object r)) row false

abbrev pub leaders_at : Option Row → List UserId
leaders_at row = option_map_or (λ r. r.leaders) row []

abbrev pub mask_at : Bit → Option Bits → Bool
mask_at bit set = option_map_or (allows bit) set true
