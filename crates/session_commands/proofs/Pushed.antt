-- A list with a pushed element, and the part of a list after a place.
use Rattle.std.proofs.Common.{◌≡◌, ℕ, ◌-◌, List, [], ◌∷◌, ◌++◌, Ok, Err, length, take, drop, arith, length-drop}
use Rattle.std.proofs.lemmas.List.{take_all}
use Rattle.std.specs.Prelude.{Result, IsOk, is_ok, if◌then◌else◌}

-- the part after a place
pub rest_is : {A : Type 0} (xs : List A) (i : ℕ) → take (length xs - i) (drop i xs) ≡ drop i xs
rest_is xs i = take_all (length xs - i) (drop i xs) (omega (arith, length-drop i xs))

-- an element that was pushed
pub pushed : {A E X : Type 0} (r : Result A E) (before after : List X) (x : X) → IsOk r
    → after ≡ (if is_ok r then before ++ x ∷ [] else before) → after ≡ before ++ x ∷ []
pushed (Ok a) before after x ok is = is
pushed (Err e) before after x ok is = absurd (cc (ok))

pub grown : {A E X : Type 0} (r : Result A E) (before after more : List X) → IsOk r
    → after ≡ (if is_ok r then before ++ more else before) → after ≡ before ++ more
grown (Ok a) before after more ok is = is
grown (Err e) before after more ok is = absurd (cc (ok))
