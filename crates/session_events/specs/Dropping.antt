-- No text is said twice to a client in one step.
use Rattle.std.specs.Prelude.{ℕ, ◌≡◌, ◌++◌, Bool, List, ◌∷◌, length}
use Rattle.std.specs.List.{list_any}
use Rattle.session_model.specs.declared.event.Effect.{Effect}
use Rattle.session_model.specs.Answering.{says_same, unsaid}

-- whether one of the earlier effects says the same text to the same client
abbrev pub is_said : List Effect → Effect → Bool
is_said said effect = list_any (says_same effect) said

-- whether the effect at a place says the same as one between these places
abbrev pub SaysAgain : List Effect → ℕ → ℕ → ℕ → Bool → Type 0
SaysAgain effects start end place result =
    (past said more front rest : List Effect) (e : Effect) → effects ≡ past ++ (said ++ more)
    → length past ≡ start → length (past ++ said) ≡ end
    → effects ≡ front ++ e ∷ rest → length front ≡ place
    → result ≡ is_said said e

-- after these places, each effect that says the same as one between them is removed
abbrev pub DropsSaid : ℕ → ℕ → List Effect → List Effect → Type 0
DropsSaid start end old new =
    (past said more : List Effect) → old ≡ past ++ (said ++ more)
    → length past ≡ start → length (past ++ said) ≡ end
    → new ≡ past ++ (said ++ unsaid said more)
