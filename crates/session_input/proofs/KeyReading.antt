-- What the code's reader has read of keys is what a step of the definitions reads.
use Rattle.session_input.proofs.Vocabulary.{◌≡◌, ℕ, true, false, List, [], ◌∷◌, Option, Some, Result, Ok, Err, refl, ap}
use Rattle.session_input.proofs.Vocabulary.{sym, ◌∙◌, length, inl, inr, ◌⊎◌, ◌==◌, IfOk, Command, ParseFault, Relates}
use Rattle.session_input.proofs.Vocabulary.{Refuses, read_line, no_memory, relates-reads, refuses-reads}
use Rattle.std.specs.declared.alloc.AllocError.{AllocError}
use Rattle.session_input.specs.Given.{given_line, is_want}

given_there : (line : List ℕ) → (length line == 0) ≡ false → given_line line ≡ Some (read_line line)
given_there [] is = absurd (cc (is))
given_there (b ∷ bytes) is = refl

pub line_read : (line : List ℕ) (d : Command) → (length line == 0) ≡ false → Relates line d
    → Some (Ok d) ≡ given_line line
line_read line d is relates =
    sym (given_there line is ∙ ap Some (relates-reads line d relates))

pub line_faulty : (line : List ℕ) (f : ParseFault) → (length line == 0) ≡ false
    → is_want f ≡ false → (f ≡ no_memory) ⊎ Refuses line f → Some (Err f) ≡ given_line line
line_faulty line f is other (inl full) =
    let want : is_want f ≡ true = ap is_want full in absurd (cc (want, other))
line_faulty line f is other (inr refuses) =
    sym (given_there line is ∙ ap Some (refuses-reads line f refuses))

pub line_faulty_if : (result : Result (Option (Result Command ParseFault)) AllocError)
    (line : List ℕ) (f : ParseFault) → (length line == 0) ≡ false
    → (f ≡ no_memory) ⊎ Refuses line f
    → IfOk result (λ order. (order ≡ Some (Err f)) × (is_want f ≡ false))
    → IfOk result (λ order. order ≡ given_line line)
line_faulty_if (Ok order) line f is why found =
    found.0 ∙ line_faulty line f is found.1 why
line_faulty_if (Err e) line f is why found = tt
