-- What the functions that read words append and return.
use Rattle.std.specs.Prelude.{Result, IfOk, ◌≡◌, List, ℕ, ◌++◌, Option}
use Rattle.std.specs.Option.{option_map}
use Rattle.std.specs.Str.{encode_utf8_all}
use Rattle.std.specs.declared.alloc.AllocError.{AllocError}
use denote.Ref.{Bor}

-- The front of the characters is a thing of this kind: its text was appended, and the rest follows
-- it.
pub record Reads (Kind : List ℕ → List ℕ → Option (List ℕ) → Type 0)
    (cs old new : List ℕ) (rest : Option (List ℕ))
    : Type 0 where
  pub text : List ℕ
  pub put : new ≡ old ++ encode_utf8_all text
  pub read : Kind cs text rest

-- If memory sufficed, the result is the rest after a thing of this kind, whose text was appended.
abbrev pub Puts : (List ℕ → List ℕ → Option (List ℕ) → Type 0) → List ℕ → List ℕ → List ℕ
    → Result (Option (Bor (List ℕ))) AllocError → Type 0
Puts Kind cs old new result =
    IfOk result (λ rest. Reads Kind cs old new (option_map (λ l. l.now) rest))
