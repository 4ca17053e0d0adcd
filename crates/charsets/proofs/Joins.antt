-- Complete characters join, and CAN ends an incomplete one.
use Rattle.std.proofs.Common.{◌≡◌, ℕ, zero, suc, List, [], ◌∷◌, ◌++◌, length, Option, Some, None, refl, ◌∙◌, arith}
use Rattle.std.proofs.lemmas.Bool.Decides.{nat_tests}
use Rattle.std.proofs.lemmas.List.{map-append}
use Rattle.charsets.specs.declared.decoder.Coding.{Coding}
use Rattle.charsets.specs.declared.decoder.Coding.TheVariants.{Utf8, Ecma35}
use Rattle.charsets.specs.declared.decoder.Unit.TheVariants.{Code}
use Rattle.charsets.specs.Utf8.{Piece, piece, cut, codes}
use Rattle.charsets.specs.Units.{units, unit_of_byte}
use Rattle.charsets.proofs.Cuts.{cut-none, cut-some, codes-go_on}

-- CAN breaks off a beginning, which then gives nothing
breaks : (a : ℕ) (bytes : List ℕ) → piece a bytes ≡ None
    → piece a (bytes ++ 0x18 ∷ []) ≡ Some (record { gives = []; more = length bytes })
unfolding piece
breaks a [] h = grind (arith, nat_tests)
breaks a (b ∷ []) h = grind (arith, nat_tests)
breaks a (b ∷ c ∷ []) h = grind (arith, nat_tests)
breaks a (b ∷ c ∷ d ∷ bytes) h = grind (arith, nat_tests)

cut-skip : (bytes later : List ℕ) → cut (length bytes) (bytes ++ later) ≡ codes later
unfolding cut
cut-skip [] later = refl
cut-skip (b ∷ bytes) later = cut-skip bytes later

-- the bytes at the end begin a character
abbrev HasBegun : List ℕ → Type 0
HasBegun [] = Prim.Unit {0}
HasBegun (a ∷ bytes) = piece a bytes ≡ None

rest_begun : (skip : ℕ) (bytes : List ℕ) → HasBegun (cut skip bytes).1
unfolding cut
rest_begun zero [] = tt
rest_begun (suc k) [] = tt
rest_begun (suc k) (a ∷ bytes) = rest_begun k bytes
rest_begun zero (a ∷ bytes) = by (piece a bytes) refl (λ k. rest_begun k bytes)
  where
    by : (o : Option Piece) → piece a bytes ≡ o → ((k : ℕ) → HasBegun (cut k bytes).1) → HasBegun (codes (a ∷ bytes)).1
    by None e again = rw (cut-none a bytes e) e
    by (Some p) e again = rw (cut-some a bytes p e) (again p.more)

can_after : (rest : List ℕ) → HasBegun rest → codes (rest ++ 0x18 ∷ []) ≡ (0x18 ∷ [], [])
unfolding cut piece
can_after [] h = refl
can_after (a ∷ bytes) h = cut-some a (bytes ++ 0x18 ∷ []) _ (breaks a bytes h) ∙ cut-skip bytes (0x18 ∷ [])

own_rest : (rest : List ℕ) → HasBegun rest → codes rest ≡ ([], rest)
unfolding cut
own_rest [] h = refl
own_rest (a ∷ bytes) h = cut-none a bytes h

pub units-go_on : (coding : Coding) (front later : List ℕ)
    → units coding (front ++ later) ≡ (
      (units coding front).0 ++ (units coding ((units coding front).1 ++ later)).0,
      (units coding ((units coding front).1 ++ later)).1,
    )
units-go_on Utf8 front later = rw (codes-go_on front later, map-append) refl
units-go_on Ecma35 front later = rw (map-append unit_of_byte front later) refl

pub units-append : (coding : Coding) (front later : List ℕ) → (units coding front).1 ≡ []
    → units coding (front ++ later) ≡ ((units coding front).0 ++ (units coding later).0, (units coding later).1)
units-append coding front later h = rw h at (units-go_on coding front later)

pub units-can : (coding : Coding) (bytes : List ℕ)
    → units coding (bytes ++ 0x18 ∷ []) ≡ ((units coding bytes).0 ++ Code 0x18 ∷ [], [])
units-can Utf8 bytes = rw (can_after (codes bytes).1 (rest_begun 0 bytes)) at (units-go_on Utf8 bytes (0x18 ∷ []))
units-can Ecma35 bytes = units-go_on Ecma35 bytes (0x18 ∷ [])

pub units-rest : (coding : Coding) (bytes : List ℕ) → units coding (units coding bytes).1 ≡ ([], (units coding bytes).1)
units-rest Utf8 bytes = rw (own_rest (codes bytes).1 (rest_begun 0 bytes)) refl
units-rest Ecma35 bytes = refl
