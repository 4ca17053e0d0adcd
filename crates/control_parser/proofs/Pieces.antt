-- Units in pieces, and units that are printed.
use Rattle.control_parser.proofs.Vocabulary.{◌≡◌, ℕ, true, List, [], ◌∷◌, ◌++◌, map, refl, sym, ◌∙◌, arith}
use Rattle.control_parser.proofs.Vocabulary.{append_assoc, flat_map, list_all, nat_tests, append-nil, is_plain, Unit}
use Rattle.control_parser.proofs.Vocabulary.{Print, functions, kept, functions_of_pieces}
use Rattle.charsets.specs.declared.decoder.Unit.TheVariants.{Code}
use Rattle.control_parser.specs.declared.state.State.TheVariants as state
use Rattle.control_parser.specs.Grammar.{Rest, nothing, is_graphic, with_front, functions_behind}
use Rattle.control_parser.proofs.Machine.{machine, functions-machine}
use Rattle.control_parser.proofs.Openings.{functions-go_on}
use Rattle.control_parser.proofs.Spelled.{all_weaker, print_reads}

pub functions-none : functions [] ≡ ([], nothing)
unfolding functions_behind
functions-none = refl

-- pieces read after some units
behind_front : (pieces : List (List Unit)) (us : List Unit)
    → functions (us ++ flat_map (λ piece. piece) pieces) ≡ with_front (functions us).0
    (functions_of_pieces (functions us).1 pieces)
behind_front [] us = rw (append-nil us, append-nil (functions us).0) refl
behind_front (piece ∷ pieces) us =
    rw (
      ← append_assoc us piece (flat_map (λ piece. piece) pieces),
      behind_front pieces (us ++ piece),
      functions-go_on us piece,
      append_assoc,
    ) refl

pub functions_of_pieces-whole : (pieces : List (List Unit))
    → functions_of_pieces nothing pieces ≡ functions (flat_map (λ piece. piece) pieces)
functions_of_pieces-whole pieces = sym (rw functions-none at (behind_front pieces []))

machine-graphic : (codes : List ℕ) → list_all is_graphic codes ≡ true
    → machine nothing (map (λ c. Code c) codes) ≡ (map (λ c. Print c) codes, nothing)
unfolding machine
machine-graphic [] h = refl
machine-graphic (c ∷ codes) h = rw (print_reads c (grind arith), machine-graphic codes (grind arith)) refl

pub functions-graphic : (codes : List ℕ) → list_all is_graphic codes ≡ true
    → functions (map (λ c. Code c) codes) ≡ (map (λ c. Print c) codes, nothing)
functions-graphic codes h = functions-machine (map (λ c. Code c) codes) ∙ machine-graphic codes h

pub functions-plain : (codes : List ℕ) → list_all is_plain codes ≡ true
    → functions (map (λ c. Code c) codes) ≡ (map (λ c. Print c) codes, nothing)
functions-plain codes h =
    functions-graphic codes (all_weaker is_plain is_graphic (λ c p. grind (arith, nat_tests)) codes h)

-- only `nothing` is kept as Ground
pub kept-ground : (r : Rest) → kept r ≡ state.Ground → r ≡ nothing
unfolding kept
kept-ground r h = grind (arith, nat_tests)
