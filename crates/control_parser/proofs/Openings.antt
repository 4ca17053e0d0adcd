-- An incomplete sequence or string goes on like the units that begin it.
use Rattle.control_parser.proofs.Vocabulary.{◌≡◌, ℕ, Bool, true, List, [], ◌∷◌, ◌++◌, map, refl, ap, ◌∙◌, arith}
use Rattle.control_parser.proofs.Vocabulary.{append_assoc, AllByRecursion, list_all, nat_tests, append-nil}
use Rattle.control_parser.proofs.Vocabulary.{list_all-append, Unit, IsUnit, is_intermediate, functions, opening}
use Rattle.std.proofs.Math.Utf8.{low_scalar}
use Rattle.charsets.specs.declared.decoder.Unit.TheVariants as units
use Rattle.control_parser.specs.Grammar.{is_sequence_text, Rest, nothing, escape, control, string, osc, with_front}
use Rattle.control_parser.proofs.Machine.{rest_step, machine, machine-append, functions-machine}

-- bytes below 80 are units as they are
abbrev pub coded : List ℕ → List Unit
coded cs = map (λ c. units.Code c) cs

-- what is incomplete has characters of its own kind
abbrev pub has_text : Rest → Bool
has_text (escape t) = list_all is_intermediate t
has_text (control t) = list_all is_sequence_text t
has_text r = true

pub step_keeps : (r : Rest) (u : Unit) → has_text r ≡ true → has_text (rest_step r u).1 ≡ true
step_keeps r u h = grind (arith, nat_tests, list_all-append)

machine_keeps : (us : List Unit) (r : Rest) → has_text r ≡ true → has_text (machine r us).1 ≡ true
unfolding machine
machine_keeps [] r f = f
machine_keeps (u ∷ us) r f = machine_keeps us (rest_step r u).1 (step_keeps r u f)

-- the text of a sequence, character by character
text_run : (p : ℕ → Bool) (K : List ℕ → Rest)
    → ((t : List ℕ) (c : ℕ) → p c ≡ true → rest_step (K t) (units.Code c) ≡ ([], K (t ++ c ∷ []))) → (text t : List ℕ)
    → list_all p text ≡ true → machine (K t) (coded text) ≡ ([], K (t ++ text))
unfolding machine
text_run p K step [] t h = rw append-nil refl
text_run p K step (c ∷ text) t h =
    rw (step t c (grind arith)) (text_run p K step text (t ++ c ∷ []) (grind arith)
    ∙ ap (λ l. ([], K l)) (append_assoc t (c ∷ []) text))

pub control_text : (text : List ℕ) → list_all is_sequence_text text ≡ true
    → machine (control []) (coded text) ≡ ([], control text)
control_text text h = text_run is_sequence_text control (λ t c d. grind (arith, nat_tests)) text [] h

pub escape_text : (text : List ℕ) → list_all is_intermediate text ≡ true
    → machine (escape []) (coded text) ≡ ([], escape text)
escape_text text h = text_run is_intermediate escape (λ t c d. grind (arith, nat_tests)) text [] h

opening_machine : (r : Rest) → has_text r ≡ true → machine nothing (opening r) ≡ ([], r)
unfolding machine
opening_machine nothing h = refl
opening_machine (escape t) h = escape_text t h
opening_machine (control t) h = control_text t h
opening_machine string h = refl
opening_machine osc h = refl

pub functions-opening : (us : List Unit) → functions (opening (functions us).1) ≡ ([], (functions us).1)
functions-opening us = rw (functions-machine us)
    (functions-machine (opening (machine nothing us).1)
    ∙ opening_machine (machine nothing us).1 (machine_keeps us nothing refl))

pub functions-go_on : (us vs : List Unit)
    → functions (us ++ vs) ≡ with_front (functions us).0 (functions (opening (functions us).1 ++ vs))
functions-go_on us vs =
    let own = functions-opening us in
    let e : functions (opening (functions us).1 ++ vs) ≡ machine (functions us).1 vs =
    functions-machine (opening (functions us).1 ++ vs) ∙ machine-append nothing (opening (functions us).1) vs
    ∙ rw (← functions-machine (opening (functions us).1), own) refl in
    functions-machine (us ++ vs) ∙ machine-append nothing us vs ∙ rw (← functions-machine us, e) refl

-- the units that begin something incomplete are characters
text_units : (text : List ℕ) → list_all is_sequence_text text ≡ true → AllByRecursion IsUnit (coded text)
text_units [] h = tt
text_units (c ∷ text) h =
    (low_scalar c (grind (arith, nat_tests)), text_units text (grind arith))

pub intermediates_text : (text : List ℕ) → list_all is_intermediate text ≡ true → list_all is_sequence_text text ≡ true
intermediates_text [] h = refl
intermediates_text (c ∷ text) h = grind (arith, nat_tests, intermediates_text text)

opening_units : (r : Rest) → has_text r ≡ true → AllByRecursion IsUnit (opening r)
opening_units nothing h = tt
opening_units (escape t) h = (refl, text_units t (intermediates_text t h))
opening_units (control t) h = (refl, (refl, text_units t h))
opening_units string h = (refl, (refl, tt))
opening_units osc h = (refl, (refl, tt))

pub opening-units : (us : List Unit) → AllByRecursion IsUnit (opening (functions us).1)
opening-units us = rw (functions-machine us) (opening_units (machine nothing us).1 (machine_keeps us nothing refl))
