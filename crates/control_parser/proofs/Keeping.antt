-- The parser keeps what the grammar leaves incomplete.
use Rattle.control_parser.proofs.Vocabulary.{◌≡◌, ℕ, Bool, true, false, cond, List, [], ◌∷◌, ◌++◌, length, Option, Some}
use Rattle.control_parser.proofs.Vocabulary.{None, option_to_list, refl, sym, ap, ◌∙◌, arith, length-append, nat_tests}
use Rattle.control_parser.proofs.Vocabulary.{append-nil, Unit, Func, Csi, SequenceText, nat_le, ◌==◌, is_intermediate}
use Rattle.control_parser.proofs.Vocabulary.{fields, functions, broken_step, inside_step, step_of, is_final_from}
use Rattle.control_parser.proofs.Vocabulary.{opening, parts, kept_text, kept, StandsFor}
use Rattle.charsets.specs.declared.decoder.Unit.TheVariants as units
use Rattle.control_parser.specs.declared.state.State.{State}
use Rattle.control_parser.specs.declared.state.State.TheVariants as state
use Rattle.control_parser.specs.Grammar.{code, is_control, is_sequence_text, Rest, nothing, escape, control, string}
use Rattle.control_parser.specs.Grammar.{osc, control_of, with_front}
use Rattle.control_parser.proofs.Machine.{rest_broken, rest_inside, rest_step, machine-append, machine-one}
use Rattle.control_parser.proofs.Machine.{functions-machine, cond_pair}
use Rattle.control_parser.proofs.Texts.{parts-push}

record Tracks (s : Option Func × State) (r : List Func × Rest) : Type 0 where
  funcs : option_to_list s.0 ≡ r.0
  rest : s.1 ≡ kept r.1

abbrev pub csi_list : Option SequenceText → ℕ → List Func
csi_list None c = []
csi_list (Some p) c = Csi p.mark p.params p.intermediates c ∷ []

pub control_of-parts : (t : List ℕ) (c : ℕ) → control_of t c ≡ csi_list (parts t) c
unfolding parts
control_of-parts t c = grind (arith, nat_tests)

broken_tracks : (u : Unit) (inside : Bool) → Tracks (broken_step u inside) (rest_broken u inside)
unfolding kept parts fields
broken_tracks u inside = grind (arith, nat_tests)

-- a unit inside a sequence: two tests say that it goes on with it or ends it, otherwise it breaks it off
inside_tracks : (here : State) (r : Rest) (u : Unit) (a f : Bool) (s s' : Option Func × State)
    (x x' : List Func × Rest) → here ≡ kept r → (a ≡ true → Tracks s x) → (f ≡ true → Tracks s' x')
    → Tracks (inside_step here u (cond a s (cond f s' (broken_step u true))))
    (rest_inside r u (cond a x (cond f x' (rest_broken u true))))
inside_tracks here r u a f s s' x x' e g h =
    cond_pair (is_control (code u)) _ _ _ _ Tracks (λ c. record { funcs = refl; rest = e })
    (λ c. cond_pair (code u == 0x7F) _ _ _ _ Tracks (λ d. record { funcs = refl; rest = e })
    (λ d. cond_pair a _ _ _ _ Tracks g (λ k. cond_pair f _ _ _ _ Tracks h (λ k. broken_tracks u true))))

escape_tracks : (t : List ℕ) (u : Unit) (few : Bool) → nat_le (length t) 2 ≡ few
    → Tracks (step_of (cond few (state.Escape t) state.EscapeIgnored) u) (rest_step (escape t) u)
unfolding kept parts fields
escape_tracks t u true e = inside_tracks (state.Escape t) (escape t) u (is_intermediate (code u))
    (is_final_from 0x2F (code u)) _ _ _ _ (rw e refl) (λ i. grind (arith, nat_tests, length-append t (code u ∷ [])))
    (λ i. grind (arith, nat_tests))
escape_tracks t u false e = inside_tracks state.EscapeIgnored (escape t) u (is_intermediate (code u))
    (is_final_from 0x2F (code u)) _ _ _ _ (rw e refl) (λ i. grind (arith, nat_tests, length-append t (code u ∷ [])))
    (λ i. grind (arith, nat_tests))

control_tracks : (t : List ℕ) (u : Unit) (o : Option SequenceText) → parts t ≡ o
    → Tracks (step_of (kept_text o) u) (rest_step (control t) u)
unfolding kept
control_tracks t u (Some p) e = inside_tracks (state.Control p) (control t) u (is_sequence_text (code u))
    (is_final_from 0x3F (code u)) _ _ _ _ (rw e refl) (λ i. grind (arith, parts-push t (code u)))
    (λ i. grind (arith, control_of-parts t (code u)))
control_tracks t u None e = inside_tracks state.ControlIgnored (control t) u (is_sequence_text (code u))
    (is_final_from 0x3F (code u)) _ _ _ _ (rw e refl) (λ i. grind (arith, parts-push t (code u)))
    (λ i. grind (arith, control_of-parts t (code u)))

step_tracks : (r : Rest) (u : Unit) → Tracks (step_of (kept r) u) (rest_step r u)
unfolding kept parts fields
step_tracks nothing u = grind (arith, nat_tests)
step_tracks string u = grind (arith, nat_tests)
step_tracks osc u = grind (arith, nat_tests)
step_tracks (escape t) u = escape_tracks t u (nat_le (length t) 2) refl
step_tracks (control t) u = control_tracks t u (parts t) refl

pub functions-push : (us : List Unit) (u : Unit)
    → functions (us ++ u ∷ []) ≡ with_front (functions us).0 (rest_step (functions us).1 u)
functions-push us u =
    rw (functions-machine (us ++ u ∷ []), machine-append nothing us (u ∷ []), machine-one, functions-machine us) refl

pub stands-push : (old : State) (u : Unit) (us : List Unit) → StandsFor old us
    → StandsFor (step_of old u).1 (us ++ u ∷ [])
stands-push old u us h = rw (h, functions-push us u) (step_tracks (functions us).1 u).rest

pub gives-push : (old : State) (u : Unit) (us : List Unit) → StandsFor old us
    → (functions (us ++ u ∷ [])).0 ≡ (functions us).0 ++ option_to_list (step_of old u).0
gives-push old u us h = rw (functions-push us u, h, (step_tracks (functions us).1 u).funcs) refl

pub next-push : (old : State) (u : Unit) (rest : Rest) → functions (opening rest) ≡ ([], rest) → old ≡ kept rest
    → ((functions (opening rest ++ u ∷ [])).0 ≡ option_to_list (step_of old u).0)
    × ((step_of old u).1 ≡ kept (functions (opening rest ++ u ∷ [])).1)
next-push old u rest proper h =
    let s : StandsFor old (opening rest) = h ∙ ap (λ (x : List Func × Rest). kept x.1) (sym proper) in (
      gives-push old u (opening rest) s ∙ ap (λ (x : List Func × Rest). x.0 ++ option_to_list (step_of old u).0) proper,
      stands-push old u (opening rest) s,
    )

-- units that leave nothing incomplete, and more units
pub functions-append : (us vs : List Unit) → (functions us).1 ≡ nothing
    → functions (us ++ vs) ≡ with_front (functions us).0 (functions vs)
functions-append us vs h =
    functions-machine (us ++ vs) ∙ machine-append nothing us vs
    ∙ rw (← functions-machine us, h, ← functions-machine vs) refl

-- CAN leaves nothing incomplete, and gives nothing
can_ends : (r : Rest) → rest_step r (units.Code 0x18) ≡ ([], nothing)
can_ends r = grind (arith, nat_tests)

pub functions-can : (us : List Unit) → functions (us ++ units.Code 0x18 ∷ []) ≡ ((functions us).0, nothing)
functions-can us = rw (functions-push us (units.Code 0x18), can_ends, append-nil) refl
