-- The functions that units can give.
use Rattle.control_parser.proofs.Vocabulary.{◌≡◌, ℕ, zero, suc, ◌<◌, true, List, [], ◌∷◌, ◌++◌, length, take, map}
use Rattle.control_parser.proofs.Vocabulary.{IfSome, refl, arith, nat_lt, list_all, AllByRecursion, nat_tests}
use Rattle.control_parser.proofs.Vocabulary.{cond_both, length-take, Unit, Func, is_mark, value, fields, values}
use Rattle.control_parser.proofs.Vocabulary.{mark_of, numbers_of, is_well_formed, functions, IsGiven, IsUnit}
use Rattle.control_parser.specs.Grammar.{code, Rest, nothing, escape, control, string, osc, control_of}
use Rattle.control_parser.proofs.Machine.{rest_step, machine, functions-machine}
use Rattle.control_parser.proofs.Openings.{has_text, step_keeps}
use Rattle.control_parser.proofs.Texts.{full_fields}

-- parameters
all_low : (n : ℕ) (fs : List (List ℕ)) → list_all (λ v. nat_lt v 10000) (take n (map value fs)) ≡ true
all_low zero fs = refl
all_low (suc n) [] = refl
all_low (suc n) (f ∷ fs) = grind (arith, nat_tests, all_low n fs)

some_taken : (n : ℕ) (fs : List (List ℕ)) → 0 < length fs → 0 < length (take (suc n) (map value fs))
some_taken n [] h = absurd (omega arith)
some_taken n (f ∷ fs) h = omega arith

mark_fine : (t : List ℕ) → IfSome (mark_of t) (λ m. is_mark m ≡ true)
mark_fine [] = tt
mark_fine (c ∷ cs) = grind (arith, nat_tests)

control_given : (t : List ℕ) (last : ℕ) → 0x3F < last → last < 0x7F → AllByRecursion IsGiven (control_of t last)
control_given t last low high = cond_both (is_well_formed t) _ _ (λ fs. AllByRecursion IsGiven fs)
    (λ w. (
      (
        mark_fine t,
        some_taken 15 (fields (numbers_of t)) (full_fields (numbers_of t)),
        omega (arith, length-take 16 (values (numbers_of t))),
        all_low 16 (fields (numbers_of t)),
        w,
        low,
        high,
      ),
      tt,
    ))
    (λ w. tt)

step_given : (r : Rest) (u : Unit) → has_text r ≡ true → IsUnit u → AllByRecursion IsGiven (rest_step r u).0
step_given nothing u f h = grind (arith, nat_tests)
step_given string u f h = grind (arith, nat_tests)
step_given osc u f h = grind (arith, nat_tests)
step_given (escape t) u f h = grind (arith, nat_tests)
step_given (control t) u f h = grind (arith, nat_tests, control_given t (code u))

all_joined : (fs gs : List Func) → AllByRecursion IsGiven fs → AllByRecursion IsGiven gs
    → AllByRecursion IsGiven (fs ++ gs)
all_joined [] gs h k = k
all_joined (f ∷ fs) gs h k = (h.0, all_joined fs gs h.1 k)

machine_given : (us : List Unit) (r : Rest) → has_text r ≡ true → AllByRecursion IsUnit us
    → AllByRecursion IsGiven (machine r us).0
unfolding machine
machine_given [] r f h = tt
machine_given (u ∷ us) r f h =
    let s = rest_step r u in
    all_joined s.0 (machine s.1 us).0 (step_given r u f h.0) (machine_given us s.1 (step_keeps r u f) h.1)

pub given_all : (us : List Unit) → AllByRecursion IsUnit us → AllByRecursion IsGiven (functions us).0
given_all us h = rw (functions-machine us) (machine_given us nothing refl h)
