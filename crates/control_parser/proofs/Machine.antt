-- The grammar read unit by unit.
use Rattle.control_parser.proofs.Vocabulary.{◌≡◌, ℕ, zero, suc, ◌+◌, ◌-◌, Bool, true, false, ◌&&◌, cond, List, [], ◌∷◌}
use Rattle.control_parser.proofs.Vocabulary.{◌++◌, length, drop, refl, sym, ap, ◌∙◌, arith, append_assoc, ◌==◌}
use Rattle.control_parser.proofs.Vocabulary.{cond_both, nat_tests, append-nil, drop-drop, Unit, Func, Print, Control}
use Rattle.control_parser.proofs.Vocabulary.{is_intermediate, while, functions, breaks_string, is_final_from}
use Rattle.control_parser.specs.Grammar.{code, ESC, SUB, is_control, is_c1, is_sequence_text, in_escape, in_control}
use Rattle.control_parser.specs.Grammar.{in_string, in_osc, controls, text, Rest, nothing, escape, control, string, osc}
use Rattle.control_parser.specs.Grammar.{Piece, ends, unended, behind, broken, escape_of, control_of, control_end}
use Rattle.control_parser.specs.Grammar.{control_sequence, string_end, string_of, is_string_opener, begun_by}
use Rattle.control_parser.specs.Grammar.{escape_end, escape_sequence, alone, piece, with_front, functions_behind}

abbrev pub rest_begun : ℕ → List Func × Rest
rest_begun f =
    cond (f == 0x5B) ([], control [])
    (cond (f == 0x5D) ([], osc)
    (cond (is_string_opener f) ([], string)
    (escape_of [] f, nothing)))

abbrev pub rest_anew : Unit → List Func × Rest
rest_anew u =
    cond (code u == ESC) ([], escape [])
    (cond (is_c1 (code u)) (rest_begun (code u - 0x40))
    (alone u, nothing))

abbrev pub rest_broken : Unit → Bool → List Func × Rest
rest_broken u inside = cond (code u == SUB && inside) (Print 0xFFFD ∷ [], nothing) (rest_anew u)

abbrev pub rest_inside : Rest → Unit → List Func × Rest → List Func × Rest
rest_inside here u otherwise =
    cond (is_control (code u)) (Control (code u) ∷ [], here)
    (cond (code u == 0x7F) ([], here) otherwise)

abbrev pub rest_step : Rest → Unit → List Func × Rest
rest_step nothing u = rest_broken u false
rest_step string u = cond (breaks_string (code u)) (rest_broken u true) ([], string)
rest_step osc u = cond (code u == 7) ([], nothing) (cond (breaks_string (code u)) (rest_broken u true) ([], osc))
rest_step (escape t) u = rest_inside (escape t) u
    (cond (is_intermediate (code u)) ([], escape (t ++ code u ∷ []))
    (cond (is_final_from 0x2F (code u)) (cond (length t == 0) (rest_begun (code u)) (escape_of t (code u), nothing))
    (rest_broken u true)))
rest_step (control t) u = rest_inside (control t) u
    (cond (is_sequence_text (code u)) ([], control (t ++ code u ∷ []))
    (cond (is_final_from 0x3F (code u)) (control_of t (code u), nothing)
    (rest_broken u true)))

unfoldable pub machine : Rest → List Unit → List Func × Rest
machine r [] = ([], r)
machine r (u ∷ us) = with_front (rest_step r u).0 (machine (rest_step r u).1 us)

pub machine-append : (r : Rest) (us vs : List Unit)
    → machine r (us ++ vs) ≡ with_front (machine r us).0 (machine (machine r us).1 vs)
unfolding machine
machine-append r [] vs = refl
machine-append r (u ∷ us) vs = rw (machine-append (rest_step r u).1 us vs, append_assoc) refl

pub machine-one : (r : Rest) (u : Unit) → machine r (u ∷ []) ≡ rest_step r u
unfolding machine
machine-one r u = rw append-nil refl

-- the longest front, and the items after it, of which the first doesn't pass
while-drop : {A : Type 0} (p : A → Bool) (us : List A) → drop (length (while p us).0) us ≡ (while p us).1
while-drop p [] = refl
while-drop p (u ∷ us) = grind (arith, while-drop p us)

abbrev pub Stops : {A : Type 0} → (A → Bool) → List A → Type 0
Stops p [] = Prim.Unit {0}
Stops p (u ∷ us) = p u ≡ false

while-stops : {A : Type 0} (p : A → Bool) (us : List A) → Stops p (while p us).1
while-stops p [] = tt
while-stops {A} p (u ∷ us) = cond_both {A = List A × List A} (p u) (u ∷ (while p us).0, (while p us).1) ([], u ∷ us)
    (λ w. Stops p w.1) (λ e. while-stops p us) (λ e. e)

-- a run of units that a sequence goes on with
abbrev GoesOn : (Unit → Bool) → (List ℕ → Rest) → Type 0
GoesOn p K = (t : List ℕ) (u : Unit) → p u ≡ true → rest_step (K t) u ≡ (controls (u ∷ []), K (t ++ text (u ∷ [])))

controls-first : (u : Unit) (us : List Unit) → controls (u ∷ us) ≡ controls (u ∷ []) ++ controls us
unfolding controls
controls-first u us = grind arith

text-first : (u : Unit) (us : List Unit) → text (u ∷ us) ≡ text (u ∷ []) ++ text us
unfolding text
text-first u us = grind arith

runs : (p : Unit → Bool) (K : List ℕ → Rest) → GoesOn p K → (us : List Unit) (t : List ℕ)
    → machine (K t) us ≡ with_front (controls (while p us).0) (machine (K (t ++ text (while p us).0)) (while p us).1)
unfolding machine controls text
runs p K g [] t = rw (append-nil t) refl
runs p K g (u ∷ us) t = cond_both {A = List Unit × List Unit} (p u) (u ∷ (while p us).0, (while p us).1) ([], u ∷ us)
    (λ w. machine (K t) (u ∷ us) ≡ with_front (controls w.0) (machine (K (t ++ text w.0)) w.1))
    (λ e. rw (g t u e, runs p K g us (t ++ text (u ∷ [])))
    (simp (controls-first u (while p us).0, text-first u (while p us).0, append_assoc)))
    (λ e. rw (append-nil t) refl)

-- a string's contents are dropped
runs_dropped : (p : Unit → Bool) (r : Rest) → ((u : Unit) → p u ≡ true → rest_step r u ≡ ([], r)) → (us : List Unit)
    → machine r us ≡ machine r (while p us).1
unfolding machine
runs_dropped p r g [] = refl
runs_dropped p r g (u ∷ us) =
    cond_both {A = List Unit × List Unit} (p u) (u ∷ (while p us).0, (while p us).1) ([], u ∷ us)
    (λ w. machine r (u ∷ us) ≡ machine r w.1) (λ e. rw (g u e) (runs_dropped p r g us)) (λ e. refl)

goes_on_escape : GoesOn in_escape escape
unfolding controls text
goes_on_escape t u h = grind (arith, nat_tests, append-nil)

goes_on_control : GoesOn in_control control
unfolding controls text
goes_on_control t u h = grind (arith, nat_tests, append-nil)

goes_on_string : (u : Unit) → in_string u ≡ true → rest_step string u ≡ ([], string)
goes_on_string u h = grind (arith, nat_tests)

goes_on_osc : (u : Unit) → in_osc u ≡ true → rest_step osc u ≡ ([], osc)
goes_on_osc u h = grind (arith, nat_tests)

-- the functions of a piece, and then those of the units after it
abbrev pub outcome : Piece → List Unit → List Func × Rest
outcome (ends gives n) us = with_front gives (machine nothing (drop n us))
outcome (unended gives rest) us = (gives, rest)

outcome-behind : (front : List Func) (n : ℕ) (p : Piece) (us : List Unit)
    → outcome (behind front n p) us ≡ with_front front (outcome p (drop n us))
outcome-behind front n (ends gives k) us = rw (drop-drop k n us, append_assoc) refl
outcome-behind front n (unended gives rest) us = refl

one_more : (n : ℕ) (us : List Unit) (f : Unit) (after : List Unit) → drop n us ≡ f ∷ after → drop (n + 1) us ≡ after
one_more n us f after h = sym (drop-drop 1 n us) ∙ ap (λ l. drop 1 l) h

broken_reads : (n : ℕ) (us : List Unit) (f : Unit) (after : List Unit) → drop n us ≡ f ∷ after
    → with_front (rest_broken f true).0 (machine (rest_broken f true).1 after) ≡ outcome (broken n (code f)) us
unfolding machine
broken_reads n us f after h =
    let next : drop (n + 1) us ≡ after = one_more n us f after h in grind (arith, nat_tests)

-- the machine gives the functions of the piece
abbrev Reads : List Unit → List Unit → List Func × Rest → Piece → Type 0
Reads after us r p = with_front r.0 (machine r.1 after) ≡ outcome p us

pub cond_pair : {A B : Type 0} (b : Bool) (x y : A) (z w : B) (P : A → B → Type 0) → (b ≡ true → P x z)
    → (b ≡ false → P y w) → P (cond b x y) (cond b z w)
cond_pair true x y z w P h k = h refl
cond_pair false x y z w P h k = k refl

string_end_reads : (n : ℕ) (us after : List Unit) → drop n us ≡ after → Stops in_string after
    → machine string after ≡ outcome (string_end string n after) us
unfolding machine
string_end_reads n us [] h s = refl
string_end_reads n us (f ∷ after) h s =
    let e : breaks_string (code f) ≡ true = grind (arith, nat_tests) in
    let k : code f == 7 ≡ false = grind (arith, nat_tests) in
    rw (e, k) (broken_reads n us f after h)

string_reads : (us : List Unit) → machine string us ≡ outcome (string_of string in_string us) us
string_reads us = runs_dropped in_string string goes_on_string us
    ∙ string_end_reads (length (while in_string us).0) us (while in_string us).1 (while-drop in_string us)
    (while-stops in_string us)

osc_end_reads : (n : ℕ) (us after : List Unit) → drop n us ≡ after → Stops in_osc after
    → machine osc after ≡ outcome (string_end osc n after) us
unfolding machine
osc_end_reads n us [] h s = refl
osc_end_reads n us (f ∷ after) h s =
    let next : drop (n + 1) us ≡ after = one_more n us f after h in
    let broken = broken_reads n us f after h in
    let e : code f == 7 ≡ false → breaks_string (code f) ≡ true = λ e. grind (arith, nat_tests) in
    grind (arith, nat_tests)

osc_reads : (us : List Unit) → machine osc us ≡ outcome (string_of osc in_osc us) us
osc_reads us = runs_dropped in_osc osc goes_on_osc us
    ∙ osc_end_reads (length (while in_osc us).0) us (while in_osc us).1 (while-drop in_osc us) (while-stops in_osc us)

control_end_reads : (t : List ℕ) (n : ℕ) (us after : List Unit) → drop n us ≡ after → Stops in_control after
    → machine (control t) after ≡ outcome (control_end t n after) us
unfolding machine
control_end_reads t n us [] h s = refl
control_end_reads t n us (f ∷ after) h s =
    let a : is_control (code f) ≡ false = grind (arith, nat_tests) in
    let b : code f == 0x7F ≡ false = grind (arith, nat_tests) in
    let d : is_sequence_text (code f) ≡ false = grind (arith, nat_tests) in
    rw (a, b, d) (cond_pair (is_final_from 0x3F (code f)) _ _ _ _ (Reads after us)
    (λ e. rw (one_more n us f after h) refl) (λ e. broken_reads n us f after h))

control_reads : (us : List Unit) → machine (control []) us ≡ outcome (control_sequence us) us
control_reads us =
    let ins = (while in_control us).0 in
    let after = (while in_control us).1 in
    runs in_control control goes_on_control us []
    ∙ ap (with_front (controls ins))
    (control_end_reads (text ins) (length ins) us after (while-drop in_control us) (while-stops in_control us))
    ∙ sym (outcome-behind (controls ins) 0 (control_end (text ins) (length ins) after) us)

begun_reads : (c : ℕ) (us : List Unit)
    → with_front (rest_begun c).0 (machine (rest_begun c).1 us) ≡ outcome (begun_by c us) us
unfolding begun_by
begun_reads c us =
    cond_pair (c == 0x5B) _ _ _ _ (Reads us us) (λ e. control_reads us)
    (λ e. cond_pair (c == 0x5D) _ _ _ _ (Reads us us) (λ e. osc_reads us)
    (λ e. cond_pair (is_string_opener c) _ _ _ _ (Reads us us) (λ e. string_reads us) (λ e. refl)))

escape_end_reads : (t : List ℕ) (n : ℕ) (us after : List Unit) → drop n us ≡ after → Stops in_escape after
    → machine (escape t) after ≡ outcome (escape_end t n after) us
unfolding machine
escape_end_reads t n us [] h s = refl
escape_end_reads t n us (f ∷ after) h s =
    let a : is_control (code f) ≡ false = grind (arith, nat_tests) in
    let b : code f == 0x7F ≡ false = grind (arith, nat_tests) in
    let d : is_intermediate (code f) ≡ false = grind (arith, nat_tests) in
    rw (a, b, d) (cond_pair (is_final_from 0x2F (code f)) _ _ _ _ (Reads after us)
    (λ e. cond_pair (length t == 0) _ _ _ _ (Reads after us)
    (λ e. rw (outcome-behind [] (n + 1) (begun_by (code f) after) us, one_more n us f after h)
    (begun_reads (code f) after))
    (λ e. rw (one_more n us f after h) refl))
    (λ e. broken_reads n us f after h))

escape_reads : (us : List Unit) → machine (escape []) us ≡ outcome (escape_sequence us) us
escape_reads us =
    let ins = (while in_escape us).0 in
    let after = (while in_escape us).1 in
    runs in_escape escape goes_on_escape us []
    ∙ ap (with_front (controls ins))
    (escape_end_reads (text ins) (length ins) us after (while-drop in_escape us) (while-stops in_escape us))
    ∙ sym (outcome-behind (controls ins) 0 (escape_end (text ins) (length ins) after) us)

pub piece_reads : (u : Unit) (us : List Unit) → machine nothing (u ∷ us) ≡ outcome (piece u us) us
unfolding machine piece
piece_reads u us =
    let no : (code u == SUB && false) ≡ false = grind (arith, nat_tests) in
    rw no (cond_pair (code u == ESC) _ _ _ _ (Reads us us) (λ e. escape_reads us)
    (λ e. cond_pair (is_c1 (code u)) _ _ _ _ (Reads us us) (λ e. begun_reads (code u - 0x40) us) (λ e. refl)))

functions_behind-machine : (k : ℕ) (us : List Unit) → functions_behind k us ≡ machine nothing (drop k us)
unfolding functions_behind machine
functions_behind-machine zero [] = refl
functions_behind-machine (suc k) [] = refl
functions_behind-machine (suc k) (u ∷ us) = functions_behind-machine k us
functions_behind-machine zero (u ∷ us) = by (piece u us) (λ k. functions_behind-machine k us) ∙ sym (piece_reads u us)
  where
    by : (p : Piece) → ((k : ℕ) → functions_behind k us ≡ machine nothing (drop k us))
        → elim p as (λ _. List Func × Rest)
        [ ends gives more ↦ with_front gives (functions_behind more us) | unended gives rest ↦ (gives, rest) ] ≡
        outcome p us
    by (ends gives more) again = ap (with_front gives) (again more)
    by (unended gives rest) again = refl

pub functions-machine : (us : List Unit) → functions us ≡ machine nothing us
functions-machine us = functions_behind-machine 0 us
