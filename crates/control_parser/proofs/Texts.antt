-- The text of a control sequence with one more character.
use Rattle.control_parser.proofs.Vocabulary.{◌≡◌, ℕ, zero, suc, ◌+◌, ◌-◌, ◌*◌, ◌<◌, Bool, true, false, not, ◌&&◌, cond}
use Rattle.control_parser.proofs.Vocabulary.{List, [], ◌∷◌, ◌++◌, length, take, map, Option, Some, None, refl, ap, ◌∙◌}
use Rattle.control_parser.proofs.Vocabulary.{arith, length-append, take_all, nat_lt, nat_le, ◌==◌, list_all, nat_tests}
use Rattle.control_parser.proofs.Vocabulary.{length-take, take-append-le, map-append, list_all-append, SequenceText}
use Rattle.control_parser.proofs.Vocabulary.{is_intermediate, is_digit, is_number, is_mark, while, number_after, value}
use Rattle.control_parser.proofs.Vocabulary.{onto_first, fields, values, mark_of, unmarked, longer, digit_added}
use Rattle.control_parser.proofs.Vocabulary.{text_grown, parts}

-- numbers
number_after-push : (n : ℕ) (digits : List ℕ) (d : ℕ)
    → number_after n (digits ++ d ∷ []) ≡ number_after n digits * 10 + (d - 0x30)
number_after-push n [] d = refl
number_after-push n (x ∷ digits) d = number_after-push (n * 10 + (x - 0x30)) digits d

value-push : (digits : List ℕ) (d : ℕ) → value (digits ++ d ∷ []) ≡ longer (value digits) (d - 0x30)
value-push digits d = rw (number_after-push 0 digits d) (omega arith)

pub full_fields : (cs : List ℕ) → 0 < length (fields cs)
unfolding fields
full_fields [] = omega arith
full_fields (c ∷ cs) = grind (arith, nat_tests, full_fields cs)

-- the last field with one more character
abbrev last_grown : List (List ℕ) → ℕ → List (List ℕ)
last_grown [] d = []
last_grown (f ∷ []) d = (f ++ d ∷ []) ∷ []
last_grown (f ∷ g ∷ fs) d = f ∷ last_grown (g ∷ fs) d

grown_first : (c d : ℕ) (fs : List (List ℕ)) → 0 < length fs
    → cond (c == 0x3B) ([] ∷ last_grown fs d) (onto_first c (last_grown fs d))
    ≡ last_grown (cond (c == 0x3B) ([] ∷ fs) (onto_first c fs)) d
grown_first c d [] h = absurd (omega arith)
grown_first c d (f ∷ []) h = grind arith
grown_first c d (f ∷ g ∷ fs) h = grind arith

fields-digit : (cs : List ℕ) (d : ℕ) → (d == 0x3B) ≡ false → fields (cs ++ d ∷ []) ≡ last_grown (fields cs) d
unfolding fields
fields-digit [] d h = rw h refl
fields-digit (c ∷ cs) d h = rw (fields-digit cs d h) (grown_first c d (fields cs) (full_fields cs))

next_first : (c : ℕ) (fs : List (List ℕ)) → 0 < length fs
    → cond (c == 0x3B) ([] ∷ (fs ++ [] ∷ [])) (onto_first c (fs ++ [] ∷ []))
    ≡ cond (c == 0x3B) ([] ∷ fs) (onto_first c fs) ++ [] ∷ []
next_first c [] h = absurd (omega arith)
next_first c (f ∷ fs) h = grind arith

fields-next : (cs : List ℕ) → fields (cs ++ 0x3B ∷ []) ≡ fields cs ++ [] ∷ []
unfolding fields
fields-next [] = refl
fields-next (c ∷ cs) = rw (fields-next cs) (next_first c (fields cs) (full_fields cs))

map-last_grown : (fs : List (List ℕ)) (d : ℕ) → map value (last_grown fs d) ≡ digit_added (map value fs) (d - 0x30)
map-last_grown [] d = refl
map-last_grown (f ∷ []) d = ap (λ v. v ∷ []) (value-push f d)
map-last_grown (f ∷ g ∷ fs) d = ap (λ l. value f ∷ l) (map-last_grown (g ∷ fs) d)

values-digit : (cs : List ℕ) (d : ℕ) → (d == 0x3B) ≡ false → values (cs ++ d ∷ []) ≡ digit_added (values cs) (d - 0x30)
values-digit cs d h = ap (map value) (fields-digit cs d h) ∙ map-last_grown (fields cs) d

values-next : (cs : List ℕ) → values (cs ++ 0x3B ∷ []) ≡ values cs ++ 0 ∷ []
values-next cs = ap (map value) (fields-next cs) ∙ map-append value (fields cs) ([] ∷ [])

-- at most sixteen parameters count
take-digit : (n : ℕ) (vs : List ℕ) (d : ℕ) → n < length vs → take n (digit_added vs d) ≡ take n vs
take-digit zero vs d h = refl
take-digit (suc n) [] d h = absurd (omega arith)
take-digit (suc n) (v ∷ []) d h = absurd (omega arith)
take-digit (suc n) (v ∷ w ∷ vs) d h = ap (λ l. v ∷ l) (take-digit n (w ∷ vs) d (omega arith))

length-digit : (vs : List ℕ) (d : ℕ) → length (digit_added vs d) ≡ length vs
length-digit [] d = refl
length-digit (v ∷ []) d = refl
length-digit (v ∷ w ∷ vs) d = ap suc (length-digit (w ∷ vs) d)

-- the sixteen parameters that count, with one more digit, and with one more parameter
params-digit : (vs : List ℕ) (d : ℕ)
    → take 16 (digit_added vs d) ≡ cond (nat_lt 16 (length vs)) (take 16 vs) (digit_added (take 16 vs) d)
params-digit vs d =
    grind (arith, nat_tests, take-digit 16 vs d, take_all 16 vs, take_all 16 (digit_added vs d), length-digit vs d)

params-next : (vs : List ℕ)
    → take 16 (vs ++ 0 ∷ []) ≡ cond (nat_lt (length (take 16 vs)) 16) (take 16 vs ++ 0 ∷ []) (take 16 vs)
params-next vs =
    grind (
      arith,
      nat_tests,
      length-take 16 vs,
      take_all 16 vs,
      take_all 16 (vs ++ 0 ∷ []),
      take-append-le 16 vs (0 ∷ []),
      length-append vs (0 ∷ []),
    )

over-next : (vs : List ℕ)
    → nat_lt 16 (length (vs ++ 0 ∷ [])) ≡ cond (nat_lt (length (take 16 vs)) 16) (nat_lt 16 (length vs)) true
over-next vs = grind (arith, nat_tests, length-take, length-append)

-- the longest front, with one more character
abbrev pushed : List ℕ × List ℕ → Bool → ℕ → List ℕ × List ℕ
pushed (front, []) b c = cond b (front ++ c ∷ [], []) (front, c ∷ [])
pushed (front, a ∷ later) b c = (front, a ∷ (later ++ c ∷ []))

while-push : (p : ℕ → Bool) (xs : List ℕ) (c : ℕ) → while p (xs ++ c ∷ []) ≡ pushed (while p xs) (p c) c
while-push p [] c = refl
while-push p (x ∷ xs) c = grind (arith, while-push p xs c)

unmarked-push : (x : ℕ) (xs : List ℕ) (c : ℕ) → unmarked (x ∷ (xs ++ c ∷ [])) ≡ unmarked (x ∷ xs) ++ c ∷ []
unmarked-push x xs c = grind arith

abbrev are_fine : List ℕ → Bool
are_fine is = list_all is_intermediate is && nat_le (length is) 2

abbrev found : Bool → Option ℕ → List ℕ → List ℕ → SequenceText
found begun mark front is = record {
  begun = begun;
  mark = mark;
  params = take 16 (values front);
  over = nat_lt 16 (length (values front));
  intermediates = is;
}

abbrev finish : Bool → Option ℕ → List ℕ × List ℕ → Option SequenceText
finish begun mark w = cond (are_fine w.1) (Some (found begun mark w.0 w.1)) None

abbrev pub grown : Option SequenceText → ℕ → Option SequenceText
grown None c = None
grown (Some t) c = text_grown t c

digit_found : (begun : Bool) (mark : Option ℕ) (front : List ℕ) (c : ℕ) → is_digit c ≡ true
    → let t = found begun mark front [] in
    found true mark (front ++ c ∷ []) [] ≡
    record t { begun = true; params = cond t.over t.params (digit_added t.params (c - 0x30)) }
digit_found begun mark front c h =
    let other : (c == 0x3B) ≡ false = grind (arith, nat_tests) in
    rw (values-digit front c other, params-digit (values front) (c - 0x30), length-digit (values front) (c - 0x30)) refl

next_found : (begun : Bool) (mark : Option ℕ) (front : List ℕ) (c : ℕ) → (c == 0x3B) ≡ true
    → let t = found begun mark front [] in
    found true mark (front ++ c ∷ []) [] ≡
    record t {
      begun = true;
      params = cond (nat_lt (length t.params) 16) (t.params ++ 0 ∷ []) t.params;
      over = cond (nat_lt (length t.params) 16) t.over true;
    }
next_found begun mark front c h =
    let is : c ≡ 0x3B = grind (arith, nat_tests) in
    rw (is, values-next front, params-next (values front), over-next (values front)) refl

-- after digits and semicolons only, and after intermediates
bare-push : (begun : Bool) (mark : Option ℕ) (front : List ℕ) (c : ℕ) → (is_mark c && not begun) ≡ false
    → finish true mark (pushed (front, []) (is_number c) c) ≡ text_grown (found begun mark front []) c
bare-push begun mark front c h =
    grind (arith, nat_tests, digit_found begun mark front c, next_found begun mark front c)

more-push : (begun : Bool) (mark : Option ℕ) (front : List ℕ) (a : ℕ) (later : List ℕ) (c : ℕ)
    → finish true mark (front, a ∷ (later ++ c ∷ [])) ≡ grown (finish begun mark (front, a ∷ later)) c
more-push begun mark front a later c =
    grind (arith, nat_tests, list_all-append is_intermediate later (c ∷ []), length-append later (c ∷ []))

finish-push : (begun : Bool) (mark : Option ℕ) (w : List ℕ × List ℕ) (c : ℕ) → (is_mark c && not begun) ≡ false
    → finish true mark (pushed w (is_number c) c) ≡ grown (finish begun mark w) c
finish-push begun mark (front, []) c h = bare-push begun mark front c h
finish-push begun mark (front, a ∷ later) c h = more-push begun mark front a later c

pub parts-push : (text : List ℕ) (c : ℕ) → parts (text ++ c ∷ []) ≡ grown (parts text) c
unfolding parts fields
parts-push [] c = grind (arith, nat_tests)
parts-push (x ∷ xs) c =
    let some : not (length (x ∷ (xs ++ c ∷ [])) == 0) ≡ true = grind (arith, nat_tests) in
    let begun : (is_mark c && not (not (length (x ∷ xs) == 0))) ≡ false = grind (arith, nat_tests) in
    rw some (ap (λ l. finish true (mark_of (x ∷ xs)) (while is_number l)) (unmarked-push x xs c)
    ∙ ap (finish true (mark_of (x ∷ xs))) (while-push is_number (unmarked (x ∷ xs)) c)
    ∙ finish-push (not (length (x ∷ xs) == 0)) (mark_of (x ∷ xs)) (while is_number (unmarked (x ∷ xs))) c begun)
