-- Spelled functions are read back.
use Rattle.control_parser.proofs.Vocabulary.{◌≡◌, ℕ, ◌<◌, ◌≤◌, Bool, true, false, ◌&&◌, cond, List, [], ◌∷◌, ◌++◌}
use Rattle.control_parser.proofs.Vocabulary.{length, take, map, Option, Some, None, IfSome, option_to_list, refl, ap}
use Rattle.control_parser.proofs.Vocabulary.{◌∙◌, arith, append_assoc, take_all, nat_lt, nat_le, list_all, flat_map}
use Rattle.control_parser.proofs.Vocabulary.{nat_tests, append-nil, map-append, list_all-append, Utf8, Func, Print}
use Rattle.control_parser.proofs.Vocabulary.{Control, Csi, is_intermediate, is_digit, is_number, is_mark, while, value}
use Rattle.control_parser.proofs.Vocabulary.{fields, values, mark_of, unmarked, parameter, spelling, IsGiven, ReadsAs}
use Rattle.charsets.specs.declared.decoder.Unit.TheVariants as units
use Rattle.charsets.specs.Utf8.{codes, cut}
use Rattle.charsets.proofs.Encoded.{one_byte, codes-encode}
use Rattle.control_parser.specs.declared.parser.Func.TheVariants.{High, Esc}
use Rattle.control_parser.specs.Grammar.{is_control, is_graphic, is_sequence_text, Rest, nothing, escape, control}
use Rattle.control_parser.specs.Grammar.{escape_of, control_of}
use Rattle.control_parser.specs.Spelling.{decimal, numerals, coding_of, are_intermediates, begins_none}
use Rattle.control_parser.proofs.Machine.{Stops, rest_step, machine, machine-append, machine-one, functions-machine}
use Rattle.control_parser.proofs.Openings.{coded, control_text, escape_text, intermediates_text}
use Rattle.control_parser.proofs.Texts.{full_fields}

abbrev is_low : ℕ → Bool
is_low c = nat_lt c 0x80

codes-low : (bs : List ℕ) → list_all is_low bs ≡ true → codes bs ≡ (bs, [])
unfolding cut
codes-low [] h = refl
codes-low (b ∷ bs) h = grind (arith, nat_tests, one_byte, codes-low bs)

pub reads_low : (bs : List ℕ) (given : List Func) → list_all is_low bs ≡ true
    → machine nothing (coded bs) ≡ (given, nothing) → ReadsAs Utf8 bs given
reads_low bs given h e =
    (ap (λ (x : List ℕ × List ℕ). x.1) (codes-low bs h), rw (codes-low bs h) (functions-machine (coded bs) ∙ e))

-- the text of a sequence, up to its final
run_ended : (r r' : Rest) (text : List ℕ) (last : ℕ) (given : List Func) → machine r (coded text) ≡ ([], r')
    → rest_step r' (units.Code last) ≡ (given, nothing) → machine r (coded (text ++ last ∷ [])) ≡ (given, nothing)
run_ended r r' text last given h e =
    rw (map-append (λ (c : ℕ). units.Code c) text (last ∷ []), machine-append r (coded text) (coded (last ∷ [])), h)
    (machine-one r' (units.Code last) ∙ e)

pub control_run : (text : List ℕ) (last : ℕ) → list_all is_sequence_text text ≡ true → 0x3F < last → last < 0x7F
    → machine (control []) (coded (text ++ last ∷ [])) ≡ (control_of text last, nothing)
control_run text last h low high =
    run_ended (control []) (control text) text last (control_of text last) (control_text text h)
    (grind (arith, nat_tests))

final_escape : (t : List ℕ) (last : ℕ) → begins_none t last ≡ true → 0x2F < last → last < 0x7F
    → rest_step (escape t) (units.Code last) ≡ (escape_of t last, nothing)
final_escape [] last n low high = grind (arith, nat_tests)
final_escape (x ∷ t) last n low high = grind (arith, nat_tests)

escape_run : (text : List ℕ) (last : ℕ) → list_all is_intermediate text ≡ true → 0x2F < last → last < 0x7F
    → begins_none text last ≡ true → machine (escape []) (coded (text ++ last ∷ [])) ≡ (escape_of text last, nothing)
escape_run text last h low high n =
    run_ended (escape []) (escape text) text last (escape_of text last) (escape_text text h)
    (final_escape text last n low high)

-- numerals
value-decimal : (n : ℕ) → n < 10000 → value (decimal n) ≡ n
unfolding decimal
value-decimal n h = grind (arith, nat_tests)

value-parameter : (n : ℕ) → n < 10000 → value (parameter n) ≡ n
value-parameter n h = grind (arith, nat_tests, value-decimal n h)

pub all_weaker : (p q : ℕ → Bool) → ((x : ℕ) → p x ≡ true → q x ≡ true) → (xs : List ℕ) → list_all p xs ≡ true
    → list_all q xs ≡ true
all_weaker p q w [] h = refl
all_weaker p q w (x ∷ xs) h = grind (arith, w x, all_weaker p q w xs)

digits-decimal : (n : ℕ) → list_all is_digit (decimal n) ≡ true
unfolding decimal
digits-decimal n = grind (arith, nat_tests)

digits-parameter : (n : ℕ) → list_all is_digit (parameter n) ≡ true
digits-parameter n = grind (arith, digits-decimal n)

-- the fields of numerals
abbrev front_fields : List ℕ → List (List ℕ) → List (List ℕ)
front_fields ds [] = ds ∷ []
front_fields ds (f ∷ fs) = (ds ++ f) ∷ fs

fields_front : (ds rest : List ℕ) → list_all is_digit ds ≡ true → fields (ds ++ rest) ≡ front_fields ds (fields rest)
unfolding fields
fields_front [] rest h = grind (arith, full_fields rest)
fields_front (c ∷ ds) rest h = grind (arith, nat_tests, fields_front ds rest)

abbrev others : List ℕ → List ℕ
others ns = flat_map (λ m. 0x3B ∷ parameter m) ns

fields-numerals : (n : ℕ) (ns : List ℕ) → fields (parameter n ++ others ns) ≡ parameter n ∷ map parameter ns
unfolding fields
fields-numerals n [] = fields_front (parameter n) [] (digits-parameter n) ∙ ap (λ l. l ∷ []) (append-nil (parameter n))
fields-numerals n (m ∷ ms) =
    fields_front (parameter n) (others (m ∷ ms)) (digits-parameter n)
    ∙ ap (λ fs. front_fields (parameter n) ([] ∷ fs)) (fields-numerals m ms)
    ∙ ap (λ l. l ∷ parameter m ∷ map parameter ms) (append-nil (parameter n))

values-map : (ns : List ℕ) → list_all (λ n. nat_lt n 10000) ns ≡ true → map value (map parameter ns) ≡ ns
values-map [] h = refl
values-map (n ∷ ns) h = rw (value-parameter n (grind (arith, nat_tests)), values-map ns (grind arith)) refl

values-numerals : (n : ℕ) (ns : List ℕ) → list_all (λ n. nat_lt n 10000) (n ∷ ns) ≡ true
    → values (numerals (n ∷ ns)) ≡ n ∷ ns
values-numerals n ns h = ap (map value) (fields-numerals n ns) ∙ values-map (n ∷ ns) h

-- all of them are digits and semicolons
numbers-parameter : (n : ℕ) → list_all is_number (parameter n) ≡ true
numbers-parameter n = all_weaker is_digit is_number (λ c h. rw h refl) (parameter n) (digits-parameter n)

numbers-others : (ns : List ℕ) → list_all is_number (others ns) ≡ true
numbers-others [] = refl
numbers-others (n ∷ ns) =
    rw (list_all-append is_number (parameter n) (others ns), numbers-parameter n, numbers-others ns) refl

numbers-numerals : (n : ℕ) (ns : List ℕ) → list_all is_number (numerals (n ∷ ns)) ≡ true
numbers-numerals n ns = numbers-others (n ∷ ns)

while_all : (p : ℕ → Bool) (xs ys : List ℕ) → list_all p xs ≡ true → Stops p ys → while p (xs ++ ys) ≡ (xs, ys)
while_all p [] [] h s = refl
while_all p [] (y ∷ ys) h s = rw s refl
while_all p (x ∷ xs) ys h s = grind (arith, while_all p xs ys)

stops_intermediates : (is : List ℕ) → list_all is_intermediate is ≡ true → Stops is_number is
stops_intermediates [] h = tt
stops_intermediates (c ∷ cs) h = grind (arith, nat_tests)

-- numerals and intermediates begin with no private marker
record IsUnmarked (text : List ℕ) : Type 0 where
  mark : mark_of text ≡ None
  same : unmarked text ≡ text

digits_unmarked : (ds rest : List ℕ) → list_all is_digit ds ≡ true → IsUnmarked rest → IsUnmarked (ds ++ rest)
digits_unmarked [] rest h k = k
digits_unmarked (c ∷ ds) rest h k = grind (arith, nat_tests)

intermediates_unmarked : (is : List ℕ) → list_all is_intermediate is ≡ true → IsUnmarked is
intermediates_unmarked [] h = record { mark = refl; same = refl }
intermediates_unmarked (c ∷ cs) h = grind (arith, nat_tests)

others_unmarked : (ns is : List ℕ) → list_all is_intermediate is ≡ true → IsUnmarked (others ns ++ is)
others_unmarked [] is h = intermediates_unmarked is h
others_unmarked (n ∷ ns) is h = record { mark = refl; same = refl }

-- the text of a control sequence
abbrev csi_text : Option ℕ → List ℕ → List ℕ → List ℕ
csi_text mark params is = option_to_list mark ++ (numerals params ++ is)

record HasText (m : Option ℕ) (numbers : List ℕ) (text : List ℕ) : Type 0 where
  mark : mark_of text ≡ m
  rest : unmarked text ≡ numbers

text_parts : (mark : Option ℕ) (n : ℕ) (ns is : List ℕ) → IfSome mark (λ m. is_mark m ≡ true)
    → list_all is_intermediate is ≡ true → HasText mark (numerals (n ∷ ns) ++ is) (csi_text mark (n ∷ ns) is)
text_parts None n ns is h k =
    let u = digits_unmarked (parameter n) (others ns ++ is) (digits-parameter n) (others_unmarked ns is k) in
    rw (append_assoc (parameter n) (others ns) is) (record { mark = u.mark; rest = u.same })
text_parts (Some m) n ns is h k = record { mark = rw h refl; rest = rw h refl }

control_of-spelled : (mark : Option ℕ) (n : ℕ) (ns is : List ℕ) (last : ℕ) → IfSome mark (λ m. is_mark m ≡ true)
    → length (n ∷ ns) ≤ 16
    → list_all (λ n. nat_lt n 10000) (n ∷ ns) ≡ true → are_intermediates is ≡ true
    → control_of (csi_text mark (n ∷ ns) is) last ≡ Csi mark (n ∷ ns) is last ∷ []
control_of-spelled mark n ns is last h few low fine =
    let ps = n ∷ ns in
    let inner : list_all is_intermediate is ≡ true = grind arith in
    let t = text_parts mark n ns is h inner in
    let w : while is_number (unmarked (csi_text mark ps is)) ≡ (numerals ps, is) =
    ap (while is_number) t.rest
    ∙ while_all is_number (numerals ps) is (numbers-numerals n ns) (stops_intermediates is inner) in
    let vs : take 16 (values (numerals ps)) ≡ ps = ap (take 16) (values-numerals n ns low) ∙ take_all 16 ps few in
    ap (λ (x : List ℕ × List ℕ). cond (list_all is_intermediate x.1 && nat_le (length x.1) 2)
    (Csi (mark_of (csi_text mark ps is)) (take 16 (values x.0)) x.1 last ∷ []) []) w
    ∙ rw (fine, t.mark, vs) refl

-- a single function
pub print_reads : (c : ℕ) → is_graphic c ≡ true → rest_step nothing (units.Code c) ≡ (Print c ∷ [], nothing)
print_reads c h = grind (arith, nat_tests)

control_reads : (c : ℕ) → is_control c ≡ true → rest_step nothing (units.Code c) ≡ (Control c ∷ [], nothing)
control_reads c h = grind (arith, nat_tests)

-- the bytes of a sequence are below 80
number_text : (c : ℕ) → is_number c ≡ true → is_sequence_text c ≡ true
number_text c h = grind (arith, nat_tests)

mark_text : (m : Option ℕ) → IfSome m (λ m. is_mark m ≡ true) → list_all is_sequence_text (option_to_list m) ≡ true
mark_text None h = refl
mark_text (Some c) h = grind (arith, nat_tests)

pub last_low : (text : List ℕ) (last : ℕ) → list_all is_sequence_text text ≡ true → last < 0x7F
    → list_all is_low (text ++ last ∷ []) ≡ true
last_low [] last h l = grind (arith, nat_tests)
last_low (c ∷ text) last h l = grind (arith, nat_tests, last_low text last)

pub spelled_reads : (f : Func) → IsGiven f → ReadsAs (coding_of f) (spelling f) (f ∷ [])
unfolding machine
spelled_reads (Print c) h = (
  ap (λ (x : List ℕ × List ℕ). x.1) (codes-encode c h.1),
  rw (codes-encode c h.1)
      (functions-machine (units.Code c ∷ []) ∙ machine-one nothing (units.Code c) ∙ print_reads c h.0),
)
spelled_reads (High b) h =
    let e : nat_lt b 0xA0 ≡ false = grind (arith, nat_tests) in (refl, rw e (functions-machine (units.High b ∷ [])))
spelled_reads (Control c) h =
    reads_low (c ∷ []) (Control c ∷ []) (grind (arith, nat_tests))
    (machine-one nothing (units.Code c) ∙ control_reads c h)
spelled_reads (Esc is last) (fine, above, below, begins) =
    let inner : list_all is_intermediate is ≡ true = grind arith in
    let few : nat_le (length is) 2 ≡ true = grind arith in
    reads_low (0x1B ∷ (is ++ last ∷ [])) (Esc is last ∷ []) (last_low is last (intermediates_text is inner) below)
    (escape_run is last inner above below begins ∙ rw few refl)
spelled_reads (Csi mark [] is last) (marks, some, few, low, fine, above, below) = absurd (omega arith)
spelled_reads (Csi mark (n ∷ ns) is last) (marks, some, few, low, fine, above, below) =
    let inner : list_all is_intermediate is ≡ true = grind arith in
    let text = csi_text mark (n ∷ ns) is in
    let numbers = all_weaker is_number is_sequence_text number_text (numerals (n ∷ ns)) (numbers-numerals n ns) in
    let t : list_all is_sequence_text text ≡ true =
    rw (
      list_all-append is_sequence_text (option_to_list mark) (numerals (n ∷ ns) ++ is),
      mark_text mark marks,
      list_all-append is_sequence_text (numerals (n ∷ ns)) is,
      numbers,
      intermediates_text is inner,
    ) refl in
    reads_low (0x1B ∷ 0x5B ∷ (text ++ last ∷ [])) (Csi mark (n ∷ ns) is last ∷ []) (last_low text last t below)
    (control_run text last t above below ∙ rw (control_of-spelled mark n ns is last marks few low fine) refl)
