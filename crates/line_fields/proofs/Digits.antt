-- Numbers in decimal digits.
use Rattle.std.proofs.Common.{◌≡◌, ℕ, ◌<◌, ◌≤◌, ◌^◌, Bool, true, false, cond, List, [], ◌∷◌, length, Option, Some, None}
use Rattle.std.proofs.Common.{Result, Ok, Err, arith, rules, ap, refl, sym, ◌∙◌}
use Rattle.std.specs.Prelude.{◌&&◌, nat_lt, MatchResult, MatchOption}
use Rattle.std.specs.Borrow.{Bor}
use Rattle.std.specs.Result.{result_ok}
use Rattle.std.specs.List.{list_all}
use Rattle.std.specs.Char.{is_ascii_digit}
use Rattle.std.specs.Str.{IsUtf8, IsAscii}
use Rattle.std.specs.Fmt.{decimal}
use Rattle.std.specs.Str.Parse.{digits_value, ParsesUnsigned}
use Rattle.std.proofs.lemmas.Bool.Decides.{nat_tests}
use Rattle.std.proofs.lemmas.Str.{IsUtf8-from_ascii}
use Rattle.std.proofs.lemmas.Str.Ascii.{IsAscii-nil, IsAscii-cons}
use Rattle.std.proofs.lemmas.Fmt.{digits_decimal, digits_value-decimal, decimal_nonempty}
use Rattle.std.proofs.lemmas.Str.Parse.{IsNumeralModel, numerals_by_value, parse_digits}
use Rattle.line_fields.specs.Numbers.{is_number, number_below}

abbrev pub AreDigits : List ℕ → Type 0
AreDigits word = list_all is_ascii_digit word ≡ true

record IsNumber (word : List ℕ) : Type 0 where
  some : 0 < length word
  digits : AreDigits word

parts : (word : List ℕ) → is_number word ≡ true → IsNumber word
unfolding is_number
parts word h = record { some = grind (arith, nat_tests); digits = grind (arith, nat_tests) }

pub own : IsNumeralModel AreDigits (digits_value 10)
own = numerals_by_value AreDigits (search rules)

digits_ascii : (word : List ℕ) → AreDigits word → IsAscii word
digits_ascii [] h = IsAscii-nil
digits_ascii (c ∷ word) h = IsAscii-cons c word (grind (arith, nat_tests))
    (digits_ascii word (grind (arith, nat_tests)))

pub number_utf8 : (word : List ℕ) → is_number word ≡ true → IsUtf8 word
number_utf8 word is = IsUtf8-from_ascii word (digits_ascii word (parts word is).digits)

-- ---- what was printed is read

pub digits : (n : ℕ) → n < 2 ^ 64 → AreDigits (decimal n)
digits n small = digits_decimal own n small

is_again : (n : ℕ) → n < 2 ^ 64 → is_number (decimal n) ≡ true
unfolding is_number
is_again n small =
    let some : 0 < length (decimal n) = decimal_nonempty n small in
    let all : list_all is_ascii_digit (decimal n) ≡ true = digits n small in
    grind (arith, nat_tests)

pub number_again : (limit n : ℕ) → n < limit → limit ≤ 2 ^ 64 → number_below limit (decimal n) ≡ Some n
unfolding number_below
number_again limit n small most =
    let fits : n < 2 ^ 64 = omega (arith, small, most) in
    let below : nat_lt n limit ≡ true = grind (arith, nat_tests) in
    (λ i. cond (is_again n fits i && nat_lt (digits_value-decimal own n fits i) limit)
    (Some (digits_value-decimal own n fits i)) None)
    ∙ ap (λ b. cond b (Some n) None) below

-- ---- parsing

within : (limit n : ℕ) → n < limit → nat_lt n limit ≡ true
within limit n small = grind (arith, nat_tests)

beyond : (limit n : ℕ) → (n < limit → ⊥) → nat_lt n limit ≡ false
beyond limit n over = ltb-false_from limit n over
  where
    ltb-false_from : (limit n : ℕ) → (n < limit → ⊥) → nat_lt n limit ≡ false
    ltb-false_from limit n over = grind (arith, nat_tests)

abbrev below_by : Bool → Bool → ℕ → Option ℕ
below_by is small value = cond (is && small) (Some value) None

pub number_parsed : {E : Type 0} (k : ℕ) (word : List ℕ) (r : Result ℕ E) → ParsesUnsigned k 10 word r
    → is_number word ≡ true → result_ok r ≡ number_below (2 ^ k) word
unfolding number_below
number_parsed {E} k word (Ok n) h is =
    let n-parts = parts word is in
    let p = parse_digits own {E = E} k word (Ok n) h n-parts.digits in
    ap Some p.1 ∙ sym ((λ i. below_by (is i) (within (2 ^ k) (digits_value 10 word) p.0.1 i) (digits_value 10 word)))
number_parsed {E} k word (Err e) h is =
    let n-parts = parts word is in
    let p = parse_digits own {E = E} k word (Err e) h n-parts.digits in
    sym (λ i. below_by (is i) (beyond (2 ^ k) (digits_value 10 word) (λ small. p (n-parts.some, small)) i)
    (digits_value 10 word))

pub not_number : (limit : ℕ) (word : List ℕ) → is_number word ≡ false → number_below limit word ≡ None
unfolding number_below
not_number limit word is = ap (λ b. below_by b (nat_lt (digits_value 10 word) limit) (digits_value 10 word)) is

pub digits_read : {E : Type 0} (Why : E → Type 0) (r : Result (Bor (List ℕ)) E) (word : List ℕ)
    → MatchResult r (λ digits. (digits.now ≡ word) × IsUtf8 word) (λ e. ¬ IsUtf8 word × Why e) → is_number word ≡ true
    → MatchOption (result_ok r) (is_number word ≡ false) (λ digits. (digits.now ≡ word) × (is_number word ≡ true))
digits_read Why (Ok digits) word h is = (h.0, is)
digits_read Why (Err e) word h is = absurd (h.0 (number_utf8 word is))
