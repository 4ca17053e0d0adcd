-- Numbers of one to four digits.
use Rattle.std.proofs.Common.{◌≡◌, ℕ, ◌<◌, ◌≤◌, ◌^◌, true, List, [], ◌∷◌, length, Result, Ok, arith, rules, ap, refl}
use Rattle.std.proofs.Common.{◌∙◌}
use Rattle.std.specs.Result.{result_ok}
use Rattle.std.specs.List.{list_all}
use Rattle.std.specs.Char.{is_ascii_digit}
use Rattle.std.specs.Str.{IsUtf8, IsAscii}
use Rattle.std.specs.Str.Parse.{digits_value, ParsesUnsigned}
use Rattle.std.proofs.lemmas.Bool.Decides.{nat_tests}
use Rattle.std.proofs.lemmas.Str.{IsUtf8-from_ascii}
use Rattle.std.proofs.lemmas.Str.Ascii.{IsAscii-nil, IsAscii-cons}
use Rattle.std.proofs.lemmas.Str.Parse.{IsNumeralModel, numerals_by_value, digits_value_short, parse_gives}
use Rattle.client_words.specs.Lines.{is_number, number_of}

abbrev pub AreDigits : List ℕ → Type 0
AreDigits word = list_all is_ascii_digit word ≡ true

record IsNumber (word : List ℕ) : Type 0 where
  some : 0 < length word
  short : length word ≤ 4
  digits : AreDigits word

parts : (word : List ℕ) → is_number word ≡ true → IsNumber word
unfolding is_number
parts word h = record
    { some = grind (arith, nat_tests); short = grind (arith, nat_tests); digits = grind (arith, nat_tests) }

pub own : IsNumeralModel AreDigits (digits_value 10)
own = numerals_by_value AreDigits (search rules)

parsed : {E : Type 0} (word : List ℕ) (r : Result ℕ E) → ParsesUnsigned 16 10 word r → IsNumber word
    → r ≡ Ok (digits_value 10 word)
parsed word r h n =
    let small : digits_value 10 word < 10 ^ 4 = digits_value_short own word 4 n.digits n.short in
    parse_gives own 16 word r h n.digits n.some (omega (arith, small))

pub number_parsed : {E : Type 0} (word : List ℕ) (r : Result ℕ E) → ParsesUnsigned 16 10 word r → is_number word ≡ true
    → result_ok r ≡ number_of word
number_parsed word r h is = ap result_ok (parsed word r h (parts word is)) ∙ rw is refl

digits_ascii : (word : List ℕ) → AreDigits word → IsAscii word
digits_ascii [] h = IsAscii-nil
digits_ascii (c ∷ word) h = IsAscii-cons c word (grind (arith, nat_tests))
    (digits_ascii word (grind (arith, nat_tests)))

pub number_utf8 : (word : List ℕ) → is_number word ≡ true → IsUtf8 word
number_utf8 word is = IsUtf8-from_ascii word (digits_ascii word (parts word is).digits)
