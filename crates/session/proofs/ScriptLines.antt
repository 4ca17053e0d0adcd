-- The line of an event is read as this event.
use Rattle.session.proofs.Vocabulary.{◌≡◌, ℕ, ◌<◌, ◌≤◌, ◌^◌, List, [], ◌∷◌, ◌++◌, length, ap, refl, ◌∙◌, arith, subst}
use Rattle.session.proofs.Vocabulary.{Bool, true, false, ◌&&◌, cond, nat_le, min, Option, Some, None, option_map, codes}
use Rattle.session.proofs.Vocabulary.{list_all, decimal, is_utf8, bytes_eq, nat_tests, length-decimal-le, UserId}
use Rattle.session.proofs.Vocabulary.{is_name_byte, is_name, name_of, number_of, window_of, value_of, if_utf8, title_of}
use Rattle.session.proofs.Vocabulary.{event_of, escaped}
use Rattle.std.specs.Char.{is_ascii_digit}
use Rattle.std.proofs.lemmas.Bool.{and_parts}
use Rattle.line_fields.specs.Cutting.{is_byte}
use Rattle.line_fields.specs.Events.{Field, User, Number, Serial, Window, Bytes, Text, Title, Value, row_of, word_of}
use Rattle.line_fields.specs.Events.{Parts}
use Rattle.line_fields.specs.Numbers.{number_below}
use Rattle.line_fields.specs.Parts.{blank}
use Rattle.line_fields.specs.Rows.{Values, fields_in, made_in, Each, AllBut}
use Rattle.line_fields.specs.declared.events.EventKind.{EventKind}
use Rattle.line_fields.specs.declared.events.EventKind.TheVariants as kind
use Rattle.line_fields.proofs.Again.{free, apart_blank}
use Rattle.line_fields.proofs.Digits as numbers
use Rattle.line_fields.proofs.EventParts.{kind_again, word_part, parts_of, made_again}
use Rattle.line_fields.proofs.Rows.{IsAgain, HasField, first_then, after_is, row_again}
use Rattle.line_fields.proofs.Words.{IsFree, passing, first_field}
use Rattle.session.specs.ReadBack.{IsText, IsNamed, IsNumber, IsWindow, window_field, printed, line_of, event_line}
use Rattle.session.specs.ReadBack.{CanSay, CanSayAll, IsSayable, ReadsEvents}
use Rattle.session.proofs.ReadBack.{reads_texts}

-- a word has no blank
abbrev IsWord : List ℕ → Type 0
IsWord word = IsFree blank word

-- ---- numbers

digit_apart : (c : ℕ) → is_ascii_digit c ≡ true → is_byte 0x20 c ≡ false
digit_apart c is = grind (arith, nat_tests)

wide : (n : ℕ) → IsNumber n → n < 2 ^ 64
wide n small = omega (arith, small)

digits : (n : ℕ) → IsNumber n → numbers.AreDigits (decimal n)
digits n small = numbers.digits n (wide n small)

number_word : (n : ℕ) → IsNumber n → IsWord (decimal n)
number_word n small = passing 0x20 is_ascii_digit digit_apart (decimal n) (digits n small)

four : (n : ℕ) → IsNumber n → nat_le (length (decimal n)) 4 ≡ true
four n small =
    let short : length (decimal n) ≤ 4 = length-decimal-le 4 n (omega arith) (omega (arith, small)) (wide n small) in
    grind (arith, nat_tests)

number_again : (n : ℕ) → IsNumber n → number_of (decimal n) ≡ Some n
number_again n small =
    ap (λ b. cond b (number_below (2 ^ 16) (decimal n)) None) (four n small)
    ∙ numbers.number_again (2 ^ 16) n (omega (arith, small)) (omega arith)

-- ---- windows of commands

no_dash : (word : List ℕ) → numbers.AreDigits word → bytes_eq word (codes "-") ≡ false
no_dash [] all = refl
no_dash (c ∷ word) all = grind (arith, nat_tests)

window_number : (n : ℕ) → n < 256 → IsNumber n
window_number n small = omega (arith, small)

least : (n : ℕ) → n < 256 → min n 255 ≡ n
least n small = omega (arith, small)

window_word : (window : Option ℕ) → IsWindow window → IsWord (window_field window)
window_word None is = record { free = refl }
window_word (Some n) is = number_word n (window_number n is)

window_again : (window : Option ℕ) → IsWindow window → window_of (window_field window) ≡ Some window
window_again None is = refl
window_again (Some n) is =
    ap (λ b. cond b (Some None) (option_map (λ number. Some (min number 255)) (number_of (decimal n))))
    (no_dash (decimal n) (digits n (window_number n is)))
    ∙ ap (option_map (λ number. Some (min number 255))) (number_again n (window_number n is))
    ∙ ap (λ m. Some (Some m)) (least n is)

-- ---- names

name_apart : (c : ℕ) → is_name_byte c ≡ true → is_byte 0x20 c ≡ false
name_apart c is = grind (arith, nat_tests)

is_there : {A : Type 0} (b : Bool) (x y : A) → cond b (Some x) None ≡ Some y → b ≡ true
is_there true x y e = refl
is_there false x y e = cc

bytes_of_name : (word : List ℕ) → is_name word ≡ true → list_all is_name_byte word ≡ true
bytes_of_name word is = grind (arith, nat_tests)

name_word : (user : UserId) → IsNamed user → IsWord (name_of user)
name_word user named = passing 0x20 is_name_byte name_apart (name_of user)
    (bytes_of_name (name_of user) (is_there _ _ _ named))

-- ---- titles

title_again : (title : List ℕ) → IsText title → is_utf8 title ≡ true → title_of (escaped title) ≡ Some title
title_again title text is = ap if_utf8 (reads_texts title text) ∙ ap (λ b. cond b (Some title) None) is

-- ---- fields

-- fields of one word
abbrev is_word : Field → Bool
is_word Bytes = false
is_word Text = false
is_word Title = false
is_word f = true

-- there is a field, and each but the last is one word
abbrev is_row : List Field → Bool
is_row [] = false
is_row (f ∷ []) = true
is_row (f ∷ g ∷ fs) = is_word f && is_row (g ∷ fs)

one_word : (f : Field) (v : Value f) → is_word f ≡ true → CanSay f v → IsWord (printed f v)
one_word User user is can = name_word user can
one_word Number n is can = number_word n can
one_word Serial n is can = number_word n can
one_word Window window is can = window_word window can
one_word Bytes bytes is can = absurd (cc (is))
one_word Text bytes is can = absurd (cc (is))
one_word Title title is can = absurd (cc (is))

value_again : (f : Field) (v : Value f) → CanSay f v → value_of f (printed f v) ≡ Some v
value_again User user can = can
value_again Number n can = number_again n can
value_again Serial n can = number_again n can
value_again Window window can = window_again window can
value_again Bytes bytes can = reads_texts bytes can
value_again Text text can = reads_texts text can
value_again Title title can = title_again title can.0 can.1

-- a field before others
abbrev IsBefore : (f : Field) → Value f → Type 0
IsBefore f v = (is_word f ≡ true) × CanSay f v

each_again : (f : Field) (v : Value f) → IsBefore f v → IsAgain Value blank printed value_of f v
each_again f v is = record { free = one_word f v is.0 is.1; again = value_again f v is.1 }

are_before : (fs : List Field) (v : Values Value fs) → is_row fs ≡ true → Each CanSay fs v
    → AllBut IsBefore CanSay fs v
are_before [] v is can = tt
are_before (f ∷ []) v is can = can.0
are_before (f ∷ g ∷ fs) v is can =
    let both = and_parts (is_word f) (is_row (g ∷ fs)) is in
    ((both.0, can.0), are_before (g ∷ fs) v.1 both.1 can.1)

-- ---- kinds

has_field : (k : EventKind) → HasField (fields_in (row_of k))
has_field kind.Draw = tt
has_field k = tt

are_rows : (k : EventKind) → is_row (fields_in (row_of k)) ≡ true
are_rows kind.Draw = refl
are_rows k = refl

-- ---- events

line_again : (k : EventKind) (v : Parts k) → CanSayAll k v → event_of (line_of k v) ≡ Some (made_in (row_of k) v)
line_again k v can =
    let fields = fields_in (row_of k) in
    ap (λ more. event_of (word_of k ++ more)) (after_is blank printed fields v (has_field k))
    ∙ rw (
      first_field blank (word_of k) (first_then blank printed fields v)
          (free blank (word_of k) apart_blank (word_part k)),
      kind_again k,
    ) (row_again Value blank printed value_of IsBefore CanSay each_again value_again (row_of k) v (has_field k)
    (are_before fields v (are_rows k) can))

again : (k : EventKind) (v : Parts k) → IsSayable (made_in (row_of k) v)
    → event_of (event_line (made_in (row_of k) v)) ≡ Some (made_in (row_of k) v)
again kind.Draw v is = line_again kind.Draw v is
again k v is = line_again k v is

pub reads_events : ReadsEvents
reads_events event = subst (λ e. IsSayable e → event_of (event_line e) ≡ Some e) (made_again event)
    (again (parts_of event).0 (parts_of event).1)
