-- A command's printed words mean what was printed: lists, fixed words, numbers, bits and masks.
use Rattle.command_lang.proofs.Vocabulary.{◌≡◌, ℕ, suc, ◌+◌, ◌<◌, ◌≤◌, ◌^◌, Bool, true, false, not, ◌&&◌, cond, List}
use Rattle.command_lang.proofs.Vocabulary.{[], ◌∷◌, ◌++◌, length, take, drop, refl, sym, ap, ◌∙◌, subst, arith, Option}
use Rattle.command_lang.proofs.Vocabulary.{Some, None, unwrap_or, true≢false, lit<, ◌==◌, nat_lt, nat_le, is_some}
use Rattle.command_lang.proofs.Vocabulary.{list_all, IsUtf8, decimal, nat_tests, Bit, BitChange, mask_fault, is_digit}
use Rattle.command_lang.proofs.Vocabulary.{number_after, is_number, number_in, lock_mode_in, switch_in, coding_in}
use Rattle.command_lang.proofs.Vocabulary.{is_vertical, items_of, is_empty_text, has_empty_item, users_of, leader_of}
use Rattle.command_lang.proofs.Vocabulary.{is_sign, bit_of, goes_on, is_bits, change_of, value_after, bits_after}
use Rattle.command_lang.proofs.Vocabulary.{bits_of, sign_place, mask_users, mask_of, items_word, bits_word, mask_word}
use Rattle.std.proofs.Common.{codes}
use Rattle.std.specs.Str.{bytes_eq, IsAscii}
use Rattle.std.specs.Int.{IsInRange}
use Rattle.std.proofs.Math.Seq.{take-append_seam, drop-append_seam}
use Rattle.std.proofs.lemmas.Slice.Eq.{bytes_eq-Decides}
use Rattle.std.proofs.lemmas.List.Splits.{join_with_byte-slice_split}
use Rattle.std.proofs.lemmas.Str.{IsUtf8-append, IsUtf8-take, IsUtf8-from_ascii, IsAscii-append}
use Rattle.std.proofs.lemmas.Str.Ascii.{IsAscii-nil, IsAscii-cons}
use Rattle.std.proofs.lemmas.Str.Parse.{IsNumeralModel, numerals_by_fold}
use Rattle.std.proofs.lemmas.Fmt.{digits_decimal, digits_value-decimal, length-decimal-le, decimal_nonempty}
use Rattle.std.proofs.lemmas.Fmt.{IsAscii-decimal}
use Rattle.acl.specs.declared.act.LockMode.{LockMode}
use Rattle.acl.specs.declared.act.LockMode.TheVariants as lock_mode
use Rattle.acl.specs.declared.bits.Bit.TheVariants.{Read, Write, Execute}
use Rattle.command_lang.specs.declared.command.Coding.{Coding}
use Rattle.command_lang.specs.declared.command.Coding.TheVariants as coding
use Rattle.command_lang.specs.declared.command.Users.TheVariants as users
use Rattle.command_lang.specs.declared.command.Leader.TheVariants as leader
use Rattle.command_lang.specs.declared.fault.FaultKind.TheVariants as faults
use Rattle.command_lang.specs.Printing.{users_word, leader_word, letter, sign, sign_before, change_behind, bits_behind}
use Rattle.command_lang.specs.Printing.{mask_users_word, lock_mode_word, switch_word, coding_word}
use Rattle.command_lang.proofs.Scalars.{and-parts, and-both}
use Rattle.command_lang.proofs.Signs.{sign_cut}

pub some-same : {A : Type 0} (a b : A) → Some a ≡ Some b → a ≡ b
some-same a b h = ap (λ o. unwrap_or o a) h

no-some : {A : Type 0} (a : A) → None ≡ Some a → ⊥
no-some a h = true≢false (sym (ap is_some h))

same : (t w : List ℕ) → bytes_eq t w ≡ true → w ≡ t
same t w e = sym ((bytes_eq-Decides t w).0 e)

-- lists
pub items_again : (t : List ℕ) → items_word (items_of t) ≡ t
items_again t = join_with_byte-slice_split 0x2C t

pub users_again : (t : List ℕ) → users_word (users_of t) ≡ t
users_again t = by (bytes_eq t (codes "*")) refl
  where
    by : (b : Bool) → bytes_eq t (codes "*") ≡ b → users_word (cond b users.All (users.Listed (items_of t))) ≡ t
    by true e = same t (codes "*") e
    by false e = items_again t

pub leader_again : (t : List ℕ) → leader_word (leader_of t) ≡ t
leader_again t = by (bytes_eq t (codes "none")) refl
  where
    by : (b : Bool) → bytes_eq t (codes "none") ≡ b → leader_word (cond b leader.Nobody (leader.Named t)) ≡ t
    by true e = same t (codes "none") e
    by false e = refl

-- fixed words
pub lock_mode_again : (t : List ℕ) (m : LockMode) → lock_mode_in t ≡ Some m → lock_mode_word m ≡ t
lock_mode_again t m h = by (bytes_eq t (codes "off")) (bytes_eq t (codes "auto")) (bytes_eq t (codes "on")) refl refl
    refl h
  where
    by : (a b c : Bool) → bytes_eq t (codes "off") ≡ a → bytes_eq t (codes "auto") ≡ b → bytes_eq t (codes "on") ≡ c
        → cond a (Some lock_mode.Off) (cond b (Some lock_mode.Auto) (cond c (Some lock_mode.On) None)) ≡ Some m
        → lock_mode_word m ≡ t
    by true b c e f g k = ap lock_mode_word (sym (some-same lock_mode.Off m k)) ∙ same t (codes "off") e
    by false true c e f g k = ap lock_mode_word (sym (some-same lock_mode.Auto m k)) ∙ same t (codes "auto") f
    by false false true e f g k = ap lock_mode_word (sym (some-same lock_mode.On m k)) ∙ same t (codes "on") g
    by false false false e f g k = absurd (no-some m k)

pub switch_again : (t : List ℕ) (m : Bool) → switch_in t ≡ Some m → switch_word m ≡ t
switch_again t m h = by (bytes_eq t (codes "on")) (bytes_eq t (codes "off")) refl refl h
  where
    by : (a b : Bool) → bytes_eq t (codes "on") ≡ a → bytes_eq t (codes "off") ≡ b
        → cond a (Some true) (cond b (Some false) None) ≡ Some m → switch_word m ≡ t
    by true b e f k = ap switch_word (sym (some-same true m k)) ∙ same t (codes "on") e
    by false true e f k = ap switch_word (sym (some-same false m k)) ∙ same t (codes "off") f
    by false false e f k = absurd (no-some m k)

pub coding_again : (t : List ℕ) (m : Coding) → coding_in t ≡ Some m → coding_word m ≡ t
coding_again t m h = by (bytes_eq t (codes "utf8")) (bytes_eq t (codes "ecma35")) refl refl h
  where
    by : (a b : Bool) → bytes_eq t (codes "utf8") ≡ a → bytes_eq t (codes "ecma35") ≡ b
        → cond a (Some coding.Utf8) (cond b (Some coding.Ecma35) None) ≡ Some m → coding_word m ≡ t
    by true b e f k = ap coding_word (sym (some-same coding.Utf8 m k)) ∙ same t (codes "utf8") e
    by false true e f k = ap coding_word (sym (some-same coding.Ecma35 m k)) ∙ same t (codes "ecma35") f
    by false false e f k = absurd (no-some m k)

pub vertical_again : (t : List ℕ) → is_vertical t ≡ true → codes "-v" ≡ t
vertical_again t e = same t (codes "-v") e

-- numbers
digit-range : (c : ℕ) → is_digit c ≡ true → IsInRange 48 57 c
digit-range c h = (grind (arith, nat_tests), grind (arith, nat_tests))

range-digit : (c : ℕ) → IsInRange 48 57 c → is_digit c ≡ true
range-digit c h = let l = h.0 in let m = h.1 in grind (arith, nat_tests)

own : IsNumeralModel (λ ds. list_all is_digit ds ≡ true) (number_after 0)
own = numerals_by_fold (λ ds. list_all is_digit ds ≡ true)
    (record {
      empty = refl;
      parts = λ c cs h. (
        digit-range c (and-parts (is_digit c) (list_all is_digit cs) h).0,
        (and-parts (is_digit c) (list_all is_digit cs) h).1,
      );
      more = λ c cs r h. and-both (is_digit c) (list_all is_digit cs) (range-digit c r) h;
    }) number_after (record { empty = λ n. refl; more = λ n c cs r. refl })

pub record Again (limit v : ℕ) : Type 0 where
  pub fine : is_number limit (decimal v) ≡ true
  pub value : number_after 0 (decimal v) ≡ v
  pub text : IsUtf8 (decimal v)

small-number : (limit v : ℕ) → limit ≤ 2000 → v ≤ limit → Again limit v
small-number limit v l h =
    let wide : v < 2 ^ 64 = omega (arith, l, h) in
    let value = digits_value-decimal own v wide in
    let four : length (decimal v) ≤ 4 = length-decimal-le 4 v (omega arith) (omega (arith, l, h)) wide in
    let some : 0 < length (decimal v) = decimal_nonempty v wide in
    let lo : nat_lt 0 (length (decimal v)) ≡ true = grind (arith, nat_tests) in
    let hi : nat_lt (length (decimal v)) 5 ≡ true = grind (arith, nat_tests) in
    let most : nat_le v limit ≡ true = grind (arith, nat_tests) in
    record {
      fine = and-both
          (list_all is_digit (decimal v) && (nat_lt 0 (length (decimal v)) && nat_lt (length (decimal v)) 5))
          (nat_le (number_after 0 (decimal v)) limit)
          (and-both (list_all is_digit (decimal v)) (nat_lt 0 (length (decimal v)) && nat_lt (length (decimal v)) 5)
          (digits_decimal own v wide)
          (and-both (nat_lt 0 (length (decimal v))) (nat_lt (length (decimal v)) 5) lo hi))
          (ap (λ n. nat_le n limit) value ∙ most);
      value = value;
      text = IsUtf8-from_ascii (decimal v) (IsAscii-decimal v wide);
    }

pub number_again : (limit v : ℕ) (t : List ℕ) → limit ≤ 2000 → number_in limit t ≡ Some v → Again limit v
number_again limit v t l h = by (is_number limit t) refl h
  where
    by : (b : Bool) → is_number limit t ≡ b → cond b (Some (number_after 0 t)) None ≡ Some v → Again limit v
    by true e k =
        let s = some-same (number_after 0 t) v k in
        let p =
        (and-parts (list_all is_digit t && (nat_lt 0 (length t) && nat_lt (length t) 5))
        (nat_le (number_after 0 t) limit) e).1 in
        let m : number_after 0 t ≤ limit = grind (arith, nat_tests, p) in
        small-number limit v l (omega (arith, s, m))
    by false e k = absurd (no-some v k)

-- Bits: one more sign or letter
letter-goes : (v w : Bool) (b : Bit) (rest : List ℕ) → goes_on false rest ≡ true
    → goes_on false ((sign_before (Some v) w ++ letter b ∷ []) ++ rest) ≡ true
letter-goes true true Read rest h = h
letter-goes true true Write rest h = h
letter-goes true true Execute rest h = h
letter-goes true false Read rest h = h
letter-goes true false Write rest h = h
letter-goes true false Execute rest h = h
letter-goes false true Read rest h = h
letter-goes false true Write rest h = h
letter-goes false true Execute rest h = h
letter-goes false false Read rest h = h
letter-goes false false Write rest h = h
letter-goes false false Execute rest h = h

goes-behind : (v : Bool) (b : List BitChange) → goes_on false (bits_behind (Some v) b) ≡ true
goes-behind v [] = refl
goes-behind v (c ∷ cs) = letter-goes v c.value c.bit (bits_behind (Some c.value) cs) (goes-behind c.value cs)

letter-gives : (v w : Bool) (b : Bit) (rest : List ℕ) (cs : List BitChange) → bits_after w rest ≡ cs
    → bits_after v ((sign_before (Some v) w ++ letter b ∷ []) ++ rest) ≡ record { bit = b; value = w } ∷ cs
letter-gives true true Read rest cs h = ap (λ l. record { bit = Read; value = true } ∷ l) h
letter-gives true true Write rest cs h = ap (λ l. record { bit = Write; value = true } ∷ l) h
letter-gives true true Execute rest cs h = ap (λ l. record { bit = Execute; value = true } ∷ l) h
letter-gives true false Read rest cs h = ap (λ l. record { bit = Read; value = false } ∷ l) h
letter-gives true false Write rest cs h = ap (λ l. record { bit = Write; value = false } ∷ l) h
letter-gives true false Execute rest cs h = ap (λ l. record { bit = Execute; value = false } ∷ l) h
letter-gives false true Read rest cs h = ap (λ l. record { bit = Read; value = true } ∷ l) h
letter-gives false true Write rest cs h = ap (λ l. record { bit = Write; value = true } ∷ l) h
letter-gives false true Execute rest cs h = ap (λ l. record { bit = Execute; value = true } ∷ l) h
letter-gives false false Read rest cs h = ap (λ l. record { bit = Read; value = false } ∷ l) h
letter-gives false false Write rest cs h = ap (λ l. record { bit = Write; value = false } ∷ l) h
letter-gives false false Execute rest cs h = ap (λ l. record { bit = Execute; value = false } ∷ l) h

gives-behind : (v : Bool) (b : List BitChange) → bits_after v (bits_behind (Some v) b) ≡ b
gives-behind v [] = refl
gives-behind v (c ∷ cs) = letter-gives v c.value c.bit (bits_behind (Some c.value) cs) cs (gives-behind c.value cs)

-- the first bit
abbrev pub HeadSign : List ℕ → Type 0
HeadSign [] = ⊥
HeadSign (c ∷ cs) = is_sign c ≡ true

pub record BitsAgain (b : List BitChange) : Type 0 where
  pub fine : is_bits (bits_word b) ≡ true
  pub value : bits_of (bits_word b) ≡ b
  pub text : IsUtf8 (bits_word b)
  pub begins : HeadSign (bits_word b)

first-goes : (w : Bool) (b : Bit) (rest : List ℕ) → goes_on false rest ≡ true
    → is_bits ((sign w ∷ letter b ∷ []) ++ rest) ≡ true
first-goes true Read rest h = h
first-goes true Write rest h = h
first-goes true Execute rest h = h
first-goes false Read rest h = h
first-goes false Write rest h = h
first-goes false Execute rest h = h

first-gives : (w : Bool) (b : Bit) (rest : List ℕ) (cs : List BitChange) → bits_after w rest ≡ cs
    → bits_of ((sign w ∷ letter b ∷ []) ++ rest) ≡ record { bit = b; value = w } ∷ cs
first-gives true Read rest cs h = ap (λ l. record { bit = Read; value = true } ∷ l) h
first-gives true Write rest cs h = ap (λ l. record { bit = Write; value = true } ∷ l) h
first-gives true Execute rest cs h = ap (λ l. record { bit = Execute; value = true } ∷ l) h
first-gives false Read rest cs h = ap (λ l. record { bit = Read; value = false } ∷ l) h
first-gives false Write rest cs h = ap (λ l. record { bit = Write; value = false } ∷ l) h
first-gives false Execute rest cs h = ap (λ l. record { bit = Execute; value = false } ∷ l) h

ascii_letter : (b : Bit) → IsAscii (letter b ∷ [])
ascii_letter Read = IsAscii-cons 0x72 [] (lit< tt) IsAscii-nil
ascii_letter Write = IsAscii-cons 0x77 [] (lit< tt) IsAscii-nil
ascii_letter Execute = IsAscii-cons 0x78 [] (lit< tt) IsAscii-nil

ascii_sign : (last : Option Bool) (w : Bool) → IsAscii (sign_before last w)
ascii_sign None true = IsAscii-cons 0x2B [] (lit< tt) IsAscii-nil
ascii_sign None false = IsAscii-cons 0x2D [] (lit< tt) IsAscii-nil
ascii_sign (Some true) true = IsAscii-nil
ascii_sign (Some true) false = IsAscii-cons 0x2D [] (lit< tt) IsAscii-nil
ascii_sign (Some false) true = IsAscii-cons 0x2B [] (lit< tt) IsAscii-nil
ascii_sign (Some false) false = IsAscii-nil

ascii_bits : (last : Option Bool) (b : List BitChange) → IsAscii (bits_behind last b)
ascii_bits last [] = IsAscii-nil
ascii_bits last (c ∷ cs) =
    IsAscii-append (change_behind last c) (bits_behind (Some c.value) cs)
    (IsAscii-append (sign_before last c.value) (letter c.bit ∷ []) (ascii_sign last c.value) (ascii_letter c.bit))
    (ascii_bits (Some c.value) cs)

sign-is : (w : Bool) → is_sign (sign w) ≡ true
sign-is true = refl
sign-is false = refl

some-bits : (c : BitChange) (cs : List BitChange) → BitsAgain (c ∷ cs)
some-bits c cs = record {
  fine = first-goes c.value c.bit (bits_behind (Some c.value) cs) (goes-behind c.value cs);
  value = first-gives c.value c.bit (bits_behind (Some c.value) cs) cs (gives-behind c.value cs);
  text = IsUtf8-from_ascii (bits_word (c ∷ cs)) (ascii_bits None (c ∷ cs));
  begins = sign-is c.value;
}

-- groups give some bit
abbrev IsSome-bits : List BitChange → Type 0
IsSome-bits [] = ⊥
IsSome-bits (c ∷ cs) = Unit {0}

some-behind : (xs ys : List BitChange) → IsSome-bits ys → IsSome-bits (xs ++ ys)
some-behind [] ys h = h
some-behind (x ∷ xs) ys h = tt

wanted : (v : Bool) (cs : List ℕ) → goes_on true cs ≡ true → IsSome-bits (bits_after v cs)
wanted v [] h = absurd (true≢false (sym h))
wanted v (c ∷ cs) h = by (bit_of c) h
  where
    by : (o : Option Bit) → cond (is_some o) (goes_on false cs) ((is_sign c && false) && goes_on true cs) ≡ true
        → IsSome-bits (change_of v o ++ bits_after (value_after v c o) cs)
    by (Some b) k = tt
    by None k = absurd
        (true≢false (sym (and-parts (is_sign c) false (and-parts (is_sign c && false) (goes_on true cs) k).0).1))

some-of : (b : List BitChange) → IsSome-bits b → BitsAgain b
some-of [] h = absurd h
some-of (c ∷ cs) h = some-bits c cs

pub bits_again : (t : List ℕ) → is_bits t ≡ true → BitsAgain (bits_of t)
bits_again [] h = absurd (true≢false (sym h))
bits_again (c ∷ cs) h =
    some-of (bits_of (c ∷ cs))
    (some-behind (change_of true (bit_of c)) (bits_after (value_after true c (bit_of c)) cs)
    (wanted (value_after true c (bit_of c)) cs (and-parts (is_sign c) (goes_on true cs) h).1))

-- Masks
abbrev NoSign : List ℕ → Type 0
NoSign [] = Unit {0}
NoSign (c ∷ cs) = (is_sign c ≡ false) × NoSign cs

one-more : (n : ℕ) → 1 + n ≡ suc n
one-more n = omega arith

no-sign-before : (t : List ℕ) → NoSign (take (sign_place t) t)
no-sign-before [] = tt
no-sign-before (x ∷ t) = by (is_sign x) refl (no-sign-before t)
  where
    by : (b : Bool) → is_sign x ≡ b → NoSign (take (sign_place t) t)
        → NoSign (take (cond (not b) (1 + sign_place t) 0) (x ∷ t))
    by true e h = tt
    by false e h = subst (λ n. NoSign (take n (x ∷ t))) (sym (one-more (sign_place t))) (e, h)

at-head : (ys : List ℕ) → HeadSign ys → sign_place ys ≡ 0
at-head [] h = absurd h
at-head (y ∷ ys) h = ap (λ b. cond (not b) (1 + sign_place ys) 0) h

place-append : (xs ys : List ℕ) → NoSign xs → HeadSign ys → sign_place (xs ++ ys) ≡ length xs
place-append [] ys n h = at-head ys h
place-append (x ∷ xs) ys n h = ap (λ b. cond (not b) (1 + sign_place (xs ++ ys)) 0) n.0
    ∙ one-more (sign_place (xs ++ ys)) ∙ ap suc (place-append xs ys n.1 h)

empty-is : (f : List ℕ) → is_empty_text f ≡ true → [] ≡ f
empty-is [] h = refl
empty-is (x ∷ f) h = absurd (let e : (suc (length f) == 0) ≡ false = grind (arith, nat_tests) in true≢false (sym h ∙ e))

mask_users_again : (f : List ℕ) → mask_users_word (mask_users f) ≡ f
mask_users_again f = by (is_empty_text f) refl
  where
    by : (b : Bool) → is_empty_text f ≡ b → mask_users_word (cond b None (Some (users_of f))) ≡ f
    by true e = empty-is f e
    by false e = users_again f

mask-parts : (a b : Bool) → cond (not a) (Some faults.BadBits) (cond b (Some faults.BadWord) None) ≡ None → (a ≡ true)
    × (cond b (Some faults.BadWord) None ≡ None)
mask-parts true b h = (refl, h)
mask-parts false b h = absurd (true≢false (ap is_some h))

pub record MaskAgain (t : List ℕ) : Type 0 where
  pub fine : mask_fault (mask_word (mask_of t)) ≡ None
  pub value : mask_of (mask_word (mask_of t)) ≡ mask_of t
  pub text : IsUtf8 (mask_word (mask_of t))

-- a text that is these users followed by these bits
joined : (f b : List ℕ) → NoSign f → HeadSign b → (mask_of (f ++ b) ≡ record { users = mask_users f; bits = bits_of b })
    × (mask_fault (f ++ b) ≡ cond (not (is_bits b)) (Some faults.BadBits)
    (cond (not (is_empty_text f) && has_empty_item f) (Some faults.BadWord) None))
joined f b n h =
    let p = place-append f b n h in
    let x = ap (λ m. take m (f ++ b)) p ∙ take-append_seam f b in
    let y = ap (λ m. drop m (f ++ b)) p ∙ drop-append_seam f b in (
      (λ j. record { users = mask_users (x j); bits = bits_of (y j) }),
      (λ j. cond (not (is_bits (y j))) (Some faults.BadBits)
          (cond (not (is_empty_text (x j)) && has_empty_item (x j)) (Some faults.BadWord) None)),
    )

pub mask_again : (t : List ℕ) → IsUtf8 t → mask_fault t ≡ None → MaskAgain t
mask_again t u h =
    let n = sign_place t in
    let f = take n t in
    let d = drop n t in
    let p = mask-parts (is_bits d) (not (is_empty_text f) && has_empty_item f) h in
    let b = bits_again d p.0 in
    let e : mask_word (mask_of t) ≡ f ++ bits_word (bits_of d) = ap (λ l. l ++ bits_word (bits_of d))
    (mask_users_again f) in
    let j = joined f (bits_word (bits_of d)) (no-sign-before t) b.begins in
    record {
      fine = ap mask_fault e ∙ j.1
          ∙ ap
          (λ c. cond (not c) (Some faults.BadBits)
          (cond (not (is_empty_text f) && has_empty_item f) (Some faults.BadWord) None)) b.fine ∙ p.1;
      value = ap mask_of e ∙ j.0 ∙ ap (λ l. record { users = mask_users f; bits = l }) b.value;
      text = subst IsUtf8 (sym e)
          (IsUtf8-append f (bits_word (bits_of d)) (IsUtf8-take t n u (sign_cut t n refl)) b.text);
    }
