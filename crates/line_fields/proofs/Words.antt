-- Fields that are put together, with one byte after each, are cut apart again.
use Rattle.std.proofs.Common.{◌≡◌, ℕ, ◌+◌, ◌<◌, ◌≤◌, List, [], ◌∷◌, ◌++◌, length, ap, refl, ◌∙◌, arith}
use Rattle.std.proofs.Common.{length-append, take, drop}
use Rattle.std.specs.Prelude.{Bool, true, false, cond, not, ◌==◌, ◌&&◌, nat_lt, Option, Some, None}
use Rattle.std.specs.List.{list_all, position, position_or_len, AllByRecursion, All}
use Rattle.std.proofs.lemmas.List.Elements.{All-from_recursion, All-from_get_or}
use Rattle.std.proofs.lemmas.List.Sums.{fails_before_first}
use Rattle.std.proofs.lemmas.Option.{some_pair_parts}
use Rattle.std.proofs.lemmas.List.Splits.{slice_split_none, slice_split_at, slice_split_first}
use Rattle.std.proofs.Math.Seq.{take-append_seam, drop-append-add}
use Rattle.std.proofs.lemmas.Bool.{and_parts}
use Rattle.std.proofs.lemmas.Bool.Decides.{nat_tests}
use Rattle.line_fields.specs.Cutting.{◌>>=◌, is_byte, cut, cut_at, words}

abbrev pub is_other : ℕ → ℕ → Bool
is_other separator byte = not (is_byte separator byte)

-- a word has no separator
pub record IsFree (separator : ℕ) (word : List ℕ) : Type 0 where
  pub free : list_all (is_other separator) word ≡ true

-- a word whose bytes pass a test that the separator doesn't
pub passing : (separator : ℕ) (p : ℕ → Bool) → ((c : ℕ) → p c ≡ true → is_byte separator c ≡ false) → (word : List ℕ)
    → list_all p word ≡ true → IsFree separator word
passing separator p apart word all = record { free = by word all }
  where
    by : (word : List ℕ) → list_all p word ≡ true → list_all (is_other separator) word ≡ true
    by [] all = refl
    by (c ∷ word) all =
        let both = and_parts (p c) (list_all p word) all in
        (λ i. not (apart c both.0 i) && by word both.1 i)

is_not : (b : Bool) → not b ≡ true → b ≡ false
is_not true e = cc
is_not false e = refl

place : (separator : ℕ) (word rest : List ℕ) → list_all (is_other separator) word ≡ true
    → is_byte separator separator ≡ true → position_or_len (is_byte separator) (word ++ separator ∷ rest) ≡ length word
place separator [] rest all self = ap (λ b. cond (not b) (1 + position_or_len (is_byte separator) rest) 0) self
place separator (c ∷ word) rest all self =
    let both = and_parts (is_other separator c) (list_all (is_other separator) word) all in
    let more = place separator word rest both.1 self in
    ap (λ b. cond b (1 + position_or_len (is_byte separator) (word ++ separator ∷ rest)) 0) both.0 ∙ omega (arith, more)

found : (separator : ℕ) (word rest : List ℕ) → list_all (is_other separator) word ≡ true
    → is_byte separator separator ≡ true → position (is_byte separator) (word ++ separator ∷ rest) ≡ Some (length word)
found separator word rest all self =
    let longer : length word < length (word ++ separator ∷ rest) = omega (arith, length-append word (separator ∷ rest))
    in
    let less : nat_lt (length word) (length (word ++ separator ∷ rest)) ≡ true = grind (arith, nat_tests) in
    ap (λ n. cond (nat_lt n (length (word ++ separator ∷ rest))) (Some n) None) (place separator word rest all self)
    ∙ ap (λ b. cond b (Some (length word)) None) less

self_is : (separator : ℕ) → is_byte separator separator ≡ true
self_is separator = grind (arith, nat_tests)

-- the first word, before others
pub first_field : (separator : ℕ) (word rest : List ℕ) → IsFree separator word
    → cut separator (word ++ separator ∷ rest) ≡ Some (word, rest)
unfolding cut
first_field separator word rest is =
    ap (cut_at (word ++ separator ∷ rest)) (found separator word rest is.free (self_is separator))
    ∙ (λ i. Some (take-append_seam word (separator ∷ rest) i, drop-append-add word (separator ∷ rest) 1 i))

-- words that are put together
pub free_append : (separator : ℕ) (a b : List ℕ) → IsFree separator a → IsFree separator b → IsFree separator (a ++ b)
free_append separator a b f g = record { free = by a f.free }
  where
    by : (a : List ℕ) → list_all (is_other separator) a ≡ true → list_all (is_other separator) (a ++ b) ≡ true
    by [] all = g.free
    by (c ∷ a) all =
        let both = and_parts (is_other separator c) (list_all (is_other separator) a) all in
        (λ i. both.0 i && by a both.1 i)

-- ---- words

free_each : (separator : ℕ) (word : List ℕ) → list_all (is_other separator) word ≡ true
    → AllByRecursion (λ c. is_byte separator c ≡ false) word
free_each separator [] all = tt
free_each separator (c ∷ word) all =
    let both = and_parts (is_other separator c) (list_all (is_other separator) word) all in
    (is_not (is_byte separator c) both.0, free_each separator word both.1)

free_all : (separator : ℕ) (word : List ℕ) → IsFree separator word → All (λ c. is_byte separator c ≡ false) word
free_all separator word is = All-from_recursion (λ c. is_byte separator c ≡ false) word
    (free_each separator word is.free)

pub one_word : (separator : ℕ) (word : List ℕ) → IsFree separator word → words separator word ≡ word ∷ []
one_word separator word is = slice_split_none (is_byte separator) word (free_all separator word is)

pub first_word : (separator : ℕ) (word rest : List ℕ) → IsFree separator word
    → words separator (word ++ separator ∷ rest) ≡ word ∷ words separator rest
first_word separator word rest is = slice_split_at (is_byte separator) word separator rest (free_all separator word is)
    (self_is separator)

-- ---- what was cut

some_pair : (bytes word rest : List ℕ) (b : Bool) (at : ℕ) → cut_at bytes (cond b (Some at) None) ≡ Some (word, rest)
    → (b ≡ true) × (take at bytes ≡ word) × (drop (at + 1) bytes ≡ rest)
some_pair bytes word rest true at e =
    let both = some_pair_parts (take at bytes) word (drop (at + 1) bytes) rest e in
    (refl, both.0, both.1)
some_pair bytes word rest false at e = absurd cc

no_pair : (bytes : List ℕ) (b : Bool) (at : ℕ) → cut_at bytes (cond b (Some at) None) ≡ None → b ≡ false
no_pair bytes true at e = absurd cc
no_pair bytes false at e = refl

lt_true : (m n : ℕ) → nat_lt m n ≡ true → m < n
lt_true m n e = grind (arith, nat_tests)

lt_false : (m n : ℕ) → nat_lt m n ≡ false → n ≤ m
lt_false m n e = grind (arith, nat_tests)

pub cut_words : (separator : ℕ) (bytes word rest : List ℕ) → cut separator bytes ≡ Some (word, rest)
    → words separator bytes ≡ word ∷ words separator rest
unfolding cut
cut_words separator bytes word rest e =
    let p = is_byte separator in
    let at = position_or_len p bytes in
    let parts = some_pair bytes word rest (nat_lt at (length bytes)) at e in
    slice_split_first p bytes 0 (lt_true at (length bytes) parts.0)
    ∙ (λ i. parts.1 i ∷ words separator (parts.2 i))

pub uncut_words : (separator : ℕ) (bytes : List ℕ) → cut separator bytes ≡ None → words separator bytes ≡ bytes ∷ []
unfolding cut
uncut_words separator bytes e =
    let p = is_byte separator in
    let at = position_or_len p bytes in
    let all : length bytes ≤ at = lt_false at (length bytes) (no_pair bytes (nat_lt at (length bytes)) at e) in
    slice_split_none p bytes
    (All-from_get_or (λ c. p c ≡ false) bytes 0 (λ i lt. fails_before_first p bytes i 0 (omega (arith, lt, all))))
