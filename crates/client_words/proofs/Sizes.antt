-- The sizes that lines say.
use Rattle.std.proofs.Common.{◌≡◌, ℕ, zero, suc, ◌+◌, ◌<◌, ◌≤◌, Bool, true, false, ◌||◌, List, [], ◌∷◌, ◌++◌, length}
use Rattle.std.proofs.Common.{take, drop, Option, Some, None, refl, sym, ap, ◌∙◌, append-nil, take_all, arith}
use Rattle.std.specs.Prelude.{nat_lt, is_none}
use Rattle.std.specs.Bool.{then_some, if◌then◌else◌}
use Rattle.std.specs.Option.{option_or}
use Rattle.std.specs.List.{position, position_or_len, before_first, after_first, filter_map, last_or}
use Rattle.std.proofs.lemmas.List.Elements.{filter_map-append}
use Rattle.std.proofs.lemmas.List.Folds.{list_any-append}
use Rattle.std.proofs.lemmas.Bool.Decides.{nat_tests}
use Rattle.std.proofs.lemmas.Grind.{common_steps}
use Rattle.client_words.specs.declared.size_lines.TerminalSize.{TerminalSize}
use Rattle.client_words.specs.Lines.{is_blank, is_number, number_of, size_by, size_of, last_size, has_other}

-- ---- a line

pub by_none : (rows : Option ℕ) → size_by rows None ≡ None
by_none None = refl
by_none (Some rows) = refl

pub chosen : (b : Bool) (size : TerminalSize) → then_some b size ≡ (if b then Some size else None)
chosen true size = refl
chosen false size = refl

number_nil : number_of [] ≡ None
unfolding is_number
number_nil = refl

long_number : (word : List ℕ) → 4 < length word → number_of word ≡ None
unfolding is_number
long_number word h = grind (arith, nat_tests)

no_blank : (line : List ℕ) → length line ≤ position_or_len is_blank line → size_of line ≡ None
unfolding size_of
no_blank line h =
    let empty : after_first is_blank line ≡ [] = grind (arith, common_steps) in
    ap (λ (word : List ℕ). size_by (number_of (before_first is_blank line)) (number_of word)) empty
    ∙ ap (size_by (number_of (before_first is_blank line))) number_nil
    ∙ by_none (number_of (before_first is_blank line))

pub none_where : (line : List ℕ) → position is_blank line ≡ None → size_of line ≡ None
none_where line h =
    let none : length line ≤ position_or_len is_blank line = grind (arith, nat_tests) in
    no_blank line none

pub some_where : (line : List ℕ) (at : ℕ) → position is_blank line ≡ Some at
    → size_of line ≡ size_by (number_of (take at line)) (number_of (drop (at + 1) line))
unfolding size_of
some_where line at h =
    let e : position_or_len is_blank line ≡ at = grind (arith, nat_tests) in
    ap (λ place. size_by (number_of (take place line)) (number_of (drop (place + 1) line))) e

-- ---- a long line says none

pub long_none : (line : List ℕ) → 9 < length line → size_of line ≡ None
unfolding size_of
long_none line h = go (nat_lt 4 (position_or_len is_blank line)) refl
  where
    go : (b : Bool) → nat_lt 4 (position_or_len is_blank line) ≡ b → size_of line ≡ None
    go true far =
        let long : 4 < length (take (position_or_len is_blank line) line) = grind (arith, nat_tests, common_steps) in
        ap (λ o. size_by o (number_of (after_first is_blank line))) (long_number (before_first is_blank line) long)
    go false near =
        let long : 4 < length (drop (position_or_len is_blank line + 1) line) = grind (arith, nat_tests, common_steps)
        in
        ap (size_by (number_of (before_first is_blank line))) (long_number (after_first is_blank line) long)
        ∙ by_none (number_of (before_first is_blank line))

-- the first 64 bytes of a line give the size that the whole line gives
pub kept : (line : List ℕ) → size_of (take 64 line) ≡ size_of line
kept line = go (nat_lt 64 (length line)) refl
  where
    go : (b : Bool) → nat_lt 64 (length line) ≡ b → size_of (take 64 line) ≡ size_of line
    go true more =
        let long : 9 < length (take 64 line) = grind (arith, nat_tests, common_steps) in
        let whole : 9 < length line = grind (arith, nat_tests) in
        long_none (take 64 line) long ∙ sym (long_none line whole)
    go false less =
        let short : length line ≤ 64 = grind (arith, nat_tests) in
        ap size_of (take_all 64 line short)

-- ---- one byte more of a line

pub kept-room : (n : ℕ) (line : List ℕ) (byte : ℕ) → length (take n line) < n
    → take n (line ++ byte ∷ []) ≡ take n line ++ byte ∷ []
kept-room zero line byte h = absurd (omega arith)
kept-room (suc n) [] byte h = ap (λ (l : List ℕ). byte ∷ l) (take_all n [] (omega arith))
kept-room (suc n) (x ∷ line) byte h = ap (λ (l : List ℕ). x ∷ l) (kept-room n line byte (omega arith))

pub kept-full : (n : ℕ) (line : List ℕ) (byte : ℕ) → n ≤ length (take n line) → take n (line ++ byte ∷ []) ≡ take n line
kept-full zero line byte h = refl
kept-full (suc n) [] byte h = absurd (omega arith)
kept-full (suc n) (x ∷ line) byte h = ap (λ (l : List ℕ). x ∷ l) (kept-full n line byte (omega arith))

-- ---- one line more

last_or-more : {A : Type 0} (o : Option A) (xs : List A) (x : A) → last_or o (xs ++ x ∷ []) ≡ Some x
last_or-more o [] x = refl
last_or-more o (y ∷ xs) x = last_or-more (Some y) xs x

sized : (sizes : List TerminalSize) (size : Option TerminalSize) (line : List ℕ) → size_of line ≡ size
    → last_or None (sizes ++ filter_map size_of (line ∷ [])) ≡ option_or size (last_or None sizes)
sized sizes None line e = rw e (simp append-nil)
sized sizes (Some size) line e = rw e (last_or-more None sizes size)

pub last-more : (lines : List (List ℕ)) (line : List ℕ)
    → last_size (lines ++ line ∷ []) ≡ option_or (size_of line) (last_size lines)
last-more lines line = ap (last_or None) (filter_map-append size_of lines (line ∷ []))
    ∙ sized (filter_map size_of lines) (size_of line) line refl

pub other-more : (lines : List (List ℕ)) (line : List ℕ)
    → has_other (lines ++ line ∷ []) ≡ (has_other lines || is_none (size_of line))
other-more lines line = list_any-append (λ l. is_none (size_of l)) lines (line ∷ []) ∙ grind (arith, nat_tests)
