-- Keys between two keys.
use Rattle.std.proofs.Common.{◌≡◌, ℕ, ◌+◌, ◌<◌, ◌≤◌, ◌^◌, Bool, true, false, ◌&&◌, cond, List, [], ◌∷◌, ◌++◌}
use Rattle.std.proofs.Common.{length, take, drop, refl, sym, ap, ◌∙◌, append_assoc, append-nil, arith, true≢false, lit≤, length-append, ◌%◌, ◌-◌, get_or}
use Rattle.std.specs.Prelude.{codes, decimal}
use Rattle.std.specs.List.{list_all}
use Rattle.std.proofs.lemmas.List.{take_all}
use Rattle.std.proofs.lemmas.Bool.Decides.{nat_tests}
use Rattle.std.proofs.lemmas.Fmt.{decimal_by_steps, length-decimal-le}
use Rattle.std.proofs.lemmas.List.Folds.{list_all-append}
use Rattle.keys.specs.Grammar.{Item, line, Rest, nothing, prompt, rest_step, with_front, items_from, items}
use Rattle.keys.specs.Grammar.{stays, line_after_key, line_items, carriage_return}
use Rattle.client_typing.specs.Own.{view_command}
use Rattle.client_typing.specs.Fitting.{given_keys, is_plain, IsLine}

from-append : (r : Rest) (keys later : List ℕ)
    → items_from r (keys ++ later) ≡ with_front (items_from r keys).0 (items_from (items_from r keys).1 later)
unfolding items_from
from-append r [] later = refl
from-append r (k ∷ keys) later =
    let s = rest_step r k in
    ap (with_front s.0) (from-append s.1 keys later)
    ∙ ap (λ given. (given, (items_from (items_from s.1 keys).1 later).1))
    (sym (append_assoc s.0 (items_from s.1 keys).0 (items_from (items_from s.1 keys).1 later).0))

pub typed-alone : (before later : List ℕ) → (items before).1 ≡ nothing
    → items (before ++ later) ≡ ((items before).0 ++ (items later).0, (items later).1)
typed-alone before later h = from-append nothing before later
    ∙ ap (λ r. with_front (items before).0 (items_from r later)) h

-- what is open after one more key
pub rest-after : (r : Rest) (keys : List ℕ) (k : ℕ) → (items keys).1 ≡ r
    → (items (keys ++ k ∷ [])).1 ≡ (rest_step r k).1
unfolding items_from
rest-after r keys k h = ap (λ (s : List Item × Rest). s.1) (from-append nothing keys (k ∷ []))
    ∙ ap (λ t. (rest_step t k).1) h

-- ---- a command in the prompt

and-parts : (a b : Bool) → (a && b) ≡ true → (a ≡ true) × (b ≡ true)
and-parts true b h = (refl, h)
and-parts false b h = absurd (true≢false (sym h))

plain-step : (bytes : List ℕ) (k : ℕ) → is_plain k ≡ true → length bytes < 1024
    → rest_step (prompt bytes) k ≡ ([], prompt (bytes ++ k ∷ []))
plain-step bytes k plain few =
    let kept : stays k ≡ true = grind (arith, nat_tests) in
    let more : line_after_key bytes k ≡ bytes ++ k ∷ [] = grind (arith, nat_tests) in
    ap (λ b. cond b ([], prompt (line_after_key bytes k)) (line_items bytes k, nothing)) kept
    ∙ ap (λ l. ([], prompt l)) more

in-prompt : (bytes command later : List ℕ) → list_all is_plain command ≡ true
    → length bytes + length command ≤ 1024
    → items_from (prompt bytes) (command ++ carriage_return ∷ later)
    ≡ (line (bytes ++ command) ∷ (items later).0, (items later).1)
unfolding items_from
in-prompt bytes [] later plain short =
    ap (λ b. (line b ∷ (items later).0, (items later).1)) (sym (append-nil bytes))
in-prompt bytes (k ∷ command) later plain short =
    let p = and-parts (is_plain k) (list_all is_plain command) plain in
    let longer : length (bytes ++ k ∷ []) + length command ≤ 1024 = omega (arith, length-append bytes (k ∷ [])) in
    ap (λ (s : List Item × Rest). with_front s.0 (items_from s.1 (command ++ carriage_return ∷ later)))
    (plain-step bytes k p.0 (omega arith))
    ∙ in-prompt (bytes ++ k ∷ []) command later p.1 longer
    ∙ ap (λ b. (line b ∷ (items later).0, (items later).1)) (append_assoc bytes (k ∷ []) command)

pub given-between : (command before later : List ℕ) → IsLine command → (items before).1 ≡ nothing
    → items (before ++ (given_keys command ++ later))
    ≡ ((items before).0 ++ line command ∷ (items later).0, (items later).1)
unfolding items_from
given-between command before later is h =
    typed-alone before (given_keys command ++ later) h
    ∙ ap (with_front (items before).0)
    (ap (items_from (prompt [])) (append_assoc command (carriage_return ∷ []) later)
    ∙ in-prompt [] command later is.plain (omega (arith, is.short)))

pub given-alone : (command before : List ℕ) → IsLine command → (items before).1 ≡ nothing
    → (items (before ++ given_keys command)).1 ≡ nothing
unfolding items_from
given-alone command before is h =
    ap (λ keys. (items (before ++ keys)).1) (sym (append-nil (given_keys command)))
    ∙ ap (λ (s : List Item × Rest). s.1) (given-between command before [] is h)

-- the client's own commands
pub fit-line : IsLine (codes "fit")
fit-line = record { plain = refl; short = lit≤ tt }

plain-digit : (n : ℕ) → n < 10 → is_plain (48 + n) ≡ true
plain-digit n few = grind (arith, nat_tests)

and-both : (a b : Bool) → a ≡ true → b ≡ true → (a && b) ≡ true
and-both true b p q = q
and-both false b p q = p

plain-decimal : (n : ℕ) → n < 2 ^ 64 → list_all is_plain (decimal n) ≡ true
plain-decimal n small =
    decimal_by_steps (λ m ds. list_all is_plain ds ≡ true)
    (λ m few. and-both (is_plain (48 + m)) true (plain-digit m few) refl)
    (λ m ds many h.
    list_all-append is_plain ds ((48 + m % 10) ∷ [])
    ∙ and-both (list_all is_plain ds) (list_all is_plain ((48 + m % 10) ∷ [])) h
    (and-both (is_plain (48 + m % 10)) true (plain-digit (m % 10) (omega arith)) refl))
    n small

pub view-line : (back : ℕ) → back < 65536 → IsLine (view_command back)
view-line back few =
    let short : length (decimal back) ≤ 5 = length-decimal-le 5 back (omega arith) (omega arith) (omega arith) in
    record { plain = plain-decimal back (omega arith); short = omega (arith, length-append {A = ℕ}) }

-- ---- keys to scroll by a page

-- a list by its first items
pub first-four : (keys : List ℕ) (a b c d : ℕ) → 4 ≤ length keys → get_or keys 0 0 ≡ a → get_or keys 1 0 ≡ b
    → get_or keys 2 0 ≡ c → get_or keys 3 0 ≡ d → keys ≡ a ∷ b ∷ c ∷ d ∷ take (length keys - 4) (drop 4 keys)
first-four (x ∷ y ∷ z ∷ u ∷ rest) a b c d many p q r s =
    let n : length (x ∷ y ∷ z ∷ u ∷ rest) - 4 ≡ length rest = omega arith in
    let t : take (length (x ∷ y ∷ z ∷ u ∷ rest) - 4) rest ≡ rest = ap (λ k. take k rest) n ∙ take_all (length rest) rest (omega arith) in cc
first-four _ a b c d many p q r s = absurd (omega arith)

pub first-six : (keys : List ℕ) (a b c d e f : ℕ) → 6 ≤ length keys → get_or keys 0 0 ≡ a → get_or keys 1 0 ≡ b
    → get_or keys 2 0 ≡ c → get_or keys 3 0 ≡ d → get_or keys 4 0 ≡ e → get_or keys 5 0 ≡ f
    → keys ≡ a ∷ b ∷ c ∷ d ∷ e ∷ f ∷ take (length keys - 6) (drop 6 keys)
first-six (x ∷ y ∷ z ∷ u ∷ v ∷ w ∷ rest) a b c d e f many p q r s i j =
    let n : length (x ∷ y ∷ z ∷ u ∷ v ∷ w ∷ rest) - 6 ≡ length rest = omega arith in
    let t : take (length (x ∷ y ∷ z ∷ u ∷ v ∷ w ∷ rest) - 6) rest ≡ rest = ap (λ k. take k rest) n ∙ take_all (length rest) rest (omega arith) in cc
first-six _ a b c d e f many p q r s i j = absurd (omega arith)
