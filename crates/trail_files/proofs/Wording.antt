-- One word after another.
use Rattle.std.proofs.Common.{◌≡◌, ◌∙◌, ◌<◌, ◌+◌, ◌-◌, ◌++◌, ℕ, suc, List, Bool, false, ap, sym, arith, append_assoc}
use Rattle.trail_files.specs.Json.{item_text, items_text}
use Rattle.trail_files.specs.Words.{behind_word, behind_words, first_word, words_in}

less : (n i : ℕ) → i < n → n - i ≡ suc (n - (i + 1))
less n i below = omega arith

pub behind_more : (n i : ℕ) (text : List ℕ) → i < n
    → behind_words (n - (i + 1)) (behind_word text) ≡ behind_words (n - i) text
behind_more n i text below = sym (ap (λ k. behind_words k text) (less n i below))

pub words_more : (n i : ℕ) (text out : List ℕ) (is_first : Bool) → i < n
    → (out ++ item_text is_first (first_word text)) ++ items_text false (words_in (n - (i + 1)) (behind_word text))
    ≡ out ++ items_text is_first (words_in (n - i) text)
words_more n i text out is_first below =
    append_assoc out (item_text is_first (first_word text))
    (items_text false (words_in (n - (i + 1)) (behind_word text)))
    ∙ sym (ap (λ k. out ++ items_text is_first (words_in k text)) (less n i below))
