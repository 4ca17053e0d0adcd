-- Bytes 20 to 7E are printed, each as a character of width 1.
use Rattle.terminal_model.proofs.Vocabulary.{◌≡◌, ℕ, Bool, true, false, ◌&&◌, List, [], ◌∷◌, map, Option, Some, refl}
use Rattle.terminal_model.proofs.Vocabulary.{ap, ◌∙◌, arith, list_all, nat_tests, char_width, is_plain, Print, nothing}
use Rattle.terminal_model.proofs.Vocabulary.{Screen, columns_of, drawn, effect, Read, ready, joined, reads}
use Rattle.cells.specs.Glyph.{drawn_as, glyph_columns}
use Rattle.control_parser.proofs.Pieces.{functions-plain}
use Rattle.terminal_model.proofs.Readings.{effects, acts_of}
use Rattle.terminal_model.proofs.Spellings.{done, ending}

width-plain : (c : ℕ) → is_plain c ≡ true → char_width false c ≡ Some 1
unfolding char_width
width-plain c h = grind (arith, nat_tests)

pub columns-plain : (c : ℕ) → is_plain c ≡ true → columns_of c ≡ 1
unfolding columns_of
columns-plain c h = ap glyph_columns (width-plain c h)

pub drawn-plain : (c : ℕ) → is_plain c ≡ true → drawn c ≡ c
unfolding drawn
drawn-plain c h = ap (λ (w : Option ℕ). drawn_as w c) (width-plain c h)

both : (p q : Bool) → (p && q) ≡ true → (p ≡ true) × (q ≡ true)
both p q h = grind (arith, nat_tests)

-- a terminal between characters, sequences and strings that has read bytes 20 to 7E; it answers
-- nothing
abbrev pub printed_read : Screen → List ℕ → Read
printed_read x bytes = record {
  terminal = ready (effects x (map (λ b. Print b) bytes));
  reports = [];
  acts = acts_of x (map (λ b. Print b) bytes);
}

pub reads-plain : (x : Screen) (bytes : List ℕ) → list_all is_plain bytes ≡ true
    → reads (ready x) bytes ≡ printed_read x bytes
unfolding reads
reads-plain x [] h = refl
reads-plain x (b ∷ bytes) h =
    let k = both (is_plain b) (list_all is_plain bytes) h in
    let low : is_plain b ≡ true = k.0 in
    ending x nothing (Print b) b bytes (grind (arith, nat_tests)) (functions-plain (b ∷ []) (rw low refl))
    ∙ ap (joined (done x (Print b))) (reads-plain (effect x (Print b)) bytes k.1)
