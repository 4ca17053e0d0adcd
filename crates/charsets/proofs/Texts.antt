-- Texts joined.
use Rattle.std.proofs.Common.{◌≡◌, ℕ, ◌+◌, ◌-◌, true, List, [], ◌∷◌, ◌++◌, length, take, drop, refl, sym, ap, ◌∙◌}
use Rattle.std.proofs.Common.{subst, arith}
use Rattle.std.specs.List.{list_all}
use Rattle.std.proofs.Math.Seq.{take-add}
use Rattle.std.proofs.lemmas.List.{take_all, length-drop}
use Rattle.std.proofs.lemmas.List.Folds.{list_all-append}
use Rattle.charsets.specs.Utf8.{cut, codes, with_front}
use Rattle.charsets.specs.Units.{is_character}
use Rattle.charsets.specs.Text.{text, IsText}
use Rattle.charsets.proofs.Cuts.{codes-go_on}

pub codes-append : (front later : List ℕ) → (codes front).1 ≡ []
    → codes (front ++ later) ≡ with_front (codes front).0 (codes later)
codes-append front later h = rw h at (codes-go_on front later)

pub text-append : (front later : List ℕ) → IsText front → text (front ++ later) ≡ text front ++ text later
text-append front later is = ap (λ (p : List ℕ × List ℕ). p.0) (codes-append front later is.whole)

pub IsText-append : (front later : List ℕ) → IsText front → IsText later → IsText (front ++ later)
IsText-append front later first second = record {
  whole = ap (λ (p : List ℕ × List ℕ). p.1) (codes-append front later first.whole) ∙ second.whole;
  graphic = ap (list_all is_character) (text-append front later first)
      ∙ list_all-append is_character (text front) (text later) ∙ rw (first.graphic, second.graphic) refl;
}

pub text-none : text [] ≡ []
unfolding cut
text-none = refl

pub IsText-none : IsText []
unfolding cut
IsText-none = record { whole = refl; graphic = refl }

-- bytes that are one graphic character
pub IsText-one : (bytes : List ℕ) (character : ℕ) → codes bytes ≡ (character ∷ [], []) → is_character character ≡ true
    → IsText bytes
IsText-one bytes character reads is = record {
  whole = ap (λ (p : List ℕ × List ℕ). p.1) reads;
  graphic = ap (λ (p : List ℕ × List ℕ). list_all is_character p.0) reads ∙ rw is refl;
}

-- the text that goes on behind the first bytes
module _ (bytes : List ℕ) (read size : ℕ) where
  abbrev later : List ℕ
  later = take size (take (length bytes - read) (drop read bytes))

  taken : take (read + size) bytes ≡ take read bytes ++ later
  taken = take-add read size bytes ∙ ap (λ (v : List ℕ). take read bytes ++ take size v)
      (sym (take_all (length bytes - read) (drop read bytes) (omega (arith, length-drop read bytes))))

  pub text-more : IsText (take read bytes) → text (take (read + size) bytes) ≡ text (take read bytes) ++ text later
  text-more first = ap text taken ∙ text-append (take read bytes) later first

  pub IsText-more : IsText (take read bytes) → IsText later → IsText (take (read + size) bytes)
  IsText-more first second = subst IsText (sym taken) (IsText-append (take read bytes) later first second)
