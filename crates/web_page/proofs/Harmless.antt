-- Texts of JSON say what they spell, and no byte of them is markup.
use Rattle.std.proofs.Common.{◌≡◌, ◌≢◌, ◌⊎◌, ℕ, ◌+◌, ◌/◌, ◌%◌, ◌<◌, ◌≤◌, true, false, cond}
use Rattle.std.proofs.Common.{nat_lt, List, [], ◌∷◌, ◌++◌, refl, arith, inl, inr, ⊎_elim}
use Rattle.std.proofs.lemmas.Bool.{or_parts, and_cases, ltb-false, ltb-true, eqb-false}
use Rattle.std.specs.List.{AllByRecursion}
use Rattle.std.specs.Char.{digit_char}
use lib.Utf8.{encode}
use Rattle.web_page.specs.Json.{is_escaped, escape, spelled_character, spelled_text, IsHarmless, Says}
use Rattle.web_page.specs.Json.{nothing, itself, escaped}

-- a character that stands for itself
record Itself (c : ℕ) : Type 0 where
  shown : 0x20 ≤ c
  quote : c ≢ 0x22
  ampersand : c ≢ 0x26
  apostrophe : c ≢ 0x27
  less : c ≢ 0x3C
  greater : c ≢ 0x3E
  backslash : c ≢ 0x5C
  high : (c ≤ 0x7E) ⊎ (0xA0 ≤ c)

itself_from : (c : ℕ) → is_escaped c ≡ false → Itself c
itself_from c e =
    let a = or_parts _ _ e in
    let b = or_parts _ _ a.0 in
    let d = or_parts _ _ b.0 in
    let f = or_parts _ _ d.0 in
    let g = or_parts _ _ f.0 in
    let h = or_parts _ _ g.0 in
    let i = or_parts _ _ h.0 in
    let j = or_parts _ _ i.0 in
    let k = or_parts _ _ j.0 in
    record {
      shown = ltb-false c 0x20 k.0;
      quote = eqb-false c 0x22 k.1;
      ampersand = eqb-false c 0x26 j.1;
      apostrophe = eqb-false c 0x27 i.1;
      less = eqb-false c 0x3C h.1;
      greater = eqb-false c 0x3E g.1;
      backslash = eqb-false c 0x5C f.1;
      high = ⊎_elim (λ l. inl (ltb-false 0x7E c l)) (λ l. inr (ltb-false c 0xA0 l)) (and_cases _ _ d.1);
    }

high_byte : (b : ℕ) → 0x80 ≤ b → IsHarmless b
high_byte b l = record {
  shown = omega arith;
  no_delete = omega arith;
  no_quote = omega arith;
  no_apostrophe = omega arith;
  no_ampersand = omega arith;
  no_less = omega arith;
  no_greater = omega arith;
}

digit_byte : (n : ℕ) → n < 16 → IsHarmless (digit_char n)
digit_byte n l =
    (elim (nat_lt n 10) as (λ b. nat_lt n 10 ≡ b → IsHarmless (cond b (48 + n) (87 + n))) [
      | true ↦ λ e. let m = ltb-true n 10 e in record {
        shown = omega arith;
        no_delete = omega arith;
        no_quote = omega arith;
        no_apostrophe = omega arith;
        no_ampersand = omega arith;
        no_less = omega arith;
        no_greater = omega arith;
      }
      | false ↦ λ e. let m = ltb-false n 10 e in record {
        shown = omega arith;
        no_delete = omega arith;
        no_quote = omega arith;
        no_apostrophe = omega arith;
        no_ampersand = omega arith;
        no_less = omega arith;
        no_greater = omega arith;
      }
    ]) refl

literal_byte : (b : ℕ) → 0x5C ≤ b → b < 0x7F → IsHarmless b
literal_byte b l m = record {
  shown = omega arith;
  no_delete = omega arith;
  no_quote = omega arith;
  no_apostrophe = omega arith;
  no_ampersand = omega arith;
  no_less = omega arith;
  no_greater = omega arith;
}

low_byte : (c : ℕ) → Itself c → c < 128 → IsHarmless c
low_byte c i l = record {
  shown = i.shown;
  no_delete = ⊎_elim (λ m. omega arith) (λ m. omega arith) i.high;
  no_quote = i.quote;
  no_apostrophe = i.apostrophe;
  no_ampersand = i.ampersand;
  no_less = i.less;
  no_greater = i.greater;
}

encoded : (c : ℕ) → Itself c → AllByRecursion IsHarmless (encode c)
unfolding encode
encoded c i =
    (elim (nat_lt c 128) as (λ b. nat_lt c 128 ≡ b → AllByRecursion IsHarmless
    (cond b (c ∷ []) (cond (nat_lt c 2048) ((192 + c / 64) ∷ (128 + c % 64) ∷ [])
    (cond (nat_lt c 65536) ((224 + c / 4096) ∷ (128 + c / 64 % 64) ∷ (128 + c % 64) ∷ [])
    ((240 + c / 262144) ∷ (128 + c / 4096 % 64) ∷ (128 + c / 64 % 64) ∷ (128 + c % 64) ∷ []))))) [
      | true ↦ λ e. (low_byte c i (ltb-true c 128 e), tt)
      | false ↦ λ e. elim (nat_lt c 2048) as (λ b. AllByRecursion IsHarmless
          (cond b ((192 + c / 64) ∷ (128 + c % 64) ∷ [])
          (cond (nat_lt c 65536) ((224 + c / 4096) ∷ (128 + c / 64 % 64) ∷ (128 + c % 64) ∷ [])
          ((240 + c / 262144) ∷ (128 + c / 4096 % 64) ∷ (128 + c / 64 % 64) ∷ (128 + c % 64) ∷ [])))) [
            | true ↦ (high_byte _ (omega arith), (high_byte _ (omega arith), tt))
            | false ↦ elim (nat_lt c 65536) as (λ b. AllByRecursion IsHarmless
                (cond b ((224 + c / 4096) ∷ (128 + c / 64 % 64) ∷ (128 + c % 64) ∷ [])
                ((240 + c / 262144) ∷ (128 + c / 4096 % 64) ∷ (128 + c / 64 % 64) ∷ (128 + c % 64) ∷ []))) [
                  | true ↦ (high_byte _ (omega arith), (high_byte _ (omega arith), (high_byte _ (omega arith), tt)))
                  | false ↦ (
                    high_byte _ (omega arith),
                    (
                      high_byte _ (omega arith),
                      (
                        high_byte _ (omega arith),
                        (high_byte _ (omega arith), tt),
                      ),
                    ),
                  )
                ]
          ]
    ]) refl

escaped_bytes : (c : ℕ) → AllByRecursion IsHarmless (escape c)
escaped_bytes c = (
  literal_byte 0x5C (omega arith) (omega arith),
  (
    literal_byte 0x75 (omega arith) (omega arith),
    (
      digit_byte (c / 4096 % 16) (omega arith),
      (
        digit_byte (c / 256 % 16) (omega arith),
        (digit_byte (c / 16 % 16) (omega arith), (digit_byte (c % 16) (omega arith), tt)),
      ),
    ),
  ),
)

all-append : (a b : List ℕ) → AllByRecursion IsHarmless a → AllByRecursion IsHarmless b
    → AllByRecursion IsHarmless (a ++ b)
all-append [] b p q = q
all-append (x ∷ a) b p q = (p.0, all-append a b p.1 q)

character : (c : ℕ) → AllByRecursion IsHarmless (spelled_character c)
unfolding spelled_character
character c =
    (elim (is_escaped c) as (λ b. is_escaped c ≡ b → AllByRecursion IsHarmless (cond b (escape c) (encode c))) [
      | true ↦ λ e. escaped_bytes c
      | false ↦ λ e. encoded c (itself_from c e)
    ]) refl

pub text_harmless : (text : List ℕ) → AllByRecursion IsHarmless (spelled_text text)
text_harmless [] = tt
text_harmless (c ∷ text) = all-append (spelled_character c) (spelled_text text) (character c) (text_harmless text)

pub text_says : (text : List ℕ) → Says (spelled_text text) text
unfolding spelled_character
text_says [] = nothing
text_says (c ∷ text) =
    (elim (is_escaped c) as (λ b. is_escaped c ≡ b
    → Says (cond b (escape c) (encode c) ++ spelled_text text) (c ∷ text)) [
      | true ↦ λ e. escaped c (spelled_text text) text (text_says text)
      | false ↦ λ e. let i = itself_from c e in
          itself c (spelled_text text) text i.shown i.quote i.backslash (text_says text)
    ]) refl
