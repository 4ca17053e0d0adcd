-- Control sequences of digits and semicolons, read from a list of bytes at once.
use Rattle.emulator.proofs.Vocabulary.{◌≡◌, ℕ, ◌+◌, ◌-◌, ◌<◌, ◌≤◌, true, false, arith, List, [], ◌∷◌, ◌++◌, length}
use Rattle.emulator.proofs.Vocabulary.{take, drop, set, get_or, Option, Some, None, IfSome, refl, sym, ap, ◌∙◌, subst}
use Rattle.emulator.proofs.Vocabulary.{length-take-le, nat_tests, length-set, get_or-take, Utf8, Csi, ReadsAs, no_text}
use Rattle.std.specs.Prelude.{◌==◌}
use Rattle.std.proofs.lemmas.List.{take_more_set, get_or-drop}
use Rattle.control_parser.specs.declared.state.SequenceText.{SequenceText}
use Rattle.control_parser.specs.Grammar.{is_sequence_text}
use Rattle.control_parser.specs.Steps.{text_grown, valued}
use Rattle.control_parser.specs.Text.{is_intermediate, is_digit, is_mark, value_of, with_last}
use Rattle.control_parser.proofs.Sequences.{IsNumerals, no-text, no-digits, text-more, inside-more, sequence-whole}
use Rattle.control_parser.proofs.Sequences.{value-read, next-read}

-- a private marker
mark-grown : (m : ℕ) → is_mark m ≡ true → text_grown no_text m ≡ Some (record no_text { begun = true; mark = Some m })
mark-grown m is =
    let a : is_intermediate m ≡ false = grind (arith, nat_tests) in
    let d : is_digit m ≡ false = grind (arith, nat_tests) in
    let s : (m == 0x3B) ≡ false = grind (arith, nat_tests) in
    rw (a, d, s, is) refl

mark-read : (bytes : List ℕ) (m : ℕ) → take 1 bytes ≡ m ∷ [] → is_mark m ≡ true
    → IsNumerals bytes 1 (record no_text { mark = Some m }) 0
mark-read [] m front is = absurd (cc front)
mark-read (b ∷ bytes) m front is =
    let same : b ≡ m = cc in
    let marks : is_mark b ≡ true = rw same is in
    let inside : is_sequence_text b ≡ true = grind (arith, nat_tests) in
    record {
      begun = true;
      read = record {
        inside = inside-more (b ∷ bytes) 0 (omega arith) refl inside;
        text = text-more (b ∷ bytes) 0 no_text (record no_text { begun = true; mark = Some m }) (omega arith) no-text
            (rw same (mark-grown m is));
        digits = λ on. record { few = refl; inside = refl };
      };
    }

-- the private marker, if there is one
pub begun-read : (bytes : List ℕ) (mark : Option ℕ) (at : ℕ)
    → IfSome mark (λ m. take 1 bytes ≡ m ∷ []) → IfSome mark (λ m. is_mark m ≡ true) → IfSome mark (λ m. at ≡ 1)
    → (mark ≡ None → at ≡ 0) → IsNumerals bytes at (record no_text { mark = mark }) 0
begun-read bytes None at front is one none =
    subst (λ n. IsNumerals bytes n no_text 0) (sym (none refl))
    (record { begun = false; read = record { inside = refl; text = no-text; digits = λ on. no-digits } })
begun-read bytes (Some m) at front is one none =
    subst (λ n. IsNumerals bytes n (record no_text { mark = Some m }) 0) (sym one) (mark-read bytes m front is)

-- the value of a parameter that is absent so far
pub with_last-pushed : (values : List ℕ) (value : ℕ) → with_last (values ++ 0 ∷ []) value ≡ values ++ value ∷ []
with_last-pushed [] value = refl
with_last-pushed (n ∷ []) value = refl
with_last-pushed (n ∷ m ∷ ns) value = ap (λ l. n ∷ l) (with_last-pushed (m ∷ ns) value)

-- The byte before `next` is this one, and the bytes before it are parameters, the last of which has this value.
pub record IsBehind (bytes : List ℕ) (next : ℕ) (mark : Option ℕ) (params : List ℕ) (value last : ℕ) : Type 0 where
  pub some : 0 < next
  pub inside : next ≤ length bytes
  pub read : IsNumerals bytes (next - 1) (record no_text { mark = mark; params = params ++ 0 ∷ [] }) value
  pub here : last ≡ get_or bytes (next - 1) 0

-- after a parameter's digits from `at` on, which a list reads that has the bytes from there on
pub numeral-behind : (bytes : List ℕ) (at behind value last : ℕ) (mark : Option ℕ) (params : List ℕ)
    → at + behind ≤ length bytes → 0 < behind
    → IsNumerals bytes at (record no_text { mark = mark; params = params ++ 0 ∷ [] }) 0
    → value ≡ value_of (take (length bytes - at) (drop at bytes)) (behind - 1)
    → ((k : ℕ) → k < behind - 1 → is_digit (get_or (take (length bytes - at) (drop at bytes)) k 0) ≡ true)
    → last ≡ get_or (take (length bytes - at) (drop at bytes)) (behind - 1) 0
    → IsBehind bytes (at + behind) mark params value last
numeral-behind bytes at behind value last mark params room some read is digits c =
    let rest : List ℕ = take (length bytes - at) (drop at bytes) in
    let t : SequenceText = record no_text { mark = mark; params = params ++ 0 ∷ [] } in
    let place : at + (behind - 1) ≡ at + behind - 1 = omega (arith, some) in
    let same : (k : ℕ) → k < behind → get_or rest k 0 ≡ get_or bytes (at + k) 0 = λ k h.
    get_or-take (length bytes - at) (drop at bytes) k 0 (omega (arith, h, room)) ∙ get_or-drop at bytes k 0 in
    record {
      some = omega (arith, some);
      inside = room;
      read = subst (λ n. IsNumerals bytes n t value) place
          (subst (λ v. IsNumerals bytes (at + (behind - 1)) t v) (sym is)
          (value-read bytes rest at (behind - 1) t (omega (arith, room)) (λ k h. same k (omega (arith, h))) read
          digits));
      here = c ∙ same (behind - 1) (omega (arith, some)) ∙ ap (λ n. get_or bytes n 0) place;
    }

-- the parameters, with one more at their end
params-more : (params : List ℕ) (count value : ℕ) → count < length params
    → with_last (take count params ++ 0 ∷ []) value ≡ take (count + 1) (set params count value)
params-more params count value few =
    with_last-pushed (take count params) value ∙ sym (take_more_set params count value few)

-- a semicolon after a parameter
pub parameter-read : (bytes : List ℕ) (next count value last : ℕ) (mark : Option ℕ) (params : List ℕ)
    → IsBehind bytes next mark (take count params) value last → last ≡ 0x3B → count < 15 → count < length params
    → IsNumerals bytes next
    (record no_text { mark = mark; params = take (count + 1) (set params count value) ++ 0 ∷ [] }) 0
parameter-read bytes next count value last mark params h c few inside =
    let now : List ℕ = take (count + 1) (set params count value) in
    let n : length now ≡ count + 1 = length-take-le (count + 1) (set params count value)
    (omega (arith, inside, length-set params count value)) in
    subst (λ k. IsNumerals bytes k (record no_text { mark = mark; params = now ++ 0 ∷ [] }) 0) (omega (arith, h.some))
    (next-read bytes (next - 1) (record no_text { mark = mark; params = take count params ++ 0 ∷ [] }) value now
    (omega (arith, h.some, h.inside)) h.read (sym h.here ∙ c) (sym (params-more params count value inside))
    (omega (arith, few, n)))

-- a final byte after a parameter
pub final-read : (bytes : List ℕ) (next count value last : ℕ) (mark : Option ℕ) (params : List ℕ)
    → IsBehind bytes next mark (take count params) value last → 0x3F < last → last < 0x7F → count < length params
    → ReadsAs Utf8 (0x1B ∷ 0x5B ∷ take next bytes) (Csi mark (take (count + 1) (set params count value)) [] last ∷ [])
final-read bytes next count value last mark params h above below inside =
    let t : SequenceText = record no_text
    { begun = h.read.begun; mark = mark; params = take count params ++ 0 ∷ [] } in
    let place : next - 1 + 1 ≡ next = omega (arith, h.some) in
    let whole = sequence-whole bytes (next - 1) (valued t value) (omega (arith, h.some, h.inside)) h.read.read.inside
    h.read.read.text (omega (arith, above, h.here)) (omega (arith, below, h.here)) in
    rw (sym place, sym (params-more params count value inside), h.here) whole
