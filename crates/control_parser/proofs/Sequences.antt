-- A complete control sequence.
use Rattle.control_parser.proofs.Vocabulary.{◌≡◌, ℕ, zero, suc, ◌+◌, ◌-◌, ◌<◌, ◌≤◌, Bool, true, arith, List, [], ◌∷◌}
use Rattle.control_parser.proofs.Vocabulary.{◌++◌, length, take, get_or, Some, refl, sym, ap, ◌∙◌, subst, list_all}
use Rattle.control_parser.proofs.Vocabulary.{take_more, list_all_more, Utf8, Csi, SequenceText, text_grown, no_text}
use Rattle.control_parser.proofs.Vocabulary.{valued, TakesDigits, parts, ReadsAs, fields, is_digit, longer, value_of}
use Rattle.control_parser.proofs.Vocabulary.{with_last, nat_tests}
use Rattle.control_parser.specs.Grammar.{is_sequence_text}
use Rattle.control_parser.proofs.Digits.{digit-last}
use Rattle.control_parser.proofs.Machine.{machine}
use Rattle.control_parser.proofs.Texts.{grown, parts-push}
use Rattle.control_parser.proofs.Keeping.{control_of-parts}
use Rattle.control_parser.proofs.Spelled.{control_run, last_low, reads_low}

pub no-text : parts [] ≡ Some no_text
unfolding parts fields
no-text = refl

-- the text with one more byte
pub text-more : (bytes : List ℕ) (at : ℕ) (text next : SequenceText) → at < length bytes
    → parts (take at bytes) ≡ Some text
    → text_grown text (get_or bytes at 0) ≡ Some next → parts (take (at + 1) bytes) ≡ Some next
text-more bytes at text next l h g =
    ap parts (take_more bytes at 0 l) ∙ parts-push (take at bytes) (get_or bytes at 0)
    ∙ ap (λ o. grown o (get_or bytes at 0)) h ∙ g

pub inside-more : (bytes : List ℕ) (at : ℕ) → at < length bytes → list_all is_sequence_text (take at bytes) ≡ true
    → is_sequence_text (get_or bytes at 0) ≡ true → list_all is_sequence_text (take (at + 1) bytes) ≡ true
inside-more bytes at l h g = rw (list_all_more is_sequence_text bytes at 0 l, h, g) refl

-- the text and a final
whole-text : (text : List ℕ) (t : SequenceText) (last : ℕ) → list_all is_sequence_text text ≡ true → parts text ≡ Some t
    → 0x3F < last → last < 0x7F
    → ReadsAs Utf8 (0x1B ∷ 0x5B ∷ (text ++ last ∷ [])) (Csi t.mark t.params t.intermediates last ∷ [])
unfolding machine
whole-text text t last h p above below =
    reads_low (0x1B ∷ 0x5B ∷ (text ++ last ∷ [])) (Csi t.mark t.params t.intermediates last ∷ [])
    (last_low text last h below)
    (control_run text last h above below ∙ rw (control_of-parts text last, p) refl)

pub sequence-whole : (bytes : List ℕ) (at : ℕ) (t : SequenceText) → at < length bytes
    → list_all is_sequence_text (take at bytes) ≡ true → parts (take at bytes) ≡ Some t
    → 0x3F < get_or bytes at 0 → get_or bytes at 0 < 0x7F
    → ReadsAs Utf8 (0x1B ∷ 0x5B ∷ take (at + 1) bytes) (Csi t.mark t.params t.intermediates (get_or bytes at 0) ∷ [])
sequence-whole bytes at t l h p above below =
    subst
    (λ (v : List ℕ). ReadsAs Utf8 (0x1B ∷ 0x5B ∷ v) (Csi t.mark t.params t.intermediates (get_or bytes at 0) ∷ []))
    (sym (take_more bytes at 0 l))
    (whole-text (take at bytes) t (get_or bytes at 0) h p above below)

-- the text with one more digit, which isn't written down yet
digit-grown : (t : SequenceText) (value c : ℕ) → TakesDigits t → is_digit c ≡ true
    → text_grown (valued t value) c ≡ Some (valued (record t { begun = true }) (longer value (c - 0x30)))
digit-grown t value c takes d = grind (arith, nat_tests, digit-last t.params value (c - 0x30))

pub no-digits : TakesDigits no_text
no-digits = record { few = refl; inside = refl }

-- the bytes up to here are the text, but for the value of its last parameter
pub record IsRead (bytes : List ℕ) (at : ℕ) (t : SequenceText) (value : ℕ) (takes_digits : Bool) : Type 0 where
  pub inside : list_all is_sequence_text (take at bytes) ≡ true
  pub text : parts (take at bytes) ≡ Some (valued t value)
  pub digits : takes_digits ≡ true → TakesDigits t

-- the bytes up to here are digits and semicolons; that something has begun is not written down
pub record IsNumerals (bytes : List ℕ) (at : ℕ) (t : SequenceText) (value : ℕ) : Type 0 where
  pub begun : Bool
  pub read : IsRead bytes at (record t { begun = begun }) value true

number-read : (bytes : List ℕ) (at : ℕ) (t : SequenceText) (value next : ℕ) → at < length bytes
    → IsNumerals bytes at t value
    → is_digit (get_or bytes at 0) ≡ true → next ≡ longer value (get_or bytes at 0 - 0x30)
    → IsNumerals bytes (at + 1) t next
number-read bytes at t value next l r d n =
    let now : SequenceText = record t { begun = r.begun } in
    let k = r.read.digits refl in
    record {
      begun = true;
      read = record {
        inside = inside-more bytes at l r.read.inside (grind (arith, nat_tests));
        text = rw n
            (text-more bytes at (valued now value) _ l r.read.text (digit-grown now value (get_or bytes at 0) k d));
        digits = λ y. record { few = k.few; inside = k.inside };
      };
    }

-- after the next `count` digits: `rest` has the bytes from there on
pub value-read : (bytes rest : List ℕ) (at count : ℕ) (t : SequenceText) → at + count ≤ length bytes
    → ((k : ℕ) → k < count → get_or rest k 0 ≡ get_or bytes (at + k) 0) → IsNumerals bytes at t 0
    → ((k : ℕ) → k < count → is_digit (get_or rest k 0) ≡ true) → IsNumerals bytes (at + count) t (value_of rest count)
value-read bytes rest at zero t room same r digits = subst (λ n. IsNumerals bytes n t 0) (omega arith) r
value-read bytes rest at (suc count) t room same r digits =
    let here : get_or rest count 0 ≡ get_or bytes (at + count) 0 = same count (omega arith) in
    subst (λ n. IsNumerals bytes n t (value_of rest (suc count))) (omega arith)
    (number-read bytes (at + count) t (value_of rest count) (value_of rest (suc count)) (omega arith)
    (value-read bytes rest at count t (omega arith) (λ k h. same k (omega arith)) r (λ k h. digits k (omega arith)))
    (ap is_digit (sym here) ∙ digits count (omega arith))
    (ap (λ d. longer (value_of rest count) (d - 0x30)) here))

-- a new parameter after a semicolon
next-grown : (t : SequenceText) → TakesDigits t → length t.params < 16
    → text_grown t 0x3B ≡ Some (record t { begun = true; params = t.params ++ 0 ∷ [] })
next-grown t takes few = grind (arith, nat_tests)

last-pushed : (values : List ℕ) → with_last (values ++ 0 ∷ []) 0 ≡ values ++ 0 ∷ []
last-pushed [] = refl
last-pushed (n ∷ []) = refl
last-pushed (n ∷ m ∷ ns) = ap (λ l. n ∷ l) (last-pushed (m ∷ ns))

pub next-read : (bytes : List ℕ) (at : ℕ) (t : SequenceText) (value : ℕ) (params : List ℕ) → at < length bytes
    → IsNumerals bytes at t value
    → get_or bytes at 0 ≡ 0x3B → params ≡ with_last t.params value → length params < 16
    → IsNumerals bytes (at + 1) (record t { params = params ++ 0 ∷ [] }) 0
next-read bytes at t value params l r c p few =
    let k = r.read.digits refl in
    let whole : SequenceText = record t { begun = r.begun; params = params } in
    record {
      begun = true;
      read = record {
        inside = inside-more bytes at l r.read.inside (rw c refl);
        text = rw (last-pushed params)
            (text-more bytes at whole _ l (rw p r.read.text)
            (rw c (next-grown whole (record { few = k.few; inside = k.inside }) few)));
        digits = λ y. record { few = k.few; inside = k.inside };
      };
    }
