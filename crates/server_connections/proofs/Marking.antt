-- Bits of a word, and the marks of keys.
use Rattle.std.proofs.Common.{◌≡◌, ◌≢◌, ℕ, zero, suc, ◌+◌, ◌-◌, ◌*◌, ◌/◌, ◌%◌, ◌^◌, ◌<◌, ◌≤◌, List, [], ◌∷◌, ◌++◌}
use Rattle.std.proofs.Common.{length, get_or, set, min, ◌∙◌, ap, sym, refl, arith, inl, inr, w64}
use Rattle.std.specs.Prelude.{bit_and, bit_or, ◌↔◌}
use Rattle.std.specs.Int.{bit_at, trailing_zeros}
use Rattle.std.proofs.lemmas.Nat.Bits.{bit_at_and, bit_at-lt, bit_at-zero, bit_at_mask_inside, bit_at_mask_below}
use Rattle.std.proofs.lemmas.Nat.Bits.{ones_shl, bit_at-trailing_zeros, bit_at_set_same, bit_at_set_other}
use Rattle.std.proofs.lemmas.Nat.Bits.{bit_at_clear_same, bit_at_clear_other}
use Rattle.std.proofs.lemmas.Bool.{cases_lt, cases_eq}
use Rattle.std.proofs.lemmas.List.{get_or-set_same, get_or-set_other, length-set}
use Rattle.server_connections.specs.Marked.{IsMarked, IsSameBut, IsNext, NoneFrom, IsFirstBit, HasNoBit, HaveSameMarks}
use Rattle.server_connections.specs.Marked.{with_mark, without_mark}

-- the bits of a word from one on
abbrev pub above : ℕ → ℕ → ℕ
above word from = bit_and word ((2 ^ 64 - 1) * 2 ^ from % 2 ^ 64)

stays : (b : ℕ) → b < 2 → min b 1 ≡ b
stays b small = omega arith

goes : (b : ℕ) → min b 0 ≡ 0
goes b = omega arith

pub kept : (word from i : ℕ) → from < 64 → from ≤ i → i < 64 → bit_at (above word from) i ≡ bit_at word i
kept word from i small low high =
    bit_at_and word ((2 ^ 64 - 1) * 2 ^ from % 2 ^ 64) i
    ∙ ap (λ m. min (bit_at word i) (bit_at m i)) (ones_shl 64 from (omega arith))
    ∙ ap (λ b. min (bit_at word i) b) (bit_at_mask_inside from 64 i low high)
    ∙ stays (bit_at word i) (bit_at-lt word i)

pub gone : (word from i : ℕ) → from < 64 → i < from → bit_at (above word from) i ≡ 0
gone word from i small low =
    bit_at_and word ((2 ^ 64 - 1) * 2 ^ from % 2 ^ 64) i
    ∙ ap (λ m. min (bit_at word i) (bit_at m i)) (ones_shl 64 from (omega arith))
    ∙ ap (λ b. min (bit_at word i) b) (bit_at_mask_below from 64 i low)
    ∙ goes (bit_at word i)

pub lowest : (word from : ℕ) → from < 64 → 0 < above word from → above word from < 2 ^ 64
    → IsFirstBit word from (trailing_zeros w64 (above word from))
lowest word from small some within =
    let t = bit_at-trailing_zeros w64 (above word from) some within in
    let bit : ℕ = trailing_zeros w64 (above word from) in
    let high : bit < 64 = t.0 in
    let low : from ≤ bit = by_bits bit t.1 in
    record {
      within = (low, high);
      is_set = sym (kept word from bit small low high) ∙ t.1;
      first = λ i at below is.
          let clear : bit_at (above word from) i ≡ 0 = t.2 i below in
          let e = kept word from i small at (omega (arith, high, below)) in
          absurd (omega (arith, clear, e, is));
    }
  where
    by_bits : (bit : ℕ) → bit_at (above word from) bit ≡ 1 → from ≤ bit
    by_bits bit is = elim (cases_lt bit from) [
      | inl lt ↦ absurd (let e = gone word from bit small lt in omega (arith, e, is))
      | inr le ↦ le
    ]

pub nothing : (word from : ℕ) → from < 64 → above word from ≡ 0 → HasNoBit word from
nothing word from small none i low high is =
    let e = sym (kept word from i small low high) ∙ ap (λ m. bit_at m i) none
    ∙ bit_at-zero i in absurd (omega (arith, e, is))

-- ---- marks of keys

-- after the words no bit is set
past : (words : List ℕ) (i : ℕ) → length words ≤ i → get_or words i 0 ≡ 0
past [] i le = refl
past (x ∷ xs) zero le = absurd (omega arith)
past (x ∷ xs) (suc i) le = past xs i (omega arith)

pub unmarked_past : (words : List ℕ) (key : ℕ) → length words ≤ key / 64 → IsMarked words key → ⊥
unmarked_past words key le is =
    let e = ap (λ w. bit_at w (key % 64)) (past words (key / 64) le)
    ∙ bit_at-zero (key % 64) in absurd (omega (arith, e, is))

with_nothing : (words : List ℕ) (i : ℕ) → get_or (words ++ 0 ∷ []) i 0 ≡ get_or words i 0
with_nothing [] zero = refl
with_nothing [] (suc i) = refl
with_nothing (x ∷ xs) zero = refl
with_nothing (x ∷ xs) (suc i) = with_nothing xs i

pub by_bit : (old new : List ℕ) (key : ℕ)
    → bit_at (get_or new (key / 64) 0) (key % 64) ≡ bit_at (get_or old (key / 64) 0) (key % 64)
    → IsMarked new key ↔ IsMarked old key
by_bit old new key e = (λ is. sym e ∙ is, λ is. e ∙ is)

pub same_marks : (words : List ℕ) → HaveSameMarks words words
same_marks words key = by_bit words words key refl

-- a word more, in which no bit is set
pub one_word_more : (old words : List ℕ) → HaveSameMarks old words → HaveSameMarks old (words ++ 0 ∷ [])
one_word_more old words same key =
    let e = by_bit words (words ++ 0 ∷ []) key (ap (λ w. bit_at w (key % 64)) (with_nothing words (key / 64))) in
    (λ is. (same key).0 (e.0 is), λ is. e.1 ((same key).1 is))

module _ (words : List ℕ) (key w : ℕ) (within : key / 64 < length words) where
  new : List ℕ
  new = set words (key / 64) w

  at_it : get_or (set words (key / 64) w) (key / 64) 0 ≡ w
  at_it = get_or-set_same words (key / 64) w 0 within

  other_bit : ((i : ℕ) → i < 64 → i ≢ key % 64 → bit_at w i ≡ bit_at (get_or words (key / 64) 0) i)
      → (k : ℕ) → k ≢ key
      → bit_at (get_or (set words (key / 64) w) (k / 64) 0) (k % 64) ≡ bit_at (get_or words (k / 64) 0) (k % 64)
  other_bit same k other =
      elim (cases_eq (k / 64) (key / 64)) [
        | inl at ↦
            ap (λ n. bit_at (get_or (set words (key / 64) w) n 0) (k % 64)) at ∙ ap (λ v. bit_at v (k % 64)) at_it
            ∙ same (k % 64) (omega arith) (λ e. other (omega (arith, at, e)))
            ∙ sym (ap (λ n. bit_at (get_or words n 0) (k % 64)) at)
        | inr apart ↦ ap (λ v. bit_at v (k % 64)) (get_or-set_other words (key / 64) (k / 64) w 0 apart)
      ]

  same_but : ((i : ℕ) → i < 64 → i ≢ key % 64 → bit_at w i ≡ bit_at (get_or words (key / 64) 0) i)
      → IsSameBut key words (set words (key / 64) w)
  same_but same = record {
    others = λ k other. by_bit words (set words (key / 64) w) k (other_bit same k other);
    room = length-set words (key / 64) w;
  }

any_default : (words : List ℕ) (i d e : ℕ) → i < length words → get_or words i d ≡ get_or words i e
any_default [] i d e lt = absurd (omega arith)
any_default (x ∷ xs) zero d e lt = refl
any_default (x ∷ xs) (suc i) d e lt = any_default xs i d e (omega arith)

module _ (words : List ℕ) (key v : ℕ) (within : key / 64 < length words) (is : v ≡ get_or words (key / 64) v) where
  at_zero : v ≡ get_or words (key / 64) 0
  at_zero = is ∙ any_default words (key / 64) v 0 within

  pub as_marked : set words (key / 64) (bit_or v (1 * 2 ^ (key % 64) % 2 ^ 64)) ≡ with_mark words key
  as_marked = ap (λ w. set words (key / 64) (bit_or w (1 * 2 ^ (key % 64) % 2 ^ 64))) at_zero

  pub as_unmarked : set words (key / 64) (bit_and v (2 ^ 64 - 1 - 1 * 2 ^ (key % 64) % 2 ^ 64))
      ≡ without_mark words key
  as_unmarked = ap (λ w. set words (key / 64) (bit_and w (2 ^ 64 - 1 - 1 * 2 ^ (key % 64) % 2 ^ 64))) at_zero

  pub marked : IsMarked (set words (key / 64) (bit_or v (1 * 2 ^ (key % 64) % 2 ^ 64))) key
  marked =
      ap (λ w. bit_at w (key % 64))
      (get_or-set_same words (key / 64) (bit_or v (1 * 2 ^ (key % 64) % 2 ^ 64)) 0 within)
      ∙ bit_at_set_same w64 v (key % 64) (omega arith)

  pub marked_alone : IsSameBut key words (set words (key / 64) (bit_or v (1 * 2 ^ (key % 64) % 2 ^ 64)))
  marked_alone =
      same_but words key (bit_or v (1 * 2 ^ (key % 64) % 2 ^ 64)) within
      (λ i small other. bit_at_set_other w64 v (key % 64) (omega arith) i other ∙ ap (λ w. bit_at w i) at_zero)

  pub unmarked : IsMarked (set words (key / 64) (bit_and v (2 ^ 64 - 1 - 1 * 2 ^ (key % 64) % 2 ^ 64))) key → ⊥
  unmarked marks =
      let e = ap (λ w. bit_at w (key % 64))
      (get_or-set_same words (key / 64) (bit_and v (2 ^ 64 - 1 - 1 * 2 ^ (key % 64) % 2 ^ 64)) 0 within)
      ∙ bit_at_clear_same w64 v (key % 64) (omega arith) in
      absurd (omega (arith, e, marks))

  pub unmarked_alone : IsSameBut key words
      (set words (key / 64) (bit_and v (2 ^ 64 - 1 - 1 * 2 ^ (key % 64) % 2 ^ 64)))
  unmarked_alone =
      same_but words key (bit_and v (2 ^ 64 - 1 - 1 * 2 ^ (key % 64) % 2 ^ 64)) within
      (λ i small other. bit_at_clear_other w64 v (key % 64) (omega arith) i small other
      ∙ ap (λ w. bit_at w i) at_zero)

-- ---- the next mark

-- none is marked from a key on, before another one
abbrev pub NoneBetween : List ℕ → ℕ → ℕ → Type 0
NoneBetween words from end = (k : ℕ) → from ≤ k → k < end → IsMarked words k → ⊥

at_key : (words : List ℕ) (place bit : ℕ) → bit < 64
    → bit_at (get_or words ((place * 64 + bit) / 64) 0) ((place * 64 + bit) % 64) ≡ bit_at (get_or words place 0) bit
at_key words place bit small =
    let q : (place * 64 + bit) / 64 ≡ place = omega arith in
    let r : (place * 64 + bit) % 64 ≡ bit = omega arith in
    ap (λ n. bit_at (get_or words n 0) ((place * 64 + bit) % 64)) q ∙ ap (λ i. bit_at (get_or words place 0) i) r

of_key : (words : List ℕ) (place k : ℕ) → k / 64 ≡ place → IsMarked words k
    → bit_at (get_or words place 0) (k % 64) ≡ 1
of_key words place k at is = sym (ap (λ n. bit_at (get_or words n 0) (k % 64)) at) ∙ is

module _ (words : List ℕ) (from place low : ℕ) (small : low < 64) (begun : from ≤ 64 * place + low)
    (none : NoneBetween words from (64 * place + low)) where
  pub next_here : (bit : ℕ) → IsFirstBit (get_or words place 0) low bit → IsNext words from (place * 64 + bit)
  next_here bit first = record {
    behind = let b = first.within.0 in omega (arith, begun, b);
    marked = at_key words place bit first.within.1 ∙ first.is_set;
    first = λ k behind below is. elim (cases_lt k (64 * place + low)) [
      | inl lt ↦ none k behind lt is
      | inr le ↦
          let b = first.within.1 in
          let at : k / 64 ≡ place = omega (arith, le, below, b) in
          absurd (first.first (k % 64) (omega (arith, le, at, below, b)) (omega (arith, le, at, below, b))
          (of_key words place k at is))
    ];
  }

  pub none_behind : length words ≤ place → NoneFrom words from
  none_behind all k behind is =
      elim (cases_lt (k / 64) (length words)) [
        | inl lt ↦ none k behind (omega (arith, lt, all)) is
        | inr le ↦ unmarked_past words k le is
      ]
