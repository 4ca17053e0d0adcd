-- What was said in a step is said again in neither session, or in both.
use Rattle.session_alike.proofs.Vocabulary.{◌≡◌, ℕ, ◌+◌, ◌/◌, ◌%◌, ◌<◌, zero, suc, Bool, true, false, not, List, []}
use Rattle.session_alike.proofs.Vocabulary.{◌∷◌, ◌++◌, refl, ap, ◌∙◌, inl, inr, map, arith, if◌then◌else◌, ◌==◌, codes}
use Rattle.session_alike.proofs.Vocabulary.{decimal, nat_lt, list_any, bytes_eq, nat_tests, Matched, Effect, Say}
use Rattle.session_alike.proofs.Vocabulary.{Refusal, says_same, unsaid, behind, text_of, Renaming, effect_as}
use Rattle.session_alike.proofs.Vocabulary.{TextsAlike, item_as, line_of, listed, EffectsAlike, any_both, filter_match}
use Rattle.session_model.specs.declared.refusal.Refusal.TheVariants as refusal
use Rattle.session_alike.proofs.Histories.{client_test}
use Rattle.std.specs.Fmt.{digit_glyph, digits_onto}
unfoldable use Rattle.std.specs.Fmt.{digits}
use Rattle.std.proofs.lemmas.Slice.Eq.{bytes_eq-Decides}

-- ---- a list of clients doesn't begin with a letter, and a refusal does

abbrev first : List ℕ → ℕ
first [] = 0
first (b ∷ bytes) = b

abbrev Low : List ℕ → Type 0
Low xs = nat_lt 57 (first xs) ≡ false

low_front : (xs ys : List ℕ) → Low xs → Low ys → Low (xs ++ ys)
low_front [] ys p q = q
low_front (x ∷ xs) ys p q = p

glyph_low : (d : ℕ) → d < 10 → nat_lt 57 (digit_glyph false d) ≡ false
glyph_low d small = on (nat_lt d 10) refl where
  on : (b : Bool) → nat_lt d 10 ≡ b → nat_lt 57 (if b then 48 + d else (if false then 55 + d else 87 + d)) ≡ false
  on true is = grind (arith, nat_tests, small)
  on false is = absurd (grind (arith, nat_tests, is, small))

digits_low : (k m : ℕ) (acc : List ℕ) → Low acc → Low (digits_onto k 10 false m acc)
digits_low zero m acc low = low
digits_low (suc k) m acc low =
    on (m / 10 == 0) (digits_low k (m / 10) (digit_glyph false (m % 10) ∷ acc) (glyph_low (m % 10) (omega arith))) where
      on : (b : Bool) → Low (digits_onto k 10 false (m / 10) (digit_glyph false (m % 10) ∷ acc))
          → Low (if b then digit_glyph false (m % 10) ∷ acc
          else digits_onto k 10 false (m / 10) (digit_glyph false (m % 10) ∷ acc))
      on true rest = glyph_low (m % 10) (omega arith)
      on false rest = rest

decimal_low : (m : ℕ) → Low (decimal m)
unfolding digits
decimal_low m = digits_low 64 m [] refl

behind_low : (lines : List (List ℕ)) → Low (behind (codes "  ") lines)
behind_low [] = refl
behind_low (line ∷ lines) = refl

listed_low : (items : List (ℕ × List ℕ)) → Low (listed items)
listed_low [] = refl
listed_low (item ∷ items) =
    low_front (line_of item) (behind (codes "  ") (map line_of items))
    (low_front (decimal item.0) (codes " " ++ item.1) (decimal_low item.0) refl) (behind_low (map line_of items))

refusal_high : (r : Refusal) → nat_lt 57 (first (text_of r)) ≡ true
refusal_high refusal.NotMultiuser = refl
refusal_high _ = refl

other_text : (xs ys : List ℕ) → Low xs → nat_lt 57 (first ys) ≡ true → bytes_eq xs ys ≡ false
other_text xs ys low high = on (bytes_eq xs ys) refl where
  on : (b : Bool) → bytes_eq xs ys ≡ b → b ≡ false
  on false is = refl
  on true is =
      let e : xs ≡ ys = (bytes_eq-Decides xs ys).0 is in
      let same : nat_lt 57 (first xs) ≡ nat_lt 57 (first ys) = ap (λ x. nat_lt 57 (first x)) e in
      absurd (cc (same, low, high))

-- ---- effects

-- what typed bytes cause: input, or a refusal that is said
abbrev pub TypedAlike : Renaming → Effect → Effect → Type 0
TypedAlike n (Say client x) f = (r : Refusal) × (x ≡ text_of r) × (f ≡ Say (n.client client) x)
TypedAlike n s f = f ≡ effect_as n s

module _ (n : Renaming) where
  pub typed_alike : (s f : Effect) → TypedAlike n s f → EffectsAlike n s f
  typed_alike (Say client x) f m = (x, m.2, inl refl)
  typed_alike s f m = m

  refusal_text : (x y z : List ℕ) → TextsAlike n x y → (r : Refusal) → z ≡ text_of r → bytes_eq y z ≡ bytes_eq x z
  refusal_text x y z (inl same) r is = ap (λ w. bytes_eq w z) same
  refusal_text x y z (inr lists) r is =
      let items = map (item_as n) lists.items in
      let this = other_text (listed lists.items) (text_of r) (listed_low lists.items) (refusal_high r) in
      let other = other_text (listed items) (text_of r) (listed_low items) (refusal_high r) in
      cc (lists.other, lists.this, is, this, other)

  said_same : (e f : Effect) → EffectsAlike n e f → (s g : Effect) → TypedAlike n s g
      → says_same f g ≡ says_same e s
  said_same (Say a x) f m (Say b z) g k = cc (m.1, k.2, client_test n a b, refusal_text x m.0 z m.2 k.0 k.1)
  said_same (Say a x) f m s g k = ap (λ p. says_same p g) m.1 ∙ ap (says_same (Say (n.client a) m.0)) k
  said_same e f m s g k = ap (λ p. says_same p g) m

  pub unsaid_both : (said other : List Effect) → Matched (TypedAlike n) said other → (es fs : List Effect)
      → Matched (EffectsAlike n) es fs → Matched (EffectsAlike n) (unsaid said es) (unsaid other fs)
  unsaid_both said other m es fs k =
      filter_match (EffectsAlike n) (λ e. not (list_any (says_same e) said)) (λ e. not (list_any (says_same e) other))
      (λ e f r. ap not (any_both (TypedAlike n) (says_same e) (says_same f) (said_same e f r) said other m)) es fs k
