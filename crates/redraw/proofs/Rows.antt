-- A line that is drawn from left to right.
use Rattle.redraw.proofs.Vocabulary.{◌≡◌, ℕ, zero, suc, ◌+◌, ◌<◌, ◌≤◌, false, ◌&&◌, cond, eqb, refl, sym, ap, ◌∙◌}
use Rattle.redraw.proofs.Vocabulary.{arith, ⊎_elim, lt-ltb, le-ltb, eq-eqb, cases_lt, cases_eq, ne_eqb, Cell, blank}
use Rattle.redraw.proofs.Vocabulary.{is_left, is_right, Row, row_written, mixed}

-- a right half stands exactly after each left half
pub record IsPairedRow (row : Row) : Type 0 where
  pub first : is_right (row 0).shape ≡ false
  pub next : (column : ℕ) → is_left (row column).shape ≡ is_right (row (suc column)).shape

module _ (row : Row) (at n : ℕ) (fresh : Row) where
  pub over_front : (c : ℕ) → c < at → (suc c ≡ at → is_left (row c).shape ≡ false)
      → row_written row at n fresh c ≡ row c
  over_front c h whole = ⊎_elim
      (λ (e : suc c ≡ at). let k : c + 1 ≡ at = omega arith in rw (lt-ltb c at h, eq-eqb (c + 1) at k, whole e) refl)
      (λ (ne : suc c ≡ at → ⊥). let k : c + 1 ≡ at
      → ⊥ = (λ z. ne (omega arith)) in rw (lt-ltb c at h, ne_eqb (c + 1) at k) refl)
      (cases_eq (suc c) at)

  pub over_fresh : (c : ℕ) → at ≤ c → c < at + n → row_written row at n fresh c ≡ fresh c
  over_fresh c h k = rw (le-ltb c at h, lt-ltb c (at + n) k) refl

  pub over_behind : (c : ℕ) → at + n ≤ c
      → row_written row at n fresh c ≡ cond (eqb c (at + n) && is_right (row c).shape) blank (row c)
  over_behind c h = let k : at ≤ c = omega arith in rw (le-ltb c at k, le-ltb c (at + n) h) refl

module _ (old new : Row) where
  pub mixed_front : (at c : ℕ) → c < at → mixed old new at c ≡ new c
  mixed_front at c h = rw (lt-ltb c at h) refl

  pub mixed_behind : (at c : ℕ) → at ≤ c → mixed old new at c ≡ cond (eqb c at && is_right (old c).shape) blank (old c)
  mixed_behind at c h = rw (le-ltb c at h) refl

  pub mixed_whole : (at c : ℕ) → at ≤ c → (c ≡ at → is_right (old c).shape ≡ false) → mixed old new at c ≡ old c
  mixed_whole at c h whole = ⊎_elim
      (λ (e : c ≡ at). mixed_behind at c h ∙ rw (eq-eqb c at e, whole e) refl)
      (λ (ne : c ≡ at → ⊥). mixed_behind at c h ∙ rw (ne_eqb c at ne) refl)
      (cases_eq c at)

  -- new cells from the column on up to which the line is drawn
  pub mixed_over : (row : Row) (at n c : ℕ) → IsPairedRow new → 0 < n → is_right (new at).shape ≡ false
      → row c ≡ mixed old new at c → row_written row at n new c ≡ mixed old new (at + n) c
  mixed_over row at n c paired some whole same = ⊎_elim
      (λ (front : c < at).
      over_front row at n new c front
      (λ e. ap (λ (x : Cell). is_left x.shape) (same ∙ mixed_front at c front) ∙ paired.next c
      ∙ ap (λ k. is_right (new k).shape) e ∙ whole)
      ∙ same ∙ mixed_front at c front ∙ sym (mixed_front (at + n) c (omega arith)))
      (λ (past : at ≤ c). ⊎_elim
      (λ (inside : c < at + n). over_fresh row at n new c past inside ∙ sym (mixed_front (at + n) c inside))
      (λ (behind : at + n ≤ c).
      let was : row c ≡ old c = same ∙ mixed_whole at c past (λ e. absurd (omega arith)) in
      over_behind row at n new c behind ∙ ap (λ (x : Cell). cond (eqb c (at + n) && is_right x.shape) blank x) was
      ∙ sym (mixed_behind (at + n) c behind))
      (cases_lt c (at + n)))
      (cases_lt c at)

  -- a run of cells that look alike in both lines
  pub mixed_same : (k j c : ℕ) → IsPairedRow old → IsPairedRow new → k ≤ j → is_right (new k).shape ≡ false
      → is_right (new j).shape ≡ false
      → ((i : ℕ) → k ≤ i → i < j → old i ≡ new i) → mixed old new k c ≡ mixed old new j c
  mixed_same k j c po pn order at_k at_j same = ⊎_elim
      (λ (front : c < k). mixed_front k c front ∙ sym (mixed_front j c (omega arith)))
      (λ (past : k ≤ c). ⊎_elim
      (λ (inside : c < j).
      mixed_whole k c past
      (λ e. ap (λ (x : Cell). is_right x.shape) (same c past inside) ∙ ap (λ i. is_right (new i).shape) e ∙ at_k)
      ∙ same c past inside ∙ sym (mixed_front j c inside))
      (λ (behind : j ≤ c). ⊎_elim
      (λ (e : k ≡ j). ap (λ i. mixed old new i c) e)
      (λ (ne : k ≡ j → ⊥).
      mixed_whole k c past (λ e. absurd (omega arith))
      ∙ sym (mixed_whole j c behind (λ e. whole_before c (omega arith) (omega arith) e)))
      (cases_eq k j))
      (cases_lt c j))
      (cases_lt c k)
    where
      whole_before : (i : ℕ) → k < j → j ≤ i → i ≡ j → is_right (old i).shape ≡ false
      whole_before zero h g e = po.first
      whole_before (suc i) h g e =
          sym (po.next i) ∙ ap (λ (x : Cell). is_left x.shape) (same i (omega arith) (omega arith)) ∙ pn.next i
          ∙ ap (λ z. is_right (new z).shape) e ∙ at_j

  pub mixed_start : (c : ℕ) → IsPairedRow old → mixed old new 0 c ≡ old c
  mixed_start c po = mixed_whole 0 c (omega arith) (λ e. ap (λ z. is_right (old z).shape) e ∙ po.first)
