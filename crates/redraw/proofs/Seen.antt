-- What is seen of new cells.
use Rattle.redraw.proofs.Vocabulary.{◌≡◌, ℕ, ◌+◌, ◌-◌, ◌<◌, ◌≤◌, Bool, true, false, ◌&&◌, cond, eqb, ltb, List, length}
use Rattle.redraw.proofs.Vocabulary.{refl, ap, ◌∙◌, ⊎_elim, cases_lt, lt-ltb, le-ltb, Cell, blank, cell_at, unprotected}
use Rattle.redraw.proofs.Vocabulary.{fresh_at, is_left, is_right, line_at, IsPage, Page, Row, row_written}
use Rattle.redraw.proofs.Writing.{written, written_here}

same_side : {A : Type 0} (f : Cell → A) (b : Bool) (x y : Cell) → f (cond b x y) ≡ cond b (f x) (f y)
same_side f true x y = refl
same_side f false x y = refl

unprotected_over : (row fresh : Row) (at n c : ℕ)
    → unprotected (row_written row at n fresh c) ≡ row_written (λ k. unprotected (row k)) at n
    (λ k. unprotected (fresh k)) c
unprotected_over row fresh at n c =
    same_side unprotected (ltb c at) _ _
    ∙ ap (λ z. cond (ltb c at) z
    (unprotected (cond (ltb c (at + n)) (fresh c) (cond (eqb c (at + n) && is_right (row c).shape) blank (row c)))))
    (same_side unprotected (eqb (c + 1) at && is_left (row c).shape) blank (row c))
    ∙ ap (λ z. cond (ltb c at) (cond (eqb (c + 1) at && is_left (row c).shape) blank (unprotected (row c))) z)
    (same_side unprotected (ltb c (at + n)) _ _
    ∙ ap (λ z. cond (ltb c (at + n)) (unprotected (fresh c)) z)
    (same_side unprotected (eqb c (at + n) && is_right (row c).shape) blank (row c)))

pub over_same : (row : Row) (at n : ℕ) (f g : Row) (c : ℕ) → (at ≤ c → c < at + n → f c ≡ g c)
    → row_written row at n f c ≡ row_written row at n g c
over_same row at n f g c same = ⊎_elim
    (λ (front : c < at). rw (lt-ltb c at front) refl)
    (λ (past : at ≤ c). ⊎_elim
    (λ (inside : c < at + n). rw (le-ltb c at past, lt-ltb c (at + n) inside) (same past inside))
    (λ (behind : at + n ≤ c). rw (le-ltb c at past, le-ltb c (at + n) behind) refl)
    (cases_lt c (at + n)))
    (cases_lt c at)

module _ (rows columns : ℕ) where
  -- the line of the pen gets new cells
  pub page_written : (line at : ℕ) (fresh : List Cell) (page : Page) → IsPage rows columns page → line < rows
      → at + length fresh ≤ columns → 0 < length fresh → (c : ℕ) → c < columns
      → unprotected (cell_at (line_at (written line at columns fresh page) line) c) ≡ row_written
      (λ k. unprotected (cell_at (line_at page line) k)) at (length fresh)
      (λ k. unprotected (fresh_at fresh (k - at))) c
  page_written line at fresh page is_page inside room some c within =
      ap unprotected (written_here line at rows columns fresh page is_page inside c within room some)
      ∙ unprotected_over (cell_at (line_at page line)) (λ k. fresh_at fresh (k - at)) at (length fresh) c
