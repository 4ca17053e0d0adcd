-- Cells that are blanked from the front on.
use Rattle.cells.proofs.Vocabulary.{◌≡◌, ℕ, ◌+◌, ◌-◌, ◌<◌, ◌≤◌, List, length, take, min, replicate, get_or, sym, ap}
use Rattle.cells.proofs.Vocabulary.{◌∙◌, arith, ⊎_elim, cases_lt, ext_get_or, get_or-replicate, get_or-take}
use Rattle.cells.proofs.Vocabulary.{length-replicate, length-take-le, CopiedTo, SameBelow, Cell, blank, cell_at}

-- the first `done` of `width` cells are blank: at least eight, or all of them
pub record AreBegun (width done : ℕ) (cells : List Cell) : Type 0 where
  pub same : length cells ≡ width
  pub inside : done ≤ width
  pub some : min width 8 ≤ done
  pub front : take done cells ≡ replicate done blank

-- more blanks, which are copies of the first ones
module _ (done more : ℕ) (old new : List Cell) (room : done + more ≤ length new) (few : more ≤ done)
    (front : take done old ≡ replicate done blank)
    (copied : CopiedTo old new 0 done (more - 0)) (same : SameBelow old new done) where
  blank_before : (k : ℕ) → k < done → cell_at old k ≡ blank
  blank_before k h = sym (get_or-take done old k blank h) ∙ ap (λ xs. get_or xs k blank) front
      ∙ get_or-replicate done k blank blank h

  blank_now : (k : ℕ) → k < done + more → cell_at new k ≡ blank
  blank_now k h = ⊎_elim (λ (before : k < done). same k blank before ∙ blank_before k before)
      (λ (behind : done ≤ k). copied k blank behind (omega arith) ∙ blank_before (0 + (k - done)) (omega arith))
      (cases_lt k done)

  pub front_next : take (done + more) new ≡ replicate (done + more) blank
  front_next =
      let n : length (take (done + more) new) ≡ done + more = length-take-le (done + more) new room in
      ext_get_or blank (take (done + more) new) (replicate (done + more) blank)
      (n ∙ sym (length-replicate (done + more) blank))
      (λ k h. let inside : k < done + more = omega (arith, h, n) in
      get_or-take (done + more) new k blank inside ∙ blank_now k inside
      ∙ sym (get_or-replicate (done + more) k blank blank inside))
