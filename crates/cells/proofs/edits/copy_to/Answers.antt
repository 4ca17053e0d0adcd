use Rattle.cells.proofs.Vocabulary.{◌≡◌, ◌+◌, ◌++◌, ◌-◌, append_assoc, ℕ, List, take, drop, sym, ap, ◌∙◌, arith}
use Rattle.cells.proofs.Vocabulary.{copy_within, take-append-drop, drop-drop, Cell}
use Rattle.cells.proofs.edits.copy_to.Goals as goal

-- cells copied to their own place stay
stays : (cells : List Cell) (from end : ℕ) → copy_within cells from end from ≡ cells
stays cells from end =
    let count : ℕ = end - from in
    append_assoc (take from cells) (take count (drop from cells)) (drop (from + count) cells)
    ∙ ap (λ v. take from cells ++ (take count (drop from cells) ++ v)) (sym (drop-drop count from cells))
    ∙ ap (λ v. take from cells ++ v) (take-append-drop count (drop from cells))
    ∙ take-append-drop from cells

pub returns-else-from-to : goal.returns-else-from-to
returns-else-from-to c =
    let same : c.args.from ≡ c.args.to = omega (arith, c.if-from-to.false) in
    sym (stays c.args.cells.now c.args.from c.args.end) ∙ ap (copy_within c.args.cells.now c.args.from c.args.end) same
