-- A change of size keeps pages well formed.
use Rattle.terminal_model.proofs.Vocabulary.{ℕ, List, [], length, ap, ◌∙◌, subst, sym, refl, min, take, replicate, ◌+◌}
use Rattle.terminal_model.proofs.Vocabulary.{Cell, blank, IsPaired, spliced, line_at, IsPage, From, line_resized}
use Rattle.terminal_model.proofs.Vocabulary.{page_resized, IsPaired-blanks, IsPaired-nil, length-line_from}
use Rattle.terminal_model.proofs.Vocabulary.{line_from-resized, line_at-page_resized, length-page_resized, resized_is}
use Rattle.cells.proofs.Settling.{IsPaired-cells_from}
use Rattle.terminal_model.proofs.Items.{item-built}

pub IsPaired-line_resized : (width : ℕ) (cells : List Cell) → IsPaired cells → IsPaired (line_resized width cells)
IsPaired-line_resized width cells paired =
    let fresh = take (min width (length cells)) cells in
    subst IsPaired
    (resized_is width cells fresh paired refl (replicate width blank) refl)
    (IsPaired-cells_from (spliced 0 fresh (0 + length fresh) (length (replicate width blank))) (replicate width blank)
    (IsPaired-blanks width))

pub IsPage-page_resized : (rows columns : ℕ) (page : List (List Cell)) → ((line : ℕ) → IsPaired (line_at page line))
    → IsPage rows columns (page_resized rows columns page)
IsPage-page_resized rows columns page paired = record {
  height = length-page_resized rows columns page;
  width = λ line h. ap length (line_at-page_resized rows columns page line h)
      ∙ length-line_from (From line) columns page;
  paired = λ line. item-built IsPaired _ rows [] line (λ h. subst IsPaired (sym (line_from-resized page line columns))
      (IsPaired-line_resized columns (line_at page line) (paired line))) IsPaired-nil;
}
