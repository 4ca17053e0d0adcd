use Rattle.std.proofs.Common.{◌≡◌, ℕ, ◌+◌, ◌-◌, ◌<◌, ◌≤◌, List, length, get_or, refl, ap, ◌∙◌, arith, ⊎_elim}
use Rattle.std.proofs.lemmas.Bool.{cases_lt}
use Rattle.std.proofs.lemmas.List.FromFn.{get_or-map-range_with_len}
use Rattle.vt_screen_page.specs.Store.{turned_from, turned}
use Rattle.vt_screen_page.proofs.Turning.{le-leb', lt-leb'}
use Rattle.vt_screen.proofs.lines_stay_stored.Goals as goal

turned_at : (top bottom count line : ℕ) (places : List ℕ) → line < length places
    → get_or (turned top bottom count places) line 0 ≡ get_or places (turned_from top bottom count line) 0
turned_at top bottom count line places inside =
    get_or-map-range_with_len (λ k. get_or places (turned_from top bottom count k) 0) 0 (length places) line line 0
    inside (omega arith)

pub returns : goal.returns
returns c = record {
  up = λ top bottom count line places past risen inside.
      turned_at top bottom count line places (omega arith)
      ∙ rw (le-leb' top line past, le-leb' line bottom (omega arith), le-leb' (line + count) bottom risen) refl;
  down = λ top bottom count line places past here inside.
      let rise : ℕ = bottom + 1 - top - count in
      let from : line + rise - (bottom + 1 - top) ≡ line - count = omega arith in
      turned_at top bottom rise line places (omega arith)
      ∙ rw (le-leb' top line (omega arith), le-leb' line bottom here, lt-leb' (line + rise) bottom (omega arith))
      (ap (λ k. get_or places k 0) from);
  beside = λ top bottom count line places out inside.
      turned_at top bottom count line places inside
      ∙ ⊎_elim
      (λ (above : line < top). rw (lt-leb' top line above) refl)
      (λ (below : bottom < line). ⊎_elim
      (λ (above : line < top). rw (lt-leb' top line above) refl)
      (λ (past : top ≤ line). rw (le-leb' top line past, lt-leb' line bottom below) refl)
      (cases_lt line top))
      out;
}
