-- Lines whose unprotected cells are erased, one line after the other.
use Rattle.vt_screen.proofs.Vocabulary.{◌≡◌, ℕ, ◌+◌, ◌<◌, ◌≤◌, true, false, ◌&&◌, cond, nat_lt, nat_le, List, []}
use Rattle.vt_screen.proofs.Vocabulary.{length, set, refl, sym, ap, ◌∙◌, arith, ⊎_elim, length-set, get_or-set_same}
use Rattle.vt_screen.proofs.Vocabulary.{get_or-set_other, cases_eq, nat_tests, Cell, cells_from, unprotected_erased}
use Rattle.vt_screen.proofs.Vocabulary.{IsPage, From, line_at, line_from, page_from, edited, on_line, IsPage-page_from}
use Rattle.vt_screen.proofs.Vocabulary.{page_from-edited, unprotected_lines}
use Rattle.cells.proofs.Pages.{line_at-page_from, line_from-edit, line_from-whole, page_from-is}

within : (first end line : ℕ) → first ≤ line → line < end → (nat_le first line && nat_lt line end) ≡ true
within first end line h k = grind (arith, nat_tests)

behind : (first end line : ℕ) → end ≤ line → (nat_le first line && nat_lt line end) ≡ false
behind first end line h = grind (arith, nat_tests)

elsewhere : (first at line : ℕ) → (line ≡ at → ⊥)
    → (nat_le first line && nat_lt line at) ≡ (nat_le first line && nat_lt line (at + 1))
elsewhere first at line ne = grind (arith, nat_tests)

-- no line is erased yet
pub unprotected_none : (page : List (List Cell)) (rows columns first : ℕ) → IsPage rows columns page
    → page_from (unprotected_lines page columns first first) page ≡ page
unprotected_none page rows columns first is_page =
    sym (page_from-is (unprotected_lines page columns first first) page page refl (λ line h.
    let outside : (nat_le first line && nat_lt line first) ≡ false = grind (arith, nat_tests) in
    sym (line_from-whole (unprotected_lines page columns first first line) page line (length (line_at page line)) refl
    (is_page.paired line)
    (λ column. rw outside refl))))

-- one more line is erased
pub unprotected_more : (page now : List (List Cell)) (rows columns first at : ℕ) → IsPage rows columns page → first ≤ at
    → at < rows
    → now ≡ page_from (unprotected_lines page columns first at) page
    → page_from (edited at (unprotected_erased (line_at now at) 0 columns)) now ≡ page_from
    (unprotected_lines page columns first (at + 1)) page
unprotected_more page now rows columns first at is_page order inside e =
    let height : length page ≡ rows = is_page.height in
    let now_page : IsPage rows columns now = rw e
    (IsPage-page_from (unprotected_lines page columns first at) rows columns page is_page) in
    let same : length now ≡ length page = now_page.height ∙ sym height in
    let at_line : line_at now at ≡ line_at page at =
    ap (λ p. line_at p at) e ∙ line_at-page_from (unprotected_lines page columns first at) page at (omega arith)
    ∙ line_from-whole (unprotected_lines page columns first at at) page at (length (line_at page at)) refl
    (is_page.paired at) (λ column. rw (behind first at at (omega arith)) refl) in
    let new : List Cell = cells_from (unprotected_erased (line_at now at) 0 columns) (line_at now at) in
    let fresh : new ≡ line_from (unprotected_lines page columns first (at + 1) at) (length (line_at page at)) page =
    ap (λ (cells : List Cell). cells_from (unprotected_erased cells 0 columns) cells) at_line
    ∙ sym
    (line_from-edit (unprotected_lines page columns first (at + 1) at)
    (unprotected_erased (line_at page at) 0 columns) page at (length (line_at page at)) refl
    (λ column. rw (within first (at + 1) at order (omega arith)) refl)) in
    page_from-edited at (unprotected_erased (line_at now at) 0 columns) rows columns now now_page inside
    ∙ page_from-is (unprotected_lines page columns first (at + 1)) page (set now at new) (length-set now at new ∙ same)
    (λ line h. ⊎_elim
    (λ (k : line ≡ at). rw k (get_or-set_same now at new [] (omega arith) ∙ fresh))
    (λ (ne : line ≡ at → ⊥). get_or-set_other now at line new [] ne ∙ ap (λ p. line_at p line) e
    ∙ line_at-page_from (unprotected_lines page columns first at) page line h
    ∙ ap (λ b. line_from
    (λ column. cond b (on_line line (unprotected_erased (line_at page line) 0 columns column)) (From line column))
    (length (line_at page line)) page) (elsewhere first at line ne))
    (cases_eq line at))
