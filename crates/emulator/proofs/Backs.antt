-- A page that is moved back, line by line.
use Rattle.emulator.proofs.Vocabulary.{◌≡◌, ℕ, ◌+◌, ◌-◌, ◌<◌, ◌≤◌, List, [], ◌++◌, length, take, reverse, get_or, sym}
use Rattle.emulator.proofs.Vocabulary.{ap, ◌∙◌, subst, arith, ⊎_elim, length-append, Bor, Option, None, Some}
use Rattle.emulator.proofs.Vocabulary.{length-take-le, get_or-take, take_all, line_at, IsPage, Page, Screen, IsSound}
use Rattle.std.specs.Prelude.{option_copied, slice_get, unwrap_or}
use Rattle.std.proofs.lemmas.Option.{slice_get-get_or}
use Rattle.std.proofs.lemmas.List.{get_or_append_left, get_or-append_right, get_or-reverse, get_or_past, length-reverse}
use Rattle.std.proofs.lemmas.Bool.{cases_lt}
use Rattle.cells.specs.declared.cell.Cell.{Cell}
use Rattle.cells.specs.Line.{IsPaired}
use Rattle.cells.proofs.Pages.{IsPaired-nil}
use Rattle.terminal_model.specs.Scrollback.{moved_back}

-- the lines of the scrollback that stand above the page's lines
abbrev above : ℕ → Screen → Page
above back x = reverse (take back x.kept)

length-above : (back : ℕ) (x : Screen) → back ≤ length x.kept → length (above back x) ≡ back
length-above back x h = length-reverse (take back x.kept) ∙ length-take-le back x.kept h

pub length-moved : (back : ℕ) (x : Screen) → length (moved_back back x) ≡ length x.page
length-moved back x =
    let n : length (above back x ++ x.page) ≡ length (above back x) + length x.page = length-append (above back x)
    x.page in
    length-take-le (length x.page) (above back x ++ x.page) (omega arith)

-- a line above the page's
pub moved-above : (back line : ℕ) (x : Screen) → back ≤ length x.kept → line < back → line < length x.page
    → line_at (moved_back back x) line ≡ line_at x.kept (back - 1 - line)
moved-above back line x h l k =
    let n : length (take back x.kept) ≡ back = length-take-le back x.kept h in
    let m : length (above back x) ≡ back = length-above back x h in
    get_or-take (length x.page) (above back x ++ x.page) line [] k
    ∙ get_or_append_left (above back x) x.page [] line (omega arith)
    ∙ get_or-reverse (take back x.kept) line [] (omega arith)
    ∙ ap (λ (i : ℕ). get_or (take back x.kept) i []) (ap (λ (i : ℕ). i - 1 - line) n)
    ∙ get_or-take back x.kept (back - 1 - line) [] (omega arith)

-- a line of the page
pub moved-below : (back line : ℕ) (x : Screen) → back ≤ length x.kept → back ≤ line → line < length x.page
    → line_at (moved_back back x) line ≡ line_at x.page (line - back)
moved-below back line x h l k =
    get_or-take (length x.page) (above back x ++ x.page) line [] k
    ∙ get_or-append_right (above back x) x.page back line [] (length-above back x h) l

-- a line that was found in the scrollback
pub kept-line : (found : Option (Bor (List Cell))) (lent default : Bor (List Cell)) (lines : Page) (n : ℕ)
    → n < length lines → option_copied found ≡ slice_get lines n
    → lent ≡ unwrap_or found default → lent.now ≡ line_at lines n
kept-line None lent default lines n l e u = let s = slice_get-get_or lines n [] l in absurd (cc)
kept-line (Some line) lent default lines n l e u = let s = slice_get-get_or lines n [] l in cc

-- what holds of each line that is kept and of each line of the page
moved-all : (P : List Cell → Type 0) (back line : ℕ) (x : Screen) → back ≤ length x.kept
    → ((n : ℕ) → n < length x.kept → P (line_at x.kept n)) → ((n : ℕ) → n < length x.page → P (line_at x.page n))
    → line < length x.page → P (line_at (moved_back back x) line)
moved-all P back line x h kept page l =
    ⊎_elim
    (λ (a : line < back). subst P (sym (moved-above back line x h a l)) (kept (back - 1 - line) (omega arith)))
    (λ (b : back ≤ line). subst P (sym (moved-below back line x h b l)) (page (line - back) (omega arith)))
    (cases_lt line back)

-- it is a page of the screen's size
pub moved-sized : (back : ℕ) (x : Screen) → IsSound x → back ≤ length x.kept
    → IsPage x.state.rows x.state.columns (moved_back back x)
moved-sized back x s h =
    let n : length x.page ≡ x.state.rows = s.sized.height in
    record {
      height = length-moved back x ∙ n;
      width = λ line l. moved-all (λ cells. length cells ≡ x.state.columns) back line x h s.kept.width
          (λ k m. s.sized.width k (omega arith)) (omega arith);
      paired = λ line.
          ⊎_elim
          (moved-all IsPaired back line x h (λ k m. s.kept.paired k) (λ k m. s.sized.paired k))
          (λ (l : length x.page ≤ line). let m : length (moved_back back x) ≡ length x.page = length-moved back x in
          subst IsPaired (sym (get_or_past (moved_back back x) line [] (omega arith))) IsPaired-nil)
          (cases_lt line (length x.page));
    }

-- no line of the scrollback
pub moved-none : (x : Screen) → moved_back 0 x ≡ x.page
moved-none x = take_all (length x.page) x.page (omega arith)
