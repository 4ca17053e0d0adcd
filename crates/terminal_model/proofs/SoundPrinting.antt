-- Scrolling and printing keep a screen sound.
use Rattle.terminal_model.proofs.Vocabulary.{◌≡◌, ℕ, zero, suc, ◌<◌, ◌≤◌, Bool, true, false, ◌&&◌, List, [], length}
use Rattle.terminal_model.proofs.Vocabulary.{set, Option, Some, None, refl, arith, IfSome, ◌==◌, common_steps}
use Rattle.terminal_model.proofs.Vocabulary.{length-take, nat_tests, Cell, cell_at, IsPaired, marked, line_at, IsPage}
use Rattle.terminal_model.proofs.Vocabulary.{page_marked, IsPage-page_from, IsPaired-nil, State, Position, Page, Screen}
use Rattle.terminal_model.proofs.Vocabulary.{IsInside, AreKept, IsSound, with_page, with_newest}
use Rattle.cells.proofs.Putting.{IsPaired-set}
use Rattle.terminal_model.specs.Motion
use Rattle.terminal_model.specs.Printing
use Rattle.terminal_model.proofs.Items.{item-newest, item-set}

-- what a state must be on a page of a size
pub record Fits (rows columns : ℕ) (s : State) : Type 0 where
  pub rows_are : s.rows ≡ rows
  pub columns_are : s.columns ≡ columns
  pub cursor : IsInside rows columns s.line s.column
  pub margins : s.top < s.bottom
  pub bottom_inside : s.bottom < rows
  pub joined : IfSome s.joining (λ p. IsInside rows columns p.line p.column)

-- another state, page and scrollback
with-all : (x : Screen) (s : State) (page kept : Page) → IsSound x → Fits x.state.rows x.state.columns s
    → IsPage x.state.rows x.state.columns page → AreKept x.state.columns kept → length kept ≤ x.keep
    → IsSound (record x { state = s; page = page; kept = kept })
with-all x s page kept h f p k few = grind arith

pub with-page : (x : Screen) (s : State) (page : Page) → IsSound x → Fits x.state.rows x.state.columns s
    → IsPage x.state.rows x.state.columns page → IsSound (with_page x s page)
with-page x s page h f p = with-all x s page x.kept h f p h.kept h.few

-- one more line in the scrollback
kept-more : (columns keep : ℕ) (line : List Cell) (kept : Page) → length line ≡ columns → IsPaired line
    → AreKept columns kept → AreKept columns (with_newest keep line kept)
kept-more columns keep line kept w p k = record {
  width = λ n h. item-newest (λ l. length l ≡ columns) keep line kept [] n w k.width (λ past. absurd (omega arith));
  paired = λ n. item-newest IsPaired keep line kept [] n p (λ m less. k.paired m) (λ past. IsPaired-nil);
}

scrolled-page : (b : Bool) (x : Screen) → IsSound x
    → IsPage x.state.rows x.state.columns (Motion.scrolled_page b x.state x.page)
scrolled-page true x h = search (IsPage-page_from, h)
scrolled-page false x h = h.sized

lowered-page : (b : Bool) (x : Screen) → IsSound x
    → IsPage x.state.rows x.state.columns (Motion.lowered_page b x.state x.page)
lowered-page true x h = search (IsPage-page_from, h)
lowered-page false x h = h.sized

scrolled-kept : (b : Bool) (x : Screen) → IsSound x
    → AreKept x.state.columns (Motion.scrolled_kept b x.keep x.page x.kept)
    × (length (Motion.scrolled_kept b x.keep x.page x.kept) ≤ x.keep)
scrolled-kept b x h = grind (arith, kept-more, length-take)

pub IsSound-indexed : (x : Screen) → IsSound x → IsSound (Motion.indexed x)
IsSound-indexed x h =
    let k = scrolled-kept ((x.state.line == x.state.bottom) && (x.state.top == 0)) x h in
    with-all x _ _ _ h (grind (arith, nat_tests)) (scrolled-page (x.state.line == x.state.bottom) x h) k.0 k.1

pub IsSound-reverse_indexed : (x : Screen) → IsSound x → IsSound (Motion.reverse_indexed x)
IsSound-reverse_indexed x h =
    with-page x _ _ h (grind (arith, nat_tests)) (lowered-page (x.state.line == x.state.top) x h)

-- printing

pub wrapped-sound : (b : Bool) (x : Screen) → IsSound x → IsSound (Printing.wrapped b x)
wrapped-sound true x h = IsSound-indexed _ (with-page x _ _ h (grind arith) h.sized)
wrapped-sound false x h = h

placed-sound : (fresh : List Cell) (x : Screen) → IsSound x → IsSound (Printing.placed fresh x)
placed-sound fresh x h = with-page x _ _ h (grind (arith, nat_tests)) (search (IsPage-page_from, h))

wide-sound : (b : Bool) (c : ℕ) (x : Screen) → IsSound x → IsSound (Printing.wide_or_none b c x)
wide-sound true c x h = with-page x _ _ h (grind arith) h.sized
wide-sound false c x h = search (placed-sound)

-- a mark changes no shape
marked-page : (rows columns line column mark : ℕ) (page : Page) → IsPage rows columns page
    → IsPage rows columns (page_marked line column mark page)
marked-page rows columns line column mark page p =
    let old : List Cell = line_at page line in
    let cell : Cell = marked (cell_at old column) mark in
    let new : List Cell = set old column cell in
    record {
      height = grind (arith, common_steps, p.height);
      width = λ l h. grind (arith, common_steps, p.width l h);
      paired = λ l. item-set IsPaired page line new [] l (IsPaired-set old column cell refl (p.paired line))
          (p.paired l) IsPaired-nil;
    }

marked-sound : (q : Option Position) (c : ℕ) (x : Screen) → IsSound x → IsSound (Printing.marked_at q c x)
marked-sound None c x h = h
marked-sound (Some q) c x h = search (with-page, marked-page)

printed_as-sound : (width c : ℕ) (x : Screen) → IsSound x → IsSound (Printing.printed_as width c x)
printed_as-sound zero c x h = marked-sound x.state.joining c x h
printed_as-sound (suc zero) c x h = search (placed-sound, wrapped-sound)
printed_as-sound (suc (suc more)) c x h = grind (arith, wide-sound, wrapped-sound)

pub printed-sound : (c : Option ℕ) (x : Screen) → IsSound x → IsSound (Printing.printed c x)
printed-sound c x h = grind (arith, printed_as-sound)
