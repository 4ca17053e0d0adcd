-- Every effect of a function that units can give keeps a screen drawable.
use Rattle.terminal_model.proofs.Vocabulary.{◌≡◌, ℕ, zero, suc, ◌<◌, ◌≤◌, Bool, true, false, ◌&&◌, List, [], ◌∷◌}
use Rattle.terminal_model.proofs.Vocabulary.{length, replicate, Option, Some, None, refl, sym, subst, arith, IfSome}
use Rattle.terminal_model.proofs.Vocabulary.{AllByRecursion, nat_tests, Cell, blank, plain, cell_at, is_right}
use Rattle.terminal_model.proofs.Vocabulary.{unprotected_erased, narrow_cell, left_cell, right_cell, line_at}
use Rattle.terminal_model.proofs.Vocabulary.{page_marked, on_line, Func, IsGiven, Action, SetMargins, SetMode, Position}
use Rattle.terminal_model.proofs.Vocabulary.{State, Page, Screen, blank_page, starting, actions_of, place, IsGlyph}
use Rattle.terminal_model.proofs.Vocabulary.{IsDrawableLine, AreDrawableLines, IsDrawableScreen}
use Rattle.cells.specs.Moves.{filled}
use Rattle.control_parser.specs.declared.parser.Func.TheVariants as funcs
use Rattle.terminal_model.specs.declared.action.Action.TheVariants.{Print, LineFeed, Index, NextLine, ReverseIndex}
use Rattle.terminal_model.specs.declared.action.Action.TheVariants.{InsertLines, DeleteLines}
use Rattle.terminal_model.specs.declared.action.Mode.TheVariants as modes
use Rattle.terminal_model.specs.Motion
use Rattle.terminal_model.specs.Printing
use Rattle.terminal_model.specs.Erasing
use Rattle.terminal_model.specs.Sizing
use Rattle.terminal_model.specs.Table
use Rattle.terminal_model.proofs.Items.{item-replicated}
use Rattle.terminal_model.specs.declared.action.Action.TheVariants as acts
use Rattle.terminal_model.proofs.Codings.{are_ordinary, func-ordinary, between-ordinary}
use Rattle.terminal_model.proofs.DrawableGlyphs.{IsGivenUnit, mapped_given, drawn_glyph, columns_few, letter_e}
use Rattle.terminal_model.proofs.DrawableOrigins.{AreDrawable, IsOldOrBlank, old_or_blank, old_or_blank_if}
use Rattle.terminal_model.proofs.DrawableOrigins.{edited_drawable, page_from-drawable, drawable_nil}
use Rattle.terminal_model.proofs.DrawableLines.{spliced_drawable, first_stays, blanks_drawable, narrow_drawable}
use Rattle.terminal_model.proofs.DrawableLines.{wide_drawable, marked_drawable, marked_stays, taken_drawable}
use Rattle.terminal_model.proofs.DrawableLines.{page_resized-drawable, kept_resized-drawable}

-- PAGES

-- a cell of a line that is unprotected is erased
unprotected_origin : (cells : List Cell) (from end line column : ℕ)
    → IsOldOrBlank (on_line line (unprotected_erased cells from end column))
unprotected_origin cells from end line column = grind arith

filled_line : (line : ℕ) → AreDrawable (filled (narrow_cell 0x45 plain false) line)
filled_line line = grind (arith, letter_e)

blank_lines : (rows columns : ℕ) → AreDrawableLines (blank_page rows columns)
blank_lines rows columns line =
    item-replicated IsDrawableLine rows (replicate columns blank) [] line (blanks_drawable columns) drawable_nil

ruleset pages = (
  page_from-drawable,
  edited_drawable,
  spliced_drawable,
  blanks_drawable,
  drawable_nil,
  old_or_blank,
  old_or_blank_if,
  unprotected_origin,
  filled_line,
  blank_lines,
)

scrolled-page : (b : Bool) (s : State) (page : Page) → AreDrawableLines page
    → AreDrawableLines (Motion.scrolled_page b s page)
scrolled-page true s page h = search (pages, h)
scrolled-page false s page h = h

lowered-page : (b : Bool) (s : State) (page : Page) → AreDrawableLines page
    → AreDrawableLines (Motion.lowered_page b s page)
lowered-page true s page h = search (pages, h)
lowered-page false s page h = h

scrolled-kept : (b : Bool) (keep' : ℕ) (page kept : Page) → AreDrawableLines page → AreDrawableLines kept
    → AreDrawableLines (Motion.scrolled_kept b keep' page kept)
scrolled-kept true keep' page kept h k = taken_drawable keep' (line_at page 0) kept (h 0) k
scrolled-kept false keep' page kept h k = k

-- SCREENS

drawable-indexed : (x : Screen) → IsDrawableScreen x → IsDrawableScreen (Motion.indexed x)
drawable-indexed x h = search (scrolled-page, scrolled-kept)

drawable-wrapped : (b : Bool) (x : Screen) → IsDrawableScreen x → IsDrawableScreen (Printing.wrapped b x)
drawable-wrapped true x h = search (drawable-indexed)
drawable-wrapped false x h = h

drawable-placed : (fresh : List Cell) (x : Screen) → IsDrawableLine fresh → 0 < length fresh
    → is_right (cell_at fresh 0).shape ≡ false → IsDrawableScreen x → IsDrawableScreen (Printing.placed fresh x)
drawable-placed fresh x k some none h = record {
  page = search (pages, k, h.page);
  kept = h.kept;
  joined = first_stays x.state.line x.state.column (Printing.following x.state (length fresh)) x.state.columns fresh
      x.page some none;
}

drawable-wide : (b : Bool) (c : ℕ) (x : Screen) → IsGlyph 2 c → IsDrawableScreen x
    → IsDrawableScreen (Printing.wide_or_none b c x)
drawable-wide true c x g h = record { page = h.page; kept = h.kept; joined = tt }
drawable-wide false c x g h =
    drawable-placed
    (left_cell c x.state.rendition x.state.is_protecting ∷ right_cell c x.state.rendition x.state.is_protecting ∷
    []) x (wide_drawable c x.state.rendition x.state.is_protecting g) (omega arith) refl h

drawable-marked : (q : Option Position) (c : ℕ) (x : Screen) → x.state.joining ≡ q → IsGlyph 0 c → IsDrawableScreen x
    → IsDrawableScreen (Printing.marked_at q c x)
drawable-marked None c x e g h = h
drawable-marked (Some q) c x e g h =
    let none : is_right (place x.page q.line q.column).shape ≡ false = subst
    (λ (o : Option Position). IfSome o (λ p. is_right (place x.page p.line p.column).shape ≡ false)) e h.joined in
    record {
      page = marked_drawable q.line q.column c x.page h.page none g;
      kept = h.kept;
      joined = subst
          (λ (o : Option Position). IfSome o
          (λ p. is_right (place (page_marked q.line q.column c x.page) p.line p.column).shape ≡ false)) (sym e)
          (marked_stays q.line q.column c x.page none);
    }

drawable-printed_as : (width c : ℕ) (x : Screen) → width ≤ 2 → IsGlyph width c → IsDrawableScreen x
    → IsDrawableScreen (Printing.printed_as width c x)
drawable-printed_as zero c x few g h = drawable-marked x.state.joining c x refl g h
drawable-printed_as (suc zero) c x few g h =
    let w : Screen = Printing.wrapped x.state.is_wrap_pending x in
    drawable-placed (narrow_cell c w.state.rendition w.state.is_protecting ∷ []) w
    (narrow_drawable c w.state.rendition w.state.is_protecting g) (omega arith) refl
    (drawable-wrapped x.state.is_wrap_pending x h)
drawable-printed_as (suc (suc more)) c x few g h =
    let w : Screen = Printing.wrapped x.state.is_wrap_pending x in
    let b : Bool = Printing.lacks_room w.state && w.state.modes.wraps in
    let none : suc (suc more) ≡ 2 = omega arith in
    drawable-wide (Printing.lacks_room (Printing.wrapped b w).state) c (Printing.wrapped b w)
    (subst (λ (n : ℕ). IsGlyph n c) none g) (drawable-wrapped b w (drawable-wrapped x.state.is_wrap_pending x h))

drawable-printed : (c : Option ℕ) (x : Screen) → IfSome c (λ d. IsGiven (funcs.Print d)) → IsDrawableScreen x
    → IsDrawableScreen (Printing.printed c x)
drawable-printed None x g h = h
drawable-printed (Some c) x g h = search (drawable-printed_as, columns_few, drawn_glyph)

drawable-inserted : (b : Bool) (n : ℕ) (x : Screen) → IsDrawableScreen x
    → IsDrawableScreen (Erasing.lines_inserted b n x)
drawable-inserted true n x h = record { page = search (pages, h.page); kept = h.kept; joined = tt }
drawable-inserted false n x h = record { page = h.page; kept = h.kept; joined = tt }

drawable-deleted : (b : Bool) (n : ℕ) (x : Screen) → IsDrawableScreen x → IsDrawableScreen (Erasing.lines_deleted b n x)
drawable-deleted true n x h = record { page = search (pages, h.page); kept = h.kept; joined = tt }
drawable-deleted false n x h = record { page = h.page; kept = h.kept; joined = tt }

-- ACTIONS

-- a printed unit is one that can be given
abbrev IsGivenAction : Action → Type 0
IsGivenAction (acts.Print u) = IsGivenUnit u
IsGivenAction _ = Prim.Unit {0}

drawable-acted : (x : Screen) (a : Action) → IsGivenAction a → IsDrawableScreen x → IsDrawableScreen (Table.acted x a)
unfolding Table.acted_from
drawable-acted x (acts.Print u) g h = search (drawable-printed, mapped_given)
drawable-acted x acts.LineFeed g h = search (drawable-indexed)
drawable-acted x acts.Index g h = drawable-indexed x h
drawable-acted x acts.NextLine g h = drawable-wrapped true x h
drawable-acted x acts.ReverseIndex g h = search (lowered-page)
drawable-acted x (acts.SetMargins top bottom) g h = grind (arith, nat_tests)
drawable-acted x (acts.InsertLines n) g h = drawable-inserted (Erasing.is_in_margins x.state) n x h
drawable-acted x (acts.DeleteLines n) g h = drawable-deleted (Erasing.is_in_margins x.state) n x h
drawable-acted x (acts.SetMode modes.Origin on) g h = record { page = h.page; kept = h.kept; joined = tt }
drawable-acted x a g h =
    let lines : AreDrawableLines x.page = h.page in
    record { page = search pages depth 20; kept = h.kept; joined = tt }

drawable-all : (x : Screen) (actions : List Action) → AllByRecursion IsGivenAction actions → IsDrawableScreen x
    → IsDrawableScreen (Table.all_acted x actions)
drawable-all x [] g h = h
drawable-all x (a ∷ later) g h = drawable-all (Table.acted x a) later g.1 (drawable-acted x a g.0 h)

-- FUNCTIONS

all_given : (actions : List Action) → are_ordinary actions ≡ true → AllByRecursion IsGivenAction actions
all_given [] h = tt
all_given (a ∷ later) h = grind (arith, all_given later)

func_given : (f : Func) → IsGiven f → AllByRecursion IsGivenAction (actions_of f)
func_given f h = grind (arith, between-ordinary, all_given, func-ordinary)

pub drawable-effect : (x : Screen) (f : Func) → IsGiven f → IsDrawableScreen x → IsDrawableScreen (Table.effect x f)
drawable-effect x f g h = drawable-all x (actions_of f) (func_given f g) h

pub drawable-starting : (rows columns keep' : ℕ) → IsDrawableScreen (starting rows columns keep')
drawable-starting rows columns keep' = record { page = blank_lines rows columns; kept = λ n. drawable_nil; joined = tt }

pub drawable-resized : (rows columns : ℕ) (x : Screen) → IsDrawableScreen x
    → IsDrawableScreen (Sizing.resized rows columns x)
unfolding Sizing.resized
drawable-resized rows columns x h = search (page_resized-drawable, kept_resized-drawable)
