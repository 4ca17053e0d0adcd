-- What each command does to a screen on which a frame is drawn.
use Rattle.redraw.proofs.Vocabulary.{◌≡◌, ℕ, ◌+◌, ◌<◌, true, false, eqb, ltb, [], ◌∷◌, refl, sym, ap, ◌∙◌, arith}
use Rattle.redraw.proofs.Vocabulary.{⊎_elim, cases_Bool, lt-ltb, Utf8, spelling, coding_of, IsGiven, Page, Screen}
use Rattle.redraw.proofs.Vocabulary.{plain_sequence, private_sequence, effect, ready, IsDiscreet, IsSpare, IsListed}
use Rattle.redraw.proofs.Vocabulary.{spelled-one, one_draws, Command, Glyph, MoveTo, NextLine, Forward, Render}
use Rattle.redraw.proofs.Vocabulary.{EraseCells, EraseToEnd, Arrows, ShowCursor, Keypad, func_of, IsCommand}
use Rattle.redraw.proofs.Vocabulary.{rendition_params, Leads}
use Rattle.terminal_model.specs.Reports.{report}
use Rattle.terminal_model.proofs.Spellings.{spelled-acts}
use Rattle.draw_check.specs.Used.{is_used}
use Rattle.draw_check.proofs.Spelled.{used_is_function}
use Rattle.terminal_model.proofs.Renditions.{values-quiet}
use Rattle.redraw.proofs.Renditions.{AreGiven, params-given, params-listed, all-small}

-- THE FUNCTIONS

no_report : (x : Screen) (c : Command) → report x (func_of c) ≡ []
unfolding plain_sequence private_sequence
no_report x (Glyph c) = refl
no_report x (MoveTo line column) = refl
no_report x NextLine = refl
no_report x (Forward n) = refl
no_report x (Render known r) = values-quiet x (rendition_params known r)
no_report x (EraseCells n) = refl
no_report x EraseToEnd = refl
no_report x (Arrows true) = refl
no_report x (Arrows false) = refl
no_report x (ShowCursor true) = refl
no_report x (ShowCursor false) = refl
no_report x (Keypad true) = refl
no_report x (Keypad false) = refl

small : (n : ℕ) → n < 10000 → ltb n 10000 ≡ true
small n h = lt-ltb n 10000 h

given : (c : Command) → IsCommand c → IsGiven (func_of c)
given (Glyph c) h = h
given (MoveTo line column) h = ⊎_elim
    (λ (e : eqb column 0 ≡ true). rw (e, small (line + 1) (omega arith))
    (tt, omega arith, omega arith, refl, refl, omega arith, omega arith))
    (λ (e : eqb column 0 ≡ false). rw (e, small (line + 1) (omega arith), small (column + 1) (omega arith))
    (tt, omega arith, omega arith, refl, refl, omega arith, omega arith))
    (cases_Bool (eqb column 0))
given NextLine h = (refl, omega arith, omega arith, refl)
given (Forward n) h = (tt, omega arith, omega arith, rw (small n (omega arith)) refl, refl, omega arith, omega arith)
given (Render known r) h =
    let are : AreGiven (rendition_params known r) = params-given known r in
    (tt, are.some, are.few, all-small (rendition_params known r) are.named, refl, omega arith, omega arith)
given (EraseCells n) h = (tt, omega arith, omega arith, rw (small n (omega arith)) refl, refl, omega arith, omega arith)
given EraseToEnd h = (tt, omega arith, omega arith, refl, refl, omega arith, omega arith)
given (Arrows true) h = (refl, omega arith, omega arith, refl, refl, omega arith, omega arith)
given (Arrows false) h = (refl, omega arith, omega arith, refl, refl, omega arith, omega arith)
given (ShowCursor true) h = (refl, omega arith, omega arith, refl, refl, omega arith, omega arith)
given (ShowCursor false) h = (refl, omega arith, omega arith, refl, refl, omega arith, omega arith)
given (Keypad true) h = (refl, omega arith, omega arith, refl)
given (Keypad false) h = (refl, omega arith, omega arith, refl)

utf8_read : (c : Command) → coding_of (func_of c) ≡ Utf8
utf8_read (Glyph c) = refl
utf8_read (MoveTo line column) = refl
utf8_read NextLine = refl
utf8_read (Forward n) = refl
utf8_read (Render known r) = refl
utf8_read (EraseCells n) = refl
utf8_read EraseToEnd = refl
utf8_read (Arrows on) = refl
utf8_read (ShowCursor on) = refl
utf8_read (Keypad on) = refl

used : (c : Command) → is_used (func_of c) ≡ true
used (Glyph c) = refl
used (MoveTo line column) = refl
used NextLine = refl
used (Forward n) = refl
used (Render known r) = refl
used (EraseCells n) = refl
used EraseToEnd = refl
used (Arrows true) = refl
used (Arrows false) = refl
used (ShowCursor true) = refl
used (ShowCursor false) = refl
used (Keypad true) = refl
used (Keypad false) = refl

-- a command that prints nothing
abbrev pub PrintsNone : Command → Type 0
PrintsNone (Glyph c) = ⊥
PrintsNone other = Prim.Unit {0}

listed : (rows : ℕ) (c : Command) → PrintsNone c → IsListed rows (func_of c)
unfolding plain_sequence private_sequence
listed rows (Glyph c) h = absurd h
listed rows (MoveTo line column) h = record {
  acts = omega arith;
  named = ⊎_elim (λ (e : eqb column 0 ≡ true). rw e refl) (λ (e : eqb column 0 ≡ false). rw e refl)
      (cases_Bool (eqb column 0));
  in_order = refl;
}
listed rows NextLine h = record { acts = omega arith; named = refl; in_order = refl }
listed rows (Forward n) h = record { acts = omega arith; named = refl; in_order = refl }
listed rows (Render known r) h = params-listed rows (rendition_params known r) (params-given known r)
listed rows (EraseCells n) h = record { acts = omega arith; named = refl; in_order = refl }
listed rows EraseToEnd h = record { acts = omega arith; named = refl; in_order = refl }
listed rows (Arrows true) h = record { acts = omega arith; named = refl; in_order = refl }
listed rows (Arrows false) h = record { acts = omega arith; named = refl; in_order = refl }
listed rows (ShowCursor true) h = record { acts = omega arith; named = refl; in_order = refl }
listed rows (ShowCursor false) h = record { acts = omega arith; named = refl; in_order = refl }
listed rows (Keypad true) h = record { acts = omega arith; named = refl; in_order = refl }
listed rows (Keypad false) h = record { acts = omega arith; named = refl; in_order = refl }

discreet_one : (page : Page) (x : Screen) (c : Command) → PrintsNone c
    → IsDiscreet page (record { before = x; func = func_of c })
discreet_one page x (Glyph c) h = absurd h
discreet_one page x (MoveTo line column) h = listed x.state.rows (MoveTo line column) h
discreet_one page x NextLine h = listed x.state.rows NextLine h
discreet_one page x (Forward n) h = listed x.state.rows (Forward n) h
discreet_one page x (Render known r) h = listed x.state.rows (Render known r) h
discreet_one page x (EraseCells n) h = listed x.state.rows (EraseCells n) h
discreet_one page x EraseToEnd h = listed x.state.rows EraseToEnd h
discreet_one page x (Arrows on) h = listed x.state.rows (Arrows on) h
discreet_one page x (ShowCursor on) h = listed x.state.rows (ShowCursor on) h
discreet_one page x (Keypad on) h = listed x.state.rows (Keypad on) h

spare_one : (old page : Page) (x : Screen) (c : Command) → PrintsNone c
    → IsSpare old page (record { before = x; func = func_of c })
spare_one old page x (Glyph c) h = absurd h
spare_one old page x (MoveTo line column) h = tt
spare_one old page x NextLine h = tt
spare_one old page x (Forward n) h = tt
spare_one old page x (Render known r) h = tt
spare_one old page x (EraseCells n) h = tt
spare_one old page x EraseToEnd h = tt
spare_one old page x (Arrows on) h = tt
spare_one old page x (ShowCursor on) h = tt
spare_one old page x (Keypad on) h = tt

-- a command leads to its effect
pub one_leads : (old new : Page) (x : Screen) (c : Command) → x.state.coding ≡ Utf8 → IsCommand c
    → IsDiscreet new (record { before = x; func = func_of c })
    → IsSpare old new (record { before = x; func = func_of c })
    → Leads old new x (spelling (func_of c)) (effect x (func_of c))
one_leads old new x c utf8 is discreet spare = record {
  acts = record { before = x; func = func_of c } ∷ [];
  reading = spelled-acts x (func_of c) (given c is) (utf8 ∙ sym (utf8_read c))
      ∙ ap (λ r. record
      { terminal = ready (effect x (func_of c)); reports = r; acts = record { before = x; func = func_of c } ∷ [] })
      (no_report x c);
  draws = record { discreet = (discreet, tt); spare = (spare, tt) };
  spelled = spelled-one x (func_of c);
  used = one_draws (spelling (func_of c)) (used_is_function (func_of c) (given c is, utf8_read c) (used c));
}

pub silent_leads : (old new : Page) (x : Screen) (c : Command) → x.state.coding ≡ Utf8 → IsCommand c → PrintsNone c
    → Leads old new x (spelling (func_of c)) (effect x (func_of c))
silent_leads old new x c utf8 is none = one_leads old new x c utf8 is (discreet_one new x c none)
    (spare_one old new x c none)
