-- The cursor of a focused region lies on the page.
use Rattle.view.proofs.Vocabulary.{◌≡◌, ℕ, ◌+◌, ◌-◌, ◌<◌, ◌≤◌, Bool, true, false, ◌&&◌, cond, ltb, List, length, refl}
use Rattle.view.proofs.Vocabulary.{arith, Option, Some, None, IfSome, ltb-true, Cell, line_at, IsGrid, Rect, IsInside}
use Rattle.view.proofs.Vocabulary.{Page, View, Part, vacant, unread, read, first_shown, cursor_of, IsOnPage, IsPlaced}
use Rattle.terminal_model.specs.declared.state.Position.{Position}
use Rattle.view.specs.Granted.{Window, cursor_in}
use Rattle.view.proofs.Laying.{in_has}

both : (a b : Bool) → (a && b) ≡ true → (a ≡ true) × (b ≡ true)
both true true h = (refl, refl)
both true false h = cc
both false b h = cc

module _ (r : Rect) (page : List (List Cell)) (placed : IsPlaced r page) where
  pub last : IsOnPage page (r.line + (r.rows - 1)) (r.column + (r.columns - 1))
  last = placed.inside (r.line + (r.rows - 1)) (r.column + (r.columns - 1))
      (in_has r (r.line + (r.rows - 1)) (r.column + (r.columns - 1))
      (record {
        above = omega arith;
        below = omega (arith, placed.tall);
        left = omega arith;
        right = omega
            (arith, placed.wide);
      }))

  pub line_fits : IsGrid page → r.line + r.rows ≤ 65535
  line_fits grid = omega (arith, last.0, grid.size.most_rows, placed.tall)

  pub column_fits : IsGrid page → r.column + r.columns ≤ 65535
  column_fits grid = omega (arith, last.1, grid.size.most_columns, placed.wide)

  window_inside : (w : Window) (c : Option Position)
      → IfSome (cursor_in r w c) (λ p. IsInside (length page) (length (line_at page 0)) p.line p.column)
  window_inside w None = tt
  window_inside w (Some p) = go (p.line - first_shown (r.rows - 1) w.cursor)
      (w.shows_cursor && (ltb (p.line - first_shown (r.rows - 1) w.cursor) (r.rows - 1) && ltb p.column r.columns)) refl
    where
      go : (row : ℕ) (b : Bool) → w.shows_cursor && (ltb row (r.rows - 1) && ltb p.column r.columns) ≡ b
          → IfSome (cond b (Some (record { line = r.line + row; column = r.column + p.column })) None)
          (λ (q : Position). IsInside (length page) (length (line_at page 0)) q.line q.column)
      go row false e = tt
      go row true e =
          let tests = both (ltb row (r.rows - 1)) (ltb p.column r.columns)
          (both w.shows_cursor (ltb row (r.rows - 1) && ltb p.column r.columns) e).1 in
          let below : row < r.rows - 1 = ltb-true row (r.rows - 1) tests.0 in
          let left : p.column < r.columns = ltb-true p.column r.columns tests.1 in
          (omega (arith, below, last.0), omega (arith, left, last.1))

  pub cursor_inside : (part : Part)
      → IfSome (cursor_of r part) (λ p. IsInside (length page) (length (line_at page 0)) p.line p.column)
  cursor_inside vacant = tt
  cursor_inside (unread n) = tt
  cursor_inside (read w) = window_inside w w.cursor

pub same_view : (p q : Page) (a b : Option Position) (c d e f : Bool) → p ≡ q → a ≡ b → c ≡ d → e ≡ f
    → record { page = p; cursor = a; has_application_arrows = c; has_application_keypad = e } ≡
    (let v : View = record { page = q; cursor = b; has_application_arrows = d; has_application_keypad = f } in v)
same_view p q a b c d e f hp ha hc he = cc
