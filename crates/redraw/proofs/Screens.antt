-- A screen on which a frame is drawn, after each command that moves the pen or sets a rendition.
use Rattle.redraw.proofs.Vocabulary.{◌≡◌, ℕ, ◌+◌, ◌-◌, ◌<◌, min, max, true, false, eqb, List, Option, Some, refl, sym}
use Rattle.redraw.proofs.Vocabulary.{ap, subst, arith, ⊎_elim, cases_Bool, ne_eqb, eqb-true, Utf8, Rendition, IsPage}
use Rattle.redraw.proofs.Vocabulary.{spelling, State, Page, Screen, IsSound, plain_sequence, unjoined}
use Rattle.redraw.proofs.Vocabulary.{effect, acted_from, drawn_state, IsSound-effect, Pen, Command, Glyph, MoveTo}
use Rattle.redraw.proofs.Vocabulary.{NextLine, Forward, Render, EraseCells, EraseToEnd, Arrows, ShowCursor, Keypad}
use Rattle.redraw.proofs.Vocabulary.{func_of, place_params, Drawing, Knows, Leads, Keeps, IsWay}
use Rattle.terminal_model.specs.Functions.{first, second}
use Rattle.terminal_model.specs.Motion.{moved_to, line_named, line_below}
use Rattle.redraw.proofs.Effects.{silent_leads}
use Rattle.redraw.proofs.Renditions.{with_rendition, params-made}

-- THE STATE that frames keep

moved_drawn : (s : State) (l c : ℕ) → s ≡ drawn_state s → moved_to s l c ≡ drawn_state (moved_to s l c)
moved_drawn s l c e = ap (λ z. moved_to z l c) e

rendered_drawn : (s : State) (r : Rendition) → s ≡ drawn_state s
    → unjoined (record s { rendition = r }) ≡ drawn_state (unjoined (record s { rendition = r }))
rendered_drawn s r e = ap (λ (z : State). unjoined (record z { rendition = r })) e

-- a pen at a place
abbrev pub at_place : ℕ → ℕ → Option Rendition → Pen
at_place line column known = record { line = Some line; column = Some column; rendition = known }

module _ (rows columns : ℕ) where
  module _ (pen : Pen) (x : Screen) (d : Drawing rows columns pen x) where
    pub utf8 : x.state.coding ≡ Utf8
    utf8 = ap (λ (s : State). s.coding) d.state_is

    pub no_origin : x.state.modes.counts_from_margin ≡ false
    no_origin = ap (λ (s : State). s.modes.counts_from_margin) d.state_is

    pub no_insert : x.state.modes.inserts ≡ false
    no_insert = ap (λ (s : State). s.modes.inserts) d.state_is

    pub no_wrap : x.state.modes.wraps ≡ false
    no_wrap = ap (λ (s : State). s.modes.wraps) d.state_is

    pub none_pending : x.state.is_wrap_pending ≡ false
    none_pending = ap (λ (s : State). s.is_wrap_pending) d.state_is

    pub none_protecting : x.state.is_protecting ≡ false
    none_protecting = ap (λ (s : State). s.is_protecting) d.state_is

    pub last_line : x.state.bottom ≡ x.state.rows - 1
    last_line = ap (λ (s : State). s.bottom) d.state_is

    pub sized : IsPage rows columns x.page
    sized = subst (λ n. IsPage n columns x.page) d.rows_are
        (subst (λ n. IsPage x.state.rows n x.page) d.columns_are d.sound.sized)

  -- a command leads to a screen of which R holds
  abbrev pub LeadsTo : Page → Page → Screen → List ℕ → (Screen → Type 0) → Type 0
  LeadsTo old new x bytes R = (y : Screen) × Leads old new x bytes y × R y

  first_place : (line column : ℕ) → first (place_params line column) ≡ line + 1
  first_place line column = ⊎_elim (λ (e : eqb column 0 ≡ true). rw e refl) (λ (e : eqb column 0 ≡ false). rw e refl)
      (cases_Bool (eqb column 0))

  second_place : (line column : ℕ) → second (place_params line column) - 1 ≡ column
  second_place line column = ⊎_elim
      (λ (e : eqb column 0 ≡ true). let z : column ≡ 0 = eqb-true column 0 e in rw e (sym z))
      (λ (e : eqb column 0 ≡ false). rw e (omega arith))
      (cases_Bool (eqb column 0))

  module _ (old new : Page) (pen : Pen) (x : Screen) (d : Drawing rows columns pen x) where
    move_leads : (line column : ℕ) → line < rows → rows < 9999 → column < columns → columns < 9999
        → LeadsTo old new x (spelling (func_of (MoveTo line column)))
        (Keeps rows columns (at_place line column pen.rendition) x)
    unfolding acted_from plain_sequence
    move_leads line column lh rh ch cl =
        let s : State = x.state in
        let l : ℕ = line_named s (first (place_params line column) - 1) in
        let c : ℕ = min (second (place_params line column) - 1) (s.columns - 1) in
        let there : l ≡ line = rw (no_origin pen x d, first_place line column) (omega (arith, d.rows_are)) in
        let across : c ≡ column = rw (second_place line column) (omega (arith, d.columns_are)) in (
          effect x (func_of (MoveTo line column)),
          silent_leads old new x (MoveTo line column) (utf8 pen x d) (omega arith, omega arith) tt,
          record {
            drawing = record {
              sound = IsSound-effect x (func_of (MoveTo line column)) d.sound;
              rows_are = d.rows_are;
              columns_are = d.columns_are;
              state_is = moved_drawn s l c d.state_is;
              tabs_are = d.tabs_are;
              none_saved = d.none_saved;
              line_is = there;
              column_is = across;
              rendition_is = d.rendition_is;
            };
            cells = λ i k. refl;
            modes = refl;
          },
        )

    next_leads : (line : ℕ) → pen.line ≡ Some line → (line + 1 < rows) → 0 < columns
        → LeadsTo old new x (spelling (func_of NextLine)) (Keeps rows columns (at_place (line + 1) 0 pen.rendition) x)
    unfolding acted_from
    next_leads line is lh ch =
        let s : State = x.state in
        let at : s.line ≡ line = subst (λ l. Knows l s.line) is d.line_is in
        let bottom = last_line pen x d in
        let above : eqb s.line s.bottom ≡ false = ne_eqb s.line s.bottom (λ e. absurd (omega (arith, d.rows_are))) in
        let below : line_below (moved_to s s.line 0) ≡ line + 1 = rw above (omega (arith, d.rows_are)) in (
          effect x (func_of NextLine),
          silent_leads old new x NextLine (utf8 pen x d) tt tt,
          record {
            drawing = record {
              sound = IsSound-effect x (func_of NextLine) d.sound;
              rows_are = d.rows_are;
              columns_are = d.columns_are;
              state_is = moved_drawn (moved_to s s.line 0) (line_below (moved_to s s.line 0)) 0
                  (moved_drawn s s.line 0 d.state_is);
              tabs_are = d.tabs_are;
              none_saved = d.none_saved;
              line_is = below;
              column_is = refl;
              rendition_is = d.rendition_is;
            };
            cells = λ i k. rw above refl;
            modes = refl;
          },
        )

    forward_leads : (line column n : ℕ) → pen.line ≡ Some line → pen.column ≡ Some column → line < rows
        → column + n < columns → 0 < n → n < 9999
        → LeadsTo old new x (spelling (func_of (Forward n)))
        (Keeps rows columns (at_place line (column + n) pen.rendition) x)
    unfolding acted_from plain_sequence
    forward_leads line column n is_line is_column lh ch some few =
        let s : State = x.state in
        let at : s.column ≡ column = subst (λ k. Knows k s.column) is_column d.column_is in
        let c : ℕ = min (s.column + max 1 n) (s.columns - 1) in
        let across : c ≡ column + n = omega (arith, d.columns_are) in (
          effect x (func_of (Forward n)),
          silent_leads old new x (Forward n) (utf8 pen x d) (some, few) tt,
          record {
            drawing = record {
              sound = IsSound-effect x (func_of (Forward n)) d.sound;
              rows_are = d.rows_are;
              columns_are = d.columns_are;
              state_is = moved_drawn s s.line c d.state_is;
              tabs_are = d.tabs_are;
              none_saved = d.none_saved;
              line_is = subst (λ l. Knows l s.line) is_line d.line_is;
              column_is = across;
              rendition_is = d.rendition_is;
            };
            cells = λ i k. refl;
            modes = refl;
          },
        )

    pub render_leads : (r : Rendition)
        → LeadsTo old new x (spelling (func_of (Render pen.rendition r)))
        (Keeps rows columns (record pen { rendition = Some r }) x)
    render_leads r =
        let is : effect x (func_of (Render pen.rendition r)) ≡ with_rendition x r = params-made x pen.rendition r
        d.rendition_is in
        let leads = silent_leads old new x (Render pen.rendition r) (utf8 pen x d) tt tt in (
          with_rendition x r,
          subst (Leads old new x (spelling (func_of (Render pen.rendition r)))) is leads,
          record {
            drawing = record {
              sound = subst IsSound is (IsSound-effect x (func_of (Render pen.rendition r)) d.sound);
              rows_are = d.rows_are;
              columns_are = d.columns_are;
              state_is = rendered_drawn x.state r d.state_is;
              tabs_are = d.tabs_are;
              none_saved = d.none_saved;
              line_is = d.line_is;
              column_is = d.column_is;
              rendition_is = refl;
            };
            cells = λ i k. refl;
            modes = refl;
          },
        )

    pub way_leads : (line column : ℕ) (way : Command) → line < rows → rows < 9999 → column < columns → columns < 9999
        → IsWay pen line column (Some way)
        → LeadsTo old new x (spelling (func_of way)) (Keeps rows columns (at_place line column pen.rendition) x)
    way_leads line column (MoveTo l c) lh rh ch cl is =
        subst
        (λ k. LeadsTo old new x (spelling (func_of (MoveTo k c)))
        (Keeps rows columns (at_place line column pen.rendition) x)) (sym is.0)
        (subst
        (λ k. LeadsTo old new x (spelling (func_of (MoveTo line k)))
        (Keeps rows columns (at_place line column pen.rendition) x)) (sym is.1)
        (move_leads line column lh rh ch cl))
    way_leads line column NextLine lh rh ch cl is =
        let below : line - 1 + 1 ≡ line = omega (arith, is.0) in
        subst
        (λ k. LeadsTo old new x (spelling (func_of NextLine))
        (Keeps rows columns (at_place k column pen.rendition) x)) below
        (subst
        (λ k. LeadsTo old new x (spelling (func_of NextLine))
        (Keeps rows columns (at_place (line - 1 + 1) k pen.rendition) x)) (sym is.2)
        (next_leads (line - 1) is.1 (omega arith) (omega arith)))
    way_leads line column (Forward n) lh rh ch cl is =
        let across : column - n + n ≡ column = omega (arith, is.3) in
        subst
        (λ k. LeadsTo old new x (spelling (func_of (Forward n)))
        (Keeps rows columns (at_place line k pen.rendition) x)) across
        (forward_leads line (column - n) n is.0 is.1 lh (omega arith) is.2 (omega (arith, is.3)))
    way_leads line column (Glyph c) lh rh ch cl is = absurd is
    way_leads line column (Render known r) lh rh ch cl is = absurd is
    way_leads line column (EraseCells n) lh rh ch cl is = absurd is
    way_leads line column EraseToEnd lh rh ch cl is = absurd is
    way_leads line column (Arrows on) lh rh ch cl is = absurd is
    way_leads line column (ShowCursor on) lh rh ch cl is = absurd is
    way_leads line column (Keypad on) lh rh ch cl is = absurd is
