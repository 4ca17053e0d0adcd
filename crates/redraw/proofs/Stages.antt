-- A page is drawn line by line; then the modes and the cursor are set.
use Rattle.redraw.proofs.Vocabulary.{◌≡◌, ℕ, ◌+◌, ◌<◌, ◌≤◌, Bool, true, false, List, ◌++◌, Option, Some, None, refl}
use Rattle.redraw.proofs.Vocabulary.{sym, ap, ◌∙◌, subst, arith, ⊎_elim, cases_lt, spelling, State, Position, Page}
use Rattle.redraw.proofs.Vocabulary.{Screen, private_sequence, unpending, effect, acted_from, seen_at, IsSound-effect}
use Rattle.redraw.proofs.Vocabulary.{KeyModes, Pen, Command, Arrows, ShowCursor, Keypad, func_of, AreAlikeAbove, seen}
use Rattle.redraw.proofs.Vocabulary.{Drawing, Knows, Takes, Keeps, HasLine, DrawsLine, HasPage, DrawsPage, Stage, Final}
use Rattle.redraw.proofs.Vocabulary.{changed}
use Rattle.terminal_model.specs.declared.state.Modes.{Modes}
use Rattle.redraw.proofs.Rows.{mixed_front}
use Rattle.redraw.proofs.Effects.{silent_leads}
use Rattle.redraw.proofs.Screens.{utf8, LeadsTo, at_place}
use Rattle.redraw.proofs.Takings.{leads_nothing, takes_nothing, takes_then, takes_bytes, takes_weaker, takes_given}

module _ (old new : Page) (rows columns : ℕ) where
  pub page_start : (p : Pen) (from : ℕ) (a : List ℕ) → from ≤ rows → AreAlikeAbove from old new
      → Takes old new (HasPage rows columns p old) (DrawsPage rows columns p old new from) a a
  page_start p from a inside alike = takes_nothing old new (HasPage rows columns p old)
      (DrawsPage rows columns p old new from) a a refl
      (λ x h. record {
        drawing = h.drawing;
        above = λ l c hl hc. h.cells l c (omega arith) hc
            ∙ alike l c hl;
        below = λ l c nl hl hc. h.cells l c hl hc;
        modes = refl;
      })

  pub page_line : (p q r : Pen) (k : ℕ) (a b c : List ℕ) → k < rows
      → Takes old new (HasPage rows columns p old) (DrawsPage rows columns q old new k) a b
      → Takes old new (HasLine rows columns q k (seen_at old k))
      (DrawsLine rows columns r k (seen_at old k) (seen_at new k) columns) b c
      → Takes old new (HasPage rows columns p old) (DrawsPage rows columns r old new (k + 1)) a c
  page_line p q r k a b c inside t w =
      takes_then old new (HasPage rows columns p old) (HasLine rows columns q k (seen_at old k))
      (DrawsPage rows columns q old new k) (DrawsLine rows columns r k (seen_at old k) (seen_at new k) columns)
      (DrawsPage rows columns r old new (k + 1)) a b c t w
      (λ x y h d. record { drawing = d.drawing; cells = λ i hi. d.below k i (λ z. absurd (omega arith)) inside hi })
      (λ x y z h d v. record {
        drawing = v.drawing;
        above = λ l i hl hi. ⊎_elim
            (λ (m : l < k). v.elsewhere l i (λ e. absurd (omega arith)) ∙ d.above l i m hi)
            (λ (m : k ≤ l). let e : l ≡ k = omega arith in subst (λ j. seen z j i ≡ seen_at new j i) (sym e)
            (v.here i hi ∙ mixed_front (seen_at old k) (seen_at new k) columns i hi))
            (cases_lt l k);
        below = λ l i nl hl hi. v.elsewhere l i (λ e. nl (omega arith)) ∙ d.below l i (λ m. nl (omega arith)) hl hi;
        modes = v.modes ∙ d.modes;
      })

-- THE MODES
module _ (old new page : Page) (rows columns : ℕ) (pen : Pen) where
  arrows_set : (on keypad shows before : Bool) (x : Screen) → Stage rows columns pen page before keypad shows x
      → LeadsTo rows columns old new x (spelling (func_of (Arrows on))) (Stage rows columns pen page on keypad shows)
  unfolding acted_from private_sequence
  arrows_set true keypad shows before x s =
      let d = s.drawing in (
        effect x (func_of (Arrows true)),
        silent_leads old new x (Arrows true) (utf8 rows columns pen x d) tt tt,
        record {
          drawing = record {
            sound = IsSound-effect x (func_of (Arrows true)) d.sound;
            rows_are = d.rows_are;
            columns_are = d.columns_are;
            state_is = ap
                (λ (z : State). unpending (record z { modes = record z.modes { has_application_arrows = true } }))
                d.state_is;
            tabs_are = d.tabs_are;
            none_saved = d.none_saved;
            line_is = d.line_is;
            column_is = d.column_is;
            rendition_is = d.rendition_is;
          };
          cells = s.cells;
          arrows_are = refl;
          keypad_is = s.keypad_is;
          shows_are = s.shows_are;
        },
      )
  arrows_set false keypad shows before x s =
      let d = s.drawing in (
        effect x (func_of (Arrows false)),
        silent_leads old new x (Arrows false) (utf8 rows columns pen x d) tt tt,
        record {
          drawing = record {
            sound = IsSound-effect x (func_of (Arrows false)) d.sound;
            rows_are = d.rows_are;
            columns_are = d.columns_are;
            state_is = ap
                (λ (z : State). unpending (record z { modes = record z.modes { has_application_arrows = false } }))
                d.state_is;
            tabs_are = d.tabs_are;
            none_saved = d.none_saved;
            line_is = d.line_is;
            column_is = d.column_is;
            rendition_is = d.rendition_is;
          };
          cells = s.cells;
          arrows_are = refl;
          keypad_is = s.keypad_is;
          shows_are = s.shows_are;
        },
      )

  shown_set : (on arrows keypad before : Bool) (x : Screen) → Stage rows columns pen page arrows keypad before x
      → LeadsTo rows columns old new x (spelling (func_of (ShowCursor on)))
      (Stage rows columns pen page arrows keypad on)
  unfolding acted_from private_sequence
  shown_set true arrows keypad before x s =
      let d = s.drawing in (
        effect x (func_of (ShowCursor true)),
        silent_leads old new x (ShowCursor true) (utf8 rows columns pen x d) tt tt,
        record {
          drawing = record {
            sound = IsSound-effect x (func_of (ShowCursor true)) d.sound;
            rows_are = d.rows_are;
            columns_are = d.columns_are;
            state_is = ap (λ (z : State). unpending (record z { modes = record z.modes { shows_cursor = true } }))
                d.state_is;
            tabs_are = d.tabs_are;
            none_saved = d.none_saved;
            line_is = d.line_is;
            column_is = d.column_is;
            rendition_is = d.rendition_is;
          };
          cells = s.cells;
          arrows_are = s.arrows_are;
          keypad_is = s.keypad_is;
          shows_are = refl;
        },
      )
  shown_set false arrows keypad before x s =
      let d = s.drawing in (
        effect x (func_of (ShowCursor false)),
        silent_leads old new x (ShowCursor false) (utf8 rows columns pen x d) tt tt,
        record {
          drawing = record {
            sound = IsSound-effect x (func_of (ShowCursor false)) d.sound;
            rows_are = d.rows_are;
            columns_are = d.columns_are;
            state_is = ap (λ (z : State). unpending (record z { modes = record z.modes { shows_cursor = false } }))
                d.state_is;
            tabs_are = d.tabs_are;
            none_saved = d.none_saved;
            line_is = d.line_is;
            column_is = d.column_is;
            rendition_is = d.rendition_is;
          };
          cells = s.cells;
          arrows_are = s.arrows_are;
          keypad_is = s.keypad_is;
          shows_are = refl;
        },
      )

  keypad_set : (on arrows shows before : Bool) (x : Screen) → Stage rows columns pen page arrows before shows x
      → LeadsTo rows columns old new x (spelling (func_of (Keypad on))) (Stage rows columns pen page arrows on shows)
  unfolding acted_from
  keypad_set true arrows shows before x s =
      let d = s.drawing in (
        effect x (func_of (Keypad true)),
        silent_leads old new x (Keypad true) (utf8 rows columns pen x d) tt tt,
        record {
          drawing = record {
            sound = IsSound-effect x (func_of (Keypad true)) d.sound;
            rows_are = d.rows_are;
            columns_are = d.columns_are;
            state_is = ap
                (λ (z : State). unpending (record z { modes = record z.modes { has_application_keypad = true } }))
                d.state_is;
            tabs_are = d.tabs_are;
            none_saved = d.none_saved;
            line_is = d.line_is;
            column_is = d.column_is;
            rendition_is = d.rendition_is;
          };
          cells = s.cells;
          arrows_are = s.arrows_are;
          keypad_is = refl;
          shows_are = s.shows_are;
        },
      )
  keypad_set false arrows shows before x s =
      let d = s.drawing in (
        effect x (func_of (Keypad false)),
        silent_leads old new x (Keypad false) (utf8 rows columns pen x d) tt tt,
        record {
          drawing = record {
            sound = IsSound-effect x (func_of (Keypad false)) d.sound;
            rows_are = d.rows_are;
            columns_are = d.columns_are;
            state_is = ap
                (λ (z : State). unpending (record z { modes = record z.modes { has_application_keypad = false } }))
                d.state_is;
            tabs_are = d.tabs_are;
            none_saved = d.none_saved;
            line_is = d.line_is;
            column_is = d.column_is;
            rendition_is = d.rendition_is;
          };
          cells = s.cells;
          arrows_are = s.arrows_are;
          keypad_is = refl;
          shows_are = s.shows_are;
        },
      )

  -- a mode's command is sent only if the mode changes
  pub changed_leads : (S : Bool → Screen → Type 0) (was is : Bool) (command : Command)
      → ((x : Screen) → S was x → LeadsTo rows columns old new x (spelling (func_of command)) (S is))
      → (x : Screen) → S was x → LeadsTo rows columns old new x (changed was is command) (S is)
  changed_leads S true true command leads x s = (x, leads_nothing old new x, s)
  changed_leads S true false command leads x s = leads x s
  changed_leads S false true command leads x s = leads x s
  changed_leads S false false command leads x s = (x, leads_nothing old new x, s)

  pub modes_take : (arrows arrows' keypad keypad' shows : Bool) (a b c : List ℕ)
      → b ≡ a ++ changed arrows arrows' (Arrows arrows') → c ≡ b ++ changed keypad keypad' (Keypad keypad')
      → Takes old new (Stage rows columns pen page arrows keypad shows)
      (λ x y. Stage rows columns pen page arrows' keypad' shows y) a c
  modes_take arrows arrows' keypad keypad' shows a b c e f =
      takes_then old new (Stage rows columns pen page arrows keypad shows)
      (Stage rows columns pen page arrows' keypad shows) (λ x y. Stage rows columns pen page arrows' keypad shows y)
      (λ x y. Stage rows columns pen page arrows' keypad' shows y)
      (λ x y. Stage rows columns pen page arrows' keypad' shows y) a b c
      (takes_bytes old new (Stage rows columns pen page arrows keypad shows)
      (λ x y. Stage rows columns pen page arrows' keypad shows y) a b (changed arrows arrows' (Arrows arrows')) e
      (changed_leads (λ z. Stage rows columns pen page z keypad shows) arrows arrows' (Arrows arrows')
      (λ x s. arrows_set arrows' keypad shows arrows x s)))
      (takes_bytes old new (Stage rows columns pen page arrows' keypad shows)
      (λ x y. Stage rows columns pen page arrows' keypad' shows y) b c (changed keypad keypad' (Keypad keypad')) f
      (changed_leads (λ z. Stage rows columns pen page arrows' z shows) keypad keypad' (Keypad keypad')
      (λ x s. keypad_set keypad' arrows' shows keypad x s)))
      (λ x y s t. t) (λ x y z s t u. u)

  pub shown_takes : (arrows keypad was is : Bool) (a b : List ℕ) → b ≡ a ++ changed was is (ShowCursor is)
      → Takes old new (Stage rows columns pen page arrows keypad was)
      (λ x y. Stage rows columns pen page arrows keypad is y) a b
  shown_takes arrows keypad was is a b e =
      takes_bytes old new (Stage rows columns pen page arrows keypad was)
      (λ x y. Stage rows columns pen page arrows keypad is y) a b (changed was is (ShowCursor is)) e
      (changed_leads (λ z. Stage rows columns pen page arrows keypad z) was is (ShowCursor is)
      (λ x s. shown_set is arrows keypad was x s))

  pub hidden_takes : (arrows keypad was : Bool) (a b : List ℕ) → b ≡ a ++ changed was false (ShowCursor false)
      → Takes old new (Stage rows columns pen page arrows keypad was)
      (λ x y. Final rows columns pen page arrows keypad None y) a b
  hidden_takes arrows keypad was a b e =
      takes_weaker old new (Stage rows columns pen page arrows keypad was)
      (λ x y. Stage rows columns pen page arrows keypad false y)
      (λ x y. Final rows columns pen page arrows keypad None y) a b (shown_takes arrows keypad was false a b e)
      (λ x y s t. record { stage = t; cursor_is = t.shows_are })

  -- the pen moves to the cursor's place
  pub placed_takes : (next : Pen) (line column : ℕ) (arrows keypad was : Bool) (a b c : List ℕ)
      → next ≡ at_place line column pen.rendition
      → Takes old new (Drawing rows columns pen) (Keeps rows columns next) a b
      → Takes old new (Stage rows columns next page arrows keypad was)
      (λ x y. Stage rows columns next page arrows keypad true y) b c
      → Takes old new (Stage rows columns pen page arrows keypad was)
      (λ x y. Final rows columns next page arrows keypad (Some (record { line = line; column = column })) y) a c
  placed_takes next line column arrows keypad was a b c is moved shown =
      takes_then old new (Stage rows columns pen page arrows keypad was)
      (Stage rows columns next page arrows keypad was) (Keeps rows columns next)
      (λ x y. Stage rows columns next page arrows keypad true y)
      (λ x y. Final rows columns next page arrows keypad (Some (record { line = line; column = column })) y) a b c
      (takes_given old new (Drawing rows columns pen) (Stage rows columns pen page arrows keypad was)
      (Keeps rows columns next) a b (λ x s. s.drawing) moved)
      shown
      (λ x y s k. record {
        drawing = k.drawing;
        cells = λ l i hl hi. k.cells l i ∙ s.cells l i hl hi;
        arrows_are = ap (λ (m : Modes). m.has_application_arrows) k.modes ∙ s.arrows_are;
        keypad_is = ap (λ (m : Modes). m.has_application_keypad) k.modes ∙ s.keypad_is;
        shows_are = ap (λ (m : Modes). m.shows_cursor) k.modes ∙ s.shows_are;
      })
      (λ x y z s k t.
      let d = t.drawing in
      let el : z.state.line ≡ line = subst (λ (p : Pen). Knows p.line z.state.line) is d.line_is in
      let ec : z.state.column ≡ column = subst (λ (p : Pen). Knows p.column z.state.column) is d.column_is in
      record { stage = t; cursor_is = (t.shows_are, el, ec) })

-- drawing the page leads to the stage after it
pub page_takes : (old new : Page) (rows columns : ℕ) (p q : Pen) (arrows keypad shows : Bool) (a b : List ℕ)
    → Takes old new (HasPage rows columns p old) (DrawsPage rows columns q old new rows) a b
    → Takes old new (Stage rows columns p old arrows keypad shows)
    (λ x y. Stage rows columns q new arrows keypad shows y) a b
page_takes old new rows columns p q arrows keypad shows a b t =
    takes_weaker old new (Stage rows columns p old arrows keypad shows) (DrawsPage rows columns q old new rows)
    (λ x y. Stage rows columns q new arrows keypad shows y) a b
    (takes_given old new (HasPage rows columns p old) (Stage rows columns p old arrows keypad shows)
    (DrawsPage rows columns q old new rows) a b (λ x s. record { drawing = s.drawing; cells = s.cells }) t)
    (λ x y s d. record {
      drawing = d.drawing;
      cells = λ l c hl hc. d.above l c hl hc;
      arrows_are = ap (λ (m : Modes). m.has_application_arrows) d.modes ∙ s.arrows_are;
      keypad_is = ap (λ (m : Modes). m.has_application_keypad) d.modes ∙ s.keypad_is;
      shows_are = ap (λ (m : Modes). m.shows_cursor) d.modes ∙ s.shows_are;
    })

-- drawing the page, the modes and the cursor leads to the view
pub paint_takes : (old new : Page) (rows columns : ℕ) (p q r : Pen) (m m' : KeyModes) (oa ok na nk was : Bool)
    (cursor cursor' : Option Position) (a b c d : List ℕ)
    → m ≡ record { has_application_arrows = oa; has_application_keypad = ok }
    → m' ≡ record { has_application_arrows = na; has_application_keypad = nk } → cursor ≡ cursor'
    → Takes old new (HasPage rows columns p old) (DrawsPage rows columns q old new rows) a b
    → Takes old new (Stage rows columns q new m.has_application_arrows m.has_application_keypad was)
    (λ x y. Stage rows columns q new m'.has_application_arrows m'.has_application_keypad was y) b c
    → Takes old new (Stage rows columns q new m'.has_application_arrows m'.has_application_keypad was)
    (λ x y. Final rows columns r new m'.has_application_arrows m'.has_application_keypad cursor y) c d
    → Takes old new (Stage rows columns p old oa ok was) (λ x y. Final rows columns r new na nk cursor' y) a d
paint_takes old new rows columns p q r m m' oa ok na nk was cursor cursor' a b c d em em' ec page modes last =
    let first : Takes old new (Stage rows columns p old oa ok was) (λ x y. Stage rows columns q new oa ok was y) a b =
    page_takes old new rows columns p q oa ok was a b page in
    let modes1 : Takes old new (Stage rows columns q new oa ok was)
    (λ x y. Stage rows columns q new m'.has_application_arrows m'.has_application_keypad was y) b c
    = subst
    (λ (k : KeyModes). Takes old new
    (Stage rows columns q new k.has_application_arrows k.has_application_keypad was)
    (λ x y. Stage rows columns q new m'.has_application_arrows m'.has_application_keypad was y) b c) em modes in
    let modes2 : Takes old new (Stage rows columns q new oa ok was) (λ x y. Stage rows columns q new na nk was y) b c
    = subst
    (λ (k : KeyModes). Takes old new (Stage rows columns q new oa ok was)
    (λ x y. Stage rows columns q new k.has_application_arrows k.has_application_keypad was y) b c) em' modes1 in
    let last1 : Takes old new (Stage rows columns q new na nk was) (λ x y. Final rows columns r new na nk cursor y) c d
    = subst
    (λ (k : KeyModes). Takes old new
    (Stage rows columns q new k.has_application_arrows k.has_application_keypad was)
    (λ x y. Final rows columns r new k.has_application_arrows k.has_application_keypad cursor y) c d) em' last in
    let last2 : Takes old new (Stage rows columns q new na nk was) (λ x y. Final rows columns r new na nk cursor' y) c d
    = subst (λ k. Takes old new (Stage rows columns q new na nk was) (λ x y. Final rows columns r new na nk k y) c d) ec
    last1 in
    takes_then old new (Stage rows columns p old oa ok was) (Stage rows columns q new oa ok was)
    (λ x y. Stage rows columns q new oa ok was y) (λ x y. Final rows columns r new na nk cursor' y)
    (λ x y. Final rows columns r new na nk cursor' y) a b d first
    (takes_then old new (Stage rows columns q new oa ok was) (Stage rows columns q new na nk was)
    (λ x y. Stage rows columns q new na nk was y) (λ x y. Final rows columns r new na nk cursor' y)
    (λ x y. Final rows columns r new na nk cursor' y) b c d modes2 last2
    (λ x y s t. t) (λ x y z s t u. u))
    (λ x y s t. t) (λ x y z s t u. u)
