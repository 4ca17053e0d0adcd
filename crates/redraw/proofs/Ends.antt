-- A frame from terminals that agree with a shadow leads to terminals that show the view.
use Rattle.redraw.proofs.Vocabulary.{◌≡◌, ℕ, ◌<◌, ◌≤◌, true, false, List, [], ◌∷◌, ◌++◌, length, Option, Some, None}
use Rattle.redraw.proofs.Vocabulary.{refl, sym, ap, ◌∙◌, subst, arith, ⊎_elim, is_some, replicate, cases_lt}
use Rattle.redraw.proofs.Vocabulary.{get_or_past, get_or-replicate, length-replicate, Cell, blank, cell_at, plain}
use Rattle.redraw.proofs.Vocabulary.{unprotected, line_at, IsPage, IsGrid, cell_at_past, State, Position, Page, Screen}
use Rattle.redraw.proofs.Vocabulary.{IsSound, blank_page, Terminal, IsTerminal, ready, reads, joined, View, ShowsCursor}
use Rattle.redraw.proofs.Vocabulary.{IsOfSize, frame_bytes, frame_start, Draws, AreSpelled, Agrees, reads-append}
use Rattle.redraw.proofs.Vocabulary.{HasSize, HaveHalves, draws_append, Pen, Drawing, Takes, Stage, Final, Begins}
use Rattle.redraw.proofs.Vocabulary.{Redraws, pen_of, EndsAs, DrawsBytes}
use Rattle.terminal_model.proofs.Resets.{frame-terminal, frame-reports}
use Rattle.terminal_model.proofs.Terminals.{IsTerminal-reads, IsTerminal-ready}
use Rattle.draw_check.specs.Functions.{AreDraws}
use Rattle.redraw.proofs.Takings.{takes_weaker}

-- the reset is four functions that draws use: CAN, RIS, ESC % G, DECRM of DECAWM
reset_draws : AreDraws frame_bytes
reset_draws = record {
  functions = (0x18 ∷ []) ∷ (0x1B ∷ 0x63 ∷ []) ∷ (0x1B ∷ 0x25 ∷ 0x47 ∷ [])
      ∷ (0x1B ∷ 0x5B ∷ 0x3F ∷ 0x37 ∷ 0x6C ∷ []) ∷ [];
  used = (refl, (refl, (refl, (refl, tt))));
  whole = refl;
}

-- beyond its edges a page has blanks
outside_lines : (rows columns l c : ℕ) (page : Page) → IsPage rows columns page → rows ≤ l
    → cell_at (line_at page l) c ≡ blank
outside_lines rows columns l c page p h =
    ap (λ (k : List Cell). cell_at k c) (get_or_past page l [] (rw p.height h)) ∙ cell_at_past [] c (omega arith)

outside_columns : (rows columns l c : ℕ) (page : Page) → IsPage rows columns page → l < rows → columns ≤ c
    → cell_at (line_at page l) c ≡ blank
outside_columns rows columns l c page p hl h = cell_at_past (line_at page l) c (rw (p.width l hl) h)

module _ (rows columns : ℕ) where
  forgotten : (pen : Pen) (x : Screen) → Drawing rows columns pen x → Drawing rows columns (pen_of None) x
  forgotten pen x d = record {
    sound = d.sound;
    rows_are = d.rows_are;
    columns_are = d.columns_are;
    state_is = d.state_is;
    tabs_are = d.tabs_are;
    none_saved = d.none_saved;
    line_is = tt;
    column_is = tt;
    rendition_is = tt;
  }

  pub ends : (pen : Pen) (v : View) (y : Screen)
      → Final rows columns pen v.page v.has_application_arrows v.has_application_keypad v.cursor y
      → EndsAs rows columns v y
  ends pen v y f = let s = f.stage in record {
    stage = record {
      drawing = forgotten pen y s.drawing;
      cells = s.cells;
      arrows_are = s.arrows_are;
      keypad_is = s.keypad_is;
      shows_are = s.shows_are;
    };
    cursor_is = f.cursor_is;
  }

  -- a terminal that read a frame agrees with the frame's view
  pub ends_agree : (v : View) (y : Screen) → HasSize rows columns v → IsGrid v.page → EndsAs rows columns v y
      → Agrees rows columns (Some v) (ready y)
  ends_agree v y size grid f =
      let s = f.stage in
      let d = s.drawing in
      let page : IsPage rows columns v.page = subst (λ n. IsPage n columns v.page) size.rows_are
      (subst (λ n. IsPage (length v.page) n v.page) size.columns_are grid.well_formed) in
      let old : IsPage rows columns y.page = subst (λ n. IsPage n columns y.page) d.rows_are
      (subst (λ n. IsPage y.state.rows n y.page) d.columns_are d.sound.sized) in (
        record { terminal = IsTerminal-ready y d.sound; rows_are = d.rows_are; columns_are = d.columns_are },
        record {
          shows = record {
            size = subst (λ n. IsPage n y.state.columns v.page) (sym d.rows_are)
                (subst (λ n. IsPage rows n v.page) (sym d.columns_are) page);
            cells = λ l c. ⊎_elim
                (λ (hl : l < rows). ⊎_elim
                (λ (hc : c < columns). s.cells l c hl hc)
                (λ (hc : columns ≤ c). ap unprotected (outside_columns rows columns l c y.page old hl hc)
                ∙ sym (ap unprotected (outside_columns rows columns l c v.page page hl hc)))
                (cases_lt c columns))
                (λ (hl : rows ≤ l). ap unprotected (outside_lines rows columns l c y.page old hl)
                ∙ sym (ap unprotected (outside_lines rows columns l c v.page page hl)))
                (cases_lt l rows);
            upright = ap (λ (z : State). z.modes.is_inverted) d.state_is;
            cursor = f.cursor_is;
            arrows = s.arrows_are;
            keypad = s.keypad_is;
          };
          state_is = d.state_is;
          tabs_are = d.tabs_are;
          none_saved = d.none_saved;
          ready_is = refl;
        },
      )

  -- a terminal that agrees with a known view shows it
  agreed : (old : View) (t : Terminal) → Agrees rows columns (Some old) t → Begins rows columns old t.screen
  agreed old t a = record { stage = known old.cursor (a.1).shows.cursor; cursor_is = (a.1).shows.cursor }
    where
      known : (cursor : Option Position) → ShowsCursor cursor t.screen
          → Stage rows columns (pen_of cursor) old.page old.has_application_arrows old.has_application_keypad
          (is_some cursor) t.screen
      known None h = record {
        drawing = record {
          sound = ((a.0).terminal).sound;
          rows_are = (a.0).rows_are;
          columns_are = (a.0).columns_are;
          state_is = (a.1).state_is;
          tabs_are = (a.1).tabs_are;
          none_saved = (a.1).none_saved;
          line_is = tt;
          column_is = tt;
          rendition_is = tt;
        };
        cells = λ l c hl hc. ((a.1).shows).cells l c;
        arrows_are = ((a.1).shows).arrows;
        keypad_is = ((a.1).shows).keypad;
        shows_are = h;
      }
      known (Some p) h = record {
        drawing = record {
          sound = ((a.0).terminal).sound;
          rows_are = (a.0).rows_are;
          columns_are = (a.0).columns_are;
          state_is = (a.1).state_is;
          tabs_are = (a.1).tabs_are;
          none_saved = (a.1).none_saved;
          line_is = h.1;
          column_is = h.2;
          rendition_is = tt;
        };
        cells = λ l c hl hc. ((a.1).shows).cells l c;
        arrows_are = ((a.1).shows).arrows;
        keypad_is = ((a.1).shows).keypad;
        shows_are = h.0;
      }

  -- the cleared screen with which a first frame begins
  cleared : (t : Terminal) → IsOfSize rows columns t
      → Stage rows columns (record { line = Some 0; column = Some 0; rendition = Some plain }) (blank_page rows columns)
      false false true (frame_start t.screen)
  cleared t a =
      let x : Screen = frame_start t.screen in
      let sound : IsSound x =
      (subst IsTerminal (frame-terminal t a.terminal) (IsTerminal-reads t frame_bytes a.terminal)).sound in
      record {
        drawing = record {
          sound = sound;
          rows_are = a.rows_are;
          columns_are = a.columns_are;
          state_is = refl;
          tabs_are = refl;
          none_saved = refl;
          line_is = refl;
          column_is = refl;
          rendition_is = refl;
        };
        cells = λ l c hl hc. ap (λ n. unprotected (cell_at (line_at (blank_page n t.screen.state.columns) l) c))
            a.rows_are ∙ ap (λ n. unprotected (cell_at (line_at (blank_page rows n) l) c)) a.columns_are;
        arrows_are = refl;
        keypad_is = refl;
        shows_are = refl;
      }

  module _ (v : View) (size : HasSize rows columns v) (grid : IsGrid v.page) where
    next_redraws : (old : View) (bytes : List ℕ)
        → Takes old.page v.page (Begins rows columns old) (λ x y. EndsAs rows columns v y) [] bytes
        → Redraws rows columns (Some old) v bytes
    unfolding reads
    next_redraws old bytes k = record {
      rest = k.bytes;
      begins = k.appended;
      agrees = λ t a. let l = k.leads t.screen (agreed old t a) in
          subst (Agrees rows columns (Some v)) (sym (ap (λ r. r.terminal) (whole t a ∙ (l.1).reading)))
          (ends_agree v l.0 size grid l.2);
      quiet = λ t a. let l = k.leads t.screen (agreed old t a) in ap (λ r. r.reports) (whole t a ∙ (l.1).reading);
      draws = λ t a. let l = k.leads t.screen (agreed old t a) in
          subst (Draws old.page v.page)
          (sym (ap (λ r. r.acts) (ap (λ u. reads u k.bytes) (a.1).ready_is ∙ (l.1).reading))) (l.1).draws;
      spelled = λ t a. let l = k.leads t.screen (agreed old t a) in
          subst (AreSpelled k.bytes) (sym (ap (λ r. r.acts) (ap (λ u. reads u k.bytes) (a.1).ready_is ∙ (l.1).reading)))
          (l.1).spelled;
      used = λ t a. subst AreDraws (sym k.appended) (k.leads t.screen (agreed old t a)).1.used;
    }
      where
        whole : (t : Terminal) (a : Agrees rows columns (Some old) t) → reads t bytes ≡ reads (ready t.screen) k.bytes
        whole t a = ap (reads t) k.appended ∙ ap (λ u. reads u k.bytes) (a.1).ready_is

    first_redraws : (middle bytes : List ℕ) → middle ≡ [] ++ frame_bytes
        → Takes (blank_page rows columns) v.page
        (Stage rows columns (record { line = Some 0; column = Some 0; rendition = Some plain })
        (blank_page rows columns) false false true) (λ x y. EndsAs rows columns v y) middle bytes
        → Redraws rows columns None v bytes
    first_redraws middle bytes e k = record {
      rest = k.bytes;
      begins = begun;
      agrees = λ t a. let l = k.leads (frame_start t.screen) (cleared t a) in
          subst (Agrees rows columns (Some v))
          (sym (ap (λ r. r.terminal) (whole t a) ∙ ap (λ r. r.terminal) (l.1).reading))
          (ends_agree v l.0 size grid l.2);
      quiet = λ t a. let l = k.leads (frame_start t.screen) (cleared t a) in
          ap (λ r. r.reports) (whole t a)
          ∙ ap (λ rs. rs ++ (reads (ready (frame_start t.screen)) k.bytes).reports) (frame-reports t a.terminal)
          ∙ ap (λ r. r.reports) (l.1).reading;
      draws = λ t a. let l = k.leads (frame_start t.screen) (cleared t a) in
          subst (Draws (blank_page rows columns) v.page)
          (sym (ap (λ u. (reads u k.bytes).acts) (frame-terminal t a.terminal) ∙ ap (λ r. r.acts) (l.1).reading))
          (l.1).draws;
      spelled = λ t a. let l = k.leads (frame_start t.screen) (cleared t a) in
          subst (AreSpelled k.bytes)
          (sym (ap (λ u. (reads u k.bytes).acts) (frame-terminal t a.terminal) ∙ ap (λ r. r.acts) (l.1).reading))
          (l.1).spelled;
      used = λ t a. subst AreDraws (sym begun)
          (draws_append frame_bytes k.bytes reset_draws (k.leads (frame_start t.screen) (cleared t a)).1.used);
    }
      where
        begun : bytes ≡ frame_bytes ++ k.bytes
        begun = k.appended ∙ ap (λ xs. xs ++ k.bytes) e

        whole : (t : Terminal) (a : IsOfSize rows columns t)
            → reads t bytes ≡ joined (reads t frame_bytes) (reads (ready (frame_start t.screen)) k.bytes)
        whole t a = ap (reads t) begun ∙ reads-append t frame_bytes k.bytes
            ∙ ap (λ u. joined (reads t frame_bytes) (reads u k.bytes)) (frame-terminal t a.terminal)

-- any frame redraws the terminals that agree with what was known
pub redraws : (rows columns : ℕ) (known : Option View) (v : View) (bytes : List ℕ) → HasSize rows columns v
    → IsGrid v.page → DrawsBytes known v [] bytes → Redraws rows columns known v bytes
redraws rows columns known v bytes size grid k = by_known known k
  where
    own : HasSize (length v.page) (length (line_at v.page 0)) v
    own = record { rows_are = refl; columns_are = refl }

    at_size : (kn : Option View) → Redraws (length v.page) (length (line_at v.page 0)) kn v bytes
        → Redraws rows columns kn v bytes
    at_size kn r = subst (λ n. Redraws n columns kn v bytes) size.rows_are
        (subst (λ n. Redraws (length v.page) n kn v bytes) size.columns_are r)

    by_known : (kn : Option View) → DrawsBytes kn v [] bytes → Redraws rows columns kn v bytes
    by_known None f = at_size None
        (first_redraws (length v.page) (length (line_at v.page 0)) v own grid f.middle bytes f.resets f.paints)
    by_known (Some old) f = at_size (Some old)
        (next_redraws (length v.page) (length (line_at v.page 0)) v own grid old bytes f)

-- what is known of the pen may be forgotten
pub ended : (old new : Page) (rows columns : ℕ) (pen : Pen) (v : View) (P : Screen → Type 0) (a b : List ℕ)
    → Takes old new P
    (λ x y. Final rows columns pen v.page v.has_application_arrows v.has_application_keypad v.cursor y) a b
    → Takes old new P (λ x y. EndsAs rows columns v y) a b
ended old new rows columns pen v P a b t =
    takes_weaker old new P
    (λ x y. Final rows columns pen v.page v.has_application_arrows v.has_application_keypad v.cursor y)
    (λ x y. EndsAs rows columns v y) a b t (λ x y p f. ends rows columns pen v y f)

-- a page of blanks has no halves of wide characters
pub blank_halves : (rows columns : ℕ) → HaveHalves (blank_page rows columns)
blank_halves rows columns l hl c left =
    let tall : l < rows = rw length-replicate at hl in
    let line : line_at (blank_page rows columns) l ≡ replicate columns blank = get_or-replicate rows l
    (replicate columns blank) [] tall in
    let cell : cell_at (line_at (blank_page rows columns) l) c ≡ blank = ap (λ (k : List Cell). cell_at k c) line
    ∙ blank_at c in
    absurd (left_blank (rw cell at left))
  where
    left_blank : false ≡ true → ⊥
    left_blank e = absurd cc

    blank_at : (k : ℕ) → cell_at (replicate columns blank) k ≡ blank
    blank_at k = ⊎_elim
        (λ (h : k < columns). get_or-replicate columns k blank blank h)
        (λ (h : columns ≤ k). get_or_past (replicate columns blank) k blank (rw (length-replicate columns blank) h))
        (cases_lt k columns)
