-- Characters that are printed one after another and fit in the line are one run.
use Rattle.vt_screen.proofs.Vocabulary.{◌≡◌, ℕ, ◌+◌, ◌-◌, ◌<◌, ◌≤◌, Bool, true, false, ◌&&◌, ◌||◌, cond, ltb, List, []}
use Rattle.vt_screen.proofs.Vocabulary.{◌∷◌, ◌++◌, length, length-append, lt-ltb, Option, Some, refl, sym, ap, ◌∙◌}
use Rattle.vt_screen.proofs.Vocabulary.{subst, arith, inl, inr, list_all, and_parts, cases_Bool, ne_eqb, Shifts, Code}
use Rattle.vt_screen.proofs.Vocabulary.{Cell, Rendition, IsPaired, is_right, marked, spliced, narrow_cell, left_cell}
use Rattle.vt_screen.proofs.Vocabulary.{IsPage, page_marked, base_cell, cells_on, is_base, is_base_or_mark, is_based}
use Rattle.vt_screen.proofs.Vocabulary.{is_known_wide, is_letter, is_mark, last_columns, text_cells, whole, Action}
use Rattle.vt_screen.proofs.Vocabulary.{Print, State, Page, Screen, IsSound, line_edited, with_page, with_state}
use Rattle.vt_screen.proofs.Vocabulary.{advanced, lacks_room, placed, placed_narrow, printed, printed_as, wide_or_none}
use Rattle.vt_screen.proofs.Vocabulary.{wide_printed, wrapped, is_wrapped, acted, acted_from, all_acted, wrapped_places}
use Rattle.vt_screen.proofs.Vocabulary.{printed_places, acted_places, all_acted_places, TakesRuns, prints}
use Rattle.charsets.specs.Shifts.{spent}
use Rattle.charsets.proofs.Shifted.{mapped-ascii, spent-none}
use Rattle.vt_screen.proofs.Known.{IsKnown, known_letter, known_mark, known_wide, places_known, printed_known}
use Rattle.vt_screen.proofs.Overs.{IsPage-page_over, last_behind, last_fits, page_over, page_over_marked}
use Rattle.vt_screen.proofs.Overs.{page_over_more, whole_last, whole_paired, whole_pairs}

-- these actions, in turn, make this screen of another one, and move no line
pub record Makes (x : Screen) (actions : List Action) (y : Screen) : Type 0 where
  pub screen : all_acted x actions ≡ y
  pub places : (places : List ℕ) → all_acted_places x actions places ≡ places

makes_more : (x y z : Screen) (a : Action) (later : List Action) → Makes x (a ∷ []) y → Makes y later z
    → Makes x (a ∷ later) z
makes_more x y z a later first rest = record {
  screen = ap (λ (v : Screen). all_acted v later) first.screen ∙ rest.screen;
  places = λ places. ap (λ (ps : List ℕ). all_acted_places (acted x a) later ps) (first.places places)
      ∙ ap (λ (v : Screen). all_acted_places v later places) first.screen ∙ rest.places places;
}

-- new cells over as many from the cursor on; the cursor goes to the column after them, and marks join their last
-- character
abbrev pub cells_placed : List Cell → Screen → Screen
cells_placed fresh x =
    let s : State = x.state in
    record x {
      state = advanced (record s { column = s.column + (length fresh - last_columns fresh) }) (last_columns fresh);
      page = line_edited s (spliced s.column fresh (s.column + length fresh) s.columns) x.page;
    }

-- the cells of one character
placed_is : (x : Screen) (fresh : List Cell) → TakesRuns x.state → last_columns fresh ≡ length fresh
    → placed fresh x ≡ cells_placed fresh x
placed_is x fresh t last =
    let s : State = x.state in
    let n : ℕ = length fresh in
    let e : s.column ≡ s.column + (n - n) = omega arith in
    ap (λ (b : Bool). with_page x (advanced s n)
    (line_edited s (spliced s.column fresh (cond b s.column (s.column + n)) s.columns) x.page)) t.replaces
    ∙ ap (λ (m : ℕ). with_page x (advanced (record s { column = m }) n)
    (line_edited s (spliced s.column fresh (s.column + n) s.columns) x.page)) e
    ∙ ap (λ (k : ℕ). with_page x (advanced (record s { column = s.column + (n - k) }) k)
    (line_edited s (spliced s.column fresh (s.column + n) s.columns) x.page)) (sym last)

-- a character of known width is printed by its width
known_acted : (x : Screen) (c n : ℕ) → TakesRuns x.state → IsKnown c n → acted x (Print (Code c)) ≡ printed_as n c x
unfolding acted_from
known_acted x c n t k =
    ap (λ (o : Option ℕ). printed o (with_state x (record x.state { shifts = spent x.state.shifts (Code c) })))
    (mapped-ascii x.state.shifts c t.prints.ascii t.prints.unshifted k.graphic)
    ∙ ap (λ (v : Shifts). printed (Some c) (with_state x (record x.state { shifts = v })))
    (spent-none x.state.shifts c t.prints.unshifted)
    ∙ printed_known x c n k

known_places : (s : State) (c n : ℕ) (places : List ℕ) → TakesRuns s → IsKnown c n
    → acted_places s (Print (Code c)) places ≡ wrapped_places (is_wrapped n s) s places
known_places s c n places t k =
    ap (λ (o : Option ℕ). printed_places o s places)
    (mapped-ascii s.shifts c t.prints.ascii t.prints.unshifted k.graphic)
    ∙ places_known s c n places k

module _ (x : Screen) (c : ℕ) (t : TakesRuns x.state) (settled : x.state.is_wrap_pending ≡ false) where
  pub letter_placed : is_letter c ≡ true → acted x (Print (Code c)) ≡ placed_narrow c x
  letter_placed letter =
      known_acted x c 1 t (known_letter c letter) ∙ ap (λ (b : Bool). placed_narrow c (wrapped b x)) settled

  pub letter_makes : is_letter c ≡ true
      → Makes x (Print (Code c) ∷ [])
      (cells_placed (narrow_cell c x.state.rendition x.state.is_protecting ∷ []) x)
  letter_makes letter =
      let s : State = x.state in
      let fresh : List Cell = narrow_cell c s.rendition s.is_protecting ∷ [] in
      record {
        screen = letter_placed letter ∙ placed_is x fresh t refl;
        places = λ places. known_places s c 1 places t (known_letter c letter)
            ∙ ap (λ (b : Bool). wrapped_places b s places) settled;
      }

  wide_makes : is_known_wide c ≡ true → x.state.column + 2 ≤ x.state.columns
      → Makes x (Print (Code c) ∷ []) (cells_placed (whole (left_cell c x.state.rendition x.state.is_protecting)) x)
  wide_makes wide room =
      let s : State = x.state in
      let k : IsKnown c 2 = known_wide c wide in
      let left : lacks_room s ≡ false = ne_eqb (s.column + 1) s.columns (λ e. absurd (omega arith)) in
      record {
        screen =
            known_acted x c 2 t k
            ∙ ap (λ (b : Bool). wide_printed c (wrapped b x)) settled
            ∙ ap (λ (b : Bool). wide_or_none (lacks_room (wrapped (b && s.modes.wraps) x).state) c
            (wrapped (b && s.modes.wraps) x)) left
            ∙ ap (λ (b : Bool). wide_or_none b c x) left
            ∙ placed_is x (whole (left_cell c s.rendition s.is_protecting)) t refl;
        places = λ places. known_places s c 2 places t k
            ∙ ap (λ (b : Bool). wrapped_places (b || (lacks_room s && s.modes.wraps)) s places) settled
            ∙ ap (λ (b : Bool). wrapped_places (b && s.modes.wraps) s places) left;
      }

left_of : (p q : Bool) → (p || q) ≡ true → q ≡ false → p ≡ true
left_of true q h other = refl
left_of false true h other = sym other
left_of false false h other = h

abbrev base_of : Screen → ℕ → Cell
base_of x c = base_cell c x.state.rendition x.state.is_protecting

-- a character with cells of its own
base_makes : (x : Screen) (c : ℕ) → TakesRuns x.state → x.state.is_wrap_pending ≡ false → is_base c ≡ true
    → x.state.column + length (whole (base_of x c)) ≤ x.state.columns
    → Makes x (Print (Code c) ∷ []) (cells_placed (whole (base_of x c)) x)
base_makes x c t settled base room =
    elim (cases_Bool (is_known_wide c)) [
      | inl wide ↦ rw wide (wide_makes x c t settled wide (omega (arith, (rw wide at room))))
      | inr other ↦ rw other (letter_makes x c t settled (left_of (is_letter c) (is_known_wide c) base other))
    ]

base_first : (c : ℕ) (r : Rendition) (p : Bool) → is_right (base_cell c r p).shape ≡ false
base_first c r p =
    elim (cases_Bool (is_known_wide c)) [
      | inl wide ↦ rw wide refl
      | inr other ↦ rw other refl
    ]

-- text is put over old cells of a page
pub record IsReady (x : Screen) : Type 0 where
  pub takes : TakesRuns x.state
  pub sized : IsPage x.state.rows x.state.columns x.page
  pub line : x.state.line < x.state.rows

-- the state after some columns that aren't the last ones of their line
abbrev behind : State → ℕ → State
behind s n = record s
    { column = s.column + n; is_wrap_pending = false; joining = Some (record { line = s.line; column = s.column }) }

module _ (x : Screen) (cell : Cell) (ready : IsReady x) (first : is_right cell.shape ≡ false) where
  abbrev y : Screen
  y = cells_placed (whole cell) x

  abbrev n : ℕ
  n = length (whole cell)

  ready_behind : IsReady y
  ready_behind = record {
    takes = record {
      prints = record { ascii = ready.takes.prints.ascii; unshifted = ready.takes.prints.unshifted };
      replaces = ready.takes.replaces;
    };
    sized = IsPage-page_over x.state.rows x.state.columns x.state.line x.page ready.sized ready.line x.state.column
        (whole cell);
    line = ready.line;
  }

  -- marks join the cell
  joins_cell : x.state.column + (n - last_columns (whole cell)) ≡ x.state.column
  joins_cell = rw (whole_last cell first) (omega arith)

  mark_makes : (c : ℕ) → is_mark c ≡ true → x.state.column + n ≤ x.state.columns
      → Makes y (Print (Code c) ∷ []) (cells_placed (whole (marked cell c)) x)
  mark_makes c mark room =
      let s : State = x.state in
      let k : IsKnown c 0 = known_mark c mark in
      record {
        screen =
            known_acted y c 0 ready_behind.takes k
            ∙ ap (λ (m : ℕ). record x { state = y.state; page = page_marked s.line m c y.page }) joins_cell
            ∙ ap (λ (page : Page). record x { state = y.state; page = page })
            (page_over_marked s.rows s.columns s.line s.column cell x.page ready.sized ready.line first c room)
            ∙ ap (λ (k : ℕ). record x {
              state = advanced (record s { column = s.column + (n - k) }) k;
              page = page_over s.columns s.line s.column (whole (marked cell c)) x.page;
            }) (whole_last cell first ∙ sym (whole_last (marked cell c) first));
        places = λ places. known_places y.state c 0 places ready_behind.takes k;
      }

  -- the state if there are columns behind the cells
  state_is : x.state.column + n < x.state.columns → y.state ≡ behind x.state n
  state_is room =
      let s : State = x.state in
      let fits : ltb (s.column + n) s.columns ≡ true = lt-ltb (s.column + n) s.columns room in
      ap (λ (m : ℕ). advanced (record s { column = m }) (last_columns (whole cell))) joins_cell
      ∙ ap (λ (m : ℕ). advanced s m) (whole_last cell first)
      ∙ ap (λ (b : Bool). record s {
        column = cond b (s.column + n) (s.columns - 1);
        is_wrap_pending = cond b false s.modes.wraps;
        joining = Some (record { line = s.line; column = s.column });
      }) fits

  settled_behind : x.state.column + n < x.state.columns → y.state.is_wrap_pending ≡ false
  settled_behind room = ap (λ (u : State). u.is_wrap_pending) (state_is room)

  room_behind : (m : ℕ) → 0 < m → x.state.column + (n + m) ≤ x.state.columns → y.state.column + m ≤ y.state.columns
  room_behind m some room =
      let e : y.state.column ≡ x.state.column + n = ap (λ (u : State). u.column) (state_is (omega arith)) in
      rw e (omega arith)

  -- its cells and others after it are one run
  cells_first : (later : List Cell) → IsPaired later → 0 < length later
      → x.state.column + (n + length later) ≤ x.state.columns
      → cells_placed later y ≡ cells_placed (whole cell ++ later) x
  cells_first later pairs some room =
      let s : State = x.state in
      let m : ℕ = last_columns later in
      let fits : m ≤ length later = last_fits later pairs some in
      let all : length (whole cell ++ later) ≡ n + length later = length-append (whole cell) later in
      let last : last_columns (whole cell ++ later) ≡ m = last_behind (whole cell) later some in
      let column : s.column + n + (length later - m) ≡ s.column + (n + length later - m) = omega arith in
      ap (λ (v : State). cells_placed later (record x { state = v; page = y.page })) (state_is (omega arith))
      ∙ rw (
        page_over_more s.rows s.columns s.line s.column cell x.page ready.sized ready.line first later pairs some
            (omega arith),
        last,
        all,
        column,
      ) refl

module _ (r : Rendition) (p : Bool) where
  pub cells_on-paired : (cell : Cell) (cs : List ℕ) → is_right cell.shape ≡ false → IsPaired (cells_on r p cell cs)
  cells_on-paired cell [] first = whole_paired cell first
  cells_on-paired cell (c ∷ cs) first =
      elim (cases_Bool (is_mark c)) [
        | inl joins ↦ rw joins (cells_on-paired (marked cell c) cs first)
        | inr other ↦
            rw other (whole_pairs cell first (cells_on r p (base_cell c r p) cs)
            (cells_on-paired (base_cell c r p) cs (base_first c r p)))
      ]

  -- they begin with those of the first character
  pub cells_on-more : (cell : Cell) (cs : List ℕ) → length (whole cell) ≤ length (cells_on r p cell cs)
  cells_on-more cell [] = omega arith
  cells_on-more cell (c ∷ cs) =
      elim (cases_Bool (is_mark c)) [
        | inl joins ↦ rw joins (cells_on-more (marked cell c) cs)
        | inr other ↦
            rw other (omega (arith, length-append (whole cell) (cells_on r p (base_cell c r p) cs)))
      ]

abbrev cells_in : Screen → Cell → List ℕ → List Cell
cells_in x cell cs = cells_on x.state.rendition x.state.is_protecting cell cs

-- characters and marks behind a character that was put last
run_on : (cs : List ℕ) (x : Screen) (cell : Cell) → IsReady x → is_right cell.shape ≡ false
    → list_all is_base_or_mark cs ≡ true → x.state.column + length (cells_in x cell cs) ≤ x.state.columns
    → Makes (cells_placed (whole cell) x) (prints cs) (cells_placed (cells_in x cell cs) x)
run_on [] x cell ready first h room = record { screen = refl; places = λ places. refl }
run_on (c ∷ cs) x cell ready first h room =
    let s : State = x.state in
    let y : Screen = cells_placed (whole cell) x in
    let new : Cell = base_of x c in
    let later : List Cell = cells_in x new cs in
    let k = and_parts (is_base_or_mark c) (list_all is_base_or_mark cs) h in
    elim (cases_Bool (is_mark c)) [
      | inl joins ↦
          let room' : s.column + length (cells_in x (marked cell c) cs) ≤ s.columns = rw joins at room in
          let enough = cells_on-more s.rendition s.is_protecting (marked cell c) cs in
          rw joins
          (makes_more y (cells_placed (whole (marked cell c)) x) _ (Print (Code c)) (prints cs)
          (mark_makes x cell ready first c joins (omega arith)) (run_on cs x (marked cell c) ready first k.1 room'))
      | inr other ↦
          let all : length (whole cell ++ later) ≡ length (whole cell) + length later = length-append (whole cell) later
          in
          let given : s.column + length (whole cell ++ later) ≤ s.columns = rw other at room in
          let room' : s.column + (length (whole cell) + length later) ≤ s.columns = omega (arith, all, given) in
          let enough : length (whole new) ≤ length later = cells_on-more s.rendition s.is_protecting new cs in
          let within : y.state.column + length later ≤ y.state.columns = room_behind x cell ready first (length later)
          (omega arith) room' in
          let is_first : is_right new.shape ≡ false = base_first c s.rendition s.is_protecting in
          let behind : IsReady y = ready_behind x cell ready first in
          rw other
          (subst (λ (v : Screen). Makes y (Print (Code c) ∷ prints cs) v)
          (cells_first x cell ready first later (cells_on-paired s.rendition s.is_protecting new cs is_first)
          (omega arith) room')
          (makes_more y (cells_placed (whole new) y) _ (Print (Code c)) (prints cs)
          (base_makes y c behind.takes (settled_behind x cell ready first (omega arith))
          (left_of (is_base c) (is_mark c) k.0 other) (omega arith)) (run_on cs y new behind is_first k.1 within)))
    ]

-- text that fits in the line
pub text_makes : (cs : List ℕ) (x : Screen) → TakesRuns x.state → x.state.is_wrap_pending ≡ false → IsSound x
    → is_based cs ≡ true → 0 < length (text_cells cs x.state.rendition x.state.is_protecting)
    → x.state.column + length (text_cells cs x.state.rendition x.state.is_protecting) ≤ x.state.columns
    → Makes x (prints cs) (cells_placed (text_cells cs x.state.rendition x.state.is_protecting) x)
text_makes [] x t settled sound h some room = absurd (omega arith)
text_makes (c ∷ cs) x t settled sound h some room =
    let s : State = x.state in
    let k = and_parts (is_base c) (list_all is_base_or_mark cs) h in
    let enough = cells_on-more s.rendition s.is_protecting (base_of x c) cs in
    makes_more x (cells_placed (whole (base_of x c)) x) _ (Print (Code c)) (prints cs)
    (base_makes x c t settled k.0 (omega arith))
    (run_on cs x (base_of x c) (record { takes = t; sized = sound.sized; line = sound.cursor.0 })
    (base_first c s.rendition s.is_protecting) k.1 room)

-- text without cells has no characters, and other text has a last one
pub text_none : (cs : List ℕ) (r : Rendition) (p : Bool) → length (text_cells cs r p) ≡ 0 → cs ≡ []
text_none [] r p none = refl
text_none (c ∷ cs) r p none =
    absurd (omega (arith, none, cells_on-more r p (base_cell c r p) cs))

pub text_last : (cs : List ℕ) (r : Rendition) (p : Bool) → 0 < length (text_cells cs r p)
    → last_columns (text_cells cs r p) ≤ length (text_cells cs r p)
text_last [] r p some = absurd (omega arith)
text_last (c ∷ cs) r p some = last_fits _ (cells_on-paired r p (base_cell c r p) cs (base_first c r p)) some
