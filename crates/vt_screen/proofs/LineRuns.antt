-- A run of characters at the start of a line that scrolls in.
use Rattle.vt_screen.proofs.Vocabulary.{◌≡◌, ℕ, zero, suc, ◌+◌, ◌-◌, ◌<◌, ◌≤◌, ◌==◌, Bool, true, false, cond, List, []}
use Rattle.vt_screen.proofs.Vocabulary.{◌∷◌, length, length-take, min, take, refl, ap, ◌∙◌, subst, arith, eq-eqb}
use Rattle.vt_screen.proofs.Vocabulary.{list_all, prefix_len, and_parts, nat_tests, is_plain, Cell, Rendition, cell_at}
use Rattle.vt_screen.proofs.Vocabulary.{is_right, narrow_cell, narrow_cells, plain, spliced, line_at, page_from}
use Rattle.vt_screen.proofs.Vocabulary.{page_spliced, cells_on, is_base_or_mark, is_based, is_known_wide, is_letter}
use Rattle.vt_screen.proofs.Vocabulary.{is_mark, last_columns, text_cells, IsPage-page_from, CarriageReturn, LineFeed}
use Rattle.vt_screen.proofs.Vocabulary.{NextLine, State, Screen, IsSound, line_edited, with_newest, with_state, indexed}
use Rattle.vt_screen.proofs.Vocabulary.{moved_to, advanced, wrapped, acted, acted_from, all_acted, IsSound-acted}
use Rattle.vt_screen.proofs.Vocabulary.{all_acted_places, indexed_places, ScrollsPlain, TakesRuns, prints}
use Rattle.std.proofs.lemmas.List.Sums.{prefix_len-le-length}
use Rattle.cells.specs.Moves.{scrolled_up}
use Rattle.cells.proofs.Putting.{length-narrow_cells}
use Rattle.vt_screen.proofs.Overs.{page_over}
use Rattle.vt_screen.proofs.TextRuns.{Makes, cells_placed, text_makes}

-- the characters 20 to 7E with which the first of some bytes begin
pub front_plain : (room : ℕ) (bytes : List ℕ)
    → list_all is_plain (take (prefix_len is_plain (take room bytes)) bytes) ≡ true
front_plain zero bytes = refl
front_plain (suc room) [] = refl
front_plain (suc room) (b ∷ bytes) = by (is_plain b) refl (front_plain room bytes)
  where
    by : (v : Bool) → is_plain b ≡ v → list_all is_plain (take (prefix_len is_plain (take room bytes)) bytes) ≡ true
        → list_all is_plain (take (cond v (1 + prefix_len is_plain (take room bytes)) 0) (b ∷ bytes)) ≡ true
    by true e later =
        let next : 1 + prefix_len is_plain (take room bytes) ≡ suc (prefix_len is_plain (take room bytes)) = omega arith
        in
        rw next (rw e later)
    by false e later = refl

pub front_few : (room : ℕ) (bytes : List ℕ) → prefix_len is_plain (take room bytes) ≤ min room (length bytes)
front_few room bytes = omega (arith, prefix_len-le-length is_plain (take room bytes), length-take room bytes)

-- characters 20 to 7E are text, and have a cell each
pub plain_letter : (c : ℕ) → is_plain c ≡ true → is_letter c ≡ true
plain_letter c h = rw h refl

plain_narrow : (c : ℕ) → is_plain c ≡ true → is_known_wide c ≡ false
plain_narrow c h = grind (arith, nat_tests)

plain_alone : (c : ℕ) → is_plain c ≡ true → is_mark c ≡ false
plain_alone c h = grind (arith, nat_tests)

plain_bases : (cs : List ℕ) → list_all is_plain cs ≡ true → list_all is_base_or_mark cs ≡ true
plain_bases [] h = refl
plain_bases (c ∷ cs) h = let k = and_parts (is_plain c) (list_all is_plain cs) h in rw k.0 (plain_bases cs k.1)

plain_based : (cs : List ℕ) → list_all is_plain cs ≡ true → is_based cs ≡ true
plain_based [] h = refl
plain_based (c ∷ cs) h = let k = and_parts (is_plain c) (list_all is_plain cs) h in rw k.0 (plain_bases cs k.1)

module _ (r : Rendition) (p : Bool) where
  plain_on : (c : ℕ) (cs : List ℕ) → list_all is_plain cs ≡ true
      → cells_on r p (narrow_cell c r p) cs ≡ narrow_cells (c ∷ cs) r p
  plain_on c [] h = refl
  plain_on c (d ∷ cs) h =
      let k = and_parts (is_plain d) (list_all is_plain cs) h in
      rw (plain_alone d k.0, plain_narrow d k.0)
      (ap (λ (later : List Cell). narrow_cell c r p ∷ later) (plain_on d cs k.1))

  plain_cells : (cs : List ℕ) → list_all is_plain cs ≡ true → text_cells cs r p ≡ narrow_cells cs r p
  plain_cells [] h = refl
  plain_cells (c ∷ cs) h =
      let k = and_parts (is_plain c) (list_all is_plain cs) h in rw (plain_narrow c k.0) (plain_on c cs k.1)

  narrow_at : (cs : List ℕ) (k : ℕ) → is_right (cell_at (narrow_cells cs r p) k).shape ≡ false
  narrow_at [] k = refl
  narrow_at (c ∷ cs) zero = refl
  narrow_at (c ∷ cs) (suc k) = narrow_at cs k

sound_wrapped : (x : Screen) → IsSound x → IsSound (wrapped true x)
unfolding acted_from
sound_wrapped x sound = IsSound-acted x NextLine sound

-- CR and LF do what a wrap does
line_begun : (x : Screen) → acted (acted x CarriageReturn) LineFeed ≡ wrapped true x
unfolding acted_from
line_begun x = go x.state.modes.starts_lines
  where
    go : (b : Bool) → indexed (with_state x (moved_to x.state x.state.line (cond b 0 0))) ≡ wrapped true x
    go true = refl
    go false = refl

module _ (x : Screen) (bytes : List ℕ) (count : ℕ) (h : list_all is_plain (take count bytes) ≡ true)
    (few : count ≤ length bytes) (room : count ≤ x.state.columns) (t : TakesRuns x.state) (sound : IsSound x)
    (some : 0 < count) (scrolls : ScrollsPlain x.state) where
  abbrev cs : List ℕ
  cs = take count bytes

  counted : length cs ≡ count
  counted = omega (arith, few, length-take count bytes)

  abbrev w : Screen
  w = wrapped true x

  abbrev fresh : List Cell
  fresh = narrow_cells cs w.state.rendition w.state.is_protecting

  n : length fresh ≡ length cs
  n = length-narrow_cells cs w.state.rendition w.state.is_protecting

  made : Makes w (prints cs) (cells_placed fresh w)
  made =
      let takes : TakesRuns w.state = record {
        prints = record { ascii = t.prints.ascii; unshifted = t.prints.unshifted };
        replaces = t.replaces;
      } in
      let cells : text_cells cs w.state.rendition w.state.is_protecting ≡ fresh = plain_cells w.state.rendition
      w.state.is_protecting cs h in
      subst (λ (v : List Cell). Makes w (prints cs) (cells_placed v w)) cells
      (text_makes cs w takes refl (sound_wrapped x sound) (plain_based cs h)
      (rw (cells, n) (omega (arith, counted, some))) (rw (cells, n) (omega (arith, counted, room))))

  is_last : (x.state.line == x.state.bottom) ≡ true
  is_last = eq-eqb x.state.line x.state.bottom scrolls.last

  width : length (line_at (page_from (scrolled_up 0 x.state.bottom 1) x.page) x.state.bottom) ≡ x.state.columns
  width = (IsPage-page_from (scrolled_up 0 x.state.bottom 1) x.state.rows x.state.columns x.page sound.sized).width
      x.state.bottom sound.bottom_inside

  -- the first line of the page goes, and the characters stand in the new one at the bottom
  pub scrolled_run : all_acted x (CarriageReturn ∷ LineFeed ∷ prints cs) ≡ record x {
    state = advanced (record x.state { column = count - 1 }) 1;
    page = page_spliced x.state.bottom 0 (narrow_cells cs plain false) (length cs)
        (page_from (scrolled_up 0 x.state.bottom 1) x.page);
    kept = with_newest x.keep (line_at x.page 0) x.kept;
  }
  scrolled_run =
      let s : State = x.state in
      let is_first : (s.top == 0) ≡ true = eq-eqb s.top 0 scrolls.first in
      let none : 0 + (length cs - 1) ≡ count - 1 = omega (arith, counted) in
      let all : 0 + length cs ≡ length cs = omega arith in
      let last : last_columns fresh ≡ 1 = rw
      (narrow_at w.state.rendition w.state.is_protecting cs (length fresh - 1)) refl in
      ap (λ (v : Screen). all_acted v (prints cs)) (line_begun x)
      ∙ made.screen
      ∙ ap (λ (k : ℕ). record w {
        state = advanced (record w.state { column = w.state.column + (length fresh - k) }) k;
        page = page_over w.state.columns w.state.line w.state.column fresh w.page;
      }) last
      ∙ ap (λ (k : ℕ). record w {
        state = advanced (record w.state { column = w.state.column + (k - 1) }) 1;
        page = line_edited w.state (spliced w.state.column fresh (w.state.column + k) w.state.columns) w.page;
      }) n
      ∙ rw (
        is_last,
        is_first,
        none,
        all,
        width,
        scrolls.plain,
        scrolls.unprotected,
        scrolls.first,
        scrolls.last,
      ) refl

  pub scrolled_places : (places : List ℕ)
      → all_acted_places x (CarriageReturn ∷ LineFeed ∷ prints cs) places ≡ indexed_places x.state places
  unfolding acted_from
  scrolled_places places =
      ap (λ (v : Screen). all_acted_places v (prints cs) (indexed_places x.state places)) (line_begun x)
      ∙ made.places (indexed_places x.state places)
