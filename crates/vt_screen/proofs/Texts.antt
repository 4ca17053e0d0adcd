-- The characters of bytes of UTF-8, printed one after another.
use Rattle.vt_screen.proofs.Vocabulary.{◌≡◌, ℕ, Bool, ◌+◌, ◌-◌, ◌<◌, ◌≤◌, true, false, List, [], ◌∷◌, ◌++◌, length}
use Rattle.vt_screen.proofs.Vocabulary.{take, set, refl, sym, ap, ◌∙◌, arith, map-append, Code, Cell, Rendition}
use Rattle.vt_screen.proofs.Vocabulary.{PutsText, text_cells, spliced, line_at, IsPage, page_spliced, page_from-edited}
use Rattle.vt_screen.proofs.Vocabulary.{Action, Print, State, Screen, with_page, advanced, acted, all_acted, Display}
use Rattle.vt_screen.proofs.Vocabulary.{MovesLines, IsFit, screen_of, all_acted_places, TakesRuns, prints, PrintsText}
use Rattle.std.proofs.lemmas.List.{set-get_or}
use Rattle.charsets.specs.Text.{text, IsText}
use Rattle.charsets.specs.Units.{is_character}
use Rattle.charsets.specs.Utf8.{codes}
use Rattle.charsets.proofs.Texts.{text-append, text-none, IsText-append, IsText-none, IsText-one}
use Rattle.cells.specs.declared.texts.Put.{Put}
use Rattle.cells.proofs.PuttingWhole.{put_none}
use Rattle.vt_screen.specs.Acting.{KeepsLines}
use Rattle.vt_screen.specs.Places.{places_after}
use Rattle.vt_screen.proofs.Acted.{all_acted-append, all_acted_fit, all_acted_places-append}
use Rattle.vt_screen.proofs.TextRuns.{Makes, cells_placed, text_last, text_makes, text_none}
use Rattle.vt_screen.proofs.Widths.{line_width}

-- characters that are no more than these
printed_as : (d later : Display) (bytes characters : List ℕ) → IsText bytes → text bytes ≡ characters
    → screen_of later ≡ all_acted (screen_of d) (prints characters) → IsFit later
    → later.page.places ≡ all_acted_places (screen_of d) (prints characters) d.page.places → PrintsText d bytes later
printed_as d later bytes characters is e screen fit places = record {
  is_text = is;
  screen = screen ∙ ap (λ (cs : List ℕ). all_acted (screen_of d) (prints cs)) (sym e);
  fit = fit;
  places = places
      ∙ ap (λ (cs : List ℕ). all_acted_places (screen_of d) (prints cs) d.page.places) (sym e);
}

pub none_printed : (d : Display) → IsFit d → PrintsText d [] d
none_printed d fit = printed_as d d [] [] IsText-none text-none refl fit refl

-- no cell is put in the cursor's line, over no old one
page_kept : (rows columns line at : ℕ) (page : List (List Cell)) → IsPage rows columns page → line < rows
    → page_spliced line at [] (at + 0) page ≡ page
page_kept rows columns line at page is inside =
    page_from-edited line (spliced at [] (at + 0) (length (line_at page line))) rows columns page is inside
    ∙ ap (λ (cells : List Cell). set page line cells) (sym (put_none at [] (line_at page line) refl (is.paired line)))
    ∙ set-get_or page line []

pub one_printed : (d later : Display) (bytes : List ℕ) (c : ℕ) → codes bytes ≡ (c ∷ [], []) → is_character c ≡ true
    → screen_of later ≡ acted (screen_of d) (Print (Code c)) → IsFit later
    → MovesLines d (places_after (Print (Code c))) later → PrintsText d bytes later
one_printed d later bytes c reads is screen fit lines =
    printed_as d later bytes (c ∷ []) (IsText-one bytes c reads is) (ap (λ (p : List ℕ × List ℕ). p.0) reads) screen fit
    lines.places

-- some characters, and then others
pub more_printed : (a b c : Display) (front later : List ℕ) → PrintsText a front b → PrintsText b later c
    → PrintsText a (front ++ later) c
more_printed a b c front later first second =
    let x : Screen = screen_of a in
    let all : prints (text (front ++ later)) ≡ prints (text front) ++ prints (text later) =
    ap (λ (cs : List ℕ). prints cs) (text-append front later first.is_text)
    ∙ map-append (λ (character : ℕ). Print (Code character)) (text front) (text later) in
    record {
      is_text = IsText-append front later first.is_text second.is_text;
      screen =
          second.screen
          ∙ ap (λ (v : Screen). all_acted v (prints (text later))) first.screen
          ∙ sym (all_acted-append x (prints (text front)) (prints (text later)))
          ∙ ap (all_acted x) (sym all);
      fit = second.fit;
      places =
          second.places
          ∙ ap (λ (v : Screen). all_acted_places v (prints (text later)) b.page.places) first.screen
          ∙ ap (λ (ps : List ℕ). all_acted_places (all_acted x (prints (text front))) (prints (text later)) ps)
          first.places
          ∙ sym (all_acted_places-append x (prints (text front)) (prints (text later)) a.page.places)
          ∙ ap (λ (as' : List Action). all_acted_places x as' a.page.places) (sym all);
    }

-- what was put has a last character
pub put_last : (bytes : List ℕ) (r : Rendition) (p : Bool) (room : ℕ) (put : Put) → PutsText bytes r p room put
    → 0 < put.count → put.last ≤ put.count
put_last bytes r p room put puts some =
    let is : 0 < length (text_cells (text (take put.read bytes)) r p) = rw puts.count some in
    omega (arith, puts.count, puts.last, text_last (text (take put.read bytes)) r p is)

module _ (d later : Display) (bytes : List ℕ) (put : Put) (fit : IsFit d)
    (puts : PutsText bytes d.state.rendition d.state.is_protecting
    (length (line_at d.page.lines d.state.line) - d.state.column) put) (lines : KeepsLines d later) where
  abbrev s : State
  s = d.state

  abbrev front : List ℕ
  front = take put.read bytes

  abbrev characters : List ℕ
  characters = text front

  abbrev fresh : List Cell
  fresh = text_cells characters s.rendition s.is_protecting

  -- no text was put in the cursor's line
  pub none_put : put.count ≡ 0
      → screen_of later ≡ with_page (screen_of d) s
      (page_spliced s.line s.column fresh (s.column + put.count) d.page.lines) → PrintsText d front later
  none_put e placed =
      let none : characters ≡ [] = text_none characters s.rendition s.is_protecting (puts.count ∙ e) in
      let screen : screen_of later ≡ screen_of d = placed
      ∙ ap (λ (n : ℕ). with_page (screen_of d) s (page_spliced s.line s.column fresh (s.column + n) d.page.lines)) e
      ∙ ap (λ (cs : List ℕ). with_page (screen_of d) s
      (page_spliced s.line s.column (text_cells cs s.rendition s.is_protecting) (s.column + 0) d.page.lines)) none
      ∙ ap (λ (p : List (List Cell)). with_page (screen_of d) s p)
      (page_kept s.rows s.columns s.line s.column d.page.lines fit.sound.sized fit.sound.cursor.0) in
      printed_as d later front [] puts.is_text none screen (all_acted_fit d later [] fit screen lines.width)
      lines.places

  -- text was put there
  pub text_printed : TakesRuns s → s.is_wrap_pending ≡ false → 0 < put.count
      → screen_of later ≡ with_page (screen_of d)
      (advanced (record s { column = s.column + (put.count - put.last) }) put.last)
      (page_spliced s.line s.column fresh (s.column + put.count) d.page.lines) → PrintsText d front later
  text_printed takes settled given placed =
      let x : Screen = screen_of d in
      let n : length fresh ≡ put.count = puts.count in
      let room : s.column + length fresh ≤ s.columns = omega
      (arith, n, puts.inside, line_width d fit, fit.sound.cursor.1) in
      let made : Makes x (prints characters) (cells_placed fresh x) = text_makes characters x takes settled fit.sound
      puts.based (rw n given) room in
      let all : with_page x (advanced (record s { column = s.column + (put.count - put.last) }) put.last)
      (page_spliced s.line s.column fresh (s.column + put.count) d.page.lines) ≡ cells_placed fresh x =
      rw (line_width d fit, puts.last, n) refl in
      let screen : screen_of later ≡ all_acted x (prints characters) = placed ∙ all ∙ sym made.screen in
      printed_as d later front characters puts.is_text refl screen
      (all_acted_fit d later (prints characters) fit screen lines.width)
      (lines.places ∙ sym (made.places d.page.places))
