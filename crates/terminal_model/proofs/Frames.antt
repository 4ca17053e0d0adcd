-- The effects of the functions that frames are made of.
use Rattle.terminal_model.proofs.Vocabulary.{nat_tests, common_steps, ◌≡◌, ℕ, ◌+◌, ◌-◌, ◌<◌, ◌≤◌, min, max, Bool, true}
use Rattle.terminal_model.proofs.Vocabulary.{false, ◌&&◌, cond, eqb, List, [], ◌∷◌, ◌++◌, length, replicate, Option}
use Rattle.terminal_model.proofs.Vocabulary.{Some, None, refl, sym, ap, ◌∙◌, subst, arith, option_to_list}
use Rattle.terminal_model.proofs.Vocabulary.{length-replicate, ne_eqb, Code, is_graphic, Cell, blank, IsPaired}
use Rattle.terminal_model.proofs.Vocabulary.{narrow_cell, left_cell, right_cell, spliced, page_from, edited}
use Rattle.terminal_model.proofs.Vocabulary.{IsPaired-blanks, narrow_pairs, wide_pairs, Print, Esc, Csi, Action, Render}
use Rattle.terminal_model.proofs.Vocabulary.{SetMode, Attribute, report, Position, Screen, IsSound, with_state}
use Rattle.terminal_model.proofs.Vocabulary.{with_page, each, plain_sequence, private_sequence, rendered}
use Rattle.terminal_model.proofs.Vocabulary.{private_mode_set, unpending, unjoined, moved_to, columns_of, drawn}
use Rattle.terminal_model.proofs.Vocabulary.{acted_from, acted, all_acted, effect, place, IsPlain, mode_final}
use Rattle.terminal_model.proofs.Vocabulary.{keypad_final}
use Rattle.charsets.proofs.Shifted.{mapped-ascii, spent-none}
use Rattle.terminal_model.specs.declared.action.Mode.{Mode}
use Rattle.terminal_model.specs.Printing.{printed_as, placed, placed_narrow, placed_wide, wrapped, wide_printed}
use Rattle.terminal_model.specs.Printing.{wide_or_none, lacks_room, marked_at, advanced}
use Rattle.terminal_model.specs.Erasing.{line_erased}
use Rattle.cells.specs.Rendition.{rendition_with}
use Rattle.terminal_model.specs.Settings.{homed, modes_with}
use Rattle.terminal_model.specs.Places.{narrow_at, wide_at, PutsOver, PutsMark}
use Rattle.terminal_model.proofs.Places.{over-at, marked-at}

-- a graphic code stands for itself
prints : (x : Screen) (c : ℕ) → IsPlain x → is_graphic (Code c) ≡ true
    → effect x (Print c) ≡ printed_as (columns_of c) (drawn c) x
unfolding acted_from
prints x c h g = search (mapped-ascii, spent-none)

prints-narrow : (x : Screen) (c : ℕ) → IsPlain x → is_graphic (Code c) ≡ true → columns_of c ≡ 1
    → effect x (Print c) ≡ placed_narrow (drawn c) x
prints-narrow x c h g w = prints x c h g ∙ ap (λ n. printed_as n (drawn c) x) w
    ∙ ap (λ b. placed_narrow (drawn c) (wrapped b x)) h.none_pending

prints-wide : (x : Screen) (c : ℕ) → IsPlain x → is_graphic (Code c) ≡ true → columns_of c ≡ 2
    → x.state.column + 2 ≤ x.state.columns → effect x (Print c) ≡ placed_wide (drawn c) x
prints-wide x c h g w room =
    let has : eqb (x.state.column + 1) x.state.columns ≡ false = ne_eqb (x.state.column + 1) x.state.columns
    (omega arith) in
    prints x c h g ∙ ap (λ n. printed_as n (drawn c) x) w
    ∙ ap (λ b. wide_printed (drawn c) (wrapped b x)) h.none_pending
    ∙ ap (λ b. let v = wrapped (b && x.state.modes.wraps) x in wide_or_none (lacks_room v.state) (drawn c) v) has
    ∙ ap (λ b. wide_or_none b (drawn c) x) has

prints-mark : (x : Screen) (c : ℕ) → IsPlain x → is_graphic (Code c) ≡ true → columns_of c ≡ 0
    → effect x (Print c) ≡ marked_at x.state.joining (drawn c) x
prints-mark x c h g w = prints x c h g ∙ ap (λ n. printed_as n (drawn c) x) w

-- new cells at the cursor, if IRM is reset
placed-over : (fresh : List Cell) (x : Screen) → IsSound x → x.state.modes.inserts ≡ false → IsPaired fresh
    → 0 < length fresh → x.state.column + length fresh ≤ x.state.columns
    → PutsOver x fresh (advanced x.state (length fresh)) (placed fresh x)
placed-over fresh x h i pairs some room = record {
  page = λ line column. over-at x.state.rows x.state.columns x.state.line x.state.column
      (cond x.state.modes.inserts x.state.column (x.state.column + length fresh)) fresh x.page
      h.sized h.cursor.0 pairs some room (rw i refl) line column;
  rest = refl;
}

pub narrow-over : (x : Screen) (c : ℕ) → IsPlain x → is_graphic (Code c) ≡ true → columns_of c ≡ 1
    → PutsOver x (narrow_at x (drawn c)) (advanced x.state 1) (effect x (Print c))
narrow-over x c h g w =
    let put : PutsOver x (narrow_at x (drawn c)) (advanced x.state 1) (placed_narrow (drawn c) x) =
    placed-over (narrow_at x (drawn c)) x h.sound h.none_moved
    (narrow_pairs (narrow_cell (drawn c) x.state.rendition x.state.is_protecting) refl) (omega arith)
    (omega (arith, h.sound.cursor.1)) in
    subst (PutsOver x (narrow_at x (drawn c)) (advanced x.state 1)) (sym (prints-narrow x c h g w)) put

pub wide-over : (x : Screen) (c : ℕ) → IsPlain x → is_graphic (Code c) ≡ true → columns_of c ≡ 2
    → x.state.column + 2 ≤ x.state.columns → PutsOver x (wide_at x (drawn c)) (advanced x.state 2) (effect x (Print c))
wide-over x c h g w room =
    let put : PutsOver x (wide_at x (drawn c)) (advanced x.state 2) (placed_wide (drawn c) x) =
    placed-over (wide_at x (drawn c)) x h.sound h.none_moved
    (wide_pairs (left_cell (drawn c) x.state.rendition x.state.is_protecting)
    (right_cell (drawn c) x.state.rendition x.state.is_protecting) refl refl) (omega arith) room in
    subst (PutsOver x (wide_at x (drawn c)) (advanced x.state 2)) (sym (prints-wide x c h g w room)) put

pub mark-joins : (x : Screen) (c : ℕ) (p : Position) → IsPlain x → is_graphic (Code c) ≡ true → columns_of c ≡ 0
    → x.state.joining ≡ Some p → p.line < x.state.rows → p.column < x.state.columns
    → PutsMark x p (drawn c) (effect x (Print c))
mark-joins x c p h g w j l k =
    let put : PutsMark x p (drawn c) (marked_at (Some p) (drawn c) x) = record {
      page = λ line column. marked-at x.state.rows x.state.columns p.line p.column (drawn c) x.page h.sound.sized l k
          line column;
      rest = refl;
    } in
    subst (PutsMark x p (drawn c)) (sym (prints-mark x c h g w ∙ ap (λ q. marked_at q (drawn c) x) j)) put

-- blanks at the cursor
erased-over : (x : Screen) (count : ℕ) → IsSound x → 0 < count → x.state.column + count ≤ x.state.columns
    → PutsOver x (replicate count blank) (unpending x.state)
    (with_page x (unpending x.state) (line_erased x.state x.state.column (x.state.column + count) x.page))
erased-over x count h some room =
    let n : length (replicate count blank) ≡ count = length-replicate count blank in
    let same : x.state.column + count - x.state.column ≡ count = omega arith in
    record {
      page = λ line column.
          ap (λ k. place
          (page_from
          (edited x.state.line
          (spliced x.state.column (replicate k blank) (x.state.column + count) x.state.columns)) x.page) line
          column) same
          ∙ over-at x.state.rows x.state.columns x.state.line x.state.column (x.state.column + count)
          (replicate count blank) x.page
          h.sized h.cursor.0 (IsPaired-blanks count) (rw n some) (rw n room) (rw n refl) line column;
      rest = refl;
    }

-- ECH
pub cells-erased : (x : Screen) (n : ℕ) → IsSound x → 0 < n → x.state.column + n ≤ x.state.columns
    → PutsOver x (replicate n blank) (unpending x.state) (effect x (Csi None (n ∷ []) [] 0x58))
unfolding acted_from plain_sequence
cells-erased x n h some room =
    let count : max 1 n ≡ n = omega arith in
    let end : min (x.state.column + max 1 n) x.state.columns ≡ x.state.column + n = omega arith in
    subst
    (λ (e : ℕ). PutsOver x (replicate n blank) (unpending x.state)
    (with_page x (unpending x.state) (line_erased x.state x.state.column e x.page))) (sym end)
    (erased-over x n h some room)

-- EL
pub line-erased : (x : Screen) → IsSound x
    → PutsOver x (replicate (x.state.columns - x.state.column) blank) (unpending x.state)
    (effect x (Csi None (0 ∷ []) [] 0x4B))
unfolding acted_from plain_sequence
line-erased x h =
    let end : x.state.column + (x.state.columns - x.state.column) ≡ x.state.columns = omega (arith, h.cursor.1) in
    subst
    (λ (e : ℕ). PutsOver x (replicate (x.state.columns - x.state.column) blank) (unpending x.state)
    (with_page x (unpending x.state) (line_erased x.state x.state.column e x.page))) end
    (erased-over x (x.state.columns - x.state.column) h (omega (arith, h.cursor.1)) (omega (arith, h.cursor.1)))

-- CUP to a place of the page, if ?6 is reset
pub cursor-moved : (x : Screen) (line column : ℕ) → x.state.modes.counts_from_margin ≡ false → line < x.state.rows
    → column < x.state.columns
    → effect x (Csi None ((line + 1) ∷ (column + 1) ∷ []) [] 0x48) ≡ with_state x (moved_to x.state line column)
unfolding acted_from plain_sequence
cursor-moved x line column m l c = grind (arith, nat_tests)

-- values in turn
pub all_acted-append : (x : Screen) (a b : List Action) → all_acted x (a ++ b) ≡ all_acted (all_acted x a) b
all_acted-append x [] b = refl
all_acted-append x (f ∷ a) b = all_acted-append (acted x f) a b

pub each-append : (meaning : ℕ → Option Action) (a b : List ℕ)
    → each meaning (a ++ b) ≡ each meaning a ++ each meaning b
each-append meaning a b = grind (arith, common_steps)

pub rendered-in-turn : (x : Screen) (a b : List ℕ)
    → effect x (Csi None (a ++ b) [] 0x6D) ≡ effect (effect x (Csi None a [] 0x6D)) (Csi None b [] 0x6D)
unfolding plain_sequence
rendered-in-turn x a b = grind (arith, each-append, all_acted-append)

-- one value of SGR, of DECSM or DECRM, and the keypad
pub rendered-one : (x : Screen) (n : ℕ) (a : Attribute) → rendered n ≡ Some (Render a)
    → effect x (Csi None (n ∷ []) [] 0x6D) ≡ with_state x
    (unjoined (record x.state { rendition = rendition_with x.state.rendition a }))
unfolding acted_from plain_sequence
rendered-one x n a h = ap (λ m. all_acted x (option_to_list m ++ [])) h

pub mode-set : (x : Screen) (on : Bool) (n : ℕ) (m : Mode) → private_mode_set on n ≡ Some (SetMode m on)
    → effect x (Csi (Some 0x3F) (n ∷ []) [] (mode_final on)) ≡ with_state x
    (homed m (record x.state { modes = modes_with x.state.modes m on }))
unfolding acted_from private_sequence
mode-set x on n m h = grind (arith, nat_tests)

pub keypad-set : (x : Screen) (on : Bool)
    → effect x (Esc [] (keypad_final on)) ≡ with_state x
    (unpending (record x.state { modes = record x.state.modes { has_application_keypad = on } }))
unfolding acted_from
keypad-set x on = grind (arith, nat_tests)

-- none of these functions is answered
pub printed-quiet : (x : Screen) (c : ℕ) → report x (Print c) ≡ []
printed-quiet x c = refl

pub moved-quiet : (x : Screen) (params : List ℕ) → report x (Csi None params [] 0x48) ≡ []
unfolding plain_sequence
moved-quiet x params = refl

pub cells-quiet : (x : Screen) (params : List ℕ) → report x (Csi None params [] 0x58) ≡ []
unfolding plain_sequence
cells-quiet x params = refl

pub line-quiet : (x : Screen) → report x (Csi None (0 ∷ []) [] 0x4B) ≡ []
unfolding plain_sequence
line-quiet x = refl

pub mode-quiet : (x : Screen) (on : Bool) (n : ℕ) (m : Mode) → private_mode_set on n ≡ Some (SetMode m on)
    → report x (Csi (Some 0x3F) (n ∷ []) [] (mode_final on)) ≡ []
unfolding private_sequence
mode-quiet x on n m h = grind (arith, nat_tests)

pub keypad-quiet : (x : Screen) (on : Bool) → report x (Esc [] (keypad_final on)) ≡ []
keypad-quiet x on = grind (arith, nat_tests)
