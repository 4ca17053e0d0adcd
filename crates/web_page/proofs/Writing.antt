-- Runs that are written one cell after another.
use Rattle.std.proofs.Common.{◌≡◌, ℕ, suc, ◌+◌, ◌<◌, true, false, cond, ◌&&◌, ◌==◌, nat_lt, List, [], ◌∷◌, ◌++◌, ◌≤◌}
use Rattle.std.proofs.Common.{arith, length, drop, get_or, Option, Some, None, refl, sym, ap, ◌∙◌, append_assoc, subst}
use Rattle.std.proofs.lemmas.List.{append-nil, drop_more, drop_all, at_drop_more, at_drop_all, length_push}
use Rattle.std.proofs.lemmas.Bool.{and_parts, and_from, eqb-true, eq-eqb, lt-ltb, le-ltb}
use Rattle.std.specs.List.{flat_map}
use Rattle.cells.specs.declared.cell.Cell.{Cell}
use Rattle.cells.specs.Line.{is_right}
use Rattle.web_page.specs.Json.{spelled_character, spelled_text}
use Rattle.web_page.specs.Styles.{style_value}
use Rattle.web_page.specs.Updates.{spelled_row}
use Rattle.web_page.specs.Showing.{Kept, newer}
use Rattle.web_page.specs.Runs.{Run, letters, run_of, are_one, with_cell, after_cell, runs, run_head}
use Rattle.web_page.specs.Runs.{spelled_runs, rest_of}

pub text-append : (a b : List ℕ) → spelled_text (a ++ b) ≡ spelled_text a ++ spelled_text b
text-append [] b = refl
text-append (c ∷ a) b =
    ap (λ l. spelled_character c ++ l) (text-append a b)
    ∙ sym (append_assoc (spelled_character c) (spelled_text a) (spelled_text b))

glue : (h t r s : List ℕ) (q : ℕ) → (h ++ ((t ++ r) ++ q ∷ [])) ++ s ≡ h ++ (t ++ (r ++ q ∷ s))
glue h t r s q = simp append_assoc

glue_closed : (h t s : List ℕ) (q : ℕ) → (h ++ (t ++ q ∷ [])) ++ s ≡ h ++ (t ++ q ∷ s)
glue_closed h t s q = simp append_assoc

pieces : (a b c d e : List ℕ) → (((a ++ b) ++ c) ++ d) ++ e ≡ a ++ (b ++ (c ++ (d ++ e)))
pieces a b c d e = simp append_assoc

-- runs with a cell in front: the head of a run, the cell's letters, and what follows that open run
pub opened : (c : Cell) (rs : List Run) → spelled_runs (with_cell c rs)
    ≡ run_head (style_value c) ++ (spelled_text (letters c) ++ rest_of (Some (style_value c)) rs)
unfolding with_cell rest_of
opened c [] = append-nil (run_head (style_value c) ++ (spelled_text (letters c) ++ 0x22 ∷ []))
opened c (r ∷ rs) =
    (elim (are_one (style_value c) r.style) as (λ b. are_one (style_value c) r.style ≡ b
    → spelled_runs (cond b (record { style = r.style; text = letters c ++ r.text } ∷ rs) (run_of c ∷ r ∷ rs))
    ≡ run_head (style_value c) ++ (spelled_text (letters c)
    ++ cond b (spelled_text r.text ++ 0x22 ∷ spelled_runs rs) (0x22 ∷ spelled_runs (r ∷ rs)))) [
      | true ↦ λ e.
          let same : style_value c ≡ r.style = eqb-true (style_value c) r.style (and_parts (style_value c == r.style)
          (nat_lt r.style 4096) e).0 in
          ap (λ t. (run_head r.style ++ (t ++ 0x22 ∷ [])) ++ spelled_runs rs) (text-append (letters c) r.text)
          ∙ (glue (run_head r.style) (spelled_text (letters c)) (spelled_text r.text) (spelled_runs rs) 0x22
          ∙ ap (λ s. run_head s ++ (spelled_text (letters c) ++ (spelled_text r.text ++ 0x22 ∷ spelled_runs rs)))
          (sym same))
      | false ↦ λ e. glue_closed (run_head (style_value c)) (spelled_text (letters c)) (spelled_runs (r ∷ rs)) 0x22
    ]) refl

one : (s : ℕ) → nat_lt s 4096 ≡ true → are_one s s ≡ true
one s lt = and_from (s == s) (nat_lt s 4096) (eq-eqb s s refl) lt

-- a run of the cell's style that isn't closed goes on with the cell
goes_on : (c : Cell) (rs : List Run) → nat_lt (style_value c) 4096 ≡ true
    → rest_of (Some (style_value c)) (with_cell c rs)
    ≡ spelled_text (letters c) ++ rest_of (Some (style_value c)) rs
unfolding with_cell rest_of
goes_on c [] lt =
    ap (λ b. cond b (spelled_text (letters c) ++ 0x22 ∷ []) (0x22 ∷ spelled_runs (run_of c ∷ [])))
    (one (style_value c) lt)
goes_on c (r ∷ rs) lt =
    let joined : Run = record { style = r.style; text = letters c ++ r.text } in
    (elim (are_one (style_value c) r.style) as (λ b. are_one (style_value c) r.style ≡ b
    → rest_of (Some (style_value c)) (cond b (joined ∷ rs) (run_of c ∷ r ∷ rs))
    ≡ spelled_text (letters c)
    ++ cond b (spelled_text r.text ++ 0x22 ∷ spelled_runs rs) (0x22 ∷ spelled_runs (r ∷ rs))) [
      | true ↦ λ e.
          ap (λ b. cond b (spelled_text (letters c ++ r.text) ++ 0x22 ∷ spelled_runs rs)
          (0x22 ∷ spelled_runs (joined ∷ rs))) e
          ∙ (ap (λ t. t ++ 0x22 ∷ spelled_runs rs) (text-append (letters c) r.text)
          ∙ append_assoc (spelled_text (letters c)) (spelled_text r.text) (0x22 ∷ spelled_runs rs))
      | false ↦ λ e.
          ap (λ b. cond b (spelled_text (letters c) ++ 0x22 ∷ spelled_runs (r ∷ rs))
          (0x22 ∷ spelled_runs (run_of c ∷ r ∷ rs))) (one (style_value c) lt)
    ]) refl

-- a run of another style is closed before the cell
closes : (style : ℕ) (c : Cell) (rs : List Run) → are_one style (style_value c) ≡ false
    → rest_of (Some style) (with_cell c rs) ≡ 0x22 ∷ spelled_runs (with_cell c rs)
unfolding with_cell rest_of
closes style c [] e =
    ap (λ b. cond b (spelled_text (letters c) ++ 0x22 ∷ []) (0x22 ∷ spelled_runs (run_of c ∷ []))) e
closes style c (r ∷ rs) e =
    let joined : Run = record { style = r.style; text = letters c ++ r.text } in
    (elim (are_one (style_value c) r.style) as (λ b. are_one (style_value c) r.style ≡ b
    → rest_of (Some style) (cond b (joined ∷ rs) (run_of c ∷ r ∷ rs))
    ≡ 0x22 ∷ spelled_runs (cond b (joined ∷ rs) (run_of c ∷ r ∷ rs))) [
      | true ↦ λ f.
          let same : style_value c ≡ r.style = eqb-true (style_value c) r.style (and_parts (style_value c == r.style)
          (nat_lt r.style 4096) f).0 in
          ap (λ b. cond b (spelled_text (letters c ++ r.text) ++ 0x22 ∷ spelled_runs rs)
          (0x22 ∷ spelled_runs (joined ∷ rs))) (ap (are_one style) (sym same) ∙ e)
      | false ↦ λ f.
          ap (λ b. cond b (spelled_text (letters c) ++ 0x22 ∷ spelled_runs (r ∷ rs))
          (0x22 ∷ spelled_runs (run_of c ∷ r ∷ rs))) e
    ]) refl

closed : (last : Option ℕ) (c : Cell) (rs : List Run)
    → (last ≡ Some (style_value c) → nat_lt (style_value c) 4096 ≡ false)
    → rest_of last (with_cell c rs) ≡ rest_of last [] ++ spelled_runs (with_cell c rs)
unfolding rest_of
closed None c rs h = refl
closed (Some style) c rs h =
    closes style c rs (elim (style == style_value c) as (λ b. (style == style_value c) ≡ b
    → (b && nat_lt (style_value c) 4096) ≡ false) [
      | true ↦ λ e. h (ap Some (eqb-true style (style_value c) e))
      | false ↦ λ e. refl
    ] refl)

-- ---- the cells of a row, one after another

-- a cell that goes on with the open run
pub same_run : (before after : List ℕ) (last : Option ℕ) (c : Cell) (rs : List Run)
    → is_right c.shape ≡ false → last ≡ Some (style_value c) → style_value c < 4096
    → after ≡ before ++ spelled_text (letters c)
    → after ++ rest_of last rs ≡ before ++ rest_of last (after_cell c rs)
same_run before after last c rs r e lt a =
    rw (r, e, a, goes_on c rs (lt-ltb (style_value c) 4096 lt)) (append_assoc before (spelled_text (letters c))
    (rest_of (Some (style_value c)) rs))

-- a cell that begins a run
pub new_run : (o p q after : List ℕ) (last : Option ℕ) (c : Cell) (rs : List Run)
    → is_right c.shape ≡ false → (last ≡ Some (style_value c) → nat_lt (style_value c) 4096 ≡ false)
    → p ≡ o ++ rest_of last [] → q ≡ p ++ run_head (style_value c)
    → after ≡ q ++ spelled_text (letters c)
    → after ++ rest_of (Some (style_value c)) rs ≡ o ++ rest_of last (after_cell c rs)
new_run o p q after last c rs r h ep eq ea =
    let whole : o ++ rest_of last (after_cell c rs) ≡ o ++ (rest_of last [] ++ (run_head (style_value c)
    ++ (spelled_text (letters c) ++ rest_of (Some (style_value c)) rs))) =
    ap (λ b. o ++ rest_of last (cond b rs (with_cell c rs))) r
    ∙ ap (λ l. o ++ l) (closed last c rs h ∙ ap (λ l. rest_of last [] ++ l) (opened c rs)) in
    ap (λ l. l ++ rest_of (Some (style_value c)) rs) (ea ∙ ap (λ l. l ++ spelled_text (letters c)) (eq
    ∙ ap (λ l. l ++ run_head (style_value c)) ep))
    ∙ (pieces o (rest_of last []) (run_head (style_value c)) (spelled_text (letters c))
    (rest_of (Some (style_value c)) rs) ∙ sym whole)

-- the same, where the style is known by another name
pub same_run_at : (s : ℕ) (before after : List ℕ) (last : Option ℕ) (c : Cell) (rs : List Run)
    → s ≡ style_value c → is_right c.shape ≡ false → last ≡ Some s → s < 4096
    → after ≡ before ++ spelled_text (letters c)
    → after ++ rest_of last rs ≡ before ++ rest_of last (after_cell c rs)
same_run_at s before after last c rs es r e lt a =
    same_run before after last c rs r (e ∙ ap Some es) (subst (λ n. n < 4096) es lt) a

pub new_run_at : (s : ℕ) (o p q after : List ℕ) (last : Option ℕ) (c : Cell) (rs : List Run)
    → s ≡ style_value c → is_right c.shape ≡ false → (last ≡ Some s → 4096 ≤ s)
    → p ≡ o ++ rest_of last [] → q ≡ p ++ run_head s
    → after ≡ q ++ spelled_text (letters c)
    → after ++ rest_of (Some s) rs ≡ o ++ rest_of last (after_cell c rs)
new_run_at s o p q after last c rs es r h ep eq ea =
    ap (λ n. after ++ rest_of (Some n) rs) es
    ∙ new_run o p q after last c rs r
    (λ e. le-ltb (style_value c) 4096 (subst (λ n. 4096 ≤ n) es (h (e ∙ ap Some (sym es))))) ep
    (eq ∙ ap (λ n. p ++ run_head n) es) ea

-- ---- lists that are written one item after another

-- the characters of a text: those that were yielded are written
pub text_more : (cs ys : List ℕ) (c : ℕ) (all now new : List ℕ) → (length ys < length cs)
    × (c ≡ get_or cs (length ys) c)
    → all ≡ now ++ spelled_text (drop (length ys) cs) → new ≡ now ++ spelled_character c
    → all ≡ new ++ spelled_text (drop (length (ys ++ c ∷ [])) cs)
text_more cs ys c all now new t a b =
    let n : length ys + 1 ≡ length (ys ++ c ∷ []) = sym (length_push ys c) in
    a ∙ (ap (λ (l : List ℕ). now ++ l)
    (at_drop_more spelled_text cs (length ys) c t.0
    ∙ ap (λ (x : ℕ). spelled_character x ++ spelled_text (drop (length ys + 1) cs)) (sym t.1))
    ∙ (sym (append_assoc now (spelled_character c) (spelled_text (drop (length ys + 1) cs)))
    ∙ (ap (λ (l : List ℕ). l ++ spelled_text (drop (length ys + 1) cs)) (sym b)
    ∙ ap (λ (i : ℕ). new ++ spelled_text (drop i cs)) n)))

pub text_end : (cs : List ℕ) (all now : List ℕ) (n : ℕ) → n ≡ length cs
    → all ≡ now ++ spelled_text (drop n cs) → now ≡ all
text_end cs all now n e a =
    sym (a ∙ (ap (λ (l : List ℕ). now ++ l) (at_drop_all spelled_text cs n (omega (arith, e))) ∙ append-nil now))

-- the cells of a row
pub cell_more : (cells : List Cell) (i : ℕ) (d : Cell) (out after start : List ℕ) (last next : Option ℕ)
    → i < length cells → out ++ rest_of last (runs (drop i cells)) ≡ start
    → ((rs : List Run) → after ++ rest_of next rs ≡ out ++ rest_of last (after_cell (get_or cells i d) rs))
    → after ++ rest_of next (runs (drop (i + 1) cells)) ≡ start
unfolding runs
cell_more cells i d out after start last next l a b =
    b (runs (drop (i + 1) cells))
    ∙ (ap (λ l. out ++ rest_of last (runs l)) (sym (drop_more cells i d l)) ∙ a)

pub cells_end : (cells : List Cell) (i : ℕ) (out after start : List ℕ) (last : Option ℕ) → length cells ≤ i
    → out ++ rest_of last (runs (drop i cells)) ≡ start → after ≡ out ++ rest_of last [] → after ≡ start
unfolding runs
cells_end cells i out after start last l a b =
    b ∙ (ap (λ l. out ++ rest_of last (runs l)) (sym (drop_all i cells l)) ∙ a)

pub cells_start : (cells : List Cell) (out : List ℕ)
    → out ++ rest_of None (runs (drop 0 cells)) ≡ out ++ spelled_runs (runs cells)
unfolding rest_of
cells_start cells out = refl

-- ---- the rows that changed

pub row_told : (since n : ℕ) (r : Kept) (before after : List ℕ) → since ≤ r.stamp
    → after ≡ before ++ spelled_row (n, runs r.cells) → (rs : List Kept)
    → after ++ flat_map spelled_row (newer since (suc n) rs)
    ≡ before ++ flat_map spelled_row (newer since n (r ∷ rs))
unfolding newer
row_told since n r before after l a rs =
    let told : nat_lt r.stamp since ≡ false = le-ltb r.stamp since l in
    rw (a, told) (append_assoc before (spelled_row (n, runs r.cells))
    (flat_map spelled_row (newer since (suc n) rs)))

pub row_left : (since n : ℕ) (r : Kept) (before : List ℕ) → r.stamp < since → (rs : List Kept)
    → before ++ flat_map spelled_row (newer since (suc n) rs)
    ≡ before ++ flat_map spelled_row (newer since n (r ∷ rs))
unfolding newer
row_left since n r before l rs =
    let left : nat_lt r.stamp since ≡ true = lt-ltb r.stamp since l in rw left refl

pub row_more : (since i : ℕ) (rows : List Kept) (r : Kept) (out after start : List ℕ) → i < length rows
    → r ≡ get_or rows i r → out ++ flat_map spelled_row (newer since i (drop i rows)) ≡ start
    → ((rs : List Kept) → after ++ flat_map spelled_row (newer since (suc i) rs)
    ≡ out ++ flat_map spelled_row (newer since i (r ∷ rs)))
    → after ++ flat_map spelled_row (newer since (i + 1) (drop (i + 1) rows)) ≡ start
row_more since i rows r out after start l e a b =
    let next : i + 1 ≡ suc i = omega arith in
    ap (λ n. after ++ flat_map spelled_row (newer since n (drop (i + 1) rows))) next
    ∙ (b (drop (i + 1) rows)
    ∙ (ap (λ x. out ++ flat_map spelled_row (newer since i (x ∷ drop (i + 1) rows))) e
    ∙ (ap (λ l. out ++ flat_map spelled_row (newer since i l)) (sym (drop_more rows i r l)) ∙ a)))

pub rows_end : (since i : ℕ) (rows : List Kept) (out start : List ℕ) → length rows ≤ i
    → out ++ flat_map spelled_row (newer since i (drop i rows)) ≡ start → out ≡ start
unfolding newer
rows_end since i rows out start l a =
    sym (append-nil out)
    ∙ (ap (λ l. out ++ flat_map spelled_row (newer since i l)) (sym (drop_all i rows l)) ∙ a)

-- ---- an update
