-- Looks at a whole sheet, and the updates after them.
use Rattle.std.proofs.Common.{◌≡◌, ◌⊎◌, ℕ, zero, suc, ◌+◌, ◌<◌, ◌≤◌, Bool, false, List, [], ◌∷◌, length}
use Rattle.std.proofs.Common.{map, get_or, refl, sym, ap, ◌∙◌, arith, inl, ⊎_elim, subst}
use Rattle.std.proofs.lemmas.List.{length-map}
use Rattle.terminal_model.specs.Screen.{Page}
use Rattle.terminal_model.specs.Reading.{Terminal}
use Rattle.emulator.specs.Standing.{Parts, StandsFor}
use Rattle.web_page.specs.declared.sheet.Head.{Head}
use Rattle.web_page.specs.Runs.{Run, runs}
use Rattle.web_page.specs.Updates.{head_of}
use Rattle.web_page.specs.Laying.{Shown, laid, page_of}
use Rattle.web_page.specs.Showing.{Kept, Sheet, kept_at, shown_of, newer, IsShown, IsLooked, HasLooked, Looks}
use Rattle.web_page.proofs.Laying.{AreShown, whole, shows}
use Rattle.web_page.proofs.Looking.{cells_are, browsers}

-- ---- looks

-- a look that finds nothing to look at
pub still : (s : Sheet) → 0 < s.moment → IsLooked s.terminal s.head s.rows → Looks s s
still s l k = record {
  terminal = refl;
  looked = k;
  later = l;
  browsers = λ since b h. h;
  stamps = λ n m. inl (m, refl);
  idle = λ h. refl;
}

rows_are : (page : Page) (stamp : ℕ) (old new : List Kept) (is_new : Bool)
    → HasLooked (length page) page stamp old new is_new → map (λ (r : Kept). r.cells) new ≡ page
rows_are page stamp old new is_new h =
    let sized = h.sized in
    cells_are new page (omega arith) h.cells

pub changed : (old new : Sheet) (is_new : Bool)
    → HasLooked (length old.terminal.screen.page) old.terminal.screen.page old.moment old.rows new.rows is_new
    → new.terminal ≡ old.terminal → new.head ≡ head_of old.terminal.screen → new.moment ≡ old.moment + 1
    → (is_new ≡ false → new.head ≡ old.head → ⊥) → Looks old new
changed old new is_new h t e m f = record {
  terminal = t;
  looked = record {
    same_head = e ∙ ap (λ (p : Parts). head_of p.screen) (sym t);
    same_page = rows_are old.terminal.screen.page old.moment old.rows new.rows is_new h
        ∙ ap (λ (p : Parts). p.screen.page) (sym t);
  };
  later = omega arith;
  browsers = λ since b k. browsers old new old.terminal.screen.page is_new since b m h k;
  stamps = λ n l. let sized = h.sized in h.stamps n (omega arith);
  idle = λ k. absurd (f (h.idle k.same_page) (e ∙ sym k.same_head));
}

abbrev settled : Sheet → Head → List Kept → ℕ → Sheet
settled old head rows count = record {
  terminal = old.terminal;
  head = head;
  rows = rows;
  moment = old.moment + count;
}

same_sheet : (old : Sheet) (head : Head) (rows : List Kept) (count : ℕ) → head ≡ old.head → rows ≡ old.rows
    → count ≡ 0 → settled old head rows count ≡ old
same_sheet old head rows count h r z =
    let m : old.moment + count ≡ old.moment = omega arith in rw (h, r, m) refl

-- the look's sheet is looked at
pub looked_at : (old : Sheet) (head : Head) (rows : List Kept) (count : ℕ) (is_new : Bool)
    → HasLooked (length old.terminal.screen.page) old.terminal.screen.page old.moment old.rows rows is_new
    → head ≡ head_of old.terminal.screen → IsLooked old.terminal head rows
looked_at old head rows count is_new h e = record {
  same_head = e;
  same_page = rows_are old.terminal.screen.page old.moment old.rows rows is_new h;
}

-- a look after which the moment is later by the count of changes
pub looks : (old : Sheet) (head : Head) (rows : List Kept) (count : ℕ) (is_new : Bool)
    → HasLooked (length old.terminal.screen.page) old.terminal.screen.page old.moment old.rows rows is_new
    → head ≡ head_of old.terminal.screen → 0 < old.moment
    → ((count ≡ 1) × (is_new ≡ false → head ≡ old.head → ⊥)) ⊎ ((count ≡ 0) × (is_new ≡ false) × (head ≡ old.head))
    → Looks old (settled old head rows count)
looks old head rows count is_new h e m c =
    ⊎_elim
    (λ one. changed old (settled old head rows count) is_new h refl e (ap (λ n. old.moment + n) one.0) one.1)
    (λ none.
    let same : settled old head rows count ≡ old = same_sheet old head rows count none.2 (h.same none.1) none.0 in
    let looked : IsLooked old.terminal old.head old.rows =
    subst (λ (s : Sheet). IsLooked s.terminal s.head s.rows) same (looked_at old head rows count is_new h e) in
    subst (Looks old) (sym same) (still old m looked)) c

-- ---- updates

pub needs_none : (old new : Sheet) (t : Terminal) (since : ℕ) (b : Shown) → Looks old new
    → StandsFor old.terminal t → new.moment ≤ since → (since ≡ 0) ⊎ IsShown since old b → b ≡ page_of t.screen
needs_none old new t since b k w l h =
    let stands : StandsFor new.terminal t = subst (λ (p : Parts). StandsFor p t) (sym k.terminal) w in
    let later = k.later in
    ⊎_elim (λ e. absurd (omega arith))
    (λ s. (k.browsers since b s).whole l ∙ whole new t stands k.looked) h

are_shown : (old new : Sheet) (since : ℕ) (b : Shown) → Looks old new
    → (since ≡ 0) ⊎ IsShown since old b → AreShown since new.rows b.rows
are_shown old new since b k h = λ n l s.
    ⊎_elim (λ e. absurd (omega arith)) (λ w. (k.browsers since b w).rows n l s) h

pub needs_some : (old new : Sheet) (t : Terminal) (since : ℕ) (b : Shown) → Looks old new
    → StandsFor old.terminal t → (since ≡ 0) ⊎ IsShown since old b
    → laid (record { head = new.head; rows = newer since 0 new.rows }) b ≡ page_of t.screen
needs_some old new t since b k w h =
    let stands : StandsFor new.terminal t = subst (λ (p : Parts). StandsFor p t) (sym k.terminal) w in
    shows new t since b stands k.looked (are_shown old new since b k h)

get-map : (rows : List Kept) (n : ℕ) → n < length rows
    → get_or (map (λ (r : Kept). runs r.cells) rows) n [] ≡ runs (kept_at rows n).cells
get-map [] n l = absurd (omega arith)
get-map (r ∷ rows) zero l = refl
get-map (r ∷ rows) (suc n) l = get-map rows n (omega arith)

-- after a look a browser that shows the whole page is as far as can be
pub shows_all : (old new : Sheet) (t : Terminal) → Looks old new → StandsFor old.terminal t
    → IsShown new.moment new (page_of t.screen)
shows_all old new t k w =
    let stands : StandsFor new.terminal t = subst (λ (p : Parts). StandsFor p t) (sym k.terminal) w in
    let all : shown_of new ≡ page_of t.screen = whole new t stands k.looked in
    let rows : map (λ (r : Kept). runs r.cells) new.rows ≡ map runs t.screen.page =
    ap (λ (b : Shown). b.rows) all in
    record {
      past = omega arith;
      whole = λ l. sym all;
      rows = λ n l s. (
        omega (arith, ap length rows, length-map new.rows (λ (r : Kept). runs r.cells)),
        ap (λ (m : List (List Run)). get_or m n []) (sym rows) ∙ get-map new.rows n l,
      );
    }

pub stands_still : (old new : Sheet) (t : Terminal) → Looks old new → StandsFor old.terminal t
    → StandsFor new.terminal t
stands_still old new t k w = subst (λ (p : Parts). StandsFor p t) (sym k.terminal) w
