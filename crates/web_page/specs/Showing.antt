-- A sheet, and how far the browsers are that were sent updates of it.
use Rattle.std.specs.Prelude.{◌≡◌, ◌≢◌, ◌⊎◌, ℕ, ◌<◌, ◌≤◌, suc, nat_lt, cond, List, [], ◌∷◌, length, map, max, min}
use Rattle.std.specs.Prelude.{slice_index_or, Bool, false}
use Rattle.cells.specs.declared.cell.Cell.{Cell}
use Rattle.cells.specs.Page.{line_at}
use Rattle.terminal_model.specs.Screen.{starting}
use Rattle.terminal_model.specs.Reading.{ready}
use Rattle.emulator.specs.Standing.{Parts, StandsFor}
use Rattle.web_page.specs.declared.sheet.Head.{Head}
use Rattle.web_page.specs.Runs.{Run, runs}
use Rattle.web_page.specs.Updates.{head_of}
use Rattle.web_page.specs.Laying.{Shown}

-- a row as it was last looked at, and the moment of its last change
pub record Kept : Type 0 where
  pub cells : List Cell
  pub stamp : ℕ

-- a terminal, its head and rows as they were last looked at, and the moment of the next change
pub record Sheet : Type 0 where
  pub terminal : Parts
  pub head : Head
  pub rows : List Kept
  pub moment : ℕ

-- the sheet of a terminal of this size that has read nothing, and that nobody has looked at
pub record IsBlank (rows columns : ℕ) (s : Sheet) : Type 0 where
  pub terminal : StandsFor s.terminal (ready (starting rows columns 0))
  pub head : s.head ≡ head_of s.terminal.screen
  pub unseen : s.rows ≡ []
  pub first : s.moment ≡ 1

abbrev pub kept_at : List Kept → ℕ → Kept
kept_at rows n = slice_index_or rows n (record { cells = []; stamp = 0 })

abbrev pub shown_of : Sheet → Shown
shown_of s = record { head = s.head; rows = map (λ r. runs r.cells) s.rows }

-- the rows that changed at this moment or later, with their numbers from n on
unfoldable pub newer : ℕ → ℕ → List Kept → List (ℕ × List Run)
newer since n [] = []
newer since n (r ∷ rs) =
    cond (nat_lt r.stamp since) (newer since (suc n) rs) ((n, runs r.cells) ∷ newer since (suc n) rs)

-- A browser that was sent everything before this moment: it shows each row that hasn't changed since,
-- and the whole sheet if nothing has.
pub record IsShown (since : ℕ) (s : Sheet) (b : Shown) : Type 0 where
  pub past : since ≤ s.moment
  pub whole : s.moment ≤ since → b ≡ shown_of s
  pub rows : (n : ℕ) → n < length s.rows → (kept_at s.rows n).stamp < since
      → (n < length b.rows) × (slice_index_or b.rows n [] ≡ runs (kept_at s.rows n).cells)

-- browsers are as far as they were
abbrev pub AreAsFar : (old new : Sheet) → Type 0
AreAsFar old new = (since : ℕ) (b : Shown) → IsShown since old b → IsShown since new b

-- its head and rows are those of the terminal
pub record IsLooked (terminal : Parts) (head : Head) (rows : List Kept) : Type 0 where
  pub same_head : head ≡ head_of terminal.screen
  pub same_page : map (λ r. r.cells) rows ≡ terminal.screen.page

-- row n after a look: it is the one that was there, or has other cells and this moment
abbrev pub IsStamped : ℕ → ℕ → List Kept → Kept → Type 0
IsStamped stamp n old r =
    ((n < length old) × (r ≡ kept_at old n))
    ⊎ ((r.stamp ≡ stamp) × (n < length old → (kept_at old n).cells ≢ r.cells))

-- a look at the row of this number: the others stay
pub record LooksAt (number : ℕ) (cells : List Cell) (stamp : ℕ) (old new : List Kept) (is_new : Bool)
    : Type 0 where
  pub others : (n : ℕ) → n < length old → (n ≡ number → ⊥) → kept_at new n ≡ kept_at old n
  pub sized : length new ≡ max (length old) (suc number)
  pub taken : (kept_at new number).cells ≡ cells
  pub stamped : IsStamped stamp number old (kept_at new number)
  pub same : is_new ≡ false → new ≡ old
  pub idle : number < length old → (kept_at old number).cells ≡ cells → is_new ≡ false

-- a look at the first rows of a page, from old to new
pub record HasLooked (count : ℕ) (page : List (List Cell)) (stamp : ℕ) (old new : List Kept)
    (is_new : Bool)
    : Type 0 where
  pub inside : count ≤ length page
  pub sized : length new ≡ max count (min (length old) (length page))
  pub cells : (n : ℕ) → n < count → (kept_at new n).cells ≡ line_at page n
  pub stamps : (n : ℕ) → n < count → IsStamped stamp n old (kept_at new n)
  pub rest : (n : ℕ) → count ≤ n → n < length new → kept_at new n ≡ kept_at old n
  pub same : is_new ≡ false → new ≡ old
  pub idle : map (λ r. r.cells) old ≡ page → is_new ≡ false

-- After a look: browsers are as far as they were.  Only rows whose cells are others change, and if the page is
-- as it was last looked at, nothing does.
pub record Looks (old new : Sheet) : Type 0 where
  pub terminal : new.terminal ≡ old.terminal
  pub looked : IsLooked new.terminal new.head new.rows
  pub later : 0 < new.moment
  pub browsers : AreAsFar old new
  pub stamps : (n : ℕ) → n < length new.rows → IsStamped old.moment n old.rows (kept_at new.rows n)
  pub idle : IsLooked old.terminal old.head old.rows → new ≡ old
