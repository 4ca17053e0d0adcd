-- A row of cells as runs of characters that look alike.
use Rattle.std.specs.Prelude.{ℕ, Bool, ◌&&◌, ◌==◌, nat_lt, cond, List, [], ◌∷◌, ◌++◌, Option, Some, None, decimal}
use Rattle.std.specs.List.{flat_map}
use Rattle.cells.specs.declared.cell.Cell.{Cell}
use Rattle.cells.specs.declared.marks.Marks.{Marks}
use Rattle.cells.specs.declared.marks.Marks.TheVariants.{Bare, One, Two}
use Rattle.cells.specs.Line.{is_right}
use Rattle.web_page.specs.Json.{spelled_text}
use Rattle.web_page.specs.Styles.{style_value}

-- characters of one style
pub record Run : Type 0 where
  pub style : ℕ
  pub text : List ℕ

abbrev pub marks_of : Marks → List ℕ
marks_of Bare = []
marks_of (One a) = a ∷ []
marks_of (Two a b) = a ∷ b ∷ []

-- a cell's character, and the marks that joined it
abbrev pub letters : Cell → List ℕ
letters c = c.character ∷ marks_of c.marks

abbrev pub run_of : Cell → Run
run_of c = record { style = style_value c; text = letters c }

-- whether characters of these styles are one run: a character of width 2 is alone
abbrev pub are_one : ℕ → ℕ → Bool
are_one s t = (s == t) && nat_lt t 4096

-- a cell in front of runs
unfoldable pub with_cell : Cell → List Run → List Run
with_cell c [] = run_of c ∷ []
with_cell c (r ∷ rs) =
    cond (are_one (style_value c) r.style)
    (record { style = r.style; text = letters c ++ r.text } ∷ rs)
    (run_of c ∷ r ∷ rs)

-- the right half of a character of width 2 says nothing more
abbrev pub after_cell : Cell → List Run → List Run
after_cell c rs = cond (is_right c.shape) rs (with_cell c rs)

unfoldable pub runs : List Cell → List Run
runs [] = []
runs (c ∷ cs) = after_cell c (runs cs)

-- ,STYLE,"
abbrev pub run_head : ℕ → List ℕ
run_head style = 0x2C ∷ (decimal style ++ (0x2C ∷ 0x22 ∷ []))

-- ,STYLE,"TEXT"
abbrev pub spelled_run : Run → List ℕ
spelled_run r = run_head r.style ++ (spelled_text r.text ++ 0x22 ∷ [])

abbrev pub spelled_runs : List Run → List ℕ
spelled_runs rs = flat_map spelled_run rs

-- what is still to be written of runs: all, or what follows a run of this style that isn't closed
unfoldable pub rest_of : Option ℕ → List Run → List ℕ
rest_of None rs = spelled_runs rs
rest_of (Some style) [] = 0x22 ∷ []
rest_of (Some style) (r ∷ rs) =
    cond (are_one style r.style) (spelled_text r.text ++ 0x22 ∷ spelled_runs rs)
    (0x22 ∷ spelled_runs (r ∷ rs))
