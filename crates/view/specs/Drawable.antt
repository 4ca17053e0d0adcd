-- A view that a terminal can show.
use Rattle.std.specs.Prelude.{ℕ, ◌<◌, length}
use Rattle.cells.specs.Page.{line_at}
use Rattle.terminal_model.specs.Drawable.{IsDrawableLine}
use Rattle.terminal_model.specs.Shows.{View}

pub record IsDrawable (v : View) : Type 0 where
  pub lines : (line : ℕ) → line < length v.page → IsDrawableLine (line_at v.page line)
