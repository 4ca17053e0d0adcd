-- Text in UTF-8 that is printed.
use Rattle.std.specs.Prelude.{ℕ, List}
use Rattle.charsets.specs.Text.{text, IsText}
use Rattle.vt_screen.specs.declared.screen.Display.{Display}
use Rattle.vt_screen.specs.Acting.{ActsByAll, MovesLinesByAll}
use Rattle.vt_screen.specs.Displays.{IsFit}
use Rattle.vt_screen.specs.Runs.{prints}

-- some bytes of UTF-8 are graphic characters, and these were printed, one after another
pub record PrintsText (old : Display) (bytes : List ℕ) (new : Display) : Type 0 where
  pub is_text : IsText bytes
  pub screen : ActsByAll old (prints (text bytes)) new
  pub fit : IsFit new
  pub places : MovesLinesByAll old (prints (text bytes)) new
