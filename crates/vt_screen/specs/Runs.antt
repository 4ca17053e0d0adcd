-- Characters that are printed one after another.
use Rattle.std.specs.Prelude.{◌≡◌, ℕ, false, List, map, None}
use Rattle.charsets.specs.declared.shifts.CharacterSet.TheVariants.{Ascii}
use Rattle.charsets.specs.declared.decoder.Unit.TheVariants.{Code}
use Rattle.charsets.specs.Shifts.{set_at}
use Rattle.cells.specs.Line.{plain}
use Rattle.terminal_model.specs.declared.action.Action.{Action}
use Rattle.terminal_model.specs.declared.action.Action.TheVariants.{Print}
use Rattle.terminal_model.specs.declared.state.State.{State}

-- characters are printed, one after another
abbrev pub prints : List ℕ → List Action
prints characters = map (λ character. Print (Code character)) characters

-- 20 to 7E stand for themselves: GL is ASCII, and no single shift is pending (ECMA-35, 7.3)
pub record PrintsAscii (s : State) : Type 0 where
  pub ascii : set_at s.shifts s.shifts.gl ≡ Ascii
  pub unshifted : s.shifts.single ≡ None

-- 20 to 7E stand for themselves, and each is put over an old cell
pub record TakesRuns (s : State) : Type 0 where
  pub prints : PrintsAscii s
  pub replaces : s.modes.inserts ≡ false

-- an index scrolls the page from its first line on, and new characters have neither rendition nor
-- protection
pub record ScrollsPlain (s : State) : Type 0 where
  pub last : s.line ≡ s.bottom
  pub first : s.top ≡ 0
  pub plain : s.rendition ≡ plain
  pub unprotected : s.is_protecting ≡ false
