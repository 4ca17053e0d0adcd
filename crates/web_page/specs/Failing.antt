-- Moments, and why a sheet makes no update.
use Rattle.std.specs.Prelude.{◌≡◌, ℕ, ◌≤◌, suc}
use Rattle.web_page.specs.declared.sheet.SheetFault.{SheetFault}
use Rattle.web_page.specs.declared.sheet.SheetFault.TheVariants.{NoMemory, TooOld}

-- memory was refused, or this moment is the last one that has a number
abbrev pub FailsAt : ℕ → SheetFault → Type 0
FailsAt moment NoMemory = Unit {0}
FailsAt moment TooOld = moment ≡ 0xFFFFFFFFFFFFFFFF

-- an update ends one moment at most
abbrev pub IsNext : ℕ → ℕ → Type 0
IsNext old new = (old ≤ new) × (new ≤ suc old)
