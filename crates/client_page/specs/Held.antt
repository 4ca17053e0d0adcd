-- What a window's program prints while no server has the window, and what the next server is told.
use Rattle.std.specs.Prelude.{◌≡◌, ◌⊎◌, ℕ, ◌≤◌, ◌-◌, Bool, true, false, List, [], ◌++◌, length, take, drop, Option}
use Rattle.emulator.specs.Standing.{Parts}
use Rattle.client_page.specs.declared.page.KeptPage.{KeptPage}
use Rattle.client_page.specs.Kept.{Blanks, ReadsAll, Settles, TellsPage}

-- all of these bytes are held
abbrev pub HoldsAll : KeptPage → List ℕ → KeptPage → Type 0
HoldsAll old all new = (new.held.items ≡ all) × (new.emulator ≡ old.emulator)

-- the last 262,144 of these bytes are held, and the page has read those before
abbrev pub HoldsLast : KeptPage → List ℕ → KeptPage → Type 0
HoldsLast old all new =
    let older = length all - 262144 in
    (new.held.items ≡ drop older all) × ReadsAll old.emulator (take older all) new.emulator

-- what was held and these bytes are held, or the newest of them: no more than 524,288
pub record Holds (old : KeptPage) (bytes : List ℕ) (new : KeptPage) : Type 0 where
  pub newest : HoldsAll old (old.held.items ++ bytes) new ⊎ HoldsLast old (old.held.items ++ bytes) new
  pub few : length new.held.items ≤ 524288

-- The page is told, and reads on. Or no byte of it is: then it begins blank, and reads on.
abbrev pub TellsIf : Bool → Option Parts → Bool → List ℕ → List ℕ → Option Parts → Type 0
TellsIf true e is_hidden bytes later new = TellsPage e is_hidden bytes × ReadsAll e later new
TellsIf false e is_hidden bytes later new =
    (bytes ≡ []) × (begun : Option Parts) × Blanks e begun × ReadsAll begun later new

-- The next server is told the page that the window had, and then what was held, in order. The page has read the bytes of
-- it that end a function which the last server had begun to read; so these aren't sent again.
pub record TellsAgain (old : KeptPage) (bytes : List ℕ) (is_told : Bool) (new : KeptPage) : Type 0 where
  pub told : List ℕ
  pub read : ℕ
  pub settled : Option Parts
  pub settles : Settles old.emulator old.held.items read settled
  pub whole : bytes ≡ told ++ drop read old.held.items
  pub page : TellsIf is_told settled old.is_hidden told (drop read old.held.items) new.emulator
  pub none : new.held.items ≡ []
