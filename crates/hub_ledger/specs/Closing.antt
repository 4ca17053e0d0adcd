-- How the receipts of seats are compared with the trail.
use Rattle.std.specs.Prelude.{ℕ, ◌<◌, ◌≤◌, List, [], ◌∷◌, ◌++◌, ◌≡◌, Option, Some, None, length, slice_get}
use Rattle.std.specs.List.{AllByRecursion, sum_by}
use Rattle.hub_trail.specs.Trails.{Entry}
use Rattle.hub_record.specs.Receipts.{Receipt}
pub use Rattle.hub_record.specs.Receipts.{IsOf}
pub use Rattle.hub_ledger.specs.Rising.{AreOf, before, times}
use Rattle.hub_ledger.specs.Seats.{Sitting}

-- all receipts of these seats
abbrev pub receipts_of : List Sitting → List Receipt
receipts_of [] = []
receipts_of (s ∷ seats) = s.receipts ++ receipts_of seats

-- how many effects these seats were handed
abbrev pub handed_of : List Sitting → ℕ
handed_of seats = sum_by (λ (s : Sitting). s.handed) seats

-- exactly one receipt names the place, and it has the event and the reply of the entry
pub record IsTold (place : ℕ) (e : Entry) (receipts : List Receipt) : Type 0 where
  pub once : times place receipts ≡ 1
  pub right : AreOf place e receipts

-- each place below this one is named by exactly one receipt, as `IsTold` says
abbrev pub AreTold : List Entry → List Receipt → ℕ → Type 0
AreTold entries receipts below =
    (place : ℕ) (e : Entry) → place < below → slice_get entries place ≡ Some e
    → IsTold place e receipts

-- the lowest place for which that doesn't hold; None if there is none
abbrev pub IsFirstWrong : List Entry → List Receipt → Option ℕ → Type 0
IsFirstWrong entries receipts None = AreTold entries receipts (length entries)
IsFirstWrong entries receipts (Some wrong) =
    AreTold entries receipts wrong
    × ((e : Entry) × (slice_get entries wrong ≡ Some e) × (IsTold wrong e receipts → ⊥))

-- at the receipt's place, the trail has an entry with its event and its reply
abbrev pub IsThere : List Entry → Receipt → Type 0
IsThere entries r = (e : Entry) × (slice_get entries r.place ≡ Some e) × IsOf e r

-- no two receipts name the same place, and each has the event and the reply of the entry at its
-- place
pub record AreThere (entries : List Entry) (receipts : List Receipt) : Type 0 where
  pub apart : (place : ℕ) → times place receipts ≤ 1
  pub each : AllByRecursion (IsThere entries) receipts
