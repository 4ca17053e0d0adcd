-- Receipts, and the places of the trail that they name.
use Rattle.std.specs.Prelude.{ℕ, ◌<◌, ◌==◌, List, [], ◌∷◌, ◌≡◌, count_by, filter, nat_lt}
use Rattle.std.specs.List.{AllByRecursion}
use Rattle.hub_trail.specs.Trails.{Entry}
use Rattle.hub_record.specs.Receipts.{Receipt}
pub use Rattle.hub_record.specs.Receipts.{IsOf}

-- all places in these receipts are below this one
abbrev pub AllBelow : List Receipt → ℕ → Type 0
AllBelow receipts place = AllByRecursion (λ (r : Receipt). r.place < place) receipts

-- each place is above those before it
abbrev pub Rise : List Receipt → Type 0
Rise [] = Unit {0}
Rise (r ∷ receipts) = AllByRecursion (λ (s : Receipt). r.place < s.place) receipts × Rise receipts

-- the receipts whose places are below this one
abbrev pub before : ℕ → List Receipt → List Receipt
before place receipts = filter (λ (r : Receipt). nat_lt r.place place) receipts

-- the number of receipts that name the place
abbrev pub times : ℕ → List Receipt → ℕ
times place receipts = count_by (λ (r : Receipt). r.place == place) receipts

-- each receipt that names the place has the event and the reply of the entry
abbrev pub AreOf : ℕ → Entry → List Receipt → Type 0
AreOf place e receipts = AllByRecursion (λ (r : Receipt). r.place ≡ place → IsOf e r) receipts
