-- What a list of receipts stands for.
use Rattle.std.specs.Prelude.{ℕ, ◌<◌, ◌≡◌, ◌++◌, ◌∷◌, [], List, length, flat_map, option_map, option_to_list, slice_get}
use Rattle.hub_trail.specs.declared.kept.Kept.{Kept}
use Rattle.hub_trail.specs.Trails.{Ending, Entry}
use Rattle.hub_record.specs.declared.receipts.PlaceCode.{PlaceCode}
use Rattle.hub_record.specs.declared.receipts.Form.{Form}

-- a receipt says that an entry with this event and this reply stands at a place
pub record Receipt : Type 0 where
  pub place : ℕ
  pub event : Kept
  pub reply : Ending

-- the receipt has the entry's event and reply
abbrev pub IsOf : Entry → Receipt → Type 0
IsOf e r = (e.event ≡ r.event) × (e.reply ≡ r.reply)

-- the receipts, the oldest first; how many fit without more memory; how many forms are stored, and
-- how many of them fit
pub record Receipted : Type 0 where
  pub receipts : List Receipt
  pub most : ℕ
  pub forms : ℕ
  pub most_forms : ℕ

-- one more receipt takes no memory
abbrev pub HasRoom : Receipted → Type 0
HasRoom r = (length r.receipts < r.most) × (r.forms < r.most_forms) × (r.forms < 4294967296)

-- the receipt of a place and a form
abbrev pub receipt_of : ℕ → Form → Receipt
receipt_of place f = record { place = place; event = f.event; reply = f.reply }

-- the receipts of the places, each with the form that its code names
abbrev pub told_by : List Form → List PlaceCode → List Receipt
told_by forms told =
    flat_map (λ (t : PlaceCode). option_to_list (option_map (receipt_of t.place) (slice_get forms t.code))) told

-- the last receipt is removed
abbrev pub LosesLast : List Receipt → List Receipt → Type 0
LosesLast old new = (last : Receipt) × (old ≡ new ++ last ∷ [])
