-- What a seat was told.
use Rattle.std.specs.Prelude.{ℕ, ◌+◌, ◌/◌, ◌%◌, ◌^◌, List, [], ◌∷◌, ◌++◌, ◌≡◌, Option, Some, None, length}
use Rattle.std.specs.Prelude.{Bool, false, true, IfSome, slice_get}
use Rattle.std.specs.List.{list_any, list_all}
use Rattle.acl.specs.declared.user_id.UserId.{UserId}
use Rattle.session.specs.refusal.Verdict.{Verdict}
use Rattle.session.specs.Trace.{EventValue, Reply}
pub use Rattle.hub_ledger.specs.States.{StandsFor}
use Rattle.hub_trail.specs.declared.kept.Kept.{Kept}
use Rattle.hub_trail.specs.Trails.{Entry}
use Rattle.hub_trail.specs.Filing.{kept_of, ending_of}
use Rattle.hub_trail.specs.Legal.{asks_for_command, passes}
use Rattle.hub_record.specs.Receipts.{Receipt}
pub use Rattle.hub_ledger.specs.Rising.{AllBelow, Rise}
use Rattle.hub_ledger.specs.Routing.{Sent}

-- an answer: the event, the reply, the window into which the step typed, the place of the entry if
-- there is one, whether its checks passed, whether x on a command was
-- among them, and the entry if it is handed out
pub record Told : Type 0 where
  pub event : EventValue
  pub reply : Reply
  pub typed : Option ℕ
  pub place : Option ℕ
  pub checks : Option Bool
  pub checks_execute : Bool
  pub entry : Option Entry

-- whether a user may type into a window
pub record Ruled : Type 0 where
  pub user : UserId
  pub window : ℕ
  pub may_type : Bool

-- a seat: its number, whether it asks for entries, and its receipts, the oldest first; how many steps
-- were made for it, and how often it took effects (both modulo 2 ^ 64), and how many it was handed;
-- and what it was told when it took effects last: whether a step other than a Draw had come
pub record Sitting : Type 0 where
  pub number : ℕ
  pub asks : Bool
  pub receipts : List Receipt
  pub steps : ℕ
  pub takes : ℕ
  pub handed : ℕ
  pub is_told : Bool

-- a seat that was told nothing
abbrev pub fresh_seat : ℕ → Sitting
fresh_seat number = record
    { number = number; asks = false; receipts = []; steps = 0; takes = 0; handed = 0; is_told = false }

-- one more step was made for the seat
abbrev pub stepped : Sitting → Sitting
stepped s = record s { steps = (s.steps + 1) % 2 ^ 64 }

-- the seat took once more: it was handed these effects, and told this
abbrev pub with_handed : List Sent → Bool → Sitting → Sitting
with_handed effects told s =
    record s { takes = (s.takes + 1) % 2 ^ 64; handed = s.handed + length effects; is_told = told }

-- What the amount of a share counts: the receipts of its seats, and above them, each as 2 ^ 32, the
-- effects that these seats were handed.
abbrev pub receipts_in : ℕ → ℕ
receipts_in amount = amount % 2 ^ 32

abbrev pub handed_in : ℕ → ℕ
handed_in amount = amount / 2 ^ 32

-- the seat at place k has number k
abbrev pub AreNumbered : List Sitting → Type 0
AreNumbered seats = (k : ℕ) (s : Sitting) → slice_get seats k ≡ Some s → s.number ≡ k

-- none of these seats asks for entries
abbrev pub NoneAsks : List Sitting → Type 0
NoneAsks seats = list_any (λ (s : Sitting). s.asks) seats ≡ false

abbrev pub with_receipt : Sitting → Receipt → Sitting
with_receipt s r = record s { receipts = s.receipts ++ r ∷ [] }

-- an event that writes an entry is answered by a receipt, which is put after the others; its place
-- is above theirs
pub record IsReceived (event : Option Kept) (reply : Reply) (place : ℕ) (old new : List Receipt)
    : Type 0 where
  pub below : AllBelow old place
  pub more : (k : Kept) × (event ≡ Some k)
      × (new ≡ old ++ record { place = place; event = k; reply = ending_of reply } ∷ [])

-- If an event writes an entry, its answer names a place above those of all receipts of the seat,
-- and the seat gets the receipt with this event and this reply. Any other event has no receipt.
-- Either way one step was made for the seat, which was handed nothing.
abbrev pub HasReceipt : Option Kept → Told → Sitting → Sitting → Type 0
HasReceipt None told old new = (told.place ≡ None) × (new ≡ stepped old)
HasReceipt (Some event) told old new = (place : ℕ) × (told.place ≡ Some place)
    × AllBelow old.receipts place
    × (new ≡ with_receipt (stepped old)
    record { place = place; event = event; reply = ending_of told.reply })

-- An entry is handed out only to a seat that asks for entries, and only if the event writes one; it
-- has the event and the reply of the receipt.
pub record IsHanded (seat : Sitting) (event : EventValue) (reply : Reply) (e : Entry) : Type 0 where
  pub asks : seat.asks ≡ true
  pub kept : kept_of event ≡ Some e.event
  pub ending : e.reply ≡ ending_of reply

-- The answer is to this event, and the seat has its receipt. A seat that doesn't ask for entries is
-- handed none, and an event that writes no entry hands out none.
pub record Answers (event : EventValue) (told : Told) (old new : Sitting) : Type 0 where
  pub same : told.event ≡ event
  pub receipt : HasReceipt (kept_of event) told old new
  pub entry : IfSome told.entry (IsHanded old event told.reply)

-- the entry that is handed out is the last one of the trail, after the earlier ones
abbrev pub StandsLast : Option Entry → List Entry → List Entry → Type 0
StandsLast entry old new = IfSome entry (λ e. new ≡ old ++ e ∷ [])

-- the place of an entry that is written after n others
abbrev pub placed : Option Kept → ℕ → Option ℕ
placed None before = None
placed (Some event) before = Some before

-- whether all checks passed; None if nothing was checked
abbrev pub checks_of : List Verdict → Option Bool
checks_of [] = None
checks_of (v ∷ verdicts) = Some (list_all passes (v ∷ verdicts))

-- what is told of the checks of the entry at this place
pub record AreChecks (checks : Option Bool) (execute : Bool) (e : Entry) : Type 0 where
  pub passed : checks ≡ checks_of e.verdicts
  pub executes : execute ≡ list_any asks_for_command e.verdicts

-- what an answer tells of the checks of its entry in the trail; nothing if it has none
abbrev pub HasChecks : Told → List Entry → Type 0
HasChecks told entries = elim told.place [
  | None ↦ (told.checks ≡ None) × (told.checks_execute ≡ false)
  | Some place ↦ (e : Entry) → slice_get entries place ≡ Some e
      → AreChecks told.checks told.checks_execute e
]
