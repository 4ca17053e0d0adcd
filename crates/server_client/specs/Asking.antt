-- For whom a peer connects, and how the program exits.
use Rattle.std.specs.Prelude.{◌≡◌, ◌⊎◌, ℕ, Bool, List, Result}
use Rattle.attach_proto.specs.declared.why.Why.{Why}
use Rattle.client_words.specs.Asking.{AreAsked, AreRefused, IsAsked, Means, Refuses}
use Rattle.client_words.specs.Ending.{status_after}
use Rattle.client_words.specs.declared.arguments.Arguments.{Arguments}
use Rattle.client_words.specs.declared.fault.PeerFault.{PeerFault}
use Rattle.server_client.specs.Marks.{Disk}
use Rattle.server_client.specs.Opening.{LeadsTo}
use Rattle.server_client.specs.declared.opening.Door.{Door}

-- the door leads where arguments say that were understood; the terminal may have another size by now
pub record LeadsAsAsked (means : Means) (disk : Disk) (door : Door) : Type 0 where
  pub a : Arguments
  pub asked : IsAsked means a
  pub rows : ℕ
  pub columns : ℕ
  pub leads : LeadsTo disk (record a { rows = rows; columns = columns }) door

-- a peer ended so that this is the status
abbrev pub IsOfEnd : ℕ → Type 0
IsOfEnd status = (has_left : Bool) × (end : Result Why PeerFault) × (status ≡ status_after has_left end)

-- The arguments are refused or mean no subcommand, and if help can't be written the status is 1; or a peer ran of which
-- these are the arguments.
abbrev pub ExitsBy : Means → Refuses → List (List ℕ) → ℕ → Type 0
ExitsBy means refuses words status =
    ((told : ℕ) × AreRefused means refuses words told × ((status ≡ told) ⊎ (status ≡ 1)))
    ⊎ ((a : Arguments) × AreAsked means words a × IsOfEnd status)
