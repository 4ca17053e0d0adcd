-- The client that gives a command, and the window that the command is for.
use Rattle.std.specs.Prelude.{ℕ, ◌≡◌, Option, Some, None, Result, Ok, Err}
use Rattle.std.specs.Option.{option_map}
use Rattle.regions.specs.declared.rect.Rect.{Rect}
use Rattle.regions.specs.declared.layout.RegionFault.{RegionFault}
use Rattle.regions.specs.declared.layout.RegionFault.TheVariants as fault
use Rattle.session_model.specs.declared.refusal.Refusal.{Refusal}
use Rattle.session_model.specs.declared.refusal.Refusal.TheVariants.{NoMemory, Regions}
use Rattle.session_model.specs.Tables as model
use Rattle.session_model.specs.Tables.{Tables}
use Rattle.session_model.specs.Deeds.{former_of, focused_box}
use Rattle.session_model.specs.Commands.{caller_client}
use Rattle.session_state.specs.declared.client.Client.{Client}
use Rattle.session_state.specs.Clients.{ClientStands}
use Rattle.session_state.specs.declared.state.Caller.{Caller}
use Rattle.session_state.specs.declared.state.State.{State}
use Rattle.session_state.specs.Stands.{Stands}
use Rattle.session_state.specs.Doing.{caller_in}

-- no client that is attached gives the command
abbrev pub NobodyGives : Caller → State → Type 0
NobodyGives k s = (t : Tables) → Stands t s → caller_client t (caller_in t k) ≡ None

-- the number of the window, if that is open
abbrev pub HasNumber : Caller → State → Option ℕ → Type 0
HasNumber k s found =
    (t : Tables) → Stands t s
    → option_map (λ (w : model.Window). w.number) (caller_in t k).window ≡ found

-- the serial of the window, if that is open
abbrev pub FindsWindow : Caller → State → Option ℕ → Type 0
FindsWindow k s found =
    (t : Tables) → Stands t s
    → option_map (λ (w : model.Window). w.serial) (caller_in t k).window ≡ found

-- the window that the client's focused regions showed before
abbrev pub IsFormer : Client → Option ℕ → Type 0
IsFormer c found = (m : model.Client) → ClientStands m c → former_of m ≡ found

-- the rectangle of the client's focused region, unless memory is refused
abbrev pub IsBox : model.Client → Result Rect Refusal → Type 0
IsBox m (Ok r) = focused_box m ≡ Some r
IsBox m (Err e) = e ≡ NoMemory

abbrev pub IsFocusedBox : Client → Result Rect Refusal → Type 0
IsFocusedBox c found = (m : model.Client) → ClientStands m c → IsBox m found

-- the refusal of a command, by a fault of a layout
abbrev pub refusal_of : RegionFault → Refusal
refusal_of fault.NoMemory = NoMemory
refusal_of f = Regions f
