-- What else changes only by granted commands: the mode, and which clients are attached.
use Rattle.std.specs.Prelude.{◌≡◌, ◌⊎◌, ℕ, Bool, true, false, Some, is_some}
use Rattle.acl.specs.declared.command_name.CommandName.{CommandName}
use Rattle.acl.specs.declared.command_name.CommandName.TheVariants as name
use Rattle.command_lang.specs.Names.{name_of}
use Rattle.session_model.specs.Trace.{Detach, Entry}
use Rattle.session_model.specs.Tables.{Tables, client_at}
use Rattle.session_model.specs.Sound.{AreFit}
use Rattle.session_model.specs.Given.{Given, commands_of, has_x}
use Rattle.session_model.specs.Promises.{SomeOf}
use Rattle.session_model.specs.Run.{IsStep, after}

-- a command with such a name, with x on it, and on its window if it acts on one
pub record IsGranted (t : Tables) (such : CommandName → Bool) (g : Given) : Type 0 where
  pub is_such : such (name_of g.order) ≡ true
  pub granted : has_x t g ≡ true

-- the commands that set single-user or multiuser mode
abbrev pub sets_mode : CommandName → Bool
sets_mode name.Multiuser = true
sets_mode _ = false

abbrev pub ModeIsGated : Tables → Entry → Type 0
ModeIsGated t e =
    ((after t e).is_multiuser ≡ t.is_multiuser)
    ⊎ SomeOf (IsGranted t sets_mode) (commands_of t e.event)

abbrev pub ModeGate : Type 0
ModeGate = (t : Tables) (e : Entry) → IsStep t e → ModeIsGated t e

-- the commands by which other users' clients part
abbrev pub parts_others : CommandName → Bool
parts_others name.Acldel = true
parts_others name.Multiuser = true
parts_others name.Quit = true
parts_others _ = false

-- the client's own keys give `detach`
pub record DetachesItself (t : Tables) (client : ℕ) (g : Given) : Type 0 where
  pub is_detach : name_of g.order ≡ name.Detach
  pub own : g.caller.client ≡ Some client

-- why a client is no longer attached
abbrev pub IsParted : Tables → Entry → ℕ → Type 0
IsParted t e client =
    (e.event ≡ Detach client)
    ⊎ SomeOf (λ g. DetachesItself t client g ⊎ IsGranted t parts_others g) (commands_of t e.event)

abbrev pub ClientsStayIn : Tables → Entry → Type 0
ClientsStayIn t e =
    (client : ℕ) → is_some (client_at t client) ≡ true →
    (is_some (client_at (after t e) client) ≡ true) ⊎ IsParted t e client

abbrev pub ClientsStay : Type 0
ClientsStay = (t : Tables) (e : Entry) → AreFit t → IsStep t e → ClientsStayIn t e
