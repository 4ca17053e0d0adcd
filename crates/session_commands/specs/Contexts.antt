-- What a command does in a context. It still lends the same state and the same output then.
use Rattle.std.specs.Prelude.{ℕ, ◌≡◌, List, Option, Result}
use Rattle.command_lang.specs.declared.command.Command.{Command}
use Rattle.session_model.specs.declared.refusal.Refusal.{Refusal}
use Rattle.session_state.specs.declared.state.Caller.{Caller}
use Rattle.session_state.specs.Doing as state
use Rattle.session_commands.specs.declared.giver.Context.{Context}

abbrev pub HasRoomToAct : Context → Type 0
HasRoomToAct context = state.HasRoomToAct context.made.now

abbrev pub LendsTheSame : Context → Context → Type 0
LendsTheSame old new =
    (new.state.ghost_name ≡ old.state.ghost_name) × (new.made.ghost_name ≡ old.made.ghost_name)

-- done, and there is room to leave; or refused, and all is as before
abbrev pub IsWhole : {A E : Type 0} → Context → Result A E → Context → Type 0
IsWhole old result new =
    LendsTheSame old new × state.IsWhole result old.state.now new.state.now old.made.now new.made.now

-- nothing is listed either
abbrev pub IsSilent : Context → Result (Option (List ℕ)) Refusal → Context → Type 0
IsSilent old result new =
    LendsTheSame old new × state.IsSilent result old.state.now new.state.now old.made.now new.made.now

-- it lists nothing, and answers to this caller as the command's row says
abbrev pub Does : Caller → Command → Context → Result (Option (List ℕ)) Refusal → Context → Type 0
Does k c old result new =
    IsSilent old result new
    × state.Does k c old.state.now result new.state.now old.made.now new.made.now

-- so it is if this holds
abbrev pub DoesIf : Type 0 → Caller → Command → Context → Result (Option (List ℕ)) Refusal → Context →
    Type 0
DoesIf Holds k c old result new =
    IsSilent old result new
    × (Holds → state.Does k c old.state.now result new.state.now old.made.now new.made.now)

-- and to every caller
abbrev pub DoesForAll : Command → Context → Result (Option (List ℕ)) Refusal → Context → Type 0
DoesForAll c old result new =
    IsSilent old result new
    × state.DoesForAll c old.state.now result new.state.now old.made.now new.made.now

-- and to every caller for this window
abbrev pub DoesOn : ℕ → Command → Context → Result (Option (List ℕ)) Refusal → Context → Type 0
DoesOn window c old result new =
    IsSilent old result new
    × state.DoesOn window c old.state.now result new.state.now old.made.now new.made.now

-- and to every caller by this client
abbrev pub DoesBy : ℕ → Command → Context → Result (Option (List ℕ)) Refusal → Context → Type 0
DoesBy client c old result new =
    IsSilent old result new
    × state.DoesBy client c old.state.now result new.state.now old.made.now new.made.now
