-- What an event gives a session to do: commands, and typed bytes.
use Rattle.std.specs.Prelude.{ℕ, Bool, false, not, ◌&&◌, ◌||◌, List, [], ◌∷◌, ◌++◌}
use Rattle.std.specs.Prelude.{Option, Some, None, Result, Ok, Err, if◌then◌else◌}
use Rattle.std.specs.List.{flat_map}
use Rattle.std.specs.Option.{option_map_or}
use Rattle.acl.specs.declared.user_id.UserId.{UserId}
use Rattle.acl.specs.declared.bits.Bit.TheVariants.{Execute}
use Rattle.acl.specs.declared.act.Object.TheVariants as object
use Rattle.command_lang.specs.declared.command.Command.{Command as Order}
use Rattle.command_lang.specs.declared.command.Command.TheVariants as command
use Rattle.command_lang.specs.Names.{name_of}
use Rattle.keys.specs.Grammar.{Item, bound, line}
use Rattle.session_model.specs.Trace.{EventValue, Keys, Command}
use Rattle.session_model.specs.Tables.{Window, Client, Tables, client_at, focused_window, is_known}
use Rattle.session_model.specs.Rights.{may_in}
use Rattle.session_model.specs.Lines.{read_line, Caller, caller_of, line_caller}
use Rattle.command_lang.specs.Needs.{needs}
use Rattle.session_model.specs.Keying.{step_items, typed_bytes, command_item}

-- ---- commands

-- a command, and who gives it
pub record Given : Type 0 where
  pub caller : Caller
  pub order : Order

abbrev pub with_order : Caller → Option Order → List Given
with_order k None = []
with_order k (Some c) = record { caller = k; order = c } ∷ []

abbrev pub ok_of : {X E : Type 0} → Result X E → Option X
ok_of (Ok x) = Some x
ok_of (Err e) = None

-- the command of a bound key or of a line; an empty line of the prompt gives none
abbrev pub order_in : Option Item → Option Order
order_in (Some (bound c)) = Some c
order_in (Some (line (b ∷ bytes))) = ok_of (read_line (b ∷ bytes))
order_in _ = None

-- the commands that an event gives: that of a known user's Command, and the one that the keys of a
-- step complete
abbrev pub commands_of : Tables → EventValue → List Given
commands_of t (Command user number bytes) =
    if is_known t user then with_order (line_caller t user number) (ok_of (read_line bytes)) else []
commands_of t (Keys client bytes) =
    option_map_or (λ c. with_order (caller_of t c) (order_in (command_item (step_items c bytes))))
    (client_at t client) []
commands_of t _ = []

-- whether x is granted on the window, if the command acts on one
abbrev pub has_x_on : Tables → UserId → Option Window → Bool
has_x_on t user None = false
has_x_on t user (Some w) = may_in t user Execute (object.Window w.serial)

abbrev pub has_x : Tables → Given → Bool
has_x t g =
    may_in t g.caller.user Execute (object.Command (name_of g.order))
    && (not (needs g.order).window || has_x_on t g.caller.user g.caller.window)

-- ---- typed bytes

-- bytes that a user types into a window
pub record Typed : Type 0 where
  pub user : UserId
  pub window : Option Window
  pub bytes : List ℕ

-- the bytes that the keys of a step type
abbrev pub typed_by_client : Tables → Client → List ℕ → Typed
typed_by_client t c bytes = record {
  user = c.user;
  window = focused_window t c;
  bytes = typed_bytes (step_items c bytes);
}

abbrev pub keys_typed : Tables → EventValue → List Typed
keys_typed t (Keys client bytes) =
    option_map_or (λ c. typed_by_client t c bytes ∷ []) (client_at t client) []
keys_typed t _ = []

-- a `stuff` whose x is granted types its text
abbrev pub stuffed : Tables → Given → Order → List Typed
stuffed t g (command.Stuff bytes) =
    if has_x t g
    then record { user = g.caller.user; window = g.caller.window; bytes = bytes } ∷ [] else []
stuffed t g _ = []

abbrev pub all_typed : Tables → EventValue → List Typed
all_typed t event = keys_typed t event ++ flat_map (λ g. stuffed t g g.order) (commands_of t event)
