-- What the entries of a trace say was written to a window.
use Rattle.std.specs.Prelude.{◌≡◌, ℕ, Bool, false, ◌==◌, List, [], ◌∷◌, ◌++◌, Option, Some, None, Ok, if◌then◌else◌}
use Rattle.std.specs.List.{flat_map}
use Rattle.command_lang.specs.declared.command.Command.{Command as Order}
use Rattle.command_lang.specs.declared.command.Command.TheVariants as command
use Rattle.terminal_model.specs.Writing.{Writing}
use Rattle.terminal_model.specs.Writing as written
use Rattle.session_model.specs.declared.event.Effect.{Effect}
use Rattle.session_model.specs.declared.event.Effect.TheVariants.{Size}
use Rattle.session_model.specs.Trace.{EventValue, Output, Reply, Entry, Trace}
use Rattle.session_model.specs.Tables.{Window, Tables, fresh, window_at}
use Rattle.session_model.specs.Checks.{checks, first_fault}
use Rattle.session_model.specs.Commands.{coding_of}
use Rattle.session_model.specs.Given.{Given, commands_of}
use Rattle.session_model.specs.Run.{IsRun, tables_from, tables_of}

-- what the output of a window's program writes to it
abbrev pub output_to : EventValue → Reply → ℕ → List Writing
output_to (Output at bytes) (Ok done) window =
    if at == window then written.Output bytes ∷ [] else []
output_to event reply window = []

-- what a command writes to its window, if its checks pass: it clears it, resets it or gives it a
-- coding
abbrev pub order_writing : Order → List Writing
order_writing command.Clear = written.Clear ∷ []
order_writing command.Reset = written.Reset ∷ []
order_writing (command.Encoding coding) = written.Encoding (coding_of coding) ∷ []
order_writing order = []

abbrev pub is_own : Option Window → ℕ → Bool
is_own None window = false
is_own (Some w) window = w.serial == window

abbrev pub given_writing : Tables → ℕ → Given → List Writing
given_writing t window g = elim (first_fault t (checks t g.caller g.order)) [
  | Some r ↦ []
  | None ↦ if is_own g.caller.window window then order_writing g.order else []
]

-- the sizes that a window's program is told
abbrev pub sizes_of : List Effect → ℕ → List Writing
sizes_of [] window = []
sizes_of (Size at rows columns ∷ effects) window =
    (if at == window then written.Size rows columns ∷ [] else []) ++ sizes_of effects window
sizes_of (_ ∷ effects) window = sizes_of effects window

-- what one step wrote to a window, by the tables before it; and what all steps wrote
abbrev pub step_writing : Tables → EventValue → Reply → List Effect → ℕ → List Writing
step_writing t event reply effects window =
    output_to event reply window
    ++ (flat_map (given_writing t window) (commands_of t event) ++ sizes_of effects window)

abbrev pub all_written : Tables → List Entry → ℕ → List Writing
all_written start [] window = []
all_written start (e ∷ past) window =
    all_written start past window
    ++ step_writing (tables_from start past) e.event e.reply e.effects window

-- the windows of a run have exactly these writings
abbrev pub WindowsAreRemembered : Type 0
WindowsAreRemembered = (h : Trace) → IsRun h → (window : ℕ) (w : Window) →
    window_at (tables_of h) window ≡ Some w →
    w.writing ≡ all_written (fresh h.edition h.owner) h.entries window
