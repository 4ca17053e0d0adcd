-- What a window that is closed leaves.
use Rattle.std.specs.Prelude.{ℕ, ◌==◌, List, Ok, map}
use Rattle.acl.specs.declared.act.Act.{Act}
use Rattle.acl.specs.declared.act.Act.TheVariants.{Closed}
use Rattle.session_model.specs.declared.event.Effect.{Effect}
use Rattle.session_model.specs.declared.event.Effect.TheVariants.{Gone}
use Rattle.session_model.specs.declared.event.Peer.TheVariants as peer
use Rattle.session_model.specs.declared.event.Reason.{Reason}
use Rattle.session_model.specs.declared.refusal.Refusal.TheVariants.{NoWindow}
use Rattle.session_model.specs.Tables.{Tables, window_at}
use Rattle.session_model.specs.Deeds.{Answer, given, closes}
use Rattle.windows.specs.declared.window.Window.{Window}

abbrev pub gone_row : Reason → Window → Effect
gone_row why w = Gone (peer.Window w.serial) why

abbrev pub closed_row : Window → Act
closed_row w = Closed w.serial

abbrev pub closed_acts : List Window → List Act
closed_acts windows = map closed_row windows

-- the window with this serial, if there is one, is closed
abbrev pub closing : ℕ → Reason → Tables → Answer
closing window why t =
    given (window_at t window) NoWindow (λ w. Ok (closes (λ v. v.serial == window) why t))
