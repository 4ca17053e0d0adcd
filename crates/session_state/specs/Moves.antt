-- Clients whose pages change.
use Rattle.std.specs.Prelude.{ℕ, List, Option, None, Result, Ok, Err, slice_get, map, if◌then◌else◌}
use Rattle.std.specs.Option.{option_and_then}
use Rattle.regions.specs.declared.layout.Shown.{Shown}
use Rattle.regions.specs.Layouts.{Arrangement, emptied, kept_alone}
use Rattle.regions.specs.Pages.{has_room}
use Rattle.session_model.specs.declared.event.Effect.{Effect}
use Rattle.session_model.specs.declared.event.Effect.TheVariants.{Say}
use Rattle.session_model.specs.declared.event.StatusMessage.TheVariants.{Text}
use Rattle.session_model.specs.Tables.{last_after, former_after}
use Rattle.session_state.specs.declared.client.Client.{Client}

-- the window in the focused region
abbrev pub in_focus : Client → Option ℕ
in_focus c = option_and_then (λ (s : Shown). s.window) (slice_get c.layout.shown c.layout.focus)

-- the window in focus is noted
abbrev pub seen : Client → Client
seen c =
    record c {
      last = last_after (in_focus c) c.last;
      former = former_after (in_focus c) c.last c.former;
    }

-- the client has this page now, and the window in focus is noted
abbrev pub moved_to : Arrangement → Client → Client
moved_to l c = let d : Client = record c { layout = l } in seen d

-- A change of the page was tried: the window in focus is noted, unless the change was refused.
abbrev pub tried : {E : Type 0} → Result (Unit {0}) E → Arrangement → Client → Client
tried (Ok done) l c = moved_to l c
tried (Err fault) l c = record c { layout = l }

-- regions that showed this window are empty
abbrev pub without : ℕ → Client → Client
without serial c =
    record c { layout = record c.layout { shown = map (emptied serial) c.layout.shown } }

-- its terminal has this size and may show anything; if a region would be too small, the focused one
-- stays alone
abbrev pub fitted : ℕ → ℕ → Client → Client
fitted rows columns c = record c {
  layout = if has_room c.layout.shape rows columns then c.layout else kept_alone c.layout;
  shadow = record { rows = rows; columns = columns; known = None };
}

-- the effect that tells a client a text
abbrev pub said : List ℕ → Client → Effect
said text c = Say c.serial text

-- a client whose status line shows a text
abbrev pub heard : List ℕ → Client → Client
heard text c = record c { message = Text text }
