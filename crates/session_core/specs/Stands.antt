-- What a session stands for.
use Rattle.std.specs.Prelude.{List, ◌++◌, ◌≡◌, false}
use Rattle.session_model.specs.declared.event.Effect.{Effect}
use Rattle.session_model.specs.Trace.{EventValue, Reply, Entry, Trace, with_step}
use Rattle.session_model.specs.Run.{IsRun, tables_of}
use Rattle.session_state.specs.Stands.{Stands}
pub use Rattle.session_core.specs.Taking.{wants_memory}
use Rattle.session_core.specs.Drawn.{AreDrawn}
use Rattle.session_core.specs.Sharing.{IsShared}
use Rattle.session_state.specs.Noted.{Noted}
use Rattle.session_core.specs.declared.session.Session.{Session}

-- all its steps, whose tables its state stands for, clients that need no draw in them, and the frame
-- that is shared
pub record StandsFor (h : Trace) (s : Session) : Type 0 where
  pub run : IsRun h
  pub stands : Stands (tables_of h) s.state
  pub drawn : AreDrawn (tables_of h) s.drawn.items
  pub shared : IsShared (tables_of h) s.sharing

-- a fact, unless the step was refused for want of memory
abbrev pub IfTaken : Reply → Type 0 → Type 0
IfTaken reply P = wants_memory reply ≡ false → P

-- a step with what was noted of it and its effects
abbrev pub entry_of : EventValue → Reply → Noted → List Effect → Entry
entry_of event reply noted effects = record {
  event = event;
  reply = reply;
  acts = noted.acts;
  verdicts = noted.verdicts;
  effects = effects;
}

-- for each trace that the session stands for before, it stands afterwards for that trace with this
-- step, whose effects come after others
abbrev pub Takes :
    Session → EventValue → Noted → List Effect → List Effect → Reply → Session → Type 0
Takes old event noted before after reply new = (h : Trace) → StandsFor h old →
    (made : List Effect) × (after ≡ before ++ made)
    × StandsFor (with_step h (entry_of event reply noted made)) new
