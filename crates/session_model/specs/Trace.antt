-- The events that a session was given, and its answers.
use Rattle.std.specs.Prelude.{ℕ, List, [], ◌∷◌, Option, Result}
use Rattle.acl.specs.declared.user_id.UserId.{UserId}
use Rattle.acl.specs.declared.act.Act.{Act}
use Rattle.session_model.specs.declared.event.Event.{Event}
use Rattle.session_model.specs.declared.event.Event.TheVariants as event
use Rattle.session_model.specs.declared.event.Effect.{Effect}
use Rattle.session_model.specs.declared.event.Done.{Done}
use Rattle.session_model.specs.declared.refusal.Refusal.{Refusal}
use Rattle.session_model.specs.declared.refusal.Verdict.{Verdict}
use Rattle.acl.specs.declared.leaders.Edition.{Edition}

-- an event by its value: the places in memory that lent its bytes and texts are left out
pub data EventValue : Type 0 where
  Attach : (user : UserId) (rows columns : ℕ) → EventValue
  Detach : (client : ℕ) → EventValue
  Keys : (client : ℕ) (bytes : List ℕ) → EventValue
  Command : (user : UserId) (window : Option ℕ) (line : List ℕ) → EventValue
  Resize : (client rows columns : ℕ) → EventValue
  Open : (user : UserId) (rows columns keep : ℕ) (title : List ℕ) → EventValue
  Output : (window : ℕ) (bytes : List ℕ) → EventValue
  Closed : (window : ℕ) → EventValue
  Draw : (client : ℕ) → EventValue

abbrev pub happening : Event → EventValue
happening (event.Attach user rows columns) = Attach user rows columns
happening (event.Detach client) = Detach client
happening (event.Keys client bytes) = Keys client bytes.now
happening (event.Command user window line) = Command user window line.now
happening (event.Resize client rows columns) = Resize client rows columns
happening (event.Open user rows columns keep title) = Open user rows columns keep title.now
happening (event.Output window bytes) = Output window bytes.now
happening (event.Closed window) = Closed window
happening (event.Draw client) = Draw client

abbrev pub Reply : Type 0
Reply = Result Done Refusal

-- one step: its event, its reply, its acts and verdicts, and its effects
pub record Entry : Type 0 where
  pub event : EventValue
  pub reply : Reply
  pub acts : List Act
  pub verdicts : List Verdict
  pub effects : List Effect

-- a session's edition and owner, and its steps until now, the newest first
pub record Trace : Type 0 where
  pub edition : Edition
  pub owner : UserId
  pub entries : List Entry

abbrev pub begun : Edition → UserId → Trace
begun edition owner = record { edition = edition; owner = owner; entries = [] }

-- the trace with one more step
abbrev pub with_step : Trace → Entry → Trace
with_step h e = record h { entries = e ∷ h.entries }
