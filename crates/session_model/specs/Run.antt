-- The run of a session. A step is what its event's outcome says; what a Draw delivers is any frame
-- that shows the granted view.
use Rattle.std.specs.Prelude.{ℕ, ◌==◌, List, [], ◌∷◌, ◌++◌, ◌≡◌, Option, Some, None, if◌then◌else◌, MatchOption}
use Rattle.terminal_model.specs.Shows.{View, ShowsFromAny, NeedsDraw, NeedsNoDraw}
use Rattle.session_model.specs.declared.event.Effect.{Effect}
use Rattle.session_model.specs.declared.event.Effect.TheVariants.{Deliver}
use Rattle.session_model.specs.Trace.{EventValue, Draw, Entry, Trace}
use Rattle.session_model.specs.Tables.{Client, Tables, fresh, client_at, with_client}
use Rattle.session_model.specs.Events.{outcome}
use Rattle.session_model.specs.Granted.{granted_view}
use Rattle.session_model.specs.Framed.{IsFrame}

-- the bytes that these effects deliver to a client
abbrev pub deliveries : List Effect → ℕ → List ℕ
deliveries [] client = []
deliveries (Deliver to bytes ∷ effects) client =
    (if to == client then bytes else []) ++ deliveries effects client
deliveries (_ ∷ effects) client = deliveries effects client

-- ---- tables

-- the client after its view was drawn
abbrev pub with_drawn : List Effect → View → Client → Client
with_drawn [] v c = c
with_drawn (f ∷ effects) v c =
    record c { delivered = c.delivered ++ deliveries (f ∷ effects) c.serial; drawn = Some v }

abbrev pub drawn_on : Option Client → List Effect → Tables → Tables
drawn_on None effects t = t
drawn_on (Some c) effects t = with_client t (with_drawn effects (granted_view t c) c)

abbrev pub drawn : EventValue → List Effect → Tables → Tables
drawn (Draw client) effects t = drawn_on (client_at t client) effects t
drawn event effects t = t

-- the tables after a step, and after all steps
abbrev pub after : Tables → Entry → Tables
after t e = drawn e.event e.effects (outcome t e.event).tables

abbrev pub tables_from : Tables → List Entry → Tables
tables_from start [] = start
tables_from start (e ∷ past) = after (tables_from start past) e

abbrev pub tables_of : Trace → Tables
tables_of h = tables_from (fresh h.edition h.owner) h.entries

-- ---- steps

-- there is no effect if nothing has to be drawn; else there is one frame, for this client alone
abbrev pub DrawsWhereNeeded : Tables → Client → List Effect → Type 0
DrawsWhereNeeded t c [] = NeedsNoDraw c.drawn (granted_view t c)
DrawsWhereNeeded t c (Deliver to bytes ∷ []) =
    (to ≡ c.serial) × NeedsDraw c.drawn (granted_view t c)
    × IsFrame c.rows c.columns c.delivered (granted_view t c) bytes
DrawsWhereNeeded t c _ = ⊥

-- if a terminal of the client's size reads everything that was delivered, it shows the client's
-- view
pub record IsDraw (t : Tables) (effects : List Effect) (c : Client) : Type 0 where
  pub drawn : DrawsWhereNeeded t c effects
  pub shows :
      ShowsFromAny (c.delivered ++ deliveries effects c.serial) c.rows c.columns (granted_view t c)

abbrev pub HasEffects : Tables → EventValue → List Effect → Type 0
HasEffects t (Draw client) effects =
    MatchOption (client_at t client) (effects ≡ []) (IsDraw t effects)
HasEffects t event effects = effects ≡ (outcome t event).effects

pub record IsStep (t : Tables) (e : Entry) : Type 0 where
  pub reply : e.reply ≡ (outcome t e.event).reply
  pub acts : e.acts ≡ (outcome t e.event).acts
  pub verdicts : e.verdicts ≡ (outcome t e.event).verdicts
  pub effects : HasEffects t e.event e.effects

abbrev pub IsRunFrom : Tables → List Entry → Type 0
IsRunFrom start [] = Unit {0}
IsRunFrom start (e ∷ past) = IsRunFrom start past × IsStep (tables_from start past) e

abbrev pub IsRun : Trace → Type 0
IsRun h = IsRunFrom (fresh h.edition h.owner) h.entries
