-- What a step does in sessions that are alike.
use Rattle.std.specs.Prelude.{◌≡◌, ◌<◌, ◌⊎◌, ℕ, ◌+◌, List, [], ◌∷◌, map, Some, Ok, Err}
use Rattle.acl.specs.History.{History}
use Rattle.windows_model.specs.Matched.{Matched, BothOrNone}
use Rattle.session_model.specs.declared.event.Done.{Done}
use Rattle.session_model.specs.declared.event.Effect.{Effect}
use Rattle.session_model.specs.declared.event.Effect.TheVariants.{Say}
use Rattle.session_model.specs.declared.event.TheConstants.{SERIALS}
use Rattle.session_model.specs.declared.event.StatusMessage.TheVariants as message
use Rattle.session_model.specs.Granted.{granted_view}
use Rattle.session_model.specs.Run.{IsStep, IsRunFrom, after, tables_from}
use Rattle.session_model.specs.Tables.{Client, Tables, client_at, fresh}
use Rattle.session_model.specs.Trace.{EventValue, Attach, Open, Draw, Reply, Entry}
use Rattle.session_alike.specs.Renaming.{Renaming, act_as, effect_as, event_as, refusal_as, verdict_as}
use Rattle.session_alike.specs.Alike.{TablesAlike, TextsAlike}
use Rattle.session_alike.specs.Histories.{HistoriesAlike}

-- the serial of what an event made
abbrev pub made_as : Renaming → EventValue → ℕ → ℕ
made_as n (Attach user rows columns) made = n.client made
made_as n (Open user rows columns keep title) made = n.window made
made_as n event made = made

pub record DoneAlike (n : Renaming) (event : EventValue) (r s : Done) : Type 0 where
  pub taken : s.taken ≡ r.taken
  pub made : s.made ≡ made_as n event r.made
  pub number : s.number ≡ r.number
  pub text : BothOrNone (TextsAlike n) r.text s.text

-- the same reply: both are done and say the same, or both are refused for the same cause
abbrev pub RepliesAlike : Renaming → EventValue → Reply → Reply → Type 0
RepliesAlike n event (Ok r) (Ok s) = DoneAlike n event r s
RepliesAlike n event (Err r) (Err s) = s ≡ refusal_as n r
RepliesAlike n event _ _ = ⊥

-- the same effect for the same window or client
abbrev pub EffectsAlike : Renaming → Effect → Effect → Type 0
EffectsAlike n (Say client x) g = (y : List ℕ) × (g ≡ Say (n.client client) y) × TextsAlike n x y
EffectsAlike n f g = g ≡ effect_as n f

-- The effects of a step are the same, one by one. Those of a draw are frames, which show what the
-- client is granted to see; that is the same, unless its status line lists the clients.
abbrev pub DrawsAlike : Renaming → Tables → Tables → ℕ → Type 0
DrawsAlike n t u client =
    (c d : Client) → client_at t client ≡ Some c → client_at u (n.client client) ≡ Some d
    → (c.message ≡ message.AllClients) ⊎ (granted_view u d ≡ granted_view t c)

abbrev pub AllEffectsAlike : Renaming → Tables → Tables → EventValue → List Effect → List Effect → Type 0
AllEffectsAlike n t u (Draw client) fs gs = DrawsAlike n t u client
AllEffectsAlike n t u event fs gs = Matched (EffectsAlike n) fs gs

-- both sessions answer an event alike, note the same acts and verdicts, have the same effects, and are
-- alike afterwards
pub record StepsAlike (n : Renaming) (t u : Tables) (e d : Entry) : Type 0 where
  pub replies : RepliesAlike n e.event e.reply d.reply
  pub acts : d.acts ≡ map (act_as n) e.acts
  pub verdicts : d.verdicts ≡ map (verdict_as n) e.verdicts
  pub effects : AllEffectsAlike n t u e.event e.effects d.effects
  pub tables : TablesAlike n (after t e) (after u d)

-- there are serials for one more window and one more client
abbrev pub HasSerials : Tables → Type 0
HasSerials t = (t.next_window < SERIALS) × (t.next_client < SERIALS)

-- the same event, under the serials of the other session
abbrev pub IsSameEvent : Renaming → Entry → Entry → Type 0
IsSameEvent n e d = d.event ≡ event_as n e.event

-- the same event does the same in sessions that are alike, and leaves them alike
abbrev pub AlikeGoesOn : Type 0
AlikeGoesOn =
    (n : Renaming) (t u : Tables) (e d : Entry) → TablesAlike n t u → HasSerials t → HasSerials u
    → IsStep t e → IsStep u d → IsSameEvent n e d → StepsAlike n t u e d

-- A new session with no window and no client is alike to one with none whose acts answer alike, if
-- its serials stand for those that the other has not given out.
abbrev pub BeginsAlike : Type 0
BeginsAlike =
    (n : Renaming) (h : History) (u : Tables) → u.windows ≡ [] → u.clients ≡ []
    → ((i : ℕ) → n.window i ≡ u.next_window + i) → ((i : ℕ) → n.client i ≡ u.next_client + i)
    → HistoriesAlike n u.edition u.owner h u.acts
    → TablesAlike n
    (record (fresh u.edition u.owner) { acts = h; is_multiuser = u.is_multiuser }) u

-- each step of two runs, the newest first
abbrev pub AllStepsAlike : Renaming → (t u : Tables) → List Entry → List Entry → Type 0
AllStepsAlike n t u [] [] = TablesAlike n t u
AllStepsAlike n t u (e ∷ run) (d ∷ other) =
    AllStepsAlike n t u run other × StepsAlike n (tables_from t run) (tables_from u other) e d
AllStepsAlike n t u _ _ = ⊥

abbrev pub AllHaveSerials : Tables → List Entry → Type 0
AllHaveSerials t [] = Unit {0}
AllHaveSerials t (e ∷ run) = AllHaveSerials t run × HasSerials (tables_from t run)

-- runs of the same events from sessions that are alike
abbrev pub RunsGoOn : Type 0
RunsGoOn =
    (n : Renaming) (t u : Tables) (run other : List Entry) → TablesAlike n t u → AllHaveSerials t run
    → AllHaveSerials u other → IsRunFrom t run → IsRunFrom u other → Matched (IsSameEvent n) run other
    → AllStepsAlike n t u run other
