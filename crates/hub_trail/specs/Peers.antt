-- The peers of a step: clients and windows have serials from 0 on, and effects are for peers that
-- came before.
use Rattle.std.specs.Prelude.{◌≡◌, ◌<◌, ℕ, ◌+◌, Bool, false, if◌then◌else◌, is_ok, Ok}
use Rattle.std.specs.List.{AllByRecursion}
use Rattle.session.specs.event.Effect.{Effect}
use Rattle.session.specs.event.Effect.TheVariants.{Input, Deliver, Say, Size, Gone}
use Rattle.session.specs.event.Peer.TheVariants as peer
use Rattle.session.specs.Trace.{EventValue, Attach, Open, Reply, Entry}
use Rattle.session.specs.Sound.{AreSound}
use Rattle.session.specs.Tables.{Tables}
use Rattle.session.specs.Run.{IsStep, after}

-- ---- serials

-- whether the step attaches a client; and whether it opens a window
abbrev pub attaches : EventValue → Reply → Bool
attaches (Attach user rows columns) reply = is_ok reply
attaches event reply = false

abbrev pub opens : EventValue → Reply → Bool
opens (Open user rows columns keep title) reply = is_ok reply
opens event reply = false

-- what the step attaches or opens has the next serial
abbrev pub MakesNext : Tables → EventValue → Reply → Type 0
MakesNext t (Attach user rows columns) (Ok done) = done.made ≡ t.next_client
MakesNext t (Open user rows columns keep title) (Ok done) = done.made ≡ t.next_window
MakesNext t event reply = Unit {0}

abbrev pub one_more : Bool → ℕ → ℕ
one_more comes next = if comes then next + 1 else next

pub record GivesSerials (t : Tables) (e : Entry) : Type 0 where
  pub clients : (after t e).next_client ≡ one_more (attaches e.event e.reply) t.next_client
  pub windows : (after t e).next_window ≡ one_more (opens e.event e.reply) t.next_window
  pub made : MakesNext t e.event e.reply

-- each client that attaches, and each window that opens, gets the next serial
abbrev pub SerialsAreGiven : Type 0
SerialsAreGiven = (t : Tables) (e : Entry) → IsStep t e → GivesSerials t e

-- ---- effects

-- the peer of an effect has come before
abbrev pub HasCome : Tables → Effect → Type 0
HasCome t (Input window bytes) = window < t.next_window
HasCome t (Deliver client bytes) = client < t.next_client
HasCome t (Say client bytes) = client < t.next_client
HasCome t (Size window rows columns) = window < t.next_window
HasCome t (Gone (peer.Window window) why) = window < t.next_window
HasCome t (Gone (peer.Client client) why) = client < t.next_client

-- each effect of a step is for a client or a window that came before
abbrev pub EffectsHavePeers : Type 0
EffectsHavePeers =
    (t : Tables) (e : Entry) → AreSound t → IsStep t e → AllByRecursion (HasCome t) e.effects
