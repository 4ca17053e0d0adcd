-- What the entries of a trace say of a client's keys and deliveries, without the tables.
use Rattle.std.specs.Prelude.{◌≡◌, ℕ, Bool, false, ◌==◌, List, [], ◌∷◌, ◌++◌, Ok, Some, if◌then◌else◌, take}
use Rattle.session_model.specs.declared.event.Effect.{Effect}
use Rattle.session_model.specs.Trace.{EventValue, Keys, Resize, Reply, Entry, Trace}
use Rattle.session_model.specs.Tables.{Client, client_at}
use Rattle.session_model.specs.Run.{IsRun, deliveries, tables_of}

-- the keys of a client that a step read
abbrev pub keys_read : EventValue → Reply → ℕ → List ℕ
keys_read (Keys at bytes) (Ok done) client = if at == client then take done.taken bytes else []
keys_read event reply client = []

-- all keys of a client
abbrev pub all_keys : List Entry → ℕ → List ℕ
all_keys [] client = []
all_keys (e ∷ past) client = all_keys past client ++ keys_read e.event e.reply client

-- whether a step gave a client's terminal another size
abbrev pub is_resize : EventValue → Reply → ℕ → Bool
is_resize (Resize at rows columns) (Ok done) client = at == client
is_resize event reply client = false

-- everything that was delivered to a client since it attached or last changed its size
abbrev pub delivered_by : EventValue → Reply → List Effect → ℕ → List ℕ → List ℕ
delivered_by event reply effects client before =
    (if is_resize event reply client then [] else before) ++ deliveries effects client

abbrev pub all_delivered : List Entry → ℕ → List ℕ
all_delivered [] client = []
all_delivered (e ∷ past) client =
    delivered_by e.event e.reply e.effects client (all_delivered past client)

-- the clients of a run have exactly these keys and deliveries
abbrev pub ClientsAreRemembered : Type 0
ClientsAreRemembered = (h : Trace) → IsRun h → (client : ℕ) (c : Client) →
    client_at (tables_of h) client ≡ Some c →
    (c.keys ≡ all_keys h.entries client) × (c.delivered ≡ all_delivered h.entries client)
