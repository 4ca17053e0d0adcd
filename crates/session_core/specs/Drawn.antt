-- Clients that need no draw.
use Rattle.std.specs.Prelude.{ℕ, ◌≡◌, ◌⊎◌, ◌++◌, Bool, false, List, [], ◌∷◌, Ok, Err, MatchOption, nat_eq}
use Rattle.std.specs.List.{AllByRecursion, list_any}
use Rattle.session_model.specs.Trace.{EventValue, Draw, Reply}
use Rattle.session_model.specs.Tables.{Tables, client_at}
use Rattle.session_model.specs.Run.{IsDraw}

-- the client is there and needs no draw: its terminals show what it is granted to see
abbrev pub IsDrawn : Tables → ℕ → Type 0
IsDrawn t client = MatchOption (client_at t client) ⊥ (IsDraw t [])

abbrev pub AreDrawn : Tables → List ℕ → Type 0
AreDrawn t clients = AllByRecursion (IsDrawn t) clients

-- whether an event is a Draw of one of these clients
abbrev pub draws_one_of : List ℕ → EventValue → Bool
draws_one_of clients (Draw client) = list_any (nat_eq client) clients
draws_one_of clients event = false

-- which clients are known to need no draw after a step: those of before, if it was refused; those and
-- its client, if it was a Draw; and else none, since any other event may change what they see
abbrev pub AreNoted : Reply → EventValue → List ℕ → List ℕ → Type 0
AreNoted (Err r) event old new = new ≡ old
AreNoted (Ok done) (Draw client) old new = (new ≡ old ++ client ∷ []) ⊎ (new ≡ old)
AreNoted (Ok done) event old new = new ≡ []
