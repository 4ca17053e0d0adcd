-- Rows of attached clients, each with a serial and a user.
use Rattle.std.specs.Prelude.{ℕ, Bool, false, not, ◌&&◌, ◌==◌, ◌≡◌, List, [], ◌∷◌, Option, Some, None, if◌then◌else◌}
use Rattle.std.specs.List.{list_any}
use Rattle.acl.specs.declared.user_id.UserId.{UserId}
use Rattle.acl.specs.History.{History}
use Rattle.acl.specs.Same.{same_user}
use Rattle.writelock.specs.Holding.{clients_of}

-- no serial stands twice
abbrev pub Differ : List (ℕ × UserId) → Type 0
Differ [] = Unit {0}
Differ (c ∷ clients) = (list_any (λ d. d.0 == c.0) clients ≡ false) × Differ clients

-- the rows are the clients that are attached after these acts
abbrev pub ClientsStandFor : List (ℕ × UserId) → History → Type 0
ClientsStandFor rows h = (rows ≡ clients_of h) × Differ rows

-- the user of the client of this serial
abbrev pub user_in : List (ℕ × UserId) → ℕ → Option UserId
user_in [] client = None
user_in (c ∷ clients) client = if c.0 == client then Some c.1 else user_in clients client

-- whether the user has another client besides this one
abbrev pub has_other : List (ℕ × UserId) → ℕ → UserId → Bool
has_other clients client user = list_any (λ c. not (c.0 == client) && same_user c.1 user) clients

-- the client's user, if the user has no other client
abbrev pub unless_other : List (ℕ × UserId) → ℕ → Option UserId → Option UserId
unless_other clients client None = None
unless_other clients client (Some user) =
    if has_other clients client user then None else Some user

abbrev pub last_in : List (ℕ × UserId) → ℕ → Option UserId
last_in clients client = unless_other clients client (user_in clients client)
