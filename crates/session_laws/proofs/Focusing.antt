-- Clients with a caller's serial are clients of the caller's user.
use Rattle.session_laws.proofs.Vocabulary.{◌≡◌, ℕ, true, Some, ◌==◌, AllByRecursion, Tables, Client, Caller}

-- clients with the caller's serial are clients of its user
abbrev pub IsMine : Tables → Caller → Type 0
IsMine t k = (s : ℕ) → k.client ≡ Some s
    → AllByRecursion (λ (d : Client). (d.serial == s) ≡ true → d.user ≡ k.user) t.clients
