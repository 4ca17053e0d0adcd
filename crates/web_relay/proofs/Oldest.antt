-- The oldest of those who haven't said who they are, place by place.
use Rattle.web_relay.proofs.Vocabulary.{◌≡◌, ℕ, ◌<◌, false, Option, Some, None, IsSomeAnd, Duration, Slab, get, Relay}
use Rattle.web_relay.specs.Places.{IsNoOlder, IsSilent}

-- of the places below one, the oldest is at this place; or nobody is silent there
abbrev pub Below : {S : Type 0} → Slab (Relay S) → ℕ → Option (ℕ × Duration) → Type 0
Below relays n None = (q : ℕ) → q < n → IsSilent (get relays q) → ⊥
Below relays n (Some at) =
    IsSomeAnd (get relays at.0) (λ r. (r.has_begun ≡ false) × (r.began ≡ at.1))
    × ((q : ℕ) → q < n → IsNoOlder at.1 (get relays q))
