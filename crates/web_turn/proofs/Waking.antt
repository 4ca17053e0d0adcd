-- What events change, one after another.
use Rattle.std.proofs.Common.{◌≡◌, ℕ, List, [], ◌∷◌, length, refl, ap, ◌∙◌, arith, Result, Err}
use Rattle.std.specs.Result.{IfErr}
use Rattle.mio.specs.declared.event.event.Event.{Event}
use Rattle.slab.specs.Slab.{Slab}
use Rattle.web_relay.specs.declared.halls.Halls.{Halls}
use Rattle.web_relay.specs.declared.relay.Relay.{Relay}
use Rattle.web_streams.specs.declared.connections.Woken.{Woken}
use Rattle.web_streams.specs.declared.connections.Woken.TheVariants.{Listener, Browser, Server, Hall}
use Rattle.web_relay.specs.Halls.{heeds}
use Rattle.web_relay.specs.Places.{changed_at, heeds_browser, heeds_server}
use Rattle.web_turn.specs.declared.bridge.Bridge.{Bridge}
use Rattle.web_turn.specs.Waking.{wakes}

module _ {S : Type 0} where
  both-are : (b : Bridge S) (relays relays' : Slab (Relay S)) (halls halls' : Halls S) → (relays ≡ relays') ×
      (halls ≡ halls')
      → record b { relays = relays; halls = halls } ≡ record b { relays = relays'; halls = halls' }
  both-are b relays relays' halls halls' is =
      ap (λ (s : Slab (Relay S)). record b { relays = s; halls = halls }) is.0
      ∙ ap (λ (h : Halls S). record b { relays = relays'; halls = h }) is.1

pub marks : {S : Type 0} (woken : Woken) (b : Bridge S) (relays : Slab (Relay S)) (halls : Halls S)
    → ((number : ℕ) → woken ≡ Listener number → ⊥)
    → ((place : ℕ) → woken ≡ Browser place
    → (relays ≡ changed_at b.relays place heeds_browser) × (halls ≡ b.halls))
    → ((place : ℕ) → woken ≡ Server place
    → (relays ≡ changed_at b.relays place heeds_server) × (halls ≡ b.halls))
    → ((place : ℕ) → woken ≡ Hall place
    → (relays ≡ b.relays) × (halls ≡ record b.halls { list = changed_at b.halls.list place heeds }))
    → record b { relays = relays; halls = halls } ≡ wakes woken b
marks (Listener number) b relays halls other browser server hall = absurd (other number refl)
marks (Browser place) b relays halls other browser server hall =
    both-are b relays (changed_at b.relays place heeds_browser) halls b.halls (browser place refl)
marks (Server place) b relays halls other browser server hall =
    both-are b relays (changed_at b.relays place heeds_server) halls b.halls (server place refl)
marks (Hall place) b relays halls other browser server hall =
    both-are b relays b.relays halls (record b.halls { list = changed_at b.halls.list place heeds }) (hall place refl)

pub no_more : (events : List Event) → length events ≡ 0 → events ≡ []
no_more [] none = refl
no_more (event ∷ later) none = absurd (omega (arith, none))

pub if_err_given : {T E : Type 0} (P : E → Type 0) (r : Result T E) (e : E) → P e → r ≡ Err e → IfErr r P
if_err_given P r e p is = rw is p
