-- What a read brought.
use Rattle.std.proofs.Common.{◌≡◌, ◌≢◌, ℕ, Bool, true, false, ◌||◌, refl, eq-eqb, ne_eqb}
use Rattle.server_connections.specs.Peers.{is_stranger}
use Rattle.server_connections.specs.Reading.{after_arrival, arrival_of, is_again, is_much, more_after}
use Rattle.server_connections.specs.declared.peer.Peer.{Peer}
use Rattle.server_connections.specs.declared.peer_stream.Arrival.{Arrival}
use Rattle.server_connections.specs.declared.peer_stream.Arrival.TheVariants as arrival
use Rattle.server_typing.specs.Typed.{Typed, after_read}

pub much_came : (size n : ℕ) (a : Arrival) → (n ≡ 0 → ⊥) → n ≡ size → arrival.Much ≡ arrival_of size n a
much_came size n a some all = rw (ne_eqb n 0 some, eq-eqb n size all) refl

pub some_came : (size n : ℕ) (a : Arrival) → (n ≡ 0 → ⊥) → (n ≡ size → ⊥) → arrival.Some ≡ arrival_of size n a
some_came size n a some few = rw (ne_eqb n 0 some, ne_eqb n size few) refl

-- keys that wait know of a read that brought something
pub typed_after : (now n : ℕ) (a : Arrival) (m : Bool) (t : Typed) → m ≡ is_much a → (n ≡ 0 → ⊥)
    → after_read now m t ≡ after_arrival now n a t
typed_after now n a m t much not = rw (much, ne_eqb n 0 not)

module _ {S : Type 0} where
  pub more_than_none : (p : Peer S) (a : Arrival) → a ≢ arrival.Much → is_again a ≡ more_after p 0 a
  more_than_none p arrival.Much not = absurd (not refl)
  more_than_none p arrival.Some not = refl
  more_than_none p arrival.Nothing not = refl
  more_than_none p arrival.End not = refl

  pub more_than_some : (p : Peer S) (n : ℕ) (m : Bool) → m ≡ false → (n ≡ 0 → ⊥)
      → ((m || p.has_hung_up) || is_stranger p.role) ≡ more_after p n arrival.Some
  more_than_some p n m few not = rw (few, ne_eqb n 0 not)

  pub more_than_much : (p : Peer S) (n : ℕ) (m : Bool) → m ≡ true
      → ((m || p.has_hung_up) || is_stranger p.role) ≡ more_after p n arrival.Much
  more_than_much p n m all = rw all
