-- Whether there is room for one more page.
use Rattle.web_relay.proofs.Vocabulary.{◌≡◌, ◌≢◌, ◌-◌, ◌/◌, ◌≤◌, ◌<◌, ℕ, [], Some, subst, sym, ◌∙◌, inl, inr}
use Rattle.web_relay.proofs.Vocabulary.{arith, Slab, get, Relay, is_neighbour}
use Rattle.std.proofs.Common.{Bool, ◌+◌, add-one, if◌then◌else◌, suc, ap}
use Rattle.web_relay.specs.Places.{count_below, holds_at, is_other, IsTooMany}

same-one : {S : Type 0} (s : Slab (Relay S)) (place : ℕ) (there relay : Relay S) → get s place ≡ Some there
    → get s place ≡ Some relay
    → there ≡ relay
same-one s place there relay is found = let e : Some there ≡ Some relay = sym is ∙ found in cc

module _ {S : Type 0} (s : Slab (Relay S)) (place most all near : ℕ) (there relay : Relay S)
    (is : get s place ≡ Some there)
    (found : get s place ≡ Some relay) (others : all ≡ count_below (is_other place) s s.capacity) (room : all < most)
    (neighbours : near ≡ count_below (is_neighbour place there.visitor.address.items) s s.capacity) where
  few-there : near < most - most / 4 → IsTooMany s place there most → ⊥
  few-there few (inl many) = omega (arith, many)
  few-there few (inr (known, many)) = omega (arith, many)

  pub few : near < most - most / 4 → IsTooMany s place relay most → ⊥
  few less =
      subst (λ (r : Relay S). IsTooMany s place r most → ⊥) (same-one s place there relay is found) (few-there less)

  pub many : there.visitor.address.items ≢ [] → most - most / 4 ≤ near → IsTooMany s place relay most
  many known more =
      subst (λ (r : Relay S). IsTooMany s place r most) (same-one s place there relay is found)
      (inr (known, omega (arith, more)))

-- ---- one place more

module _ {S : Type 0} (P : ℕ × Relay S → Bool) (s : Slab (Relay S)) (n count new : ℕ) (is : Bool) where
  pub below_next : is ≡ holds_at P n (get s n) → count ≡ count_below P s n → new ≡ (if is then suc count else count)
      → new ≡ count_below P s (n + 1)
  below_next holds before now =
      rw add-one (
      now
      ∙ ap (λ (b : Bool). if b then suc count else count) holds
      ∙ ap (λ (m : ℕ). if holds_at P n (get s n) then suc m else m) before
      )
