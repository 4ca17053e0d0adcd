-- A turn at one place, and place by place.
use Rattle.std.proofs.Common.{◌≡◌, ◌≢◌, ◌+◌, ◌-◌, ◌^◌, ◌<◌, ◌↔◌, ℕ, min, Bool, true, false, length, IsTrue}
use Rattle.std.proofs.Common.{Option, Some, None, IfSome, refl, sym, ap, subst, ◌∙◌, inl, inr, arith}
use Rattle.std.proofs.Common.{get_or-set_same, get_or-set_other}
use Rattle.std.proofs.lemmas.Bool.{cases_lt}
use Rattle.std.proofs.lemmas.List.{get_or_past}
use Rattle.std.specs.Prelude.{is_some}
use Rattle.std.specs.Int.{from_bool}
use Rattle.slab.specs.Slab.{Slab, get, with_value}
use Rattle.web_relay.specs.declared.relay.Relay.{Relay}
use Rattle.web_relay.specs.Halls.{IsBusyHall}
use Rattle.web_relay.specs.Places.{LeavesAs}
use Rattle.web_relay.specs.Relaying.{IsRefused}
use Rattle.web_turn.specs.declared.bridge.Bridge.{Bridge}
use Rattle.web_turn.specs.Turning.{Both, Counts, HasWork, IsBusyRelay}

-- ---- the browser at one place

pub both_still : {S : Type 0} (P : Relay S → Relay S → Type 0) (o : Option (Relay S)) → ((r : Relay S) → o ≡ Some r
    → P r r) → Both P o o
both_still P None all = refl
both_still P (Some r) all = all r refl

module _ {S : Type 0} where
  pub both_there : (P : Relay S → Relay S → Type 0) (o n : Option (Relay S)) (a b : Relay S) → o ≡ Some a → n ≡ Some b
      → P a b
      → Both P o n
  both_there P o n a b there then p =
      subst (λ (v : Option (Relay S)). Both P v n) (sym there) (subst (λ (v : Option (Relay S)). Both P (Some a) v)
      (sym then) p)

both_more : {S : Type 0} (P Q : Relay S → Relay S → Type 0) (n : Option (Relay S)) (a b : Relay S) → ((r : Relay S)
    → P b r → Q a r)
    → Both P (Some b) n → Both Q (Some a) n
both_more P Q None a b more h = h
both_more P Q (Some r) a b more h = more r h

module _ {S : Type 0} where
  pub both_then : (P Q : Relay S → Relay S → Type 0) (o m n : Option (Relay S)) (a b : Relay S) → o ≡ Some a
      → m ≡ Some b
      → ((r : Relay S) → P b r → Q a r) → Both P m n → Both Q o n
  both_then P Q o m n a b there then more h =
      subst (λ (v : Option (Relay S)). Both Q v n) (sym there)
      (both_more P Q n a b more (subst (λ (v : Option (Relay S)). Both P v n) then h))

module _ {S : Type 0} (s : Slab (Relay S)) (place : ℕ) (a b : Relay S) (there : get s place ≡ Some a) where
  pub written : get (with_value s place b) place ≡ Some b
  written =
      elim (cases_lt place (length s.slots)) [
        | inl within ↦ get_or-set_same s.slots place (Some b) None within
        | inr past ↦ absurd (let wrong : None ≡ Some a = sym (get_or_past s.slots place None past) ∙ there in cc)
      ]

  pub written_others : (other : ℕ) → other ≢ place → get (with_value s place b) other ≡ get s other
  written_others other apart = get_or-set_other s.slots place other (Some b) None apart

-- ---- what is left to do

some-of : (P : ℕ → Type 0) (o : Option ℕ) → IfSome o P → is_some o ≡ true → (p : ℕ) × P p
some-of P None h e = absurd (let wrong : false ≡ true = e in cc)
some-of P (Some p) h e = (p, h)

none-of : (P : ℕ → Type 0) (o : Option ℕ) → (o ≡ None → (p : ℕ) → P p → ⊥) → (p : ℕ) → P p → is_some o ≡ true
none-of P None absent p h = absurd (absent refl p h)
none-of P (Some q) absent p h = refl

pub relay_works : {S : Type 0} (b : Bridge S) (o : Option ℕ) → IfSome o (λ p. IsBusyRelay (get b.relays p))
    → is_some o ≡ true
    → HasWork b
relay_works b o there e = inl (some-of (λ (p : ℕ). IsBusyRelay (get b.relays p)) o there e)

pub hall_works : {S : Type 0} (b : Bridge S) (o : Option ℕ) → IfSome o (λ p. IsBusyHall (get b.halls.list p))
    → is_some o ≡ true
    → HasWork b
hall_works b o there e = inr (some-of (λ (p : ℕ). IsBusyHall (get b.halls.list p)) o there e)

pub some_hall : {S : Type 0} (b : Bridge S) (o hall : Option ℕ) → (o ≡ None → (p : ℕ) → IsBusyRelay (get b.relays p)
    → ⊥)
    → (hall ≡ None → (p : ℕ) → IsBusyHall (get b.halls.list p) → ⊥) → is_some o ≡ false → HasWork b
    → is_some hall ≡ true
some_hall b o hall nowhere silent no_relay (inl (p, h)) =
    absurd (let wrong : true ≡ false =
    sym (none-of (λ (p : ℕ). IsBusyRelay (get b.relays p)) o nowhere p h) ∙ no_relay in cc)
some_hall b o hall nowhere silent no_relay (inr (p, h)) =
    none-of (λ (p : ℕ). IsBusyHall (get b.halls.list p)) hall silent p h

-- ---- who goes

pub is_over : {S : Type 0} (said : Bool × Bool) (o : Option (Relay S)) → LeavesAs said o → IfSome o
    (λ r. r.is_over ≡ false) → ⊥
is_over said None leaves here = leaves
is_over said (Some r) leaves here = let wrong : true ≡ false = sym leaves.0 ∙ here in cc

pub counted : {S : Type 0} (b : Bool) (r : Relay S) (old one : ℕ) → old < 2 ^ 64 → one ≡ from_bool b
    → (IsTrue b ↔ IsRefused r) → Counts r old (min (old + one) (2 ^ 64 - 1))
counted true r old one fits is refused =
    (λ _. ap (λ (n : ℕ). min (old + n) (2 ^ 64 - 1)) is, λ no. absurd (no (refused.0 refl)))
counted false r old one fits is refused =
    let none : one ≡ 0 = is in
    (λ yes. absurd (let wrong : false ≡ true = refused.1 yes in cc), λ _. omega (arith, none))
