-- When a link is over, and what a page is given for one.
use Rattle.std.proofs.Common.{◌≡◌, ◌≤◌, ℕ, List, Option, ap, sym, ◌∙◌, subst, arith}
use Rattle.std.specs.Borrow.{Bor}
use Rattle.std.specs.Str.Parse.{digits_value, without_leading_plus}
use Rattle.web_client.specs.declared.identity.Identity.{Identity}
use Rattle.web_client.specs.declared.identity.Identity.TheVariants.{Link}
use Rattle.web_relay.specs.Relaying.{IsOpen}
use Rattle.web_relay.specs.declared.relay.Relay.{Relay}
use Rattle.web_turn.specs.Links.{IsCut, IsLinkFile, StandsAt}
use Rattle.web_turn.specs.Turning.{GivesTaken, IsLink, Redeems, TakesFrom}

-- a file has one end
one_end : (text a b c d : List ℕ) (m n : ℕ) → IsLinkFile text a b m → IsLinkFile text c d n → m ≡ n
one_end text a b c d m n h k =
    let later : k.later ≡ h.later = k.first.back ∙ sym h.first.back in
    let last : k.last ≡ h.last =
    (subst (λ (t : List ℕ). IsCut 0x20 t d k.last) later k.second).back ∙ sym h.second.back in
    let number : k.number ≡ h.number =
    (subst (λ (t : List ℕ). IsCut 0x0A t k.number k.rest) last k.third).front ∙ sym h.third.front in
    h.value ∙ ap (λ (t : List ℕ). digits_value 10 (without_leading_plus t)) (sym number) ∙ sym k.value

pub is_over : (text a b : List ℕ) (end seconds : ℕ) → IsLinkFile text a b end → end ≤ seconds → (c d : List ℕ)
    → StandsAt text seconds c d → ⊥
is_over text a b end seconds h e c d s =
    let same : end ≡ s.0 = one_end text a b c d end s.0 h s.1 in
    let early = s.2 in omega (arith, e, same, early)

module _ (takes : (folder secret : List ℕ) → Option (List ℕ × ℕ) → Type 0) (links : Option (Bor (List ℕ)))
    (secret : List ℕ) (taken : Option (List ℕ × ℕ)) {S : Type 0} (old new : Relay S) where
  pub redeemed : IsOpen old.visitor → old.visitor.identity ≡ Link secret → TakesFrom takes links secret taken
      → GivesTaken taken old new → Redeems takes links old new
  redeemed is_open is took gives = record {
    link = λ _ other e.
        let same : Link secret ≡ Link other = sym is ∙ e in
        let s : secret ≡ other = cc in
        subst (λ (it : List ℕ). (t : Option (List ℕ × ℕ)) × TakesFrom takes links it t × GivesTaken t old new) s
        (taken, took, gives);
    other = λ no. absurd (no (is_open, subst (λ (s : Identity). IsLink s) (sym is) tt));
  }
