-- Who came through one listener more, and when the next round comes at once.
use Rattle.std.proofs.Common.{◌≡◌, ◌⊎◌, ◌↔◌, ◌||◌, Bool, true, false, IsTrue, List, ◌∷◌, length, refl, inl, inr}
use Rattle.std.proofs.Common.{◌+◌, ◌<◌, ◌≤◌, ℕ, suc, arith, drop, drop-cons, get_or, subst, sym}
use Rattle.std.proofs.lemmas.List.{drop_all}
use Rattle.std.specs.declared.time.Duration.{Duration}
use Rattle.web_streams.specs.declared.connections.BridgeStream.{Ghosts as Makes}
use Rattle.web_streams.specs.declared.connections.WebListener.{WebListener}
use Rattle.web_turn.specs.declared.bridge.Bridge.{Bridge}
use Rattle.web_turn.specs.Accepting.{AcceptsAll, AcceptsAt}

pub one_of : (a b c : Bool) → (a || (b || c)) ≡ ((a || b) || c)
one_of true b c = refl
one_of false b c = refl

pub none_more : (a : Bool) → (a || false) ≡ a
none_more true = refl
none_more false = refl

module _ {S : Type 0} (makes : Makes S) (now : Duration) (ls : List WebListener) (i : ℕ) where
  -- those who come through one listener, and through the later ones
  pub one_listener : (d : WebListener) (a m n : Bridge S) (first rest : Bool) → i < length ls
      → AcceptsAt makes (get_or ls i d) now a first m → AcceptsAll makes (drop (i + 1) ls) now m rest n
      → AcceptsAll makes (drop i ls) now a (first || rest) n
  one_listener d a m n first rest l one all =
      let next : suc i ≡ i + 1 = omega arith in
      let later : AcceptsAll makes (drop (suc i) ls) now m rest n =
      subst (λ (k : ℕ). AcceptsAll makes (drop k ls) now m rest n) (sym next) all in
      subst (λ (l : List WebListener). AcceptsAll makes l now a (first || rest) n) (sym (drop-cons ls i d l))
      (m, first, rest, one, later, refl)

  pub all_came : (a : Bridge S) → length ls ≤ i → AcceptsAll makes (drop i ls) now a false a
  all_came a l =
      subst (λ (l : List WebListener). AcceptsAll makes l now a false a) (sym (drop_all i ls l)) (refl, refl)

pub busy_if : (more has_work : Bool) (HasWork : Type 0) → (IsTrue has_work ↔ HasWork)
    → (IsTrue (more || has_work) ↔ (HasWork ⊎ (more ≡ true)))
busy_if true has_work HasWork is = (λ _. inr refl, λ _. refl)
busy_if false has_work HasWork is =
    (λ e. inl (is.0 e), λ h. elim h [ inl work ↦ is.1 work | inr e ↦ absurd (let wrong : false ≡ true = e in cc) ])
