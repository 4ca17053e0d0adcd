-- The best hall for a page, place by place.
use Rattle.web_relay.proofs.Vocabulary.{◌≡◌, ℕ, ◌+◌, ◌<◌, Option, Some, None, IfSome, inl, inr, sym, subst, arith}
use Rattle.web_relay.proofs.Vocabulary.{cases_lt, IsSomeAnd, Slab, get, Hall, length, ◌≤◌}
use Rattle.std.proofs.Common.{◌⊎◌}
use Rattle.std.proofs.lemmas.List.{get_or_past}
use Rattle.web_relay.specs.Halls.{FitsIn, IsBetterOf, IsStandIn}

-- of the places below one, the best is this place; or no hall is there
abbrev pub BestBelow : {S : Type 0} → (ℕ × ℕ) → Slab (Hall S) → ℕ → Option ℕ → Type 0
BestBelow size halls n None = (q : ℕ) → q < n → get halls q ≡ None
BestBelow size halls n (Some place) =
    IsSomeAnd (get halls place) (λ hall. FitsIn size hall
    ⊎ ((q : ℕ) → q < n → IfSome (get halls q) (λ it. FitsIn size it → ⊥)))

below-more : (P : ℕ → Type 0) (n : ℕ) → ((q : ℕ) → q < n → P q) → P n → (q : ℕ) → q < n + 1 → P q
below-more P n low here q lt =
    elim (cases_lt q n) [
      | inl less ↦ low q less
      | inr more ↦ let e : n ≡ q = omega (arith, lt, more) in subst P e here
    ]

there-more : {S : Type 0} (P Q : Hall S → Type 0) (o : Option (Hall S)) → ((h : Hall S) → P h → Q h) → IsSomeAnd o P
    → IsSomeAnd o Q
there-more P Q None more h = h
there-more P Q (Some hall) more h = more hall h

fits-or-not : {S : Type 0} (size : ℕ × ℕ) (hall : Hall S) → FitsIn size hall ⊎ (FitsIn size hall → ⊥)
fits-or-not size hall =
    elim (cases_lt size.0 hall.size.0) [
      | inl less ↦ inr (λ fits. omega (arith, less, fits.0))
      | inr wide ↦ elim (cases_lt size.1 hall.size.1) [
        | inl less ↦ inr (λ fits. omega (arith, less, fits.1))
        | inr high ↦ inl (wide, high)
      ]
    ]

module _ {S : Type 0} (size : ℕ × ℕ) (halls : Slab (Hall S)) (n : ℕ) where
  -- the best stays, if the hall at this place is larger, or none is there
  stays : (place : ℕ) → IfSome (get halls n) (λ it. FitsIn size it → ⊥) → BestBelow size halls n (Some place)
      → BestBelow size halls (n + 1) (Some place)
  stays place larger below =
      there-more
      (λ (hall : Hall S). FitsIn size hall ⊎ ((q : ℕ) → q < n → IfSome (get halls q) (λ it. FitsIn size it → ⊥)))
      (λ (hall : Hall S). FitsIn size hall ⊎ ((q : ℕ) → q < n + 1 → IfSome (get halls q) (λ it. FitsIn size it → ⊥)))
      (get halls place)
      (λ hall h. elim h [
        | inl fits ↦ inl fits
        | inr all ↦ inr (below-more (λ q. IfSome (get halls q) (λ it. FitsIn size it → ⊥)) n all larger)
      ]) below

  pub best_none : (best : Option ℕ) → get halls n ≡ None → BestBelow size halls n best
      → BestBelow size halls (n + 1) best
  best_none None none below = below-more (λ q. get halls q ≡ None) n below none
  best_none (Some place) none below =
      stays place (subst (λ (o : Option (Hall S)). IfSome o (λ it. FitsIn size it → ⊥)) (sym none) tt) below

  module _ (hall : Hall S) (there : get halls n ≡ Some hall) where
    fits-here : FitsIn size hall → BestBelow size halls (n + 1) (Some n)
    fits-here fits =
        subst (λ (o : Option (Hall S)). IsSomeAnd o (λ h. FitsIn size h
        ⊎ ((q : ℕ) → q < n + 1 → IfSome (get halls q) (λ it. FitsIn size it → ⊥)))) (sym there) (inl fits)

    larger-here : (FitsIn size hall → ⊥) → IfSome (get halls n) (λ it. FitsIn size it → ⊥)
    larger-here larger =
        subst (λ (o : Option (Hall S)). IfSome o (λ it. FitsIn size it → ⊥)) (sym there) larger

    first : ((q : ℕ) → q < n → get halls q ≡ None) → BestBelow size halls (n + 1) (Some n)
    first none =
        elim (fits-or-not size hall) [
          | inl fits ↦ fits-here fits
          | inr larger ↦
              subst (λ (o : Option (Hall S)). IsSomeAnd o (λ h. FitsIn size h
              ⊎ ((q : ℕ) → q < n + 1 → IfSome (get halls q) (λ it. FitsIn size it → ⊥)))) (sym there)
              (inr (below-more (λ q. IfSome (get halls q) (λ it. FitsIn size it → ⊥)) n
              (λ q low. subst (λ (o : Option (Hall S)). IfSome o (λ it. FitsIn size it → ⊥)) (sym (none q low)) tt)
              (larger-here larger)))
        ]

    pub best_more : (best new : Option ℕ) → IsBetterOf size n hall best new → BestBelow size halls n best
        → BestBelow size halls (n + 1) new
    best_more None new better below =
        subst (λ (o : Option ℕ). BestBelow size halls (n + 1) o) (sym better) (first below)
    best_more (Some place) new (inl (fits, is)) below =
        subst (λ (o : Option ℕ). BestBelow size halls (n + 1) o) (sym is) (fits-here fits)
    best_more (Some place) new (inr (larger, is)) below =
        subst (λ (o : Option ℕ). BestBelow size halls (n + 1) o) (sym is)
        (stays place (larger-here larger) below)

module _ {S : Type 0} (size : ℕ × ℕ) (halls : Slab (Hall S)) (n : ℕ) (all : length halls.slots ≤ n) where
  larger : (q : ℕ) → ((p : ℕ) → p < n → IfSome (get halls p) (λ it. FitsIn size it → ⊥))
      → IfSome (get halls q) (λ it. FitsIn size it → ⊥)
  larger q low =
      elim (cases_lt q n) [
        | inl less ↦ low q less
        | inr past ↦
            subst (λ (o : Option (Hall S)). IfSome o (λ it. FitsIn size it → ⊥))
            (sym (get_or_past halls.slots q None (omega (arith, all, past)))) tt
      ]

  -- the best of all
  pub best_of_all : (best : Option ℕ) → BestBelow size halls n best → IfSome best (IsStandIn size halls)
  best_of_all None below = tt
  best_of_all (Some place) below =
      there-more
      (λ (hall : Hall S). FitsIn size hall ⊎ ((q : ℕ) → q < n → IfSome (get halls q) (λ it. FitsIn size it → ⊥)))
      (λ (hall : Hall S). FitsIn size hall ⊎ ((q : ℕ) → IfSome (get halls q) (λ it. FitsIn size it → ⊥)))
      (get halls place)
      (λ hall h. elim h [ inl fits ↦ inl fits | inr low ↦ inr (λ q. larger q low) ]) below
