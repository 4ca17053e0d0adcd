-- Who holds a lock after an act that gives it to nobody.
use Rattle.writelock.proofs.Vocabulary.{◌≡◌, ◌∙◌, ℕ, Bool, true, false, not, ◌||◌, ap, sym, refl, ◌∷◌, Option, Some}
use Rattle.writelock.proofs.Vocabulary.{None, if◌then◌else◌, History, may, Edition, UserId, Write, Window, Act}
use Rattle.writelock.specs.Holding.{holder, ends, given, kept, or_else}

-- the holder after an act that gives nobody the lock may write
pub able-kept : (edition : Edition) (owner : UserId) (h : History) (a : Act) (w : ℕ)
    → given edition owner a h w (holder edition owner h w) ≡ None → (u : UserId)
    → holder edition owner (a ∷ h) w ≡ Some u → may edition owner (a ∷ h) u Write (Window w) ≡ true
able-kept edition owner h a w none u e = by (holder edition owner h w)
    (sym (λ i. or_else (none i) (kept edition owner a h w (holder edition owner h w))) ∙ e)
  where
    at : (v : UserId) (c d : Bool) → may edition owner (a ∷ h) v Write (Window w) ≡ d
        → (if c || not d then None else Some v) ≡ Some u → may edition owner (a ∷ h) u Write (Window w) ≡ true
    at v true d p q = cc
    at v false false p q = cc
    at v false true p q = let same : v ≡ u = cc in ap (λ x. may edition owner (a ∷ h) x Write (Window w)) (sym same) ∙ p

    by : (held : Option UserId) → kept edition owner a h w held ≡ Some u
        → may edition owner (a ∷ h) u Write (Window w) ≡ true
    by None q = cc
    by (Some v) q = at v (ends a h v w) (may edition owner (a ∷ h) v Write (Window w)) refl q

-- a window that nobody holds, and whose lock the act gives nobody, is held by nobody after it
pub unheld-kept : (edition : Edition) (owner : UserId) (h : History) (a : Act) (w : ℕ) → holder edition owner h w ≡ None
    → given edition owner a h w None ≡ None → holder edition owner (a ∷ h) w ≡ None
unheld-kept edition owner h a w free none =
    (λ i. or_else (given edition owner a h w (free i)) (kept edition owner a h w (free i)))
    ∙ (λ i. or_else (none i) None)

-- an act that neither gives nor releases the lock of w, and leaves every right, leaves its holder
module _ (edition : Edition) (owner : UserId) (h : History) (a : Act) (w : ℕ)
    (able : (u : UserId) → holder edition owner h w ≡ Some u → may edition owner h u Write (Window w) ≡ true) where
  pub holder-same : given edition owner a h w (holder edition owner h w) ≡ None → ((u : UserId) → ends a h u w ≡ false)
      → ((u : UserId) → may edition owner (a ∷ h) u Write (Window w) ≡ may edition owner h u Write (Window w))
      → holder edition owner (a ∷ h) w ≡ holder edition owner h w
  holder-same none no_end same_right = (λ i. or_else (none i) (kept edition owner a h w (holder edition owner h w)))
      ∙ by (holder edition owner h w) refl
    where
      by : (held : Option UserId) → holder edition owner h w ≡ held → kept edition owner a h w held ≡ held
      by None e = refl
      by (Some u) e = (λ i. if no_end u i || not ((same_right u ∙ able u e) i) then None else Some u)
