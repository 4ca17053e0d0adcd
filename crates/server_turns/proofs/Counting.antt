-- Steps that are counted, up to what ends them.
use Rattle.std.proofs.Common.{◌≡◌, ◌+◌, ◌≤◌, ℕ, suc, arith, inl, inr, refl, subst, sym}
use Rattle.server_turns.specs.Steps.{Many, Until}

module _ {T : Type 0} (steps : ℕ → T → T → Type 0) where
  pub record Done (counter : ℕ) (old new : T) : Type 0 where
    pub count : ℕ
    pub counted : count ≡ counter
    pub so_far : Many steps count old new

  pub none : (s : T) → Done 0 s s
  none s = record { count = 0; counted = refl; so_far = refl }

  pub more : (counter : ℕ) (old mid new : T) → Done counter old mid → steps counter mid new
      → Done (counter + 1) old new
  more counter old mid new done step = record {
    count = suc done.count;
    counted = omega (arith, done.counted);
    so_far = (mid, done.so_far, subst (λ (n : ℕ). steps n mid new) (sym done.counted) step);
  }

  module _ (ends : ℕ → T → T → Type 0) (counter : ℕ) where
    pub ended : (old mid new : T) → Done counter old mid → ends counter mid new → Until steps ends old new
    ended old mid new done end =
        (done.count, mid, done.so_far, inl (subst (λ (n : ℕ). ends n mid new) (sym done.counted) end))

    pub never : (old new : T) → Done counter old new → 18446744073709551615 ≤ counter → Until steps ends old new
    never old new done last = (done.count, new, done.so_far, inr (omega (arith, done.counted, last), refl))
