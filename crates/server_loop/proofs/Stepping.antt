-- What is done again and again, step by step.
use Rattle.std.proofs.Common.{◌≡◌, ◌<◌, ◌≤◌, ◌+◌, ◌-◌, ℕ, zero, suc, Bool, true, false, refl, subst, arith, inl, inr}
use Rattle.server_loop.specs.Walking.{Repeats}

module _ {T : Type 0} (steps : T → Bool → T → Type 0) (end counter : ℕ) where
  pub stepped : (old mid new : T) → counter < end → steps old true mid
      → Repeats steps (end - (counter + 1)) mid new → Repeats steps (end - counter) old new
  stepped old mid new more one rest =
      let e : suc (end - (counter + 1)) ≡ end - counter = omega (arith, more) in
      subst (λ (n : ℕ). Repeats steps n old new) e (inr (mid, one, rest))

  pub last_step : (old new : T) → counter < end → steps old false new → Repeats steps (end - counter) old new
  last_step old new more one =
      let e : suc (end - (counter + 1)) ≡ end - counter = omega (arith, more) in
      subst (λ (n : ℕ). Repeats steps n old new) e (inl one)

  pub all_steps : (old : T) → end ≤ counter → Repeats steps (end - counter) old old
  all_steps old over =
      let e : zero ≡ end - counter = omega (arith, over) in subst (λ (n : ℕ). Repeats steps n old old) e refl
