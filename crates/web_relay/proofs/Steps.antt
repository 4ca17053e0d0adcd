-- What is done again and again, step by step.
use Rattle.web_relay.proofs.Vocabulary.{◌≡◌, ◌<◌, ◌≤◌, ◌+◌, ◌-◌, ℕ, zero, suc, refl, subst, arith, inl, inr, Repeats}

module _ {T : Type 0} (IsTime : T → Type 0) (steps : T → T → Type 0) (end counter : ℕ) where
  pub stepped : (old mid new : T) → counter < end → IsTime old → steps old mid
      → Repeats IsTime steps (end - (counter + 1)) mid new → Repeats IsTime steps (end - counter) old new
  stepped old mid new more time one rest =
      let e : suc (end - (counter + 1)) ≡ end - counter = omega (arith, more) in
      subst (λ (n : ℕ). Repeats IsTime steps n old new) e (inr (time, mid, one, rest))

  pub stopped : (old : T) → counter < end → (IsTime old → ⊥) → Repeats IsTime steps (end - counter) old old
  stopped old more not_now =
      let e : suc (end - (counter + 1)) ≡ end - counter = omega (arith, more) in
      subst (λ (n : ℕ). Repeats IsTime steps n old old) e (inl (not_now, refl))

  pub all_done : (old : T) → end ≤ counter → Repeats IsTime steps (end - counter) old old
  all_done old over =
      let e : zero ≡ end - counter = omega (arith, over) in
      subst (λ (n : ℕ). Repeats IsTime steps n old old) e refl
