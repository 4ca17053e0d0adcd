-- The keys whose clients are drawn, one by one.
use Rattle.std.proofs.Common.{◌≡◌, ◌<◌, ◌≤◌, ◌+◌, ◌-◌, ℕ, zero, suc, Option, Some, None, refl, subst, arith, inl, inr}
use Rattle.server_seat.specs.declared.seat.SessionSeat.{Ghosts as Calls}
use Rattle.server_loop.specs.Drawing.{DrawsFrom, DrawsNext}
use Rattle.server_loop.specs.Submitting.{State}

module _ {S J : Type 0} (calls : Calls J) where
  pub next_drawn : (end key most left : ℕ) (old mid : State S J) (next : Option ℕ) (new : State S J) → key < end
      → DrawsNext calls key most old (Some left) mid
      → DrawsFrom calls (end - (key + 1)) (key + 1) left mid next new
      → DrawsFrom calls (end - key) key most old next new
  next_drawn end key most left old mid next new lt one rest =
      let e : suc (end - (key + 1)) ≡ end - key = omega (arith, lt) in
      subst (λ (n : ℕ). DrawsFrom calls n key most old next new) e (inr (left, mid, one, rest))

  pub stopped : (end key most : ℕ) (old new : State S J) → key < end → DrawsNext calls key most old None new
      → DrawsFrom calls (end - key) key most old (Some key) new
  stopped end key most old new lt one =
      let e : suc (end - (key + 1)) ≡ end - key = omega (arith, lt) in
      subst (λ (n : ℕ). DrawsFrom calls n key most old (Some key) new) e (inl (one, refl))

  pub ended : (end key most : ℕ) (old : State S J) → end ≤ key → DrawsFrom calls (end - key) key most old None old
  ended end key most old le =
      let e : zero ≡ end - key = omega (arith, le) in
      subst (λ (n : ℕ). DrawsFrom calls n key most old None old) e (refl, refl)
