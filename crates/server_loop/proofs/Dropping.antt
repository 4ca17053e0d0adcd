-- The users who typed what waits for a window, one by one.
use Rattle.server_loop.proofs.Vocabulary.{◌≡◌, ◌<◌, ◌+◌, ◌-◌, ℕ, Option, Some, refl, subst, arith, inl, inr, UserId}
use Rattle.server_loop.proofs.Vocabulary.{Role, State, peer_at, DropsAfter, DropsTyped}
use Rattle.std.proofs.Common.{◌≤◌, zero, suc}
use Rattle.server_connections.specs.declared.peer.Role.TheVariants as role
use Rattle.server_seat.specs.declared.seat.SessionSeat.{Ghosts as Calls}
use Rattle.server_sending.specs.Typists.{HasNoTypist, IsNextTypist}
use Rattle.server_steps.specs.Sending.{frames_at}
use Rattle.server_loop.specs.Writing.{DropsOf}

module _ {S J : Type 0} (calls : Calls J) (key window : ℕ) where
  pub dropped_next : (end counter : ℕ) (last : Option UserId) (user : UserId) (old mid new : State S J)
      → counter < end → IsNextTypist last (frames_at (peer_at key old)) user
      → DropsOf calls key window user old mid
      → DropsAfter calls (end - (counter + 1)) key window (Some user) mid new
      → DropsAfter calls (end - counter) key window last old new
  dropped_next end counter last user old mid new more next one rest =
      let e : suc (end - (counter + 1)) ≡ end - counter = omega (arith, more) in
      subst (λ (n : ℕ). DropsAfter calls n key window last old new) e (inr (user, mid, next, one, rest))

  pub nobody_next : (count : ℕ) (last : Option UserId) (old : State S J)
      → HasNoTypist last (frames_at (peer_at key old)) → DropsAfter calls count key window last old old
  nobody_next zero last old none = refl
  nobody_next (suc count) last old none = inl (none, refl)

  pub all_dropped : (end counter : ℕ) (last : Option UserId) (old : State S J) → end ≤ counter
      → DropsAfter calls (end - counter) key window last old old
  all_dropped end counter last old over =
      let e : zero ≡ end - counter = omega (arith, over) in
      subst (λ (n : ℕ). DropsAfter calls n key window last old old) e refl

-- what isn't a window is left as it is
pub no_window : {S J : Type 0} (calls : Calls J) (key : ℕ) (r : Role) (old : State S J)
    → ((w : ℕ) → r ≡ role.Window w → ⊥) → DropsTyped calls r key old old
no_window calls key role.Stranger old no_w = refl
no_window calls key (role.Client client) old no_w = refl
no_window calls key (role.Window w) old no_w = absurd (no_w w refl)
