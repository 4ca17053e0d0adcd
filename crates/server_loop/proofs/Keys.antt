-- Keys that wait, by cases.
use Rattle.server_loop.proofs.Vocabulary.{◌≡◌, ◌||◌, ℕ, Bool, true, false, not, Option, Some, None, refl, sym, subst}
use Rattle.server_loop.proofs.Vocabulary.{false≢true, State, peer_at, with_peer, MustWait}
use Rattle.std.proofs.Common.{if◌then◌else◌}
use Rattle.std.specs.Prelude.{MatchOption}
use Rattle.server_seat.specs.declared.seat.SessionSeat.{Ghosts as Calls}
use Rattle.server_steps.specs.Typing.{freed_keys, held_keys, target_at}
use Rattle.server_steps.specs.declared.typing.Target.{Target}
use Rattle.server_loop.specs.Typing.{Stops, WaitsFor}
use Rattle.server_loop.proofs.Telling.{if_false, if_true}

pub match_none : {A : Type 0} (o : Option A) (X : Type 0) (Y : A → Type 0) → o ≡ None → X → MatchOption o X Y
match_none {A} o X Y is x = subst (λ (p : Option A). MatchOption p X Y) (sym is) x

pub match_some : {A : Type 0} (o : Option A) (a : A) (X : Type 0) (Y : A → Type 0) → o ≡ Some a → Y a
    → MatchOption o X Y
match_some {A} o a X Y is y = subst (λ (p : Option A). MatchOption p X Y) (sym is) y

pub not_false : (b : Bool) → not b ≡ false → b ≡ true
not_false true is = refl
not_false false is = absurd (false≢true (sym is))

pub not_true : (b : Bool) → not b ≡ true → b ≡ false
not_true false is = refl
not_true true is = absurd (false≢true is)

module _ {S J : Type 0} (calls : Calls J)
    (key : ℕ) (target : Target) (is_full : Bool) (old : State S J)
  where
    pub waiting : (waits : Bool) (new : State S J) → target_at (peer_at key old) ≡ Some target
        → Stops calls target old.seat is_full → WaitsFor calls key target is_full old waits new
        → MustWait calls key old waits new
    waiting waits new some stops waits_for = match_some _ target _ _ some (is_full, stops, waits_for)

    pub unasked : (is_full || target.is_held) ≡ false → WaitsFor calls key target is_full old false old
    unasked isnt = if_false _ _ _ isnt (refl, refl)

    pub forbidden : (is_full || target.is_held) ≡ true → calls.lets_type old.seat target.user.user target.window false
        → WaitsFor calls key target is_full old false (with_peer freed_keys key old)
    forbidden is lets = if_true _ _ _ is (false, lets, (refl, refl))

    pub held_on : (is_full || target.is_held) ≡ true → calls.lets_type old.seat target.user.user target.window true
        → is_full ≡ true → WaitsFor calls key target is_full old is_full (with_peer held_keys key old)
    held_on is lets full = if_true _ _ _ is (
      true,
      lets,
      (
        refl,
        subst (λ (b : Bool). with_peer held_keys key old ≡ (if b then with_peer held_keys key old else old)) (sym full)
            refl,
      ),
    )

    pub goes_on : (is_full || target.is_held) ≡ true → calls.lets_type old.seat target.user.user target.window true
        → is_full ≡ false → WaitsFor calls key target is_full old is_full old
    goes_on is lets not_full = if_true _ _ _ is (
      true,
      lets,
      (refl, subst (λ (b : Bool). old ≡ (if b then with_peer held_keys key old else old)) (sym not_full) refl),
    )
