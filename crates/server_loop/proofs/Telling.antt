-- Cases, and effects one by one.
use Rattle.server_loop.proofs.Vocabulary.{◌≡◌, ◌∙◌, ◌<◌, ◌+◌, ℕ, Bool, true, false, List, drop, ap, refl, sym, subst}
use Rattle.server_loop.proofs.Vocabulary.{false≢true, Hands, HandsAll, Sent, IfBool, State}
use Rattle.std.proofs.Common.{◌∷◌, length, get_or}
use Rattle.std.proofs.lemmas.List.{drop_more}
use Rattle.server_seat.specs.declared.seat.SessionSeat.{Ghosts as Calls}

pub if_true : (b : Bool) (A B : Type 0) → b ≡ true → A → IfBool b A B
if_true true A B is a = a
if_true false A B is a = absurd (false≢true is)

pub if_false : (b : Bool) (A B : Type 0) → b ≡ false → B → IfBool b A B
if_false true A B is b = absurd (false≢true (sym is))
if_false false A B is b = b

pub if_either : (b : Bool) (A B : Type 0) → (b ≡ true → A) → (b ≡ false → B) → IfBool b A B
if_either true A B is isnt = is refl
if_either false A B is isnt = isnt refl

module _ {S J : Type 0} (calls : Calls J) where
  -- an effect went to its connection, and those after it did
  pub handed_next : (xs : List Sent) (i : ℕ) (sent : Sent) (old mid new : State S J) → i < length xs
      → sent ≡ get_or xs i sent → Hands calls sent.0 sent.1 old mid → HandsAll calls (drop (i + 1) xs) mid new
      → HandsAll calls (drop i xs) old new
  handed_next xs i sent old mid new lt is one rest =
      let next : drop i xs ≡ sent ∷ drop (i + 1) xs = drop_more xs i sent lt
      ∙ ap (λ (s : Sent). s ∷ drop (i + 1) xs) (sym is) in
      subst (λ (l : List Sent). HandsAll calls l old new) (sym next) (mid, one, rest)
