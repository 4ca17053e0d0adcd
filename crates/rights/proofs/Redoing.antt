-- What a list command of one name, bit and object gives.
use Rattle.rights.proofs.Vocabulary.{◌≡◌, ◌∙◌, ◌∷◌, ◌++◌, [], List, Bool, true, false, not, ◌&&◌, ◌||◌, refl, Option}
use Rattle.rights.proofs.Vocabulary.{Some, None, ap, sym, subst, is_none, if◌then◌else◌, append-nil, false≢true}
use Rattle.rights.proofs.Vocabulary.{IfOk-weaker, Act, Known, Set, Object, Bit, BitChange, Edition, UserId, Answers}
use Rattle.rights.proofs.Vocabulary.{chosen_leader, sets, History, among, followed_by, users_of, leader_in, Rights}
use Rattle.rights.proofs.Vocabulary.{Follows, Redoes, StandsAfter}
use Rattle.std.proofs.Common.{Ok}
use Rattle.std.specs.Prelude.{Result, OnOk}
use Rattle.std.specs.Option.{option_or}
use Rattle.std.specs.declared.alloc.AllocError.{AllocError}
use Rattle.acl.specs.declared.entries.AclFault.{AclFault}
use Rattle.acl.specs.Commands.{change_acts, user_acts}
use Rattle.rights.specs.Acts.{can_follow}
use Rattle.rights.specs.Following.{Tells}

pub redo : (old new : Rights) (done : Result (Unit {0}) AclFault) (result : Result Bool AllocError) (act : Act)
    → Tells done result
    → ((edition : Edition) (owner : UserId) (h : History) → StandsAfter old edition owner h
    → (fault : Option AclFault) × Answers done fault × (is_none fault ≡ can_follow edition owner h act))
    → (done ≡ Ok tt → (edition : Edition) (owner : UserId) (h : History) → StandsAfter old edition owner h
    → StandsAfter new edition owner (act ∷ h))
    → Redoes old new result act
redo old new done result act tells answers does =
    IfOk-weaker result _ (λ (b : Bool). Follows old new b act)
    (λ b t edition owner h s.
    let a = answers edition owner h s in
    (t.1 a.0 a.1 ∙ a.2, λ is. does (t.0 is) edition owner h s))
    tells

pub on_ok : {P : Type 0} (r : Result (Unit {0}) AclFault) → OnOk r P → r ≡ Ok tt → P
on_ok {P} r p e = subst (λ (x : Result (Unit {0}) AclFault). OnOk x P) e p

-- ---- faults of one name

pub alone : (f : Option AclFault) → is_none (option_or f None) ≡ is_none f
alone None = refl
alone (Some x) = refl

pub new_alone : (b : Bool) (f : Option AclFault) → b ≡ false → is_none (option_or f None) ≡ (not b && is_none f)
new_alone true f e = absurd (false≢true (sym e))
new_alone false f e = alone f

module _ (x y z w : AclFault) where
  -- a name that may be named may also be changed
  pub nameable : (b c : Bool) → is_none (if b then Some x else (if c then None else Some y)) ≡ (not b && c)
  nameable true c = refl
  nameable false true = refl
  nameable false false = refl

  pub changeable : (b c d : Bool) → is_none (if b then Some x else (if c then None else Some y)) ≡ true
      → is_none (option_or (if b then Some z else (if c || d then None else Some w)) None) ≡ true
  changeable true c d e = e
  changeable false true d e = refl
  changeable false false d e = absurd (false≢true e)

  pub listed : (b c : Bool) → is_none (if b then Some x else (if c then None else Some y)) ≡ true → c ≡ true
  listed true c e = absurd (false≢true e)
  listed false true e = refl
  listed false false e = e

-- ---- acts of one name

pub know_done : (owner : UserId) (h : History) (u : UserId) → among (users_of owner h) u ≡ false
    → followed_by h (change_acts (users_of owner h) (Some u ∷ []) [] []) ≡ Known u ∷ h
know_done owner h u e = ap (λ b. followed_by h (user_acts b u [] [] ++ [])) e

pub set_done : (owner : UserId) (h : History) (u : UserId) (bit : Bit) (object : Object) (value : Bool)
    → among (users_of owner h) u ≡ true
    → followed_by h
    (change_acts (users_of owner h) (Some u ∷ []) (record { bit = bit; value = value } ∷ []) (object ∷ [])) ≡ Set u
    bit object value ∷ h
set_done owner h u bit object value e = ap
    (λ b. followed_by h (user_acts b u (record { bit = bit; value = value } ∷ []) (object ∷ []) ++ [])) e

pub sets_done : (owner : UserId) (h : History) (u : UserId) (changes : List BitChange) (objects : List Object)
    → among (users_of owner h) u ≡ true
    → followed_by h (change_acts (users_of owner h) (Some u ∷ []) changes objects)
    ≡ followed_by h (sets u changes objects)
sets_done owner h u changes objects e =
    ap (λ b. followed_by h (user_acts b u changes objects ++ [])) e
    ∙ ap (followed_by h) (append-nil (sets u changes objects))

pub chosen : (leader : Option UserId) → chosen_leader (leader_in leader) ≡ leader
chosen None = refl
chosen (Some u) = refl

pub both : (a b : Bool) → a ≡ true → b ≡ true → (a && b) ≡ true
both a b e f = ap (λ x. x && b) e ∙ f
