-- If the checks of an event have passed, each of them has, and a serial is left.
use Rattle.std.proofs.Common.{◌≡◌, ℕ, Bool, true, false, Option, Some, None, refl, sym}
use Rattle.std.specs.Prelude.{if◌then◌else◌, ◌&&◌}
use Rattle.session_model.specs.declared.refusal.Refusal.{Refusal}

-- if some checks have passed, the first has, and so have the others
pub both_passed : (b : Bool) (o : Option Refusal) (r : Refusal) → (if b then o else Some r) ≡ None
    → (b ≡ true) × (o ≡ None)
both_passed true o r is = (refl, is)
both_passed false o r is = absurd (cc (is))

pub both_true : (a b : Bool) → (a && b) ≡ true → (a ≡ true) × (b ≡ true)
both_true true true is = (refl, refl)
both_true true false is = absurd (cc (is))
both_true false true is = absurd (cc (is))
both_true false false is = absurd (cc (is))

-- a serial that was taken is the one that comes next
pub taken_is : (b : Bool) (next s : ℕ) → (if b then Some next else None) ≡ Some s → s ≡ next
taken_is true next s is = sym (let e : next ≡ s = cc (is) in e)
taken_is false next s is = absurd (cc (is))

-- if the check of it has passed, a serial is left
pub one_left : (b : Bool) (next : ℕ) → (if b then Some next else None) ≡ None → b ≡ false
one_left true next is = absurd (cc (is))
one_left false next is = refl
