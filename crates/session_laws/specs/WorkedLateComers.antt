-- Worked rows of a guest who becomes known after another opener set masks: console, a user who
-- opens consoles.
use Rattle.std.specs.Prelude.{◌≡◌, ℕ, true, false, Bool, List, [], ◌∷◌, codes}
use Rattle.std.specs.List.{AllByRecursion}
use Rattle.acl.specs.declared.user_id.UserId.{UserId}
use Rattle.acl.specs.declared.leaders.Edition.{Edition}
use Rattle.acl.specs.declared.bits.Bit.{Bit}
use Rattle.acl.specs.declared.bits.Bit.TheVariants.{Write}
use Rattle.acl.specs.declared.act.Object.TheVariants as object
use Rattle.acl.specs.History.{mask}
use Rattle.session_model.specs.Trace.{Entry}
use Rattle.session_model.specs.Tables.{Tables, fresh, is_known}
use Rattle.session_model.specs.Rights.{may_in}
use Rattle.session_model.specs.Run.{IsStep, after}
use Rattle.session_laws.specs.Contained.{AreGuests}
use Rattle.session_laws.specs.Confined.{may_open, circle, AreShutOut, GrantsAreTheirs, came}
use Rattle.session_laws.specs.WorkedPolicies.{own, by, by_own, opens, closes, on_windows, nothing, reads, all, InBoth}
use Rattle.session_laws.specs.WorkedAmong.{is_among}
use Rattle.session_laws.specs.WorkedOperators.{console}
use Rattle.session_laws.specs.WorkedConsoles.{guest, guests_lines}

abbrev pub is_guest : UserId → Bool
is_guest = is_among (guest ∷ [])

-- console masks the known users, can't change its masks any more, and opens two windows
abbrev pub lines : List (List ℕ)
lines =
    codes "multiuser on"
    ∷ codes "aclumask ?-wx ??-x"
    ∷ codes "aclchg ann,bob +x detach,select,next,prev,other,scrollview,windows"
    ∷ codes "aclchg console +x screen,aclumask" ∷ []

abbrev pub begun : Edition → Tables
begun e =
    opens console (codes "web2")
    (opens console (codes "web1")
    (by_own (by console (by_own (fresh e own) lines) (codes "aclumask -wx"))
    (codes "aclchg console -x aclumask" ∷ [])))

-- then the guest becomes known
abbrev pub let_in : Edition → Tables
let_in e = by_own (begun e) guests_lines

-- web2's program ends, and console opens it again
abbrev pub reopened : Tables → Tables
reopened t = opens console (codes "web2") (closes 1 t)

-- the guest has x on none of the five commands, may open nothing, and has no bit on web2
abbrev pub IsGuest : Type 0
IsGuest = InBoth (λ e.
    AreGuests (let_in e) is_guest
    × (may_open (let_in e) guest ≡ false)
    × (on_windows (let_in e) guest ≡ reads ∷ nothing ∷ []))

-- own has masked the guest, but console hasn't
abbrev pub Unmasked : Type 0
Unmasked = InBoth (λ e.
    (mask (let_in e).acts own guest Write ≡ false)
    × (mask (let_in e).acts console guest Write ≡ true))

-- so the guest has every bit on web2 after it is opened again
abbrev pub Reopened : Type 0
Reopened = InBoth (λ e. on_windows (reopened (let_in e)) guest ≡ reads ∷ all ∷ [])

-- the tables after console masked the guest, too
abbrev pub mended : Edition → Tables
mended e =
    by_own
    (by console (by_own (let_in e) (codes "aclchg console +x aclumask" ∷ []))
    (codes "aclumask guest1-rwx"))
    (codes "aclchg console -x aclumask" ∷ [])

abbrev pub Mended : Type 0
Mended = InBoth (λ e.
    AreGuests (mended e) is_guest × ((bit : Bit) → AreShutOut (mended e) is_guest bit))

abbrev pub NothingComes : Type 0
NothingComes = InBoth (λ e. on_windows (reopened (mended e)) guest ≡ reads ∷ nothing ∷ [])

-- ---- the law without its premise on masks

abbrev pub WithoutMasks : Type 0
WithoutMasks =
    (t : Tables) (e : Entry) (users : UserId → Bool) (bit : Bit) → AreGuests t users →
    ((user : UserId) → users user ≡ true →
    AllByRecursion (λ u. (is_known t u ≡ true) × (may_open t u ≡ false)) (circle t user)) →
    IsStep t e → GrantsAreTheirs users t e → (user : UserId) (window : ℕ) →
    users user ≡ true → came t (after t e) window ≡ true →
    may_in (after t e) user bit (object.Window window) ≡ false

-- the law without its premise on masks doesn't hold
abbrev pub MasksAreNeeded : Type 0
MasksAreNeeded = WithoutMasks → ⊥
