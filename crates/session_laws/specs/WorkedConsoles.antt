-- Worked rows of consoles that only the owner opens, with rights from a file: these are the lines
-- that contrib/mux-rights and contrib/mux-guest give.
use Rattle.std.specs.Prelude.{◌≡◌, ℕ, true, Bool, List, [], ◌∷◌, ◌++◌, codes}
use Rattle.acl.specs.declared.user_id.UserId.{UserId}
use Rattle.acl.specs.declared.leaders.Edition.{Edition}
use Rattle.acl.specs.declared.bits.Bit.{Bit}
use Rattle.session_model.specs.Tables.{Tables, fresh}
use Rattle.session_laws.specs.Contained.{AreGuests}
use Rattle.session_laws.specs.Confined.{AreShutOut}
use Rattle.session_laws.specs.WorkedPolicies.{user, own, ann, by, by_own, opens, closes, on_windows}
use Rattle.session_laws.specs.WorkedPolicies.{nothing, reads, reads_and_types, are_done, InBoth}
use Rattle.session_laws.specs.WorkedAmong.{is_among}

abbrev pub wall : UserId
wall = user (codes "wall")

abbrev pub guest : UserId
guest = user (codes "guest1")

-- ann +x next, ann +rw web1, wall +x select, wall +r web1
abbrev pub setup : List (List ℕ)
setup =
    codes "multiuser on"
    ∷ codes "aclumask ?-rwx"
    ∷ codes "aclumask ??-rwx"
    ∷ codes "aclchg ann -rwx ?"
    ∷ codes "aclchg ann +x next"
    ∷ codes "aclchg wall -rwx ?"
    ∷ codes "aclchg wall +x select"
    ∷ codes "aclumask -rwx" ∷ []

-- the mask that is set before a console opens; and the lines after it, which name the window by its
-- title
abbrev pub opened : List ℕ → Tables → Tables
opened title t = opens own title (by own t (codes "aclumask -rwx"))

abbrev pub taken_back : List ℕ → List (List ℕ)
taken_back title = codes "aclumask -rwx" ∷ (codes "aclchg * -rwx " ++ title) ∷ []

abbrev pub granted : List (List ℕ)
granted =
    codes "aclumask ann-rwx" ∷ codes "aclchg ann +rw web1"
    ∷ codes "aclumask wall-rwx" ∷ codes "aclchg wall +r web1" ∷ []

abbrev pub web1 : Tables → Tables
web1 t = by_own (by_own (opened (codes "web1") t) (taken_back (codes "web1"))) granted

abbrev pub web2 : Tables → Tables
web2 t = by_own (opened (codes "web2") t) (taken_back (codes "web2"))

abbrev pub begun : Edition → Tables
begun e = web2 (web1 (by_own (fresh e own) setup))

-- a guest comes, and reads web1
abbrev pub guests_lines : List (List ℕ)
guests_lines =
    codes "aclchg guest1 -rwx #?"
    ∷ codes "aclumask guest1-rwx"
    ∷ codes "aclchg guest1 -rwx #"
    ∷ codes "aclchg guest1 +x detach,next,prev,scrollview"
    ∷ codes "aclchg guest1 +r web1" ∷ []

abbrev pub let_in : Edition → Tables
let_in e = by_own (begun e) guests_lines

abbrev pub all_three : List UserId
all_three = ann ∷ wall ∷ guest ∷ []

abbrev pub is_one : UserId → Bool
is_one = is_among all_three

-- the guests have what the file and the guest's line give, and no more
abbrev pub Granted : Type 0
Granted = InBoth (λ e.
    (are_done (fresh e own) setup ≡ true)
    × (are_done (begun e) guests_lines ≡ true)
    × (on_windows (let_in e) ann ≡ reads_and_types ∷ nothing ∷ [])
    × (on_windows (let_in e) wall ≡ reads ∷ nothing ∷ [])
    × (on_windows (let_in e) guest ≡ reads ∷ nothing ∷ []))

-- so the law applies to the three guests, and to each bit
abbrev pub AreGuestsThen : Type 0
AreGuestsThen = InBoth (λ e. AreGuests (let_in e) is_one)

abbrev pub AllShutOut : Type 0
AllShutOut = InBoth (λ e. (bit : Bit) → AreShutOut (let_in e) is_one bit)

-- the program of web1 ends. After web1 is opened again, none of the three has a bit on it; then
-- each gets what the file gives; the guest's line was for the window that is gone
abbrev pub Reopened : Type 0
Reopened = InBoth (λ e.
    (on_windows (opened (codes "web1") (closes 0 (let_in e))) ann ≡ nothing ∷ nothing ∷ [])
    × (on_windows (opened (codes "web1") (closes 0 (let_in e))) guest ≡ nothing ∷ nothing ∷ [])
    × (on_windows (web1 (closes 0 (let_in e))) ann ≡ nothing ∷ reads_and_types ∷ [])
    × (on_windows (web1 (closes 0 (let_in e))) wall ≡ nothing ∷ reads ∷ [])
    × (on_windows (web1 (closes 0 (let_in e))) guest ≡ nothing ∷ nothing ∷ []))

-- a user was made known by hand, without a mask; the mask before the next opening covers this user
abbrev pub carl : UserId
carl = user (codes "carl")

abbrev pub by_hand : Edition → Tables
by_hand e = by own (let_in e) (codes "aclchg carl +x next")

abbrev pub ByHand : Type 0
ByHand = InBoth (λ e.
    (on_windows (opens own (codes "web2") (closes 1 (by_hand e))) carl
    ≡ nothing ∷ (true ∷ true ∷ true ∷ []) ∷ [])
    × (on_windows (opened (codes "web2") (closes 1 (by_hand e))) carl ≡ nothing ∷ nothing ∷ []))
