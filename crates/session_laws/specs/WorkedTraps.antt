-- Worked rows of traps beside the policies: what goes wrong, and the lines that prevent it.
use Rattle.std.specs.Prelude.{◌≡◌, ℕ, true, false, List, [], ◌∷◌, Some, None, codes, length, is_ok}
use Rattle.acl.specs.declared.user_id.UserId.{UserId}
use Rattle.acl.specs.declared.leaders.Edition.{Edition}
use Rattle.acl.specs.declared.command_name.CommandName.TheVariants as name
use Rattle.command_lang.specs.Names.{all_names}
use Rattle.session_model.specs.declared.event.Effect.TheVariants.{Input}
use Rattle.session_model.specs.Trace.{Command, Attach, Detach, Output}
use Rattle.session_model.specs.Tables.{Tables, fresh}
use Rattle.session_model.specs.Rights.{holder_in}
use Rattle.session_model.specs.Events.{outcome}
use Rattle.session_laws.specs.WorkedPolicies.{user, own, by, by_own, opens, closes, on_windows, on_commands, nothing}
use Rattle.session_laws.specs.WorkedPolicies.{reads, reads_and_types, all, sue, pia, ann, bob, jo, taught, both_mask}
use Rattle.session_laws.specs.WorkedPolicies.{operated, web_again, typing}

-- the tables after a Command event for the window with this number
abbrev pub at : UserId → ℕ → List ℕ → Tables → Tables
at who number line t = (outcome t (Command who (Some number) line)).tables

abbrev pub is_done : UserId → ℕ → List ℕ → Tables → Type 0
is_done who number line t = is_ok (outcome t (Command who (Some number) line)).reply ≡ true

abbrev pub is_refused : UserId → ℕ → List ℕ → Tables → Type 0
is_refused who number line t = is_ok (outcome t (Command who (Some number) line)).reply ≡ false

abbrev pub attaches : UserId → Tables → Tables
attaches who t = (outcome t (Attach who 24 80)).tables

-- ---- a user who becomes known after the masks were set

abbrev pub lee : UserId
lee = user (codes "lee")

-- the owner lets lee watch, with the lines of mux-guest
abbrev pub lets_in : List (List ℕ)
lets_in =
    codes "aclchg lee -wx #?"
    ∷ codes "aclumask lee-wx"
    ∷ codes "aclchg lee -wx #"
    ∷ codes "aclchg lee +x detach,next,prev" ∷ []

abbrev pub late : Edition → Tables
late e = by_own (operated e) lets_in

-- the owner lends ann and bob aclumask, both mask lee, and the owner takes aclumask back and sets
-- the presets
abbrev pub late_masked : Edition → Tables
late_masked e =
    by_own
    (by bob (by ann (by own (late e) (codes "aclchg ann,bob +x aclumask")) (codes "aclumask lee-wx"))
    (codes "aclumask lee-wx"))
    (codes "aclchg ann,bob -x aclumask" ∷ codes "aclumask ?-wx ??-x" ∷ [])

-- after ann opens her window again, lee may do everything there, unless ann masks lee, too
abbrev pub LateComers : Edition → Type 0
LateComers e =
    (on_windows (late e) lee ≡ reads ∷ reads ∷ reads ∷ [])
    × (on_windows (web_again (late e)) lee ≡ reads ∷ reads ∷ all ∷ [])
    × (on_windows (web_again (late e)) jo ≡ reads ∷ reads ∷ reads ∷ [])
    × (on_windows (web_again (late_masked e)) lee ≡ reads ∷ reads ∷ reads ∷ [])

-- fay, a pupil who comes after the class began, without a mask and with one
abbrev pub fay : UserId
fay = user (codes "fay")

abbrev pub unmasked : Edition → Tables
unmasked e = by own (taught e) (codes "aclchg fay +x detach,next,prev,scrollview")

abbrev pub Pupil : Edition → Type 0
Pupil e =
    (on_windows (opens own (codes "later") (unmasked e)) fay ≡ reads ∷ reads ∷ all ∷ [])
    × (on_windows (opens own (codes "later") (by own (unmasked e) (codes "aclumask fay-wx"))) fay
    ≡ reads ∷ reads ∷ reads ∷ [])

-- support without its second line, given live: a window that opens before the mask is set is sue's,
-- too
abbrev pub between : Edition → Tables
between e =
    by own
    (opens own (codes "letters") (by_own (fresh e own)
    (codes "multiuser on" ∷ codes "aclumask ?-rwx ??-x" ∷ codes "aclchg sue +x detach" ∷ [])))
    (codes "aclumask sue-rwx")

abbrev pub Between : Edition → Type 0
Between e =
    (on_windows (between e) sue ≡ all ∷ [])
    × (on_windows (by own (between e) (codes "aclchg sue -rwx #")) sue ≡ nothing ∷ [])

-- ---- presets

-- ann sets presets while ann has x on aclumask; later the owner sets them again, or doesn't
abbrev pub planted : Edition → Tables
planted e = by own (by ann (both_mask e) (codes "aclumask ?+rwx ??+x")) (codes "aclchg ann,bob -x aclumask")

abbrev pub lees : Tables → Tables
lees t = by own (opens own (codes "log") t) (codes "aclchg lee +x next")

abbrev pub Presets : Edition → Type 0
Presets e =
    (on_commands (lees (planted e)) lee ≡ all_names)
    × (on_windows (lees (planted e)) lee ≡ all ∷ [])
    × (on_commands (lees (by own (planted e) (codes "aclumask ?-wx ??-x"))) lee ≡ name.Next ∷ [])
    × (on_windows (lees (by own (planted e) (codes "aclumask ?-wx ??-x"))) lee ≡ reads ∷ [])

-- ---- a user who is removed

abbrev pub removed : Edition → Tables
removed e = by own (operated e) (codes "acldel ann")

-- ann's window stays open, its program goes on printing and reads what bob types; kill ends it
abbrev pub Removed : Edition → Type 0
Removed e =
    (length (removed e).windows ≡ 3)
    × (is_ok (outcome (removed e) (Output 1 (codes "password: "))).reply ≡ true)
    × ((outcome (removed e) (Command bob (Some 1) (codes "stuff x"))).effects ≡ Input 1 (codes "x") ∷ [])
    × (length (at own 1 (codes "kill") (removed e)).windows ≡ 2)

-- ann comes back and opens windows: the masks that ann gave are forgotten until ann gives them
-- again
abbrev pub back : Edition → Tables
back e = by own (removed e) (codes "aclchg ann +x screen,aclumask")

abbrev pub Back : Edition → Type 0
Back e =
    (on_windows (opens ann (codes "new") (back e)) jo ≡ reads ∷ reads ∷ reads ∷ all ∷ [])
    × (on_windows (opens ann (codes "new") (by ann (back e) (codes "aclumask jo,kim-wx"))) jo
    ≡ reads ∷ reads ∷ reads ∷ reads ∷ [])

-- ---- single-user mode

abbrev pub single : Edition → Tables
single e = by own (operated e) (codes "multiuser off")

-- in single-user mode known users still give commands, ann ends the mode, and the owner can remove
-- nobody
abbrev pub Single : Edition → Type 0
Single e =
    ((outcome (single e) (Command ann (Some 0) (codes "stuff x"))).effects ≡ Input 0 (codes "x") ∷ [])
    × is_refused own 0 (codes "acldel ann") (single e)
    × is_done ann 0 (codes "multiuser on") (single e)
    × is_refused ann 0 (codes "multiuser on") (by own (operated e) (codes "aclchg ann -x multiuser"))

-- ---- locks

-- in mode auto, sue, who has only w, takes the lock of shop when the owner leaves the window, and
-- keeps it as long as a client of sue's stays there
abbrev pub parked : Edition → Tables
parked e =
    attaches own (attaches sue
    ((outcome (at own 0 (codes "writelock auto") (attaches own (typing e))) (Detach 0)).tables))

abbrev pub Parked : Edition → Type 0
Parked e =
    (holder_in (parked e) 0 ≡ Some sue)
    × is_refused own 0 (codes "stuff x") (parked e)
    × is_refused own 0 (codes "writelock off") (parked e)
    × (holder_in (by own (parked e) (codes "aclchg sue -w shop")) 0 ≡ None)

-- after ann's defwritelock, a window that bob opens is locked by bob, who has no client there
abbrev pub locked : Edition → Tables
locked e = opens bob (codes "new") (by ann (operated e) (codes "defwritelock on"))

abbrev pub Locked : Edition → Type 0
Locked e =
    (holder_in (locked e) 3 ≡ Some bob)
    × is_refused own 3 (codes "stuff x") (locked e)
    × (holder_in (by own (locked e) (codes "aclchg bob -w new")) 3 ≡ None)

-- ---- a user who opens a window chooses its title, and gets the lowest free number

abbrev pub gil : UserId
gil = user (codes "gil")

-- gil has only x on screen: window 0 ends, and gil opens a window with the title shop, which gets
-- number 0
abbrev pub misled : Edition → Tables
misled e =
    by_own (opens gil (codes "shop") (closes 0
    (opens own (codes "shop") (opens own (codes "web") (by_own (fresh e own)
    (codes "multiuser on" ∷ codes "aclumask ?-rwx ??-x" ∷ codes "aclchg gil +x screen" ∷ []))))))
    (codes "aclchg bob -rwx #?" ∷ codes "aclchg bob +w shop" ∷ [])

abbrev pub Misled : Edition → Type 0
Misled e =
    on_windows (misled e) bob ≡ nothing ∷ (false ∷ true ∷ false ∷ []) ∷ []

-- ---- the pen, a role: users in its group may type on windows that open later, and have no x there

abbrev pub pens : Edition → Tables
pens e =
    opens own (codes "later") (by_own (taught e)
    (codes "aclchg pen -rwx #?" ∷ codes "aclumask pen+w-x" ∷ codes "aclchg * -w #"
    ∷ codes "aclchg pen +w #" ∷ codes "aclgrp pia pen" ∷ []))

abbrev pub Pens : Edition → Type 0
Pens e =
    (on_windows (pens e) pia ≡ reads_and_types ∷ reads_and_types ∷ reads_and_types ∷ [])
    × (on_windows (by own (pens e) (codes "aclgrp pia none")) pia ≡ reads ∷ reads ∷ reads ∷ [])
