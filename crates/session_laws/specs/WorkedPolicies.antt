-- Worked rows of the policies in contrib/policies: what their guests may do, computed from the
-- policies' lines.
use Rattle.std.specs.Prelude.{◌≡◌, ℕ, ◌-◌, Bool, true, false, ◌&&◌, List, [], ◌∷◌, ◌++◌, map, None}
use Rattle.std.specs.Prelude.{codes, replicate, length, is_ok}
use Rattle.std.specs.List.{filter}
use Rattle.acl.specs.declared.user_id.UserId.{UserId}
use Rattle.acl.specs.declared.leaders.Edition.{Edition}
use Rattle.acl.specs.declared.leaders.Edition.TheVariants.{First, Second}
use Rattle.acl.specs.declared.bits.Bit.TheVariants.{Read, Write, Execute}
use Rattle.acl.specs.declared.command_name.CommandName.{CommandName}
use Rattle.acl.specs.declared.command_name.CommandName.TheVariants as name
use Rattle.acl.specs.declared.act.Object.TheVariants as object
use Rattle.command_lang.specs.Names.{all_names}
use Rattle.session_model.specs.Trace.{Command, Open, Closed}
use Rattle.session_model.specs.Tables.{Tables, Window, fresh}
use Rattle.session_model.specs.Rights.{may_in}
use Rattle.session_model.specs.Events.{outcome}

abbrev pub user : List ℕ → UserId
user word = record { name = word ++ replicate (20 - length word) 0 }

abbrev pub own : UserId
own = user (codes "own")

-- the tables after a Command event that names no window
abbrev pub by : UserId → Tables → List ℕ → Tables
by who t line = (outcome t (Command who None line)).tables

-- the tables after these lines of a setup, or after later Command events, all of them the owner's
abbrev pub by_own : Tables → List (List ℕ) → Tables
by_own t [] = t
by_own t (line ∷ lines) = by_own (by own t line) lines

-- whether none of these lines is refused
abbrev pub are_done : Tables → List (List ℕ) → Bool
are_done t [] = true
are_done t (line ∷ lines) =
    is_ok (outcome t (Command own None line)).reply && are_done (by own t line) lines

abbrev pub opens : UserId → List ℕ → Tables → Tables
opens who title t = (outcome t (Open who 24 80 0 title)).tables

-- a user's r, w and x on each window, and the commands that the user may give
abbrev pub on_windows : Tables → UserId → List (List Bool)
on_windows t who =
    map (λ (w : Window). map (λ b. may_in t who b (object.Window w.serial))
    (Read ∷ Write ∷ Execute ∷ [])) t.windows

abbrev pub on_commands : Tables → UserId → List CommandName
on_commands t who = filter (λ c. may_in t who Execute (object.Command c)) all_names

abbrev pub nothing : List Bool
nothing = false ∷ false ∷ false ∷ []

abbrev pub reads : List Bool
reads = true ∷ false ∷ false ∷ []

abbrev pub reads_and_types : List Bool
reads_and_types = true ∷ true ∷ false ∷ []

abbrev pub all : List Bool
all = true ∷ true ∷ true ∷ []

-- a row that holds in both editions
abbrev pub InBoth : (Edition → Type 0) → Type 0
InBoth P = P First × P Second

abbrev pub closes : ℕ → Tables → Tables
closes window t = (outcome t (Closed window)).tables

-- ---- support

abbrev pub sue : UserId
sue = user (codes "sue")

abbrev pub support : List (List ℕ)
support =
    codes "multiuser on"
    ∷ codes "aclumask ?-rwx ??-x"
    ∷ codes "aclchg sue -rwx ?"
    ∷ codes "aclumask sue-rwx"
    ∷ codes "aclchg sue +x detach,next,prev,scrollview" ∷ []

-- then the owner opens shop, lets sue read it, opens letters, and lets sue type for a while
abbrev pub supported : Edition → Tables
supported e =
    opens own (codes "letters") (by own
    (opens own (codes "shop") (by_own (fresh e own) support)) (codes "aclchg sue +r shop"))

abbrev pub typing : Edition → Tables
typing e = by own (supported e) (codes "aclchg sue +w shop")

abbrev pub taken_back : Edition → Tables
taken_back e = by own (typing e) (codes "aclchg sue -w shop")

-- shop's program ends, and the owner opens shop again
abbrev pub shop_again : Edition → Tables
shop_again e = opens own (codes "shop") (closes 0 (typing e))

abbrev pub sues_commands : List CommandName
sues_commands = name.Detach ∷ name.Next ∷ name.Prev ∷ name.Scrollview ∷ []

abbrev pub Support : Edition → Type 0
Support e =
    (are_done (fresh e own) support ≡ true)
    × (on_windows (supported e) sue ≡ reads ∷ nothing ∷ [])
    × (on_windows (typing e) sue ≡ reads_and_types ∷ nothing ∷ [])
    × (on_windows (taken_back e) sue ≡ reads ∷ nothing ∷ [])
    × (on_windows (shop_again e) sue ≡ nothing ∷ nothing ∷ [])
    × (on_commands (taken_back e) sue ≡ sues_commands)

-- ---- class

abbrev pub pia : UserId
pia = user (codes "pia")

abbrev pub ben : UserId
ben = user (codes "ben")

abbrev pub kay : UserId
kay = user (codes "kay")

abbrev pub class : List (List ℕ)
class =
    codes "multiuser on"
    ∷ codes "aclumask ?-wx ??-x"
    ∷ codes "aclchg pia,ben,kay -rwx ?"
    ∷ codes "aclumask -wx"
    ∷ codes "aclchg pia,ben,kay +x detach,next,prev,scrollview" ∷ []

-- then the owner opens board and answers, gives the turn to pia, and later to ben
abbrev pub taught : Edition → Tables
taught e =
    opens own (codes "answers") (opens own (codes "board") (by_own (fresh e own) class))

abbrev pub turn_of : List ℕ → Tables → Tables
turn_of who t = by_own t (codes "aclchg * -w #" ∷ (codes "aclchg " ++ who ++ codes " +w board") ∷ [])

abbrev pub turn_of_pia : Edition → Tables
turn_of_pia e = turn_of (codes "pia") (taught e)

abbrev pub turn_of_ben : Edition → Tables
turn_of_ben e = turn_of (codes "ben") (turn_of_pia e)

-- board's program ends during ben's turn, and the owner opens board again
abbrev pub board_again : Edition → Tables
board_again e = opens own (codes "board") (closes 0 (turn_of_ben e))

abbrev pub Class : Edition → Type 0
Class e =
    (are_done (fresh e own) class ≡ true)
    × (on_windows (taught e) pia ≡ reads ∷ reads ∷ [])
    × (on_windows (turn_of_pia e) pia ≡ reads_and_types ∷ reads ∷ [])
    × (on_windows (turn_of_pia e) ben ≡ reads ∷ reads ∷ [])
    × (on_windows (turn_of_ben e) pia ≡ reads ∷ reads ∷ [])
    × (on_windows (turn_of_ben e) ben ≡ reads_and_types ∷ reads ∷ [])
    × (on_windows (turn_of_ben e) kay ≡ reads ∷ reads ∷ [])
    × (on_windows (board_again e) ben ≡ reads ∷ reads ∷ [])
    × (on_commands (turn_of_ben e) ben ≡ sues_commands)

-- ---- operators

abbrev pub ann : UserId
ann = user (codes "ann")

abbrev pub bob : UserId
bob = user (codes "bob")

abbrev pub jo : UserId
jo = user (codes "jo")

abbrev pub kim : UserId
kim = user (codes "kim")

abbrev pub ops : List (List ℕ)
ops =
    codes "multiuser on"
    ∷ codes "aclumask ?-wx ??-x"
    ∷ codes "acladd ann,bob"
    ∷ codes "aclchg ann,bob -x screen,acladd,aclchg,acldel,aclgrp"
    ∷ codes "aclchg jo,kim -wx ?"
    ∷ codes "aclumask jo,kim-wx"
    ∷ codes "aclchg jo,kim +x detach,select,next,prev,other,scrollview,windows" ∷ []

-- then ann and bob set their masks
abbrev pub both_mask : Edition → Tables
both_mask e =
    by bob (by ann (by_own (fresh e own) ops) (codes "aclumask jo,kim-wx"))
    (codes "aclumask jo,kim-wx")

-- the owner takes aclumask from ann and bob, gives them screen, and sets the presets again
abbrev pub taken : List (List ℕ)
taken =
    codes "aclchg ann,bob -x aclumask"
    ∷ codes "aclchg ann,bob +x screen"
    ∷ codes "aclumask ?-wx ??-x" ∷ []

abbrev pub masked : Edition → Tables
masked e = by_own (both_mask e) taken

-- then each of the three opens a window
abbrev pub operated : Edition → Tables
operated e =
    opens bob (codes "db") (opens ann (codes "web") (opens own (codes "log") (masked e)))

-- the program of ann's window ends, and ann opens the window again
abbrev pub web_again : Tables → Tables
web_again t = opens ann (codes "web") (closes 1 t)

abbrev pub may_change_rights : Tables → UserId → List CommandName
may_change_rights t who =
    filter (λ c. may_in t who Execute (object.Command c))
    (name.Acladd ∷ name.Aclchg ∷ name.Acldel ∷ name.Aclgrp ∷ name.Aclumask ∷ [])

abbrev pub Ops : Edition → Type 0
Ops e =
    (are_done (fresh e own) ops ≡ true)
    × (is_ok (outcome (by_own (fresh e own) ops) (Open ann 24 80 0 (codes "early"))).reply ≡ false)
    × (are_done (both_mask e) taken ≡ true)
    × (on_windows (operated e) jo ≡ reads ∷ reads ∷ reads ∷ [])
    × (on_windows (web_again (operated e)) kim ≡ reads ∷ reads ∷ reads ∷ [])
    × (on_commands (operated e) jo
    ≡ name.Detach ∷ name.Select ∷ name.Next ∷ name.Prev ∷ name.Other ∷ name.Scrollview
    ∷ name.Windows ∷ [])
    × (on_windows (operated e) ann ≡ all ∷ all ∷ all ∷ [])
    × (may_change_rights (operated e) ann ≡ [])
