-- Worked rows of a lock: eve holds the lock of window 2, and others take steps.
use Rattle.std.specs.Prelude.{◌≡◌, ℕ, false, List, [], ◌∷◌, Some, None, codes}
use Rattle.acl.specs.declared.leaders.Edition.TheVariants.{Second}
use Rattle.acl.specs.declared.bits.Bit.TheVariants.{Write}
use Rattle.acl.specs.declared.act.LockMode.TheVariants.{Off, On}
use Rattle.command_lang.specs.declared.command.Command.{Command as Order}
use Rattle.command_lang.specs.declared.command.Command.TheVariants as command
use Rattle.command_lang.specs.declared.command.Leader.TheVariants.{Nobody}
use Rattle.session_model.specs.Trace.{Closed, Attach, Keys}
use Rattle.session_model.specs.Tables.{Tables}
use Rattle.session_model.specs.Rights.{holder_in}
use Rattle.session_laws.specs.WorkedSetup.{own, bob, eve, several, ordered, after, changes, takes, follows, then_comes}

abbrev pub eves : List (List ℕ)
eves = codes "eve" ∷ []

abbrev pub two : List (List ℕ)
two = codes "2" ∷ []

-- eve: writelock on, on window 2
abbrev pub held : Tables
held = (ordered (several Second) eve (Some 2) (command.Writelock On)).tables

abbrev pub Holds : Type 0
Holds = holder_in held 2 ≡ Some eve

-- the tables after a command of own's on a window
abbrev pub on_window : Tables → ℕ → Order → Tables
on_window t n c = (ordered t own (Some n) c).tables

-- what frees the lock: the window's program ends; kill on it; quit; multiuser off; aclchg eve -w 2;
-- acldel eve
abbrev pub Freed : Type 0
Freed =
    (holder_in (then_comes held (Closed 2)) 2 ≡ None)
    × (holder_in (on_window held 2 command.Kill) 2 ≡ None)
    × (holder_in (after held command.Quit) 2 ≡ None)
    × (holder_in (after held (command.Multiuser false)) 2 ≡ None)
    × (holder_in (after held (changes eves (takes Write) two)) 2 ≡ None)
    × (holder_in (after held (command.Acldel (codes "eve"))) 2 ≡ None)

-- eve has w only by her leader ann, and holds window 2
abbrev pub led : Tables
led =
    (ordered (after (after (several Second) (follows (codes "eve") (codes "ann")))
    (changes eves (takes Write) two)) eve (Some 2) (command.Writelock On)).tables

-- what frees a lock that is held by a leader's entry: aclchg ann -w 2; aclgrp eve none; acldel ann
abbrev pub ByLeaders : Type 0
ByLeaders =
    (holder_in led 2 ≡ Some eve)
    × (holder_in (after led (changes (codes "ann" ∷ []) (takes Write) two)) 2 ≡ None)
    × (holder_in (after led (command.Aclgrp (codes "eve") (Some Nobody))) 2 ≡ None)
    × (holder_in (after led (command.Acldel (codes "ann"))) 2 ≡ None)

-- What leaves the lock to eve: another window closes or is killed; another user is removed, or
-- loses w; bob, who has w, and own give writelock; bob attaches once more, and shows another
-- window.
abbrev pub Keeps : Type 0
Keeps =
    (holder_in (then_comes held (Closed 0)) 2 ≡ Some eve)
    × (holder_in (on_window held 0 command.Kill) 2 ≡ Some eve)
    × (holder_in (after held (command.Acldel (codes "bob"))) 2 ≡ Some eve)
    × (holder_in (after held (changes (codes "bob" ∷ []) (takes Write) two)) 2 ≡ Some eve)
    × (holder_in (ordered held bob (Some 2) (command.Writelock On)).tables 2 ≡ Some eve)
    × (holder_in (on_window held 2 (command.Writelock Off)) 2 ≡ Some eve)
    × (holder_in (then_comes held (Attach bob 24 80)) 2 ≡ Some eve)
    × (holder_in (then_comes held (Keys 2 (0x01 ∷ 0x30 ∷ []))) 2 ≡ Some eve)

-- own holds window 2, and bob gives multiuser off
abbrev pub owned : Tables
owned = (ordered (several Second) own (Some 2) (command.Writelock On)).tables

abbrev pub OwnKeeps : Type 0
OwnKeeps =
    (holder_in owned 2 ≡ Some own)
    × (holder_in (ordered owned bob None (command.Multiuser false)).tables 2 ≡ Some own)
