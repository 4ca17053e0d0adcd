-- Worked rows on windows and clients.
use Rattle.std.specs.Prelude.{◌≡◌, false, [], ◌∷◌, Some, None, Err, codes, map}
use Rattle.std.specs.List.{range_with_len}
use Rattle.acl.specs.declared.leaders.Edition.TheVariants.{Second}
use Rattle.command_lang.specs.declared.command.Command.TheVariants as command
use Rattle.session_model.specs.declared.event.Effect.TheVariants.{Input, Say, Gone}
use Rattle.session_model.specs.declared.event.Peer.TheVariants as peer
use Rattle.session_model.specs.declared.event.Reason.TheVariants as reason
use Rattle.session_model.specs.declared.refusal.Refusal.TheVariants.{NotMultiuser, UnknownUser}
use Rattle.session_model.specs.declared.refusal.Refusal.TheVariants.{BadSize, NoWindow, Windows}
use Rattle.session_model.specs.rows.WindowsFault.TheVariants as fault
use Rattle.session_model.specs.Trace.{Keys, Attach, Open, Resize}
use Rattle.session_model.specs.Tables.{Tables}
use Rattle.session_model.specs.Events.{outcome}
use Rattle.session_model.specs.Comings.{new_window}
use Rattle.session_laws.specs.WorkedSetup.{user, own, bob, window, several, ordered, after, typed, then_comes, listed}

-- 40 windows
abbrev pub full : Tables
full = record (several Second) { windows = map (λ n. window n (codes "w")) (range_with_len 0 40) }

-- after window 2 is killed; after multiuser off
abbrev pub killed : Tables
killed = (ordered (several Second) own (Some 2) command.Kill).tables

abbrev pub single : Tables
single = after (several Second) (command.Multiuser false)

-- ---- the rows

-- beyond 40 windows none opens
abbrev pub NoMore : Type 0
NoMore =
    ((outcome full (Open own 24 80 0 (codes "w"))).reply ≡ Err (Windows fault.Full))
    × ((outcome full (Open own 24 80 0 (codes "w"))).tables ≡ full)

-- `kill`
abbrev pub Kill : Type 0
Kill =
    (ordered (several Second) own (Some 2) command.Kill).effects ≡ Gone (peer.Window 2) reason.Killed ∷ []

-- a closed window leaves its regions empty
abbrev pub NoneInFocus : Type 0
NoneInFocus =
    typed killed 2 (codes "x") ≡ Say 2 (codes "no window") ∷ []

-- a new window gets the number of a closed one, but a new serial
abbrev pub NewSerial : Type 0
NewSerial =
    ((new_window killed 24 80 0 (codes "w")).serial ≡ 3)
    × ((new_window killed 24 80 0 (codes "w")).number ≡ 2)

-- `number 1` of window 2
abbrev pub NumberTaken : Type 0
NumberTaken =
    (ordered (several Second) own (Some 2) (command.Number 1)).reply
    ≡ Err (Windows fault.NumberTaken)

-- `select 0` without a client
abbrev pub NoClient : Type 0
NoClient =
    (ordered (several Second) own None (command.Select (codes "0"))).reply ≡ Err NoWindow

-- `windows`
abbrev pub WindowList : Type 0
WindowList =
    listed (ordered (several Second) own None command.Windows)
    ≡ Some (codes "0 zero  1 one  2 two")

-- `displays`
abbrev pub ClientList : Type 0
ClientList =
    listed (ordered (several Second) own None command.Displays)
    ≡ Some (codes "0 own 0  1 ann 0  2 bob 2  3 eve 2")

-- `a`, C-a n, `b`: bytes go to the window in focus
abbrev pub KeysInSteps : Type 0
KeysInSteps =
    (typed (several Second) 0 (0x61 ∷ 0x01 ∷ 0x6E ∷ 0x62 ∷ []) ≡ Input 0 (codes "a") ∷ [])
    × (typed (then_comes (several Second) (Keys 0 (0x61 ∷ 0x01 ∷ 0x6E ∷ 0x62 ∷ []))) 0 (codes "b")
    ≡ Input 1 (codes "b") ∷ [])

-- the bytes go to the same windows if the keys are cut
abbrev pub KeysCut : Type 0
KeysCut =
    (typed (several Second) 0 (0x61 ∷ 0x01 ∷ []) ≡ Input 0 (codes "a") ∷ [])
    × (typed (then_comes (then_comes (several Second) (Keys 0 (0x61 ∷ 0x01 ∷ [])))
    (Keys 0 (0x6E ∷ []))) 0 (codes "b") ≡ Input 1 (codes "b") ∷ [])

-- `multiuser off`
abbrev pub SingleUser : Type 0
SingleUser =
    (ordered (several Second) own None (command.Multiuser false)).effects
    ≡ Gone (peer.Client 1) reason.SingleUser ∷ Gone (peer.Client 2) reason.SingleUser
    ∷ Gone (peer.Client 3) reason.SingleUser ∷ []

-- in single-user mode other users can't attach
abbrev pub NotLetIn : Type 0
NotLetIn =
    (outcome single (Attach bob 4 20)).reply ≡ Err NotMultiuser

-- a user who isn't known can't attach
abbrev pub Unknown : Type 0
Unknown =
    (outcome (several Second) (Attach (user (codes "cat")) 4 20)).reply ≡ Err UnknownUser

-- a terminal has at least 4 lines
abbrev pub TooSmall : Type 0
TooSmall =
    (outcome (several Second) (Resize 2 3 20)).reply ≡ Err BadSize

-- `wall hi` of bob
abbrev pub Wall : Type 0
Wall =
    (ordered (several Second) bob None (command.Wall (codes "hi"))).effects
    ≡ Say 0 (codes "bob: hi") ∷ Say 1 (codes "bob: hi")
    ∷ Say 2 (codes "bob: hi") ∷ Say 3 (codes "bob: hi") ∷ []

-- `stuff hi`
abbrev pub Stuff : Type 0
Stuff =
    (ordered (several Second) own (Some 0) (command.Stuff (codes "hi"))).effects
    ≡ Input 0 (codes "hi") ∷ []
