-- Worked rows on the rights of several users: entries, leaders, masks and presets.
use Rattle.std.specs.Prelude.{◌≡◌, ℕ, true, false, List, [], ◌∷◌, ◌++◌, Some, None, Err, codes}
use Rattle.acl.specs.declared.leaders.Edition.TheVariants.{First, Second}
use Rattle.acl.specs.declared.bits.Bit.TheVariants.{Read, Write, Execute}
use Rattle.acl.specs.declared.act.Object.TheVariants as object
use Rattle.acl.specs.declared.entries.AclFault.TheVariants as fault
use Rattle.command_lang.specs.declared.command.Command.TheVariants as command
use Rattle.command_lang.specs.declared.command.Mask.{Mask}
use Rattle.command_lang.specs.declared.command.Users.TheVariants.{Listed}
use Rattle.session_model.specs.declared.event.Effect.TheVariants.{Input, Say, Gone}
use Rattle.session_model.specs.declared.event.Peer.TheVariants as peer
use Rattle.session_model.specs.declared.event.Reason.TheVariants as reason
use Rattle.session_model.specs.declared.refusal.Refusal.TheVariants.{Acl}
use Rattle.session_model.specs.Trace.{Keys}
use Rattle.session_model.specs.Outcomes.{Outcome}
use Rattle.command_lang.specs.declared.command.Command.{Command as Order}
use Rattle.session_model.specs.Tables.{Tables}
use Rattle.session_model.specs.Rights.{may_in}
use Rattle.session_laws.specs.WorkedSetup.{user, own, bob, several, ordered, after, typed, changes, takes}
use Rattle.session_laws.specs.WorkedSetup.{gives, follows, then_comes, with_opened, why, listed}

-- aclchg bob -w 2
abbrev pub without_w : Tables
without_w = after (several Second) (changes (codes "bob" ∷ []) (takes Write) (codes "2" ∷ []))

-- aclchg bob -w 2, then aclgrp bob ann; after that, aclchg ann -w 2
abbrev pub led : Tables
led = after without_w (follows (codes "bob") (codes "ann"))

abbrev pub led_without_w : Tables
led_without_w = after led (changes (codes "ann" ∷ []) (takes Write) (codes "2" ∷ []))

-- aclchg bob,ann -w 2, aclgrp bob ann, aclgrp bob eve
abbrev pub led_by_two : Tables
led_by_two =
    after (after (after (several Second)
    (changes (codes "bob" ∷ codes "ann" ∷ []) (takes Write) (codes "2" ∷ [])))
    (follows (codes "bob") (codes "ann"))) (follows (codes "bob") (codes "eve"))

abbrev pub two_without_w : Tables
two_without_w = after led_by_two (changes (codes "eve" ∷ []) (takes Write) (codes "2" ∷ []))

-- in the first edition: the commands of `led_by_two`, then aclgrp bob ann
abbrev pub led_once : Tables
led_once =
    after (after (after (after (several First)
    (changes (codes "bob" ∷ codes "ann" ∷ []) (takes Write) (codes "2" ∷ [])))
    (follows (codes "bob") (codes "ann"))) (follows (codes "bob") (codes "eve")))
    (follows (codes "bob") (codes "ann"))

-- aclchg bob -x kill; the other tables: aclchg bob +x-r kill, aclchg bob -x 0
abbrev pub without_kill : Tables
without_kill =
    after (several Second) (changes (codes "bob" ∷ []) (takes Execute) (codes "kill" ∷ []))

abbrev pub without_x : Tables
without_x =
    after (after without_kill
    (changes (codes "bob" ∷ []) (gives Execute ++ takes Read) (codes "kill" ∷ [])))
    (changes (codes "bob" ∷ []) (takes Execute) (codes "0" ∷ []))

-- a mask that takes w
abbrev pub mask_of : List ℕ → Mask
mask_of word = record { users = Some (Listed (word ∷ [])); bits = takes Write }

-- aclumask bob-w, then a window opens
abbrev pub masked : Tables
masked =
    with_opened (after (several Second) (command.Aclumask (mask_of (codes "bob") ∷ [])))

-- aclumask ?-w, then aclchg cat +x kill
abbrev pub preset : Tables
preset =
    after (after (several Second) (command.Aclumask (mask_of (codes "?") ∷ [])))
    (changes (codes "cat" ∷ []) (gives Execute) (codes "kill" ∷ []))

-- ---- the rows

-- the denial names the entry that is missing
abbrev pub Denied : Type 0
Denied =
    typed without_w 2 (codes "x") ≡ Say 2 (codes "denied: w on window 2: entry bob -w") ∷ []

-- a denial is said once for all bytes of a step
abbrev pub Once : Type 0
Once =
    typed without_w 2 (codes "xy") ≡ Say 2 (codes "denied: w on window 2: entry bob -w") ∷ []

-- a leader's entry lets a user type
abbrev pub ByLeader : Type 0
ByLeader =
    typed led 2 (codes "x") ≡ Input 2 (codes "x") ∷ []

-- a leader whose entry is missing is named, too
abbrev pub LeaderDenied : Type 0
LeaderDenied =
    typed led_without_w 2 (codes "x")
    ≡ Say 2 (codes "denied: w on window 2: entry bob -w; leader ann -w") ∷ []

-- the entry of any leader lets a user type
abbrev pub SecondLeader : Type 0
SecondLeader =
    typed led_by_two 2 (codes "x") ≡ Input 2 (codes "x") ∷ []

-- all leaders whose entries are missing are named, in their order
abbrev pub TwoDenied : Type 0
TwoDenied =
    typed two_without_w 2 (codes "x")
    ≡ Say 2 (codes "denied: w on window 2: entry bob -w; leader ann -w; leader eve -w") ∷ []

-- in the first edition, only the last leader counts
abbrev pub FirstEdition : Type 0
FirstEdition =
    typed led_once 2 (codes "x")
    ≡ Say 2 (codes "denied: w on window 2: entry bob -w; leader ann -w") ∷ []

-- `aclgrp bob`
abbrev pub NoLeader : Type 0
NoLeader =
    listed (ordered (several Second) own None (command.Aclgrp (codes "bob") None))
    ≡ Some (codes "bob: none")

-- the list of bob's two leaders
abbrev pub Leaders : Type 0
Leaders =
    listed (ordered led_by_two own None (command.Aclgrp (codes "bob") None))
    ≡ Some (codes "bob: ann,eve")

-- the list without a leader who was removed
abbrev pub LeaderRemoved : Type 0
LeaderRemoved =
    listed (ordered (after led_by_two (command.Acldel (codes "ann"))) own None
    (command.Aclgrp (codes "bob") None)) ≡ Some (codes "bob: eve")

-- `acldel bob`: bob's client goes
abbrev pub Removed : Type 0
Removed =
    (ordered (several Second) own None (command.Acldel (codes "bob"))).effects
    ≡ Gone (peer.Client 2) reason.Removed ∷ []

-- `acldel own`: the owner isn't removed, and nothing changes
abbrev pub OwnerKept : Type 0
OwnerKept =
    let o : Outcome = ordered (several Second) own None (command.Acldel (codes "own")) in
    (o.reply ≡ Err (Acl fault.OwnerKept)) × (o.effects ≡ []) × (o.tables ≡ several Second)

-- `aclchg bob,own -r 0`: a list that names the owner changes nothing
abbrev pub AllOrNothing : Type 0
AllOrNothing =
    let both : Order = changes (codes "bob" ∷ codes "own" ∷ []) (takes Read) (codes "0" ∷ []) in
    let o : Outcome = ordered (several Second) own None both in
    (o.reply ≡ Err (Acl fault.OwnerKept)) × (o.effects ≡ []) × (o.tables ≡ several Second)

-- a command needs x on itself
abbrev pub NoKill : Type 0
NoKill =
    (typed without_kill 2 (0x01 ∷ 0x6B ∷ [])
    ≡ Say 2 (codes "denied: x on kill: entry bob -x") ∷ [])
    × ((then_comes without_kill (Keys 2 (0x01 ∷ 0x6B ∷ []))).windows ≡ (several Second).windows)

-- a command needs x on its window
abbrev pub NoKillThere : Type 0
NoKillThere =
    why (ordered without_x bob (Some 0) command.Kill)
    ≡ codes "denied: x on window 0: entry bob -x"

-- what a mask gives on a later window
abbrev pub LaterWindow : Type 0
LaterWindow =
    (may_in masked bob Read (object.Window 3) ≡ true)
    × (may_in masked bob Execute (object.Window 3) ≡ true)
    × (may_in masked bob Write (object.Window 3) ≡ false)

-- what a preset gives to a later name
abbrev pub LaterName : Type 0
LaterName =
    why (ordered preset (user (codes "cat")) (Some 0) (command.Stuff (codes "x")))
    ≡ codes "denied: w on window 0: entry cat -w"
