-- Worked rows on write locks: whom they stop, and what frees them.
use Rattle.std.specs.Prelude.{◌≡◌, [], ◌∷◌, Some, codes}
use Rattle.acl.specs.declared.leaders.Edition.TheVariants.{Second}
use Rattle.acl.specs.declared.bits.Bit.TheVariants.{Write}
use Rattle.acl.specs.declared.act.LockMode.TheVariants.{Off, Auto, On}
use Rattle.command_lang.specs.declared.command.Command.TheVariants as command
use Rattle.session_model.specs.declared.event.Effect.TheVariants.{Input, Say, Gone}
use Rattle.session_model.specs.declared.event.Peer.TheVariants as peer
use Rattle.session_model.specs.declared.event.Reason.TheVariants.{Detached}
use Rattle.session_model.specs.Trace.{Keys, Detach}
use Rattle.session_model.specs.Tables.{Tables}
use Rattle.session_model.specs.Rights.{holder_in}
use Rattle.session_model.specs.Events.{outcome}
use Rattle.session_laws.specs.WorkedSetup.{own, eve, several, ordered, after, typed, changes, takes}
use Rattle.session_laws.specs.WorkedSetup.{gives, follows, then_comes, with_opened, why}
use Rattle.std.specs.Prelude.{◌++◌}

-- eve: writelock auto on window 2; the other tables: writelock on
abbrev pub auto : Tables
auto = (ordered (several Second) eve (Some 2) (command.Writelock Auto)).tables

abbrev pub locked : Tables
locked = (ordered (several Second) eve (Some 2) (command.Writelock On)).tables

-- aclchg eve -w+w 2
abbrev pub withdrawn : Tables
withdrawn = after auto (changes (codes "eve" ∷ []) (takes Write ++ gives Write) (codes "2" ∷ []))

-- aclchg bob -w 2, aclgrp bob ann
abbrev pub led : Tables
led =
    after (after auto (changes (codes "bob" ∷ []) (takes Write) (codes "2" ∷ [])))
    (follows (codes "bob") (codes "ann"))

-- eve: C-a 0; after that, bob: C-a 2
abbrev pub left : Tables
left = then_comes auto (Keys 3 (0x01 ∷ 0x30 ∷ []))

abbrev pub entered : Tables
entered = then_comes left (Keys 2 (0x01 ∷ 0x32 ∷ []))

-- eve: C-a 0, in mode on; after that, aclchg eve -w #
abbrev pub away : Tables
away = then_comes locked (Keys 3 (0x01 ∷ 0x30 ∷ []))

abbrev pub away_withdrawn : Tables
away_withdrawn = after away (changes (codes "eve" ∷ []) (takes Write) (codes "#" ∷ []))

-- ---- the rows

-- a lock stops other users
abbrev pub Stops : Type 0
Stops =
    typed auto 2 (codes "y") ≡ Say 2 (codes "denied: window 2 locked by eve") ∷ []

-- -w+w frees the lock
abbrev pub Frees : Type 0
Frees =
    typed withdrawn 2 (codes "z") ≡ Input 2 (codes "z") ∷ []

-- a lock stops the owner, too
abbrev pub StopsOwner : Type 0
StopsOwner =
    why (ordered auto own (Some 2) (command.Stuff (codes "z")))
    ≡ codes "denied: window 2 locked by eve"

-- a lock stops users whose leader may write
abbrev pub BeatsLeader : Type 0
BeatsLeader =
    typed led 2 (codes "y") ≡ Say 2 (codes "denied: window 2 locked by eve") ∷ []

-- in mode auto, leaving the window frees the lock
abbrev pub LeavingFrees : Type 0
LeavingFrees =
    typed left 2 (codes "x") ≡ Input 2 (codes "x") ∷ []

-- in mode auto, entering the window takes a free lock
abbrev pub EnteringTakes : Type 0
EnteringTakes =
    why (ordered entered own (Some 2) (command.Stuff (codes "y")))
    ≡ codes "denied: window 2 locked by bob"

-- a lock of another user isn't freed by leaving
abbrev pub OthersLock : Type 0
OthersLock =
    why (ordered entered own (Some 2) (command.Writelock Off))
    ≡ codes "denied: window 2 locked by bob"

-- in mode on, the lock stays when its holder leaves
abbrev pub Stays : Type 0
Stays =
    typed away 2 (codes "x") ≡ Say 2 (codes "denied: window 2 locked by eve") ∷ []

-- the lock is freed when w is taken from its holder
abbrev pub WithdrawnEverywhere : Type 0
WithdrawnEverywhere =
    typed away_withdrawn 2 (codes "x") ≡ Input 2 (codes "x") ∷ []

-- the lock is freed when the holder's last client goes
abbrev pub LastClient : Type 0
LastClient =
    ((outcome locked (Detach 3)).effects ≡ Gone (peer.Client 3) Detached ∷ [])
    × (typed (then_comes locked (Detach 3)) 2 (codes "x") ≡ Input 2 (codes "x") ∷ [])

-- `defwritelock on`
abbrev pub Default : Type 0
Default =
    holder_in (with_opened (after (several Second) (command.Defwritelock On))) 3 ≡ Some own
