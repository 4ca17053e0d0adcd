-- One turn of a loop with what it has around it, and its last ones.
use Rattle.std.specs.Prelude.{◌≡◌, ◌≢◌, ◌⊎◌, ◌↔◌, ◌&&◌, ◌||◌, ℕ, Bool, true, false, Option, Some, None}
use Rattle.std.specs.Prelude.{Result, Ok, Err, ⊤, [], is_some, not, option_map}
use Rattle.std.specs.Duration.{as_nanos}
use Rattle.std.specs.Option.{option_or}
use Rattle.std.specs.declared.io.Error.{Error}
use Rattle.std.specs.declared.time.Duration.{Duration}
use Rattle.slab.specs.Slab.{slab_len}
use Rattle.server_connections.specs.declared.peer.Awaits.TheVariants as awaited
use Rattle.server_connections.specs.declared.peer_stream.PeerStream.{Ghosts as Streams}
use Rattle.server_pace.specs.Pacing.{drawn_by, much_by, paced}
use Rattle.server_seat.specs.declared.seat.ServerEnd.{ServerEnd}
use Rattle.server_seat.specs.declared.seat.SessionSeat.{Ghosts as Calls}
use Rattle.server_steps.specs.Ending.{EachKey, seen_at}
use Rattle.server_steps.specs.declared.submitted.Submitted.{Submitted}
use Rattle.server_steps.specs.declared.turns.Reads.{Reads}
use Rattle.server_steps.specs.declared.turns.Writes.{Writes}
use Rattle.server_loop.specs.Awaiting.{AnyAwaits}
use Rattle.server_loop.specs.Leaving.{IfBool}
use Rattle.server_loop.specs.Serving.{ReadsAll}
use Rattle.server_loop.specs.Submitting.{State}
use Rattle.server_loop.specs.Turning.{EndsTurn, Expires, Finishes}
use Rattle.server_loop.specs.Walking.{VisitsAll}
use Rattle.server_turns.specs.Calls.{Call, Ask, Await, Close, End, Flood, Flooded, Know, Now, Pause, Tell, Wake}
use Rattle.server_turns.specs.Course.{Course}
use Rattle.server_turns.specs.Steps.{Many, Until}
use Rattle.server_turns.specs.Waits.{is_late}
use Rattle.server_turns.specs.declared.around.Learned.{Learned}

module _ {S J : Type 0} where
  -- what a loop knows of who may connect, after it learned this
  abbrev pub learned : Option Learned → State S J → State S J
  learned None s = s
  learned (Some known) s = record s { looked = Some known.look; users = option_or known.users s.users }

module _ {S J A : Type 0} where
  -- it is known by now whether much comes to the loop
  abbrev pub with_much : Option Duration → Bool → Course S J A → Course S J A
  with_much now much s = record s { pace = record s.pace { much = much_by now much s.pace.much } }

  module _ (does : A → Call → A → Type 0) where
    -- It was noted whether much comes to the loop. If that changed, it was counted once among those to which much
    -- comes, or isn't any more.
    abbrev pub Notes : Option Duration → Bool → Course S J A → Bool → Course S J A → Type 0
    Notes now much old changed new =
        ((changed ≡ false) ↔ (is_some (much_by now much old.pace.much) ≡ is_some old.pace.much))
        × IfBool changed (does old.around (Flood (is_some (much_by now much old.pace.much))) new.around
        × (new ≡ record (with_much now much old) { around = new.around })) (new ≡ with_much now much old)

    -- it is known whether draws wait, by whether much comes to any loop
    abbrev pub Holds : Option Duration → Bool → Course S J A → Bool → Course S J A → Type 0
    Holds now echo old holds new = (flooded : Bool) × does old.around (Flooded flooded) old.around
        × (new ≡ record old { pace = paced flooded now echo old.pace }) × (holds ≡ is_some new.pace.since)

    -- what is known of who may connect was asked for, once; the loop takes users that it hasn't
    abbrev pub Learns : Course S J A → Course S J A → Type 0
    Learns old new = (known : Option Learned) × does old.around (Know old.count known new.count) new.around
        × (new ≡ record old { own = learned known old.own; around = new.around; count = new.count })

    -- it was if a message waits; then looks that end from now on wake the loop
    abbrev pub Looks : Course S J A → Course S J A → Type 0
    Looks old new = (waits : Bool) × AnyAwaits awaited.Ration old.own waits
        × IfBool waits ((mid : A) × does old.around Await mid × Learns (record old { around = mid }) new) (new ≡ old)

    -- first messages that waited for a look that nobody asked for wait for one that was asked for now
    abbrev pub AsksLook : Course S J A → Course S J A → Type 0
    AsksLook old new = (mid : A) × does old.around Await mid × (look : ℕ) × does mid (Ask look) new.around
        × EachKey (λ key was now. now ≡ seen_at look key was) old.own.connections.peers.capacity 0
        old.own.connections new.own.connections
        × (new ≡ record old { around = new.around; own = record old.own { connections = new.own.connections } })

    -- a look was asked for if one waits so
    abbrev pub Asks : Course S J A → Course S J A → Type 0
    Asks old new = (waits : Bool) × AnyAwaits awaited.Look old.own waits
        × IfBool waits (AsksLook old new) (new ≡ old)

    -- The other loops were woken for a step that may be more than a draw, or for news. While much comes to this one
    -- they weren't for output.
    abbrev pub WakesIf : Submitted → Bool → Course S J A → Result ⊤ Error → Course S J A → Type 0
    WakesIf submitted news old result new =
        IfBool (news || (submitted.has_acted || (submitted.is_some && not (is_some old.pace.much))))
        (does old.around (Wake result) new.around × (new ≡ record old { around = new.around }))
        ((result ≡ Ok tt) × (new ≡ old))

    -- a turn's reads ended: if the others could be woken, it is known whether draws wait
    abbrev pub EndsReads : Option Duration → Reads → Course S J A → Result Bool Error → Course S J A → Type 0
    EndsReads now reads old (Ok holds) new = (mid : Course S J A) × (news : Bool)
        × Notes now reads.is_much old news mid × (woken : Course S J A)
        × WakesIf reads.submitted news mid (Ok tt) woken × Holds now reads.has_typed woken holds new
    EndsReads now reads old (Err error) new = (mid : Course S J A) × (news : Bool)
        × Notes now reads.is_much old news mid × WakesIf reads.submitted news mid (Err error) new

    abbrev pub EndsWrites : Option Duration → Writes → Course S J A → Result ⊤ Error → Course S J A → Type 0
    EndsWrites now writes old result new =
        WakesIf writes.submitted false (record old { pace = drawn_by now writes.drawn old.pace }) result new

    -- what happened was told to the log, all of it and once
    abbrev pub Tells : Course S J A → Course S J A → Type 0
    Tells old new = does old.around (Tell old.own.news) new.around
        × (new ≡ record old { around = new.around; own = record old.own { news = [] } })

    -- the server ends, if it is to
    abbrev pub EndsServer : Option ServerEnd → Course S J A → Result ⊤ Error → Course S J A → Type 0
    EndsServer None old result new = (result ≡ Ok tt) × (new ≡ old)
    EndsServer (Some end) old result new =
        does old.around (End end result) new.around × (new ≡ record old { around = new.around })

    -- unless the other loops can't be woken, what happened was told, and the server ends if it is to
    abbrev pub EndsBy : Result ⊤ Error → Option ServerEnd → Course S J A → Result ⊤ Error → Course S J A → Type 0
    EndsBy (Err error) end old result new = (result ≡ Err error) × (new ≡ old)
    EndsBy (Ok done) end old result new =
        (mid : Course S J A) × Tells old mid × EndsServer end mid result new

  module _ (calls : Calls J) (streams : Streams S) (does : A → Call → A → Type 0) where
    -- a loop's turn ended, once, and the others were woken for what it brought
    pub record Ends (now : Option Duration) (holds : Bool) (old : Course S J A) (result : Result ⊤ Error)
        (new : Course S J A)
        : Type 0 where
      pub writes : Writes
      pub ended : State S J
      pub ends : EndsTurn calls streams holds old.own writes ended
      pub woken : Result ⊤ Error
      pub mid : Course S J A
      pub wakes : EndsWrites does now writes (record old { own = ended }) woken mid
      pub after : EndsBy does woken writes.end mid result new

    -- unless the other loops can't be woken, connections that were waited for too long went, and the turn ended
    abbrev pub EndsFrom : Result Bool Error → Option Duration → Course S J A → Result ⊤ Error → Course S J A → Type 0
    EndsFrom (Err error) now old result new = (result ≡ Err error) × (new ≡ old)
    EndsFrom (Ok holds) now old result new = (expired : State S J)
        × VisitsAll (Expires old.own.now) old.own expired
        × Ends now holds (record old { own = expired }) result new

    -- The users who may connect were taken if a message waits, and the time was told to the trail's file, once. All
    -- that is awake was read and served, once. A look at the users' file was asked for if a first message waits for
    -- it, and the others were woken for what this brought.
    pub record ReadsTurn (now : Option Duration) (old : Course S J A) (held : Result Bool Error) (new : Course S J A)
        : Type 0 where
      pub looked : Course S J A
      pub looks : Looks does old looked
      pub timed : J
      pub times : calls.sets_time looked.own.seat timed
      pub reads : Reads
      pub read : State S J
      pub reads_all : ReadsAll calls streams (record looked.own { seat = timed }) reads read
      pub asked : Course S J A
      pub asks : Asks does (record looked { own = read }) asked
      pub holds : EndsReads does now reads asked held new

    -- one turn: what came was read, and then the turn ended
    abbrev pub Turns : Option Duration → Course S J A → Result ⊤ Error → Course S J A → Type 0
    Turns now old result new = (held : Result Bool Error) × (mid : Course S J A) × ReadsTurn now old held mid
        × EndsFrom held now mid result new

    -- the peers had their time to read how the server ends
    abbrev pub AreLate : ℕ → Course S J A → Type 0
    AreLate count at = (now : Option Duration) × does at.around (Now now) at.around
        × (is_late (option_map as_nanos at.ended) (option_map as_nanos now) count ≡ true)

    -- they still have some
    abbrev pub IsInTime : ℕ → Course S J A → Type 0
    IsInTime count at = (now : Option Duration) × does at.around (Now now) at.around
        × (is_late (option_map as_nanos at.ended) (option_map as_nanos now) count ≡ false)

    -- one round more: nobody is left, the peers had their time, or all were told again why the server ends
    abbrev pub WindsOn : ServerEnd → ℕ → Course S J A → Result Bool Error → Course S J A → Type 0
    WindsOn end count old (Ok false) new = (new ≡ old)
        × ((slab_len old.own.connections.peers ≡ 0) ⊎ AreLate count old)
    WindsOn end count old (Ok true) new = (slab_len old.own.connections.peers ≢ 0) × IsInTime count old
        × does old.around (Pause (Ok tt)) new.around
        × Finishes calls streams end old.own new.own × (new ≡ record old { around = new.around; own = new.own })
    WindsOn end count old (Err error) new =
        does old.around (Pause (Err error)) new.around × (new ≡ record old { around = new.around })

    abbrev pub WindsUntil : ServerEnd → Course S J A → Result ⊤ Error → Course S J A → Type 0
    WindsUntil end old (Ok done) new = Until (λ count was now. WindsOn end count was (Ok true) now)
        (λ count was now. WindsOn end count was (Ok false) now) old new
    WindsUntil end old (Err error) new = (count : ℕ) × (mid : Course S J A)
        × Many (λ count was now. WindsOn end count was (Ok true) now) count old mid
        × WindsOn end count mid (Err error) new

    -- all were told why the server ends, once or more, until nobody is left, or the peers had their time
    abbrev pub WindsAll : ServerEnd → Course S J A → Result ⊤ Error → Course S J A → Type 0
    WindsAll end old result new = (told : State S J) × Finishes calls streams end old.own told
        × WindsUntil end (record old { own = told }) result new

    -- no connection was taken in any more, and the time was noted
    abbrev pub Closes : Course S J A → Course S J A → Type 0
    Closes old new = does old.around Close new.around × (now : Option Duration)
        × does new.around (Now now) new.around × (new ≡ record old { around = new.around; ended = now })

    -- then all were told, and what happened was told to the log
    abbrev pub WindsUp : ServerEnd → Course S J A → Result ⊤ Error → Course S J A → Type 0
    WindsUp end old (Ok done) new = (closed : Course S J A) × Closes old closed
        × (mid : Course S J A) × WindsAll end closed (Ok done) mid × Tells does mid new
    WindsUp end old (Err error) new =
        (closed : Course S J A) × Closes old closed × WindsAll end closed (Err error) new
