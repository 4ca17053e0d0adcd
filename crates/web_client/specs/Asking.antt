-- What a browser asks of the server, and what its client hears of it.
use Rattle.std.specs.Prelude.{◌≡◌, ◌≢◌, ◌⊎◌, Bool, true, ℕ, ◌+◌, ◌-◌, ◌*◌, ◌%◌, max, min, List, [], ◌∷◌, ◌++◌}
use Rattle.std.specs.Prelude.{length, take, drop, slice_index, None, IsUtf8}
use Rattle.std.specs.List.{flat_map, AllByRecursion}
use Rattle.acl.specs.Names.{named_by}
use Rattle.attach_proto.specs.declared.message.Message.{Message}
use Rattle.attach_proto.specs.declared.message.Message.TheVariants.{Attach, Keys, Resize, Detach}
use Rattle.attach_proto.specs.Spelling.{spelling}
use Rattle.web_client.specs.declared.client.WebClient.{WebClient}
use Rattle.web_client.specs.declared.identity.Identity.{Identity}
use Rattle.web_client.specs.declared.identity.Identity.TheVariants.{Nobody, Own, Watching, Link, Unknown, Left}
use Rattle.web_streams.specs.declared.stream.ReadOutcome.{ReadOutcome}
use Rattle.web_streams.specs.declared.stream.ReadOutcome.TheVariants.{End}
use Rattle.web_streams.specs.declared.stream.WriteOutcome.{WriteOutcome}
use Rattle.web_streams.specs.Streaming.{WritesOut}
use Rattle.web_page.specs.Hearing.{WebDisplay, Hears, IsBlank, IsResized, KeepsSent}

-- ---- messages

-- the size that a payload begins with, within the limits of a page
abbrev pub lines_in : List ℕ → ℕ
lines_in bytes = max 4 (min (256 * slice_index bytes 0 + slice_index bytes 1) 200)

abbrev pub columns_in : List ℕ → ℕ
columns_in bytes = max 20 (min (256 * slice_index bytes 2 + slice_index bytes 3) 300)

-- the frame that a message of an attached browser asks for: no window, no output, no command
abbrev pub IsAskedBy : List ℕ → Message → Type 0
IsAskedBy message (Keys keys) = message ≡ 0x4B ∷ keys
IsAskedBy message (Resize rows columns) =
    (size : List ℕ) × (message ≡ 0x52 ∷ size) × (length size ≡ 4)
    × (rows ≡ lines_in size) × (columns ≡ columns_in size)
IsAskedBy message Detach = message ≡ 0x44 ∷ []
IsAskedBy message _ = ⊥

-- only a new size changes what the client shows
abbrev pub Redraws : Message → WebDisplay → WebDisplay → Type 0
Redraws (Resize rows columns) old new = IsResized rows columns old new
Redraws _ old new = new ≡ old

-- the client passes on what a message asks for, after all that waited
pub record Passes (message : List ℕ) (before after : WebClient) : Type 0 where
  pub frame : Message
  pub asked : IsAskedBy message frame
  pub added : after.outgoing ≡ before.outgoing ++ spelling frame
  pub shown : Redraws frame before.display after.display

-- ---- what is heard of the server, by what its stream says of reads

-- A display heard these bytes: its name stays, and no moment ends.
abbrev pub HearsBytes : WebDisplay → List ℕ → WebDisplay → Type 0
HearsBytes old bytes new =
    ((bytes ≡ []) × (new ≡ old))
    ⊎ (Hears old bytes new × (new.name ≡ old.name) × KeepsSent old.sheet new.sheet)

module _ {S : Type 0} (reads : S → List ℕ → ReadOutcome → S → Type 0) where
  -- One read was made, and the display heard what came, and nothing else. If it can't hear all of it, the connection
  -- ends.
  pub record HearsRead (stream : S) (old : WebDisplay) (came : ReadOutcome) (left : S) (new : WebDisplay) : Type 0 where
    pub piece : List ℕ
    pub arrived : ReadOutcome
    pub read : reads stream piece arrived left
    pub heard : ((came ≡ arrived) × HearsBytes old piece new)
        ⊎ ((came ≡ End) × (piece ≢ []) × (new.name ≡ old.name) × KeepsSent old.sheet new.sheet)

-- ---- identities

-- an identity that has a client of its own, of which this holds
abbrev pub IsOwn : Identity → (WebClient → Type 0) → Type 0
IsOwn (Own c) P = P c
IsOwn _ P = ⊥

-- a browser that watches a page that others watch too
abbrev pub IsWatcher : Identity → Type 0
IsWatcher (Watching rows columns) = Unit {0}
IsWatcher _ = ⊥

-- a fact of an identity's own client, if it has one
abbrev pub IfOwn : Identity → (WebClient → Type 0) → Type 0
IfOwn (Own c) P = P c
IfOwn _ P = Unit {0}

-- the client of a browser that gave a size, a token and a name: of the token it has the frame
pub record IsLogin (payload : List ℕ) (c : WebClient) : Type 0 where
  pub asked : c.outgoing
      ≡ spelling (Attach (lines_in payload) (columns_in payload) (take 64 (drop 4 payload)) (drop 68 payload))
  pub shown : IsBlank (lines_in payload) (columns_in payload) (drop 68 payload) c.display

-- no user can have this name
abbrev pub IsNoName : List ℕ → Type 0
IsNoName name = (named_by name ≡ None) ⊎ (¬ (IsUtf8 name))

abbrev pub IsAttached : List ℕ → Identity → Type 0
IsAttached payload (Own c) = IsLogin payload c
IsAttached payload Unknown = IsNoName (drop 68 payload)
IsAttached payload _ = ⊥

-- a place before a shared page, whose size is a multiple of 6 by 20
abbrev pub IsShared : List ℕ → Identity → Type 0
IsShared payload (Watching rows columns) =
    (length payload ≡ 4) × (rows ≡ max (lines_in payload - lines_in payload % 6) 4)
    × (columns ≡ max (columns_in payload - columns_in payload % 20) 20)
IsShared payload _ = ⊥

-- the first message
abbrev pub Begins : List ℕ → Identity → Type 0
Begins message after =
    (payload : List ℕ)
    × (((message ≡ 0x41 ∷ payload) × IsAttached payload after)
    ⊎ ((message ≡ 0x56 ∷ payload) × IsShared payload after)
    ⊎ ((message ≡ 0x4C ∷ payload) × (after ≡ Link payload)))

-- a message of a browser that watches: another size, or the end
abbrev pub Watches : List ℕ → Identity → Type 0
Watches message after =
    ((payload : List ℕ) × (message ≡ 0x52 ∷ payload) × IsShared payload after)
    ⊎ ((message ≡ 0x44 ∷ []) × (after ≡ Left))

-- what a message that is taken does
abbrev pub Takes : Identity → List ℕ → Identity → Type 0
Takes Nobody message after = Begins message after
Takes (Own before) message after = IsOwn after (Passes message before)
Takes (Watching rows columns) message after = Watches message after
Takes (Link secret) message after = ⊥
Takes Unknown message after = ⊥
Takes Left message after = ⊥

-- a message that isn't taken adds nothing
abbrev pub Keeps : Identity → Identity → Type 0
Keeps Nobody after = after ≡ Nobody
Keeps (Own before) after = IsOwn after (λ c. c.outgoing ≡ before.outgoing)
Keeps (Watching rows columns) after = after ≡ Watching rows columns
Keeps (Link secret) after = after ≡ Link secret
Keeps Unknown after = after ≡ Unknown
Keeps Left after = after ≡ Left

-- A client's page was shown: of the client only the sheet changes.
abbrev pub OnlyShows : WebClient → WebClient → Type 0
OnlyShows old new = new ≡ record old { display = record old.display { sheet = new.display.sheet } }

-- the page of its own client was shown
abbrev pub ShowsFor : Identity → Identity → Type 0
ShowsFor (Own before) after = IsOwn after (OnlyShows before)
ShowsFor other after = after ≡ other

-- One read of the server was made for its own client, which heard what came. Without a client the connection ends.
abbrev pub HearsFor : {S : Type 0} → (S → List ℕ → ReadOutcome → S → Type 0) → S → Identity → ReadOutcome → S → Identity
    → Type 0
HearsFor reads stream (Own before) came left after =
    IsOwn after (λ c. (c.outgoing ≡ before.outgoing) × HearsRead reads stream before.display came left c.display)
HearsFor reads stream other came left after = (after ≡ other) × (left ≡ stream) × (came ≡ End)

-- what waits of its own client was written
abbrev pub AsksFor : {S : Type 0} → (S → List ℕ → WriteOutcome → S → Type 0) → S → Identity → Bool → S → Identity
    → Type 0
AsksFor writes stream (Own before) whole left after =
    IsOwn after (λ c. (c.display ≡ before.display) × WritesOut writes stream before.outgoing whole left c.outgoing)
AsksFor writes stream other whole left after = (after ≡ other) × (left ≡ stream) × (whole ≡ true)

-- ---- any number of messages

abbrev pub IsFirstFrame : Message → Type 0
IsFirstFrame (Attach rows columns token name) = Unit {0}
IsFirstFrame _ = ⊥

-- a frame that a browser's client may send: its first one, and those that messages ask for
abbrev pub IsAskable : Message → Type 0
IsAskable frame = IsFirstFrame frame ⊎ ((message : List ℕ) × IsAskedBy message frame)

abbrev pub AddsFrames : List ℕ → List ℕ → Type 0
AddsFrames before after =
    (ms : List Message) × AllByRecursion IsAskable ms × (after ≡ before ++ flat_map spelling ms)

-- an identity that never has a client
abbrev pub IsApart : Identity → Type 0
IsApart Nobody = ⊥
IsApart (Own c) = ⊥
IsApart (Watching rows columns) = Unit {0}
IsApart (Link secret) = Unit {0}
IsApart Unknown = Unit {0}
IsApart Left = Unit {0}

-- Frames were added for the browser's own client, and nothing else. One that watches never has a client.
abbrev pub Asks : Identity → Identity → Type 0
Asks Nobody after = IfOwn after (λ c. AddsFrames [] c.outgoing)
Asks (Own before) after = IsOwn after (λ c. AddsFrames before.outgoing c.outgoing)
Asks (Watching rows columns) after = IsApart after
Asks (Link secret) after = IsApart after
Asks Unknown after = IsApart after
Asks Left after = IsApart after
