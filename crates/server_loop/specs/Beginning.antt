-- What becomes of a connection by its first message.
use Rattle.std.specs.Prelude.{◌≡◌, ◌⊎◌, ℕ, Bool, List, Option, Some, None, Result, Ok, Err, Contains}
use Rattle.std.specs.Prelude.{◌↔◌, ◌++◌, IsTrue, codes, decimal, if◌then◌else◌, unwrap_or}
use Rattle.acl.specs.Names.{name_of}
use Rattle.acl.specs.declared.user_id.UserId.{UserId}
use Rattle.attach_proto.specs.declared.message.Message.{Message}
use Rattle.attach_proto.specs.declared.message.Message.TheVariants as message
use Rattle.attach_proto.specs.declared.why.Why.{Why}
use Rattle.attach_proto.specs.declared.why.Why.TheVariants as why
use Rattle.session.specs.Texts.{text_of}
use Rattle.session.specs.Trace.{EventValue, Reply}
use Rattle.session.specs.event.Done.{Done}
use Rattle.server_connections.specs.Changing.{told_to_go}
use Rattle.server_seat.specs.Ending.{why_of_fault}
use Rattle.server_seat.specs.declared.news.News.TheVariants as news
use Rattle.server_seat.specs.declared.seat.GuestKind.{GuestKind}
use Rattle.server_seat.specs.declared.seat.ServerEnd.TheVariants as cause
use Rattle.server_seat.specs.declared.seat.SeatAnswer.{SeatAnswer}
use Rattle.server_seat.specs.declared.seat.SeatFault.{SeatFault}
use Rattle.server_seat.specs.declared.seat.SessionSeat.{Ghosts as Calls}
use Rattle.server_sending.specs.Frames.{PutsMessage}
use Rattle.server_steps.specs.Meaning.{event_of, guest_of, is_extra_at, joined, kind_of, many_of, may_judge, news_of}
use Rattle.server_steps.specs.Meaning.{role_of, shown_in}
use Rattle.server_steps.specs.Submitted.{IsQuit}
use Rattle.server_steps.specs.declared.progress.Progress.{Progress}
use Rattle.server_steps.specs.declared.progress.Progress.TheVariants as progress
use Rattle.server_users.specs.Entries.{Entry}
use Rattle.server_users.specs.declared.user.Shown.{Shown}
use Rattle.server_loop.specs.Handing.{Faults, SendsTo}
use Rattle.server_loop.specs.Leaving.{IfBool}
use Rattle.server_loop.specs.Submitting.{CountsOff, State, peer_at, told, with_peer}
use Rattle.server_loop.specs.Trying.{HasToWait, IsTried}

-- this user is the one whose name and token these are
pub record IsShown (users : List Entry) (entry : Entry) (shown : Shown) : Type 0 where
  pub named : name_of shown.user ≡ entry.name
  pub listed : Contains users entry

-- what a user is told who has as many clients or windows as a user may have
abbrev pub too_many : GuestKind → UserId → ℕ → List ℕ
too_many kind user most = many_of kind ++ (name_of user ++ (codes ": at most " ++ decimal most))

module _ {S J : Type 0} where
  -- it was told to go, if it wasn't before
  abbrev pub Dismisses : Why → ℕ → State S J → State S J → Type 0
  Dismisses cause key old new = new ≡ with_peer (told_to_go cause) key old

module _ {S J : Type 0} (calls : Calls J) where
  -- it was sent a message
  abbrev pub Tells : Message → ℕ → State S J → State S J → Type 0
  Tells m key old new = SendsTo calls key (PutsMessage m) (λ was now. now ≡ was) old new

  -- it was told a text, and to go
  abbrev pub TurnsAway : List ℕ → ℕ → State S J → State S J → Type 0
  TurnsAway text key old new =
      (mid : State S J) × Tells (message.Say text) key old mid × Dismisses why.Fault key mid new

  -- so it was; without memory for the text it was only told to go
  abbrev pub SendsAway : List ℕ → ℕ → State S J → State S J → Type 0
  SendsAway text key old new = TurnsAway text key old new ⊎ Dismisses why.Fault key old new

  -- it became the client or the window that the session made, which is told to the log, and was welcomed by its number
  abbrev pub LetsIn : Shown → GuestKind → Done → ℕ → State S J → State S J → Type 0
  LetsIn shown kind done key old new = Tells (message.Welcome done.number) key
      (told (news.Came (guest_of kind shown done))
      (with_peer (joined shown (role_of kind done) (guest_of kind shown done)) key old)) new

  -- it was told what its command lists, if that lists something
  abbrev pub Lists : Option (List ℕ) → ℕ → State S J → State S J → Type 0
  Lists None key old new = new ≡ old
  Lists (Some text) key old new = Tells (message.Say text) key old new

  -- what its command lists was told, and it was told to go
  abbrev pub SaysDone : Option (List ℕ) → ℕ → State S J → State S J → Type 0
  SaysDone text key old new = (mid : State S J) × Lists text key old mid × Dismisses why.Detached key mid new

  -- its command was done, or it was told why not; and it was told to go. After `quit` the server is to end.
  abbrev pub Ends : Bool → Reply → ℕ → State S J → State S J → Type 0
  Ends quits (Ok done) key old new = (mid : State S J) × SaysDone done.text key old mid
      × (new ≡ record mid { end = if quits then Some cause.Quit else mid.end })
  Ends quits (Err refusal) key old new = SendsAway (text_of refusal) key old new

  -- it was welcomed, and told the answer
  abbrev pub Answers : Bool → Reply → ℕ → State S J → State S J → Type 0
  Answers quits reply key old new =
      (mid : State S J) × Tells (message.Welcome 0) key old mid × Ends quits reply key mid new

  -- An event was tried for a user: one step was made and answered; or the user has to wait, and nothing was submitted;
  -- or its step has no answer, and its connection was told why it goes.
  abbrev pub Attempts : UserId → EventValue → ℕ → State S J → Result SeatAnswer Progress → State S J → Type 0
  Attempts user event key old (Ok answer) new = IsTried calls user event old (Ok answer) new
  Attempts user event key old (Err progress.Held) new = HasToWait calls user event old new
  Attempts user event key old (Err progress.Done) new = (fault : SeatFault) × (mid : State S J)
      × IsTried calls user event old (Err fault) mid × Dismisses (why_of_fault fault) key mid new
  Attempts user event key old (Err progress.Part) new = ⊥

  -- Without memory to look whether a command is `quit`, it was told to go. Else its event was tried, and it and the log
  -- were told the answer.
  abbrev pub Commands : Shown → EventValue → ℕ → State S J → Progress → State S J → Type 0
  Commands shown event key old far new = ((far ≡ progress.Done) × Dismisses why.Fault key old new)
      ⊎ (Attempts shown.user event key old (Err far) new
      ⊎ ((far ≡ progress.Done) × (quits : Bool) × (IsTrue quits ↔ IsQuit event) × (answer : SeatAnswer)
      × (mid : State S J) × Attempts shown.user event key old (Ok answer) mid
      × Answers quits answer.reply key (told (news_of shown answer.reply) mid) new))

  -- what came of it by the answer to its event: it was let in; or it was told why not, and isn't counted any more
  abbrev pub Enters : Shown → GuestKind → Reply → ℕ → State S J → State S J → Type 0
  Enters shown kind (Ok done) key old new = LetsIn shown kind done key old new
  Enters shown kind (Err refusal) key old new = (mid : State S J) × SendsAway (text_of refusal) key old mid
      × CountsOff calls shown.user kind mid new

  -- its user has as many as a user may have, and it was told so
  abbrev pub HasMost : Shown → GuestKind → ℕ → State S J → Progress → State S J → Type 0
  HasMost shown kind key old far new =
      (most : ℕ) × (seat : J) × calls.counts old.seat shown.user kind (Some most) seat
      × (far ≡ progress.Done) × SendsAway (too_many kind shown.user most) key (record old { seat = seat }) new

  -- its event was tried after it was counted; if there was no answer, it isn't counted any more
  abbrev pub EntersIf : Shown → GuestKind → EventValue → ℕ → State S J → Progress → State S J → Type 0
  EntersIf shown kind event key old far new = (mid : State S J)
      × ((Attempts shown.user event key old (Err far) mid × CountsOff calls shown.user kind mid new)
      ⊎ ((far ≡ progress.Done) × (answer : SeatAnswer) × Attempts shown.user event key old (Ok answer) mid
      × Enters shown kind answer.reply key mid new))

  -- it was counted once, and its event was tried
  abbrev pub IsCounted : Shown → GuestKind → EventValue → ℕ → State S J → Progress → State S J → Type 0
  IsCounted shown kind event key old far new = (seat : J) × calls.counts old.seat shown.user kind None seat
      × EntersIf shown kind event key (record old { seat = seat }) far new

  -- no more are to stay, and it was told so; or it is as above
  abbrev pub Joins : Shown → GuestKind → EventValue → ℕ → State S J → Progress → State S J → Type 0
  Joins shown kind event key old far new = IfBool (is_extra_at (peer_at key old))
      ((far ≡ progress.Done) × TurnsAway (codes "the server has no room for more connections") key old new)
      (HasMost shown kind key old far new ⊎ IsCounted shown kind event key old far new)

  -- what it asks for was tried, for the user who showed their token
  abbrev pub BeginsBy : Shown → Option GuestKind → Option EventValue → ℕ
      → State S J → Progress → State S J → Type 0
  BeginsBy shown kind None key old far new = (far ≡ progress.Done) × (new ≡ old)
  BeginsBy shown None (Some event) key old far new = Commands shown event key old far new
  BeginsBy shown (Some kind) (Some event) key old far new = Joins shown kind event key old far new

  abbrev pub BeginsAs : Shown → Message → ℕ → State S J → Progress → State S J → Type 0
  BeginsAs shown m = BeginsBy shown (kind_of m) (event_of shown m)

  -- Nobody has this name and this token, and it and the log were told so, without a step. Or somebody has, and is the
  -- user for whom its event was tried.
  abbrev pub Judges : List Entry → Entry → Message → ℕ → State S J → Progress → State S J → Type 0
  Judges users entry m key old far new =
      (¬ (Contains users entry) × (far ≡ progress.Done)
      × TurnsAway (codes "unknown user or wrong token") key (told news.WrongToken old) new)
      ⊎ ((shown : Shown) × IsShown users entry shown × BeginsAs shown m key old far new)

  -- the users who may connect, by the users' file as it was read last
  abbrev pub known_of : State S J → List Entry
  known_of s = unwrap_or s.users (calls.known s.seat)

  -- If it is no first message, it was told to go. Else it waits for a look at the users' file, or it was judged.
  abbrev pub BeginsWith : Option Entry → Message → ℕ → State S J → Progress → State S J → Type 0
  BeginsWith None m key old far new = (far ≡ progress.Done) × Faults calls key old new
  BeginsWith (Some entry) m key old far new = IfBool (may_judge old.looked (peer_at key old))
      (Judges (known_of old) entry m key old far new)
      ((far ≡ progress.Held) × (new ≡ old))

  -- what became of a connection by its first message
  abbrev pub Begins : Message → ℕ → State S J → Progress → State S J → Type 0
  Begins m = BeginsWith (shown_in m) m
