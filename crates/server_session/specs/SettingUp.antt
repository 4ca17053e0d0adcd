-- What a setup commands before anybody connects.
use Rattle.std.specs.Prelude.{◌≡◌, ◌⊎◌, ℕ, zero, suc, Bool, true, List, [], length, Some, Ok, Err, slice_get}
use Rattle.acl.specs.Names.{name_of}
use Rattle.acl.specs.declared.user_id.UserId.{UserId}
use Rattle.program_words.specs.SetupLines.{Line, commands_in, first_fault, numbered}
use Rattle.program_words.specs.declared.setup.SetupFault.TheVariants.{NoMemory as OfMemory}
use Rattle.session.specs.Setup.{command_of}
use Rattle.session.specs.Texts.{text_of}
use Rattle.session.specs.Trace.{Reply}
use Rattle.session.specs.event.Done.{Done}
use Rattle.session.specs.refusal.Refusal.{Refusal}
use Rattle.hub.specs.Seats.{Answers, Sitting, Told}
use Rattle.server_users.specs.Entries.{Entry, names}
use Rattle.server_session.specs.declared.loop_body.LoopsFault.{LoopsFault}
use Rattle.server_session.specs.declared.loop_body.LoopsFault.TheVariants as fault
use Rattle.server_session.specs.declared.setting_up.Agreement.{Agreement}

-- a line was submitted: the session answered its command by one step for the seat
pub record IsGiven (owner : UserId) (line : Line) (reply : Reply) (old new : Sitting) : Type 0 where
  pub told : Told
  pub answers : Answers (command_of owner line) told old new
  pub reply_is : told.reply ≡ reply

-- the first n lines were submitted, in order and each once, and all were done
abbrev pub AreDone : UserId → List Line → ℕ → Sitting → Sitting → Type 0
AreDone owner lines zero old new = new ≡ old
AreDone owner lines (suc n) old new =
    (mid : Sitting) × AreDone owner lines n old mid
    × (line : Line) × (slice_get lines n ≡ Some line) × (done : Done) × IsGiven owner line (Ok done) mid new

-- the fault is that a line was refused with this text, if memory didn't run out
abbrev pub IfRefused : LoopsFault → (Line → List ℕ → Type 0) → Type 0
IfRefused fault.NoMemory P = Unit {0}
IfRefused (fault.Setup why) P = ⊥
IfRefused (fault.Refused number line said) P = P (numbered number line.items) said.items

-- a line was submitted and refused, which is named with the refusal's text
pub record IsStopped (owner : UserId) (line named : Line) (said : List ℕ) (old new : Sitting) : Type 0 where
  pub named_is : named ≡ line
  pub refusal : Refusal
  pub text : said ≡ text_of refusal
  pub given : IsGiven owner line (Err refusal) old new

-- the lines before one of them were done, and that one was refused
pub record Stops (owner : UserId) (lines : List Line) (named : Line) (said : List ℕ) (old new : Sitting) : Type 0 where
  pub before : ℕ
  pub mid : Sitting
  pub done : AreDone owner lines before old mid
  pub line : Line
  pub is_next : slice_get lines before ≡ Some line
  pub stopped : IsStopped owner line named said mid new

-- why the lines of a file weren't all done; nothing is submitted if one can be no command
abbrev pub Fails : UserId → List ℕ → LoopsFault → Sitting → Sitting → Type 0
Fails owner file fault.NoMemory old new = Unit {0}
Fails owner file (fault.Setup why) old new =
    (new ≡ old) × ((why ≡ OfMemory) ⊎ (first_fault (commands_in file) ≡ Some why))
Fails owner file (fault.Refused number line said) old new =
    Stops owner (commands_in file) (numbered number line.items) said.items old new

-- all lines of a file were done
abbrev pub IsSetUp : UserId → List ℕ → Sitting → Sitting → Type 0
IsSetUp owner file old new = AreDone owner (commands_in file) (length (commands_in file)) old new

-- the first of these seats, which had no receipts and asked for entries, did all lines of the setup
pub record HasBegun (owner : UserId) (file : List ℕ) (seats : List Sitting) : Type 0 where
  pub first : Sitting
  pub fresh : first.receipts ≡ []
  pub asks : first.asks ≡ true
  pub seat : Sitting
  pub is_first : slice_get seats 0 ≡ Some seat
  pub done : IsSetUp owner file first seat

-- the first of these users owns the session
abbrev pub IsOwnerOf : List Entry → UserId → Type 0
IsOwnerOf users owner = slice_get (names users) 0 ≡ Some (name_of owner)

-- why a session of these users and this setup didn't begin: memory was refused, or not all lines were done
abbrev pub IsUnbegun : UserId → List ℕ → LoopsFault → Type 0
IsUnbegun owner file why = (why ≡ fault.NoMemory) ⊎ ((first last : Sitting) × Fails owner file why first last)

abbrev pub IsUnkept : List Entry → List ℕ → LoopsFault → Type 0
IsUnkept users file why = (owner : UserId) × IsOwnerOf users owner × IsUnbegun owner file why

-- ---- what is told of a session that is closed

-- the file whose lines it began with
abbrev pub setup_of : Agreement → List ℕ
setup_of agreement = agreement.setup.items

-- the users that it began with
abbrev pub users_of : Agreement → List Entry
users_of agreement = agreement.users

-- every answer that a loop was given stands in its trail
abbrev pub agrees : Agreement → Bool
agrees agreement = agreement.is_so
