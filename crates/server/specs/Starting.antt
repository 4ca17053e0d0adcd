-- What a server starts with: the options that its arguments ask for, and its setup.
use Rattle.std.specs.Prelude.{◌≡◌, ◌<◌, ◌^◌, ℕ, List, [], Option, Some, None, Result, Ok, Err, true, false, codes}
use Rattle.std.specs.Prelude.{Bool, ◌==◌, is_some, length, max, min, option_map, slice_get, unwrap_or}
use Rattle.std.specs.Borrow.{Bor}
use Rattle.std.specs.Str.Parse.{IsNumeral, digits_value, without_leading_plus}
use Rattle.std.specs.String.{string_bytes}
use Rattle.std.specs.declared.alloc.Global.{Global}
use Rattle.std.specs.declared.io.Error.{Error}
use Rattle.std.specs.declared.vec.Vec.{Vec}
use Rattle.clap.specs.Words.{first_value, one_text}
use Rattle.clap.specs.declared.parser.matches.Found.{Found}
use Rattle.program_words.specs.SetupLines.{commands_in, first_fault}
use Rattle.program_words.specs.declared.setup.SetupFault.TheVariants.{NoMemory, NotText, TooLong}
use Rattle.server_session.specs.SettingUp.{agrees, setup_of, users_of}
use Rattle.server_session.specs.declared.loop_body.LoopsFault.{LoopsFault}
use Rattle.server_session.specs.declared.loop_body.LoopsFault.TheVariants as loops
use Rattle.server_outcome.specs.Faults.{IsOfSetup}
use Rattle.server_system.specs.Looking.{IsReadOf}
use Rattle.server_system.specs.Paths.{ListensAt, socket_path}
use Rattle.server_system.specs.declared.host.Host.{Ghosts}
use Rattle.server_outcome.specs.declared.fault.ServeFault.{ServeFault}
use Rattle.server_outcome.specs.declared.fault.ServeFault.TheVariants as fault
use Rattle.server_outcome.specs.declared.fault.SetupCause.TheVariants as cause
use Rattle.server.specs.declared.loop_handle.LoopStart.{LoopStart}
use Rattle.server.specs.declared.loops.KeptSession.{KeptSession}
use Rattle.server.specs.declared.starting.Options.{Options}
use Rattle.server.specs.declared.starting.ServerStart.{ServerStart}

-- ---- options

-- the text of an argument, if it is given
abbrev pub text_of : Option (Bor (List ℕ)) → Option (List ℕ)
text_of given = option_map (λ it. it.now) given

-- a decimal number of 8 bits
abbrev pub IsNumber : List ℕ → Type 0
IsNumber text = IsNumeral 10 (without_leading_plus text) × (digits_value 10 (without_leading_plus text) < 2 ^ 8)

-- an argument with this text asks for its number, and none for none
pub record AsksFor (given : Option (List ℕ)) (number : Option ℕ) : Type 0 where
  pub none : given ≡ None → number ≡ None
  pub some : (text : List ℕ) → given ≡ Some text → IsNumber text
      → number ≡ Some (digits_value 10 (without_leading_plus text))

-- each option has the value of the argument of its name
pub record IsAskedFor (f : Found) (o : Options) : Type 0 where
  pub socket : o.socket.now ≡ unwrap_or (first_value f (codes "socket")) []
  pub users : o.users.now ≡ unwrap_or (first_value f (codes "users")) []
  pub setup : text_of o.setup ≡ first_value f (codes "setup")
  pub trail : text_of o.trail ≡ first_value f (codes "trail")
  pub loops : (text : List ℕ) → one_text f (codes "loops") ≡ Some text → IsNumber text
      → o.loops ≡ digits_value 10 (without_leading_plus text)
  pub clients : AsksFor (one_text f (codes "user-clients")) o.limits.clients
  pub windows : AsksFor (one_text f (codes "user-windows")) o.limits.windows
  pub tells : one_text f (codes "log") ≡ Some (codes "true") → o.tells ≡ true
  pub quiet : one_text f (codes "log") ≡ Some (codes "false") → o.tells ≡ false

-- the options that these arguments ask for
abbrev pub AreOptionsOf : (List (List ℕ) → Found → Type 0) → List (List ℕ) → Options → Type 0
AreOptionsOf means words o = (f : Found) × means words f × IsAskedFor f o

-- from 1 to 8
abbrev pub loops_of : ℕ → ℕ
loops_of asked = max 1 (min asked 8)

-- ---- loops

-- what the loop of this number begins with, and whether it has the listener
abbrev pub IsStart : ℕ → Bool → LoopStart → Type 0
IsStart me listens start = (start.me ≡ me) × (is_some start.acceptor ≡ listens)

-- what n loops begin with, which are numbered from 0; the first one alone has the listener
pub record AreStarts (n : ℕ) (starts : List LoopStart) : Type 0 where
  pub all : length starts ≡ n
  pub each : (k : ℕ) (start : LoopStart) → slice_get starts k ≡ Some start → IsStart k (k == 0) start

-- ---- the setup

-- No option names a setup, and it is empty; or it is what was read of the file at the path, and each of its lines can be
-- a command.
module _ (reads : List ℕ → Result (Vec ℕ Global) Error → Type 0) where
  abbrev pub IsSetupAt : Option (List ℕ) → Vec ℕ Global → Type 0
  IsSetupAt None setup = setup.items ≡ []
  IsSetupAt (Some path) setup = reads path (Ok setup) × (first_fault (commands_in setup.items) ≡ None)

  -- the file at the path couldn't be read, or one of its lines can be no command, and this is why
  abbrev pub IsUnread : Option (List ℕ) → ServeFault → Type 0
  IsUnread given fault.NoMemory = Unit {0}
  IsUnread (Some path) (fault.Setup at (cause.NotRead why)) = (string_bytes at ≡ path) × reads path (Err why.0)
  IsUnread (Some path) (fault.Setup at (cause.Wrong why)) = (string_bytes at ≡ path)
      × (setup : Vec ℕ Global) × reads path (Ok setup) × (first_fault (commands_in setup.items) ≡ Some why)
  IsUnread given other = ⊥

module _ {R A B C : Type 0} (system : Ghosts R A B C) (reads : List ℕ → Result (Vec ℕ Global) Error → Type 0)
    (host : R) (o : Options) where
  -- these users were read, this setup, and this listens on the socket
  pub record IsStartOf (b : ServerStart) : Type 0 where
    pub users : IsReadOf system host o.users.now b.users b.seen
    pub socket : socket_path b.place.now ≡ o.socket.now
    pub listens : ListensAt system host o.socket.now b.listener
    pub setup : IsSetupAt reads (text_of o.setup) b.setup

  -- what a server kept that started with these options and has ended well: a session of the users who were read, that
  -- began with all lines of the setup, with a trail that has every answer; and its file, if one was asked for, was
  -- read back
  pub record IsKeptFor (kept : KeptSession) : Type 0 where
    pub start : ServerStart
    pub began_so : IsStartOf start
    pub users : users_of kept.session ≡ start.users
    pub setup : setup_of kept.session ≡ start.setup.items
    pub agrees_with : agrees kept.session ≡ true
    pub trail : is_some kept.trail ≡ is_some o.trail

-- why a session with the setup at this path didn't begin: a line that can be no command, or that was refused
abbrev pub IsStartFault : List ℕ → LoopsFault → ServeFault → Type 0
IsStartFault path loops.NoMemory told = told ≡ fault.NoMemory
IsStartFault path (loops.Setup NoMemory) told = told ≡ fault.NoMemory
IsStartFault path (loops.Setup (TooLong number)) told = IsOfSetup path (cause.Wrong (TooLong number)) told
IsStartFault path (loops.Setup (NotText number)) told = IsOfSetup path (cause.Wrong (NotText number)) told
IsStartFault path (loops.Refused number line said) told =
    IsOfSetup path (cause.Refused (record { number = number; line = line; said = said })) told
