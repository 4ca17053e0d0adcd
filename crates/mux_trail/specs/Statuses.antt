-- The exit status, and what it says of the file whose bytes were read.
use Rattle.std.specs.Prelude.{ℕ, ◌≡◌, ◌⊎◌, Bool, true, false, List, Option, Some, None, IfSome, unwrap_or}
use Rattle.acl.specs.declared.leaders.Edition.{Edition}
use Rattle.acl.specs.declared.user_id.UserId.{UserId}
use Rattle.clap.specs.declared.error.kind.ErrorKind.{ErrorKind}
use Rattle.clap.specs.declared.error.kind.ErrorKind.TheVariants as kind
use Rattle.trail_lines.specs.Lines.{OfKnown}
use Rattle.trail_files.specs.Beginning.{BeginsAs}
use Rattle.trail_files.specs.Finishing.{IsJudged}
use Rattle.trail_files.specs.Showing.{ShowsFrom}
use Rattle.trail_files.specs.declared.fault.TrailFault.{TrailFault}
use Rattle.trail_files.specs.declared.fault.TrailFault.TheVariants as fault
use Rattle.trail_files.specs.declared.heading.Heading.{Heading}
use Rattle.clap.specs.declared.parser.matches.Found.{Found}
use Rattle.trail_files.specs.Beginning.{LastOf}
use Rattle.mux_trail.specs.Answers.{IsAsked}
use Rattle.mux_trail.specs.Asking.{AreAsked}
use Rattle.mux_trail.specs.Diary.{IsLogged}
use Rattle.mux_trail.specs.declared.streams.Outlet.{Outlet}
use Rattle.mux_trail.specs.declared.words.LastAsked.{LastAsked}
use Rattle.mux_trail.specs.declared.words.LastAsked.TheVariants as last
use Rattle.mux_trail.specs.declared.words.Limits.{Limits}
use Rattle.mux_trail.specs.declared.words.TrailArgs.{TrailArgs}
use Rattle.mux_trail.specs.declared.words.Verb.{Verb}
use Rattle.mux_trail.specs.declared.words.Verb.TheVariants as verb

-- ---- of faults, and of words that ask nothing

-- 1 if the file doesn't have the form of a trail, else 2
abbrev pub fault_status : TrailFault → ℕ
fault_status (fault.NoHeader line) = 1
fault_status (fault.NoLine line) = 1
fault_status other = 2

-- a fault of standard output, if that failed
abbrev pub fault_with : Bool → TrailFault → TrailFault
fault_with true (fault.Io error) = fault.NotWritten error
fault_with has_failed f = f

-- 0 only for the help and the version
abbrev pub IsHelped : ErrorKind → ℕ → Type 0
IsHelped kind.DisplayHelp status = (status ≡ 0) ⊎ (status ≡ 2)
IsHelped kind.DisplayVersion status = (status ≡ 0) ⊎ (status ≡ 2)
IsHelped other status = status ≡ 2

-- ---- of each way

-- whose trail it is: the user's who is asked for, else the owner's whom the first line names
abbrev pub owner_of : Option UserId → Heading → UserId
owner_of asked heading = unwrap_or asked heading.owner

-- a first line came, and this is so of its edition, of whose trail it is, and of the bytes behind it
abbrev pub Begins : Option UserId → Option (List ℕ) → (Edition → UserId → Option (List ℕ) → Type 0) → Type 0
Begins asked old P =
    (heading : Heading) × (rest : Option (List ℕ)) × OfKnown old rest (BeginsAs heading)
    × P heading.edition (owner_of asked heading) rest

-- `check`: the entries behind the first line were judged from the first one on; 0 if the file is legal and has its
-- last line, 3 if it is legal and has none, 1 if something is wrong in it
abbrev pub IsChecked : ℕ → Option UserId → Option (List ℕ) → Type 0
IsChecked status owner old = Begins owner old (IsJudged status)

-- `show`: the lines behind the first one were shown up to the last one, or up to the one of this number, which is none
abbrev pub IsShown : Option ℕ → Option (List ℕ) → Type 0
IsShown stray old = Begins None old (λ edition owner rest. IfSome rest (ShowsFrom 2 stray))

-- the status, and what was written, by what is asked of a file that has these bytes
module _ {W : Type 0} (contents : W → Option (List ℕ)) where
  abbrev pub TellsBy : Verb → Limits → ℕ → Option (List ℕ) → W → W → Type 0
  TellsBy verb.Check limits status bytes old new = IsChecked status limits.owner bytes
  TellsBy (verb.Show is_json) limits status bytes old new = (status ≡ 0) × IsShown None bytes
  TellsBy (verb.Log asked) limits status bytes old new = Begins limits.owner bytes (IsLogged limits status)
  TellsBy (verb.Ask asked) limits status bytes old new =
      Begins limits.owner bytes (IsAsked contents asked limits status old new)

-- a file that is followed has no end
abbrev pub bytes_of : Bool → Option (List ℕ) → Option (List ℕ)
bytes_of true bytes = None
bytes_of false bytes = bytes

module _ {F : Type 0} (opens : F → Type 0) (remaining : F → Option (List ℕ)) where
  -- the place of the last entry that counts; of a time by a file that was opened
  abbrev pub IsPlaceOf : LastAsked → Option ℕ → Type 0
  IsPlaceOf last.All None = Unit {0}
  IsPlaceOf (last.Place n) (Some place) = place ≡ n
  IsPlaceOf (last.Time ms) (Some place) =
      (file : F) × opens file × IfSome (remaining file) (LastOf ms (Some place))
  IsPlaceOf _ _ = ⊥

  -- what is asked of a file that was opened
  pub record IsRun {W : Type 0} (contents : W → Option (List ℕ)) (a : TrailArgs) (status : ℕ) (old new : W)
      : Type 0 where
    pub place : Option ℕ
    pub place_is : IsPlaceOf a.last place
    pub file : F
    pub opened : opens file
    pub tells : TellsBy contents a.verb (record { owner = a.owner; last = place; follows = a.follows }) status
        (bytes_of a.follows (remaining file)) old new

-- no subcommand or an invalid argument, or the arguments ask for the help
abbrev pub IsRefused : (ErrorKind → Type 0) → ℕ → Type 0
IsRefused refuses status = (status ≡ 2) ⊎ ((kind : ErrorKind) × refuses kind × IsHelped kind status)

-- The arguments are refused; or a fault has its status; or what they ask was answered.
abbrev pub ExitsBy : {F W : Type 0} → (List (List ℕ) → List ℕ → Found → Type 0)
    → (List (List ℕ) → ErrorKind → Type 0) → (List ℕ → F → Type 0)
    → (F → Option (List ℕ)) → (W → Option (List ℕ)) → List (List ℕ) → ℕ → Type 0
ExitsBy {F} {W} means refuses opens remaining contents words status =
    IsRefused (refuses words) status
    ⊎ ((a : TrailArgs) × AreAsked means words a
    × (((fault : TrailFault) × (status ≡ fault_status fault))
    ⊎ ((old new : Outlet W) × IsRun (opens a.path.now) remaining (λ (o : Outlet W). contents o.output.now)
    a status old new)))
