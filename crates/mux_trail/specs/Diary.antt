-- What a log is asked for, and its exit status.
use Rattle.std.specs.Prelude.{ℕ, ◌≡◌, List, Option, Some, None}
use Rattle.acl.specs.declared.leaders.Edition.{Edition}
use Rattle.acl.specs.declared.user_id.UserId.{UserId}
use Rattle.trail_files.specs.Finishing.{status_of}
use Rattle.trail_files.specs.declared.check.Finish.{Finish}
use Rattle.trail_files.specs.declared.check.Finish.TheVariants as finish
use Rattle.trail_lines.specs.Entries.{Said}
use Rattle.trail_log.specs.Logging.{HasLogged}
use Rattle.trail_log.specs.declared.choice.Choice.{Choice}
use Rattle.trail_log.specs.declared.choice.Wanted.{Wanted}
use Rattle.trail_log.specs.declared.choice.Wanted.TheVariants as wanted
use Rattle.trail_log.specs.declared.logging.LogWriter.{LogWriter}
use Rattle.mux_trail.specs.Reading.{IsFileRead}
use Rattle.mux_trail.specs.declared.words.Limits.{Limits}
use Rattle.mux_trail.specs.declared.words.LogAsked.{LogAsked}
use Rattle.mux_trail.specs.declared.words.WindowWord.{WindowWord}
use Rattle.mux_trail.specs.declared.words.WindowWord.TheVariants as window

abbrev pub wanted_of : Option WindowWord → Option Wanted
wanted_of None = None
wanted_of (Some (window.Serial serial)) = Some (wanted.Serial serial)
wanted_of (Some (window.Title title)) = Some (wanted.Title title.now)

abbrev pub choice_of : LogAsked → Choice
choice_of a = record { since = a.since; until = a.until; user = a.user; window = wanted_of a.window }

-- the same entries were read
abbrev pub Keeps : LogWriter → LogWriter → Type 0
Keeps old new =
    (edition : Edition) (owner : UserId) (said : List Said) → HasLogged old edition owner said
    → HasLogged new edition owner said

-- 0 also if the file has no last line
abbrev pub IsLogStatus : Finish → ℕ → Type 0
IsLogStatus finish.Open status = status ≡ 0
IsLogStatus finish.Torn status = status ≡ 0
IsLogStatus f status = status_of f ≡ Some status

-- each entry was read and judged, up to the line that halts the reading; and the status says how the file ends there
pub record IsLogged (limits : Limits) (status : ℕ) (edition : Edition) (owner : UserId) (bytes : Option (List ℕ))
    : Type 0 where
  pub log : LogWriter
  pub finish_is : Finish
  pub read : IsFileRead (HasLogged log edition owner) finish_is limits edition owner bytes
  pub status_is : IsLogStatus finish_is status
