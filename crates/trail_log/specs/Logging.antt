-- What a log of a file's entries stands for, and what it prints at the next entry.
use Rattle.std.specs.Prelude.{ℕ, ◌≡◌, List, [], ◌∷◌, ◌++◌, length, map, Option, Result, Ok, Err, Some}
use Rattle.acl.specs.declared.leaders.Edition.{Edition}
use Rattle.acl.specs.declared.user_id.UserId.{UserId}
use Rattle.hub.specs.Trails.{Entry}
use Rattle.trail_lines.specs.Entries.{Said, read_line}
use Rattle.trail_lines.specs.declared.audit.Wrong.{Wrong}
use Rattle.trail_lines.specs.Reading.{HasRead, IsWrong}
use Rattle.trail_log.specs.declared.choice.Choice.{Choice}
use Rattle.trail_log.specs.declared.logging.LogWriter.{LogWriter}
use Rattle.trail_log.specs.Joining.{next_held, next_ms, next_text}
use Rattle.trail_log.specs.Naming.{names_after, nobody}

abbrev pub entry_in : Said → Entry
entry_in x = x.2

abbrev pub entries_in : List Said → List Entry
entries_in said = map entry_in said

-- these entries were read, each at its place; all are good, and clients and titles are named by them
pub record HasLogged (l : LogWriter) (edition : Edition) (owner : UserId) (said : List Said)
    : Type 0 where
  pub read : HasRead l.audit edition owner (entries_in said)
  pub named : l.names ≡ names_after nobody said

-- the line says the next entry; the line before it is printed, and its time told, unless they are joined
pub record Prints (ms : Option ℕ) (old new : LogWriter) (choice : Choice) (line out printed : List ℕ)
    (edition : Edition) (owner : UserId) (said : List Said) : Type 0 where
  pub next : Said
  pub is : read_line line ≡ Some next
  pub place_is : next.0 ≡ length (entries_in said)
  pub logged : HasLogged new edition owner (said ++ next ∷ [])
  pub text : printed ≡ out ++ next_text choice old.held (names_after nobody said) next
  pub ms_is : ms ≡ next_ms choice old.held (names_after nobody said) next
  pub held : new.held ≡ next_held choice old.held (names_after nobody said) next

abbrev pub PrintsNext : Result (Option ℕ) Wrong → LogWriter → LogWriter → Choice → List ℕ → List ℕ → List ℕ
    → Edition → UserId → List Said → Type 0
PrintsNext (Ok ms) old new choice line out printed edition owner said =
    Prints ms old new choice line out printed edition owner said
PrintsNext (Err w) old new choice line out printed edition owner said =
    IsWrong w line edition owner (entries_in said)
