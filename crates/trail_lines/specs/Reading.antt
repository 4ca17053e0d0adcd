-- What an audit stands for, and what it tells of the next line.
use Rattle.std.specs.Prelude.{ℕ, ◌≡◌, ◌≢◌, List, [], ◌∷◌, ◌++◌, length, Some, None, Result, Ok, Err, map}
use Rattle.acl.specs.declared.leaders.Edition.{Edition}
use Rattle.acl.specs.declared.user_id.UserId.{UserId}
use Rattle.session.specs.Trace.{Trace}
use Rattle.session.specs.Run.{IsRun}
use Rattle.hub.specs.Filing.{entries_of}
use Rattle.hub.specs.Trails.{Entry}
use Rattle.hub.specs.Legal.{AreLegal}
use Rattle.hub.specs.Judging.{IsBadAt}
use Rattle.hub.specs.Judges.{HasJudged}
use Rattle.trail_lines.specs.declared.entries.EntryLine.{EntryLine}
use Rattle.trail_lines.specs.Entries.{Said, read_line, said}
use Rattle.trail_lines.specs.declared.audit.Audit.{Audit}
use Rattle.trail_lines.specs.declared.audit.Wrong.{Wrong}
use Rattle.trail_lines.specs.declared.audit.Wrong.TheVariants as wrong

-- these entries were read, each at its place, and all are good
pub record HasRead (a : Audit) (edition : Edition) (owner : UserId) (entries : List Entry)
    : Type 0 where
  pub judged : HasJudged a.judge edition owner entries
  pub next : a.next ≡ length entries

-- a line says the entry of this place
pub record IsLineOf (line : List ℕ) (place : ℕ) (e : Entry) : Type 0 where
  pub ms : ℕ
  pub is : read_line line ≡ Some (place, ms, e)

-- the line says the next entry, which is good too
pub record Takes (l : EntryLine) (new : Audit) (line : List ℕ) (edition : Edition) (owner : UserId)
    (entries : List Entry) : Type 0 where
  pub is : read_line line ≡ Some (said l)
  pub place_is : l.place ≡ length entries
  pub read : HasRead new edition owner (entries ++ l.entry ∷ [])

-- the line says the next entry, which isn't good, whatever entries follow it
pub record IsIllegal (line : List ℕ) (edition : Edition) (owner : UserId) (entries : List Entry)
    : Type 0 where
  pub entry : Entry
  pub line_of : IsLineOf line (length entries) entry
  pub bad : (more : List Entry)
      → IsBadAt edition owner [] (entries ++ entry ∷ more) (length entries)

-- the line says an entry of another place
pub record IsMisplaced (line : List ℕ) (entries : List Entry) : Type 0 where
  pub place : ℕ
  pub entry : Entry
  pub line_of : IsLineOf line place entry
  pub other : place ≢ length entries

abbrev pub IsWrong : Wrong → List ℕ → Edition → UserId → List Entry → Type 0
IsWrong wrong.NoEntry line edition owner entries = read_line line ≡ None
IsWrong wrong.OtherPlace line edition owner entries = IsMisplaced line entries
IsWrong wrong.Illegal line edition owner entries = IsIllegal line edition owner entries
IsWrong wrong.NoMemory line edition owner entries = Unit {0}

-- what is told of the next line
abbrev pub Tells : Result EntryLine Wrong → Audit → List ℕ → Edition → UserId → List Entry → Type 0
Tells (Ok l) new line edition owner entries = Takes l new line edition owner entries
Tells (Err w) new line edition owner entries = IsWrong w line edition owner entries

abbrev pub entry_in : Said → Entry
entry_in x = x.2

abbrev pub entries_in : List Said → List Entry
entries_in said = map entry_in said

-- ---- laws

-- entries that were read are legal
abbrev pub ReadIsLegal : Type 0
ReadIsLegal =
    (a : Audit) (edition : Edition) (owner : UserId) (entries : List Entry)
    → HasRead a edition owner entries → AreLegal edition owner [] entries

-- no run of an edition and owner has a trail with an entry that isn't good
abbrev pub NoRunIsBad : Type 0
NoRunIsBad = (h : Trace) (place : ℕ) → IsRun h → IsBadAt h.edition h.owner [] (entries_of h.entries) place → ⊥
