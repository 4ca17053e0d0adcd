-- How a trail's file ends, and the exit status that says so.
use Rattle.std.specs.Prelude.{ℕ, ◌≡◌, ◌≢◌, Bool, true, false, List, [], length, Option, Some, None, IfSome}
use Rattle.acl.specs.declared.leaders.Edition.{Edition}
use Rattle.acl.specs.declared.user_id.UserId.{UserId}
use Rattle.trail_lines.specs.declared.audit.Audit.{Audit}
use Rattle.trail_lines.specs.declared.ending.Ended.{Ended}
use Rattle.trail_lines.specs.declared.audit.Wrong.TheVariants as wrong
use Rattle.trail_lines.specs.declared.halt.Halt.{Halt}
use Rattle.trail_lines.specs.declared.halt.Halt.TheVariants as halt
use Rattle.trail_lines.specs.declared.audit.Times.{Times}
use Rattle.trail_lines.specs.Halting.{IsRead}
use Rattle.trail_lines.specs.Heading.{read_end}
use Rattle.trail_lines.specs.Times.{no_times}
use Rattle.trail_files.specs.declared.check.Finish.{Finish}
use Rattle.trail_files.specs.declared.check.Finish.TheVariants as finish

-- something is wrong in the file
abbrev pub is_bad : Finish → Bool
is_bad (finish.Ended e) = false
is_bad finish.Open = false
is_bad finish.Torn = false
is_bad f = true

-- 0 if the file is legal and has its last line, 3 if it is legal and has no last line, 1 if something is
-- wrong in it; None if memory was refused, so that nothing is known
abbrev pub status_of : Finish → Option ℕ
status_of (finish.Ended e) = Some 0
status_of finish.Open = Some 3
status_of finish.Torn = Some 3
status_of (finish.Stopped n wrong.NoMemory) = None
status_of f = Some 1

-- the line is a last line that counts this many entries
abbrev pub IsEndOf : ℕ → List ℕ → Ended → Type 0
IsEndOf count line e = (read_end line ≡ Some e) × (e.entries ≡ count)

abbrev pub IsNoEndOf : ℕ → List ℕ → Type 0
IsNoEndOf count line = (e : Ended) → read_end line ≡ Some e → e.entries ≢ count

-- what a line says that is the last line of this many entries; None if no such line is spelled so
abbrev pub IfEndOf : Option Ended → ℕ → List ℕ → Type 0
IfEndOf (Some e) count line = IsEndOf count line e
IfEndOf None count line = IsNoEndOf count line

-- how a file ends at the line of this number, which begins as a last line does: if the bytes after it are
-- known, there are none after a last line, unless the file is continued
abbrev pub EndsAt : Finish → ℕ → ℕ → List ℕ → Option (List ℕ) → Type 0
EndsAt (finish.Ended e) count number line rest = IsEndOf count line e × IfSome rest (λ bytes. bytes ≡ [])
EndsAt (finish.Miscounted n) count number line rest = (n ≡ number) × IsNoEndOf count line
EndsAt (finish.Continued n) count number line rest =
    (n ≡ number) × (e : Ended) × IsEndOf count line e × IfSome rest (λ bytes. bytes ≢ [])
EndsAt f count number line rest = ⊥

-- how a file ends whose reading halted so after this many entries
abbrev pub Finishes : Finish → Halt → ℕ → List ℕ → Option (List ℕ) → Type 0
Finishes f halt.Nothing count line rest = f ≡ finish.Open
Finishes f halt.Torn count line rest = f ≡ finish.Torn
Finishes f (halt.Last number) count line rest = EndsAt f count number line rest
Finishes f (halt.Stopped n w) count line rest = f ≡ finish.Stopped n w

-- the entries of the lines were read, and passed the audit, up to the line that halted the reading; and the
-- file ends so there. If the bytes of the reader are known, `old` are those
pub record IsChecked (f : Finish) (before : Times) (audit : Audit) (edition : Edition) (owner : UserId)
    (old : Option (List ℕ)) : Type 0 where
  pub halt_is : Halt
  pub line : List ℕ
  pub rest : Option (List ℕ)
  pub read : IsRead halt_is before audit line edition owner old rest
  pub finishes : Finishes f halt_is (length read.said) line rest

-- the entries of a reader's bytes were judged from the first one on, and the status says how the file ends
abbrev pub IsJudged : ℕ → Edition → UserId → Option (List ℕ) → Type 0
IsJudged status edition owner old =
    (audit : Audit) × (f : Finish) × IsChecked f no_times audit edition owner old × (status_of f ≡ Some status)
