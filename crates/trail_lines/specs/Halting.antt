-- What is told when a file's entries were read, and which bytes were read.
use Rattle.std.specs.Prelude.{ℕ, ◌≡◌, ◌+◌, Bool, true, false, List, [], ◌∷◌, Option, Some, None, length, codes, nat_eq}
use Rattle.std.specs.List.{starts_with}
use Rattle.acl.specs.declared.leaders.Edition.{Edition}
use Rattle.acl.specs.declared.user_id.UserId.{UserId}
use Rattle.hub.specs.Trails.{Entry}
use Rattle.trail_lines.specs.Entries.{Said, read_line}
use Rattle.trail_lines.specs.declared.audit.Audit.{Audit}
use Rattle.trail_lines.specs.declared.halt.Halt.{Halt}
use Rattle.trail_lines.specs.declared.halt.Halt.TheVariants as halt
use Rattle.trail_lines.specs.declared.halt.NextLine.TheVariants as came
use Rattle.trail_lines.specs.declared.audit.Times.{Times}
use Rattle.trail_lines.specs.Lines.{ComesAs, OfKnown}
use Rattle.trail_lines.specs.Times.{times_after}
use Rattle.trail_lines.specs.Reading.{HasRead, IsWrong, entries_in}

-- no line is wrong
abbrev pub IsEnd : Halt → Type 0
IsEnd (halt.Stopped number w) = ⊥
IsEnd h = Unit {0}

-- the line begins as a last line does
abbrev pub is_last : List ℕ → Bool
is_last line = starts_with nat_eq line (codes "end ")

-- the lines of these entries were read, one after another, and the rest is left
abbrev pub AreRead : List Said → List ℕ → List ℕ → Type 0
AreRead [] bytes rest = bytes ≡ rest
AreRead (x ∷ said) bytes rest =
    (line : List ℕ) × (more : List ℕ) × ComesAs came.Whole line bytes more
    × (is_last line ≡ false) × (read_line line ≡ Some x) × AreRead said more rest

-- the reading of these bytes halts at their end, at bytes without a line feed, or at the line of this
-- number
abbrev pub Halts : Halt → ℕ → List ℕ → List ℕ → List ℕ → Type 0
Halts halt.Nothing number line bytes rest = ComesAs came.Nothing line bytes rest
Halts halt.Torn number line bytes rest = ComesAs came.Torn line bytes rest
Halts (halt.Last n) number line bytes rest =
    (n ≡ number) × ComesAs came.Whole line bytes rest × (is_last line ≡ true)
Halts (halt.Stopped n w) number line bytes rest =
    (n ≡ number) × ComesAs came.Whole line bytes rest × (is_last line ≡ false)

-- None means that a line was read that doesn't halt the reading
abbrev pub NextIs : Option Halt → ℕ → List ℕ → List ℕ → List ℕ → Type 0
NextIs None number line bytes rest = ComesAs came.Whole line bytes rest × (is_last line ≡ false)
NextIs (Some h) number line bytes rest = Halts h number line bytes rest

-- the lines of these entries were read, from the file's line 2 on, and then the reading halted
abbrev pub IsReadTo : Halt → List Said → List ℕ → List ℕ → List ℕ → Type 0
IsReadTo h said line bytes rest =
    (behind : List ℕ) × AreRead said bytes behind × Halts h (length said + 2) line behind rest

-- the entries are good; if the reading stopped, the line after theirs is wrong, and w says why
abbrev pub TellsOf : Halt → Audit → List ℕ → Edition → UserId → List Entry → Type 0
TellsOf (halt.Stopped n w) audit line edition owner entries =
    (n ≡ length entries + 2) × IsWrong w line edition owner entries
TellsOf h audit line edition owner entries = HasRead audit edition owner entries

-- the entries of the lines that were read before the reading halted, and their times; if the bytes of
-- the reader are known, `old` are those before and `new` those that are left
pub record IsRead (h : Halt) (before : Times) (audit : Audit) (line : List ℕ) (edition : Edition)
    (owner : UserId) (old new : Option (List ℕ)) : Type 0 where
  pub said : List Said
  pub tells : TellsOf h audit line edition owner (entries_in said)
  pub times : IsEnd h → audit.times ≡ times_after before said
  pub from : OfKnown old new (IsReadTo h said line)
