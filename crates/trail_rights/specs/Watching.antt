-- What a watch stands for, and what it tells of a file's entries.
use Rattle.std.specs.Prelude.{ℕ, ◌≡◌, ◌+◌, ◌≤◌, ◌⊎◌, List, [], ◌∷◌, ◌++◌, length, Result, Ok, Err, Option, Some}
use Rattle.std.specs.List.{FoldsTo}
use Rattle.std.specs.Fn.{Mut, CalledAt}
use Rattle.std.specs.Borrow.{Bor}
use Rattle.std.specs.declared.alloc.AllocError.{AllocError}
use Rattle.acl.specs.declared.leaders.Edition.{Edition}
use Rattle.acl.specs.declared.user_id.UserId.{UserId}
use Rattle.trail_lines.specs.declared.entries.EntryLine.{EntryLine}
use Rattle.trail_lines.specs.Entries.{Said, read_line, said}
use Rattle.trail_lines.specs.declared.audit.Wrong.{Wrong}
use Rattle.trail_lines.specs.declared.halt.Halt.{Halt}
use Rattle.trail_lines.specs.declared.halt.Halt.TheVariants as halt
use Rattle.trail_lines.specs.Lines.{OfKnown}
use Rattle.trail_lines.specs.Reading.{HasRead, IsWrong}
use Rattle.trail_lines.specs.Halting.{AreRead, IsReadTo}
use Rattle.trail_rights.specs.declared.watch.Watch.{Watch}
use Rattle.trail_rights.specs.Marks.{marked_after, entries_in}
use Rattle.trail_rights.specs.Keeping.{HasKept}

-- these entries were read, each at its place; all are good, and their acts are kept
pub record HasWatched (w : Watch) (edition : Edition) (owner : UserId) (said : List Said)
    : Type 0 where
  pub read : HasRead w.audit edition owner (entries_in said)
  pub kept : HasKept w.acts (marked_after [] said)

-- the line says the next entry, which was read too
pub record TakesNext (l : EntryLine) (new : Watch) (line : List ℕ) (edition : Edition) (owner : UserId)
    (before : List Said) : Type 0 where
  pub is : read_line line ≡ Some (said l)
  pub place_is : l.place ≡ length (entries_in before)
  pub watched : HasWatched new edition owner (before ++ said l ∷ [])

abbrev pub TellsNext : Result EntryLine Wrong → Watch → List ℕ → Edition → UserId → List Said → Type 0
TellsNext (Ok l) new line edition owner said = TakesNext l new line edition owner said
TellsNext (Err w) new line edition owner said = IsWrong w line edition owner (entries_in said)

-- the entries before the line that halts the reading were read; a wrong line is the one after theirs
abbrev pub TellsAll : Halt → Watch → List ℕ → Edition → UserId → List Said → Type 0
TellsAll (halt.Stopped n w) watch line edition owner said =
    (n ≡ length said + 2) × IsWrong w line edition owner (entries_in said)
TellsAll h watch line edition owner said = HasWatched watch edition owner said

-- the lines of all entries up to the place `last` were read, and nothing after them; or fewer lines,
-- and then the reading halted
abbrev pub IsWatchedTo : Halt → ℕ → List Said → List ℕ → List ℕ → List ℕ → Type 0
IsWatchedTo h last said line bytes rest =
    ((length said ≡ last + 1) × (h ≡ halt.Nothing) × AreRead said bytes rest)
    ⊎ ((length said ≤ last) × IsReadTo h said line bytes rest)

-- a callback is called with the line of an entry, and takes it
abbrev pub Follows : {F : Type 0} → Mut F (Bor EntryLine × Unit {0}) (Result (Unit {0}) AllocError) → F → Said → F
    → Type 0
Follows g f x more = (l : EntryLine) × (said l ≡ x) × CalledAt g f l (Ok tt) more

-- it is called with the lines of these entries, one after another
abbrev pub AreFollowed : {F : Type 0} → Mut F (Bor EntryLine × Unit {0}) (Result (Unit {0}) AllocError) → F → List Said
    → Type 0
AreFollowed {F} g f said = (last : F) × FoldsTo (Follows g) f said last

-- the entries of the lines that were read, up to the place `last`, and what is done with them; if the
-- bytes of the reader are known, `old` are those before and `new` those that are left
pub record IsWatched (h : Halt) (watch : Watch) (line : List ℕ) (last : ℕ) (edition : Edition)
    (owner : UserId) (old new : Option (List ℕ)) (Done : List Said → Type 0) : Type 0 where
  pub said : List Said
  pub tells : TellsAll h watch line edition owner said
  pub few : length said ≤ last + 1
  pub from : OfKnown old new (IsWatchedTo h last said line)
  pub done : Done said
