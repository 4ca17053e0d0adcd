-- How a trail's entries are read, one after another, and what is known after them.
use Rattle.std.specs.Prelude.{ℕ, ◌≡◌, ◌+◌, ◌-◌, ◌^◌, ◌++◌, ◌∷◌, false, [], List, Option, Some, None, length, unwrap_or}
use Rattle.std.specs.List.{FoldsTo}
use Rattle.acl.specs.declared.act.LockMode.TheVariants.{Off}
use Rattle.acl.specs.declared.leaders.Edition.{Edition}
use Rattle.acl.specs.declared.user_id.UserId.{UserId}
use Rattle.trail_files.specs.Finishing.{Finishes}
use Rattle.trail_files.specs.declared.check.Finish.{Finish}
use Rattle.trail_lines.specs.Entries.{Said, read_line}
use Rattle.trail_lines.specs.Lines.{OfKnown}
use Rattle.trail_lines.specs.Reading.{IsWrong, entries_in}
use Rattle.trail_lines.specs.declared.audit.Wrong.{Wrong}
use Rattle.trail_lines.specs.declared.halt.Halt.{Halt}
use Rattle.trail_lines.specs.declared.halt.Halt.TheVariants as halt
use Rattle.trail_rights.specs.Watching.{HasWatched, IsWatchedTo}
use Rattle.trail_setup.specs.Alone.{HasEntries}
use Rattle.trail_setup.specs.Keeping.{FollowsEntry}
use Rattle.trail_setup.specs.Masks.{all_bits}
use Rattle.trail_setup.specs.declared.mode.ModeSeen.TheVariants.{Single}
use Rattle.trail_setup.specs.declared.state.SetupState.{SetupState}
use Rattle.mux_trail.specs.History.{IsNoted, noted}
use Rattle.mux_trail.specs.declared.reading.TrailReading.{TrailReading}
use Rattle.mux_trail.specs.declared.words.Limits.{Limits}
use Rattle.mux_trail.specs.declared.words.RightsAsked.{RightsAsked}

-- ---- of whatever takes entries: `After` says what is so after these

-- the line says the next entry, which is taken; or this is wrong with the line
abbrev pub TakesNext : (List Said → Type 0) → Option Wrong → List ℕ → Edition → UserId → List Said → Type 0
TakesNext After None line edition owner said = (x : Said) × (read_line line ≡ Some x) × After (said ++ x ∷ [])
TakesNext After (Some w) line edition owner said = IsWrong w line edition owner (entries_in said)

-- the entries before the line that halts the reading were taken; a wrong line is the one after theirs
abbrev pub TakesAll : (List Said → Type 0) → Halt → List ℕ → Edition → UserId → List Said → Type 0
TakesAll After (halt.Stopped n w) line edition owner said =
    (n ≡ length said + 2) × IsWrong w line edition owner (entries_in said)
TakesAll After h line edition owner said = After said

-- the entries of the lines that were read, up to the place `last`; if the bytes of the reader are known, `old` are
-- those before and `new` those that are left
pub record AreTaken (After : List Said → Type 0) (h : Halt) (line : List ℕ) (last : ℕ) (edition : Edition)
    (owner : UserId) (old new : Option (List ℕ)) : Type 0 where
  pub said : List Said
  pub takes : TakesAll After h line edition owner said
  pub from : OfKnown old new (IsWatchedTo h last said line)

-- and the file ends so there; after the last line of a file that is followed nothing is waited for
pub record IsFileRead (After : List Said → Type 0) (f : Finish) (limits : Limits) (edition : Edition) (owner : UserId)
    (old : Option (List ℕ)) : Type 0 where
  pub halt_is : Halt
  pub line : List ℕ
  pub rest : Option (List ℕ)
  pub behind : Option (List ℕ)
  pub taken : AreTaken After halt_is line (unwrap_or limits.last (2 ^ 64 - 1)) edition owner old rest
  pub finishes : Finishes f halt_is (length taken.said) line behind
  pub looked : limits.follows ≡ false → behind ≡ rest

-- ---- of what is read for an answer about rights

-- what a setup needs before the first entry, if one is asked for
abbrev pub IsFirst : Edition → UserId → Option SetupState → Type 0
IsFirst edition owner None = Unit {0}
IsFirst edition owner (Some s) = HasEntries s.entries edition owner []
    × ((s.windows.items ≡ []) × (s.masks.items ≡ []))
    × ((s.on_windows ≡ all_bits) × (s.on_commands ≡ all_bits))
    × ((s.default ≡ Off) × (s.mode ≡ Single) × (s.owner ≡ owner))

abbrev pub FollowsSaid : Option SetupState → Said → Option SetupState → Type 0
FollowsSaid None x None = Unit {0}
FollowsSaid (Some old) x (Some new) = FollowsEntry x.2 old new
FollowsSaid _ x _ = ⊥

-- a watch, names, the changes of the bit that is asked about and what a setup needs, after these entries of this
-- owner's trail, each of which was followed
pub record HasRead (r : TrailReading) (asked : RightsAsked) (edition : Edition) (owner : UserId) (said : List Said)
    : Type 0 where
  pub owner_is : r.owner ≡ owner
  pub asked_is : r.asked ≡ asked
  pub watched : HasWatched r.watch edition owner said
  pub noted_so : IsNoted asked edition owner said r.names (noted r.history)
  pub first : Option SetupState
  pub is_first : IsFirst edition owner first
  pub followed : FoldsTo FollowsSaid first said r.state
