-- Lines of entries, and what shows that one was put down.
use Rattle.std.specs.Prelude.{◌≡◌, ◌++◌, ◌∷◌, [], ℕ, Option, Some}
use Rattle.hub.specs.Trails.{Entry}
use Rattle.trail_lines.specs.Entries.{line_of}
use Rattle.server_trail.specs.declared.waiting.EntryLine.{EntryLine}
use Rattle.server_trail.specs.declared.waiting.PutLine.{PutLine}

-- it is the line of this entry at its place and time, with its line feed
pub record IsOfEntry (place ms : ℕ) (entry : Option Entry) (line : EntryLine) : Type 0 where
  pub place_is : line.place ≡ place
  pub entry_is : entry ≡ Some line.source.now
  pub text : line.text.items ≡ line_of (line.place, ms, line.source.now) ++ 0x0A ∷ []

-- what was put down is the line of this entry at its place
pub record IsEntrys (place : ℕ) (entry : Option Entry) (put : PutLine) : Type 0 where
  pub place_is : put.place ≡ place
  pub entry_is : entry ≡ Some put.source.now
