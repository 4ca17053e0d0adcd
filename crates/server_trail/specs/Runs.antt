-- The lines of entries from one place on: how they are put down, taken and written.
use Rattle.std.specs.Prelude.{◌≡◌, ℕ, ◌+◌, ◌≤◌, Bool, true, List, [], ◌∷◌, ◌++◌, All, Option, length}
use Rattle.hub.specs.Trails.{Entry}
use Rattle.trail_lines.specs.Entries.{line_of}
use Rattle.server_trail.specs.declared.merge.Merge.{Merge}
use Rattle.server_trail.specs.declared.waiting.Written.{Written}
use Rattle.server_trail.specs.Files.{AreLines, HasWritten}
use Rattle.server_trail.specs.Merging.{HasMerged, Placed, text_below}

-- it is the line of an entry at its place, with its line feed
abbrev pub IsLine : Placed → Type 0
IsLine p = (ms : ℕ) × (e : Entry) × (p.1 ≡ line_of (p.0, ms, e) ++ 0x0A ∷ [])

-- each line that was put down is that of an entry; those of the places below this one were taken
abbrev pub HasPut : ℕ → Merge → Type 0
HasPut first m =
    (put : List Placed) × All IsLine put × HasMerged put (text_below put first) m × (first ≤ m.next)

-- the lines of entries at the places from the first one up to the next one, each once and in their order
abbrev pub AreRun : (first next : ℕ) → List ℕ → Type 0
AreRun first next text = (entries : List Entry) × (next ≡ first + length entries) × AreLines first entries text []

-- such lines were written after what was there: all of them, or the first bytes
abbrev pub HasRun : (first next : ℕ) → Option (List ℕ) → Option (List ℕ) → Bool → Type 0
HasRun first next old new is_all = (text : List ℕ) × AreRun first next text × HasWritten old new text is_all

-- after this many lines more were written, and are counted if all of them were
abbrev pub HasSent : (sent now : ℕ) → Option (List ℕ) → Option (List ℕ) → Bool → Type 0
HasSent sent now old new is_all =
    (next : ℕ) × HasRun sent next old new is_all × (is_all ≡ true → next ≡ now)

-- the lines of a trail were written from its first place on, and as many as are told if it is whole
abbrev pub IsWritten : Written → Option (List ℕ) → Option (List ℕ) → Type 0
IsWritten written old new = (next : ℕ) × HasRun 0 next old new written.is_whole
    × (written.is_whole ≡ true → next ≡ written.entries)
