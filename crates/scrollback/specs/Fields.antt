-- The fields of a ring, and the lines that it keeps.
use Rattle.std.specs.Prelude.{◌≡◌, ℕ, ◌<◌, ◌≤◌, [], length, slice_index_or}
use Rattle.circular_buffer.specs.Buffer.{keep_last}
use Rattle.scrollback.specs.Kept.{Kept}
use Rattle.scrollback.specs.declared.ring.Ring.TheInside.{Inside}

-- the lines that were taken in are the last ones of the buffer
abbrev pub kept_lines : Inside → Kept
kept_lines ring =
    record {
      keep = ring.lines.capacity;
      columns = ring.columns;
      lines = keep_last ring.count ring.lines.items;
    }

-- the buffer is full of lines of one width
pub record IsRing (ring : Inside) : Type 0 where
  pub full : length ring.lines.items ≡ ring.lines.capacity
  pub inside : ring.count ≤ ring.lines.capacity
  pub width : (n : ℕ) → n < length ring.lines.items
      → length (slice_index_or ring.lines.items n []) ≡ ring.columns
