use Rattle.std.proofs.Common.{◌≡◌, ◌≤◌, max}
use Rattle.std.specs.Prelude.{vec_len}
use Rattle.server_connections.specs.Marked.{HaveSameMarks}
use Rattle.server_connections.proofs.marked.grow.Given as goal

abbrev pub invariant-words : goal.invariant-words
invariant-words l =
    (vec_len l.words ≡ l.counter) × (vec_len l.fn.words ≤ l.counter) × (l.counter ≤ max (vec_len l.fn.words) l.count)
    × HaveSameMarks l.fn.words.items l.words.items
