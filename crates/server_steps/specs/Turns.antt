-- From which key on a loop asks for draws.
use Rattle.std.specs.Prelude.{◌&&◌, ℕ, Bool, true, false, not, Option, Some, None, if◌then◌else◌, nat_lt}

-- in a turn: those that were begun are gone on with, and others begin unless draws are held
abbrev pub drawn_from : Option ℕ → Bool → Option ℕ
drawn_from None true = None
drawn_from None false = Some 0
drawn_from (Some from) is_held = Some from

-- in the next turn: from the first key that is left, or for those before the key from which it went on
abbrev pub next_from : Option ℕ → ℕ → Bool → Option ℕ
next_from (Some next) from is_held = Some next
next_from None from is_held = if nat_lt 0 from && not is_held then Some 0 else None
