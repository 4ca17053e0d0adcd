-- Sizes of a client's terminal. Times are in milliseconds.
use Rattle.std.specs.Prelude.{◌+◌, ℕ, Option, Some, None, if◌then◌else◌, is_some, nat_le, min, ◌&&◌}
use Rattle.server_typing.specs.declared.Sizing.{Sizing}

abbrev pub no_size : Sizing
no_size = record { wanted = None; after = 0 }

-- the last size that was told counts
abbrev pub with_size : ℕ × ℕ → Sizing → Sizing
with_size size s = record s { wanted = Some size }

abbrev pub next_size : ℕ → Sizing → Option (ℕ × ℕ)
next_size now s = if nat_le s.after now then s.wanted else None

-- the next one is done a tenth of a second later
abbrev pub after_size : ℕ → Sizing → Sizing
after_size now s = if nat_le s.after now && is_some s.wanted then record {
  wanted = None;
  after = min (now + 100) 18446744073709551615;
} else s
