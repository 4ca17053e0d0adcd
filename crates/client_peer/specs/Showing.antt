-- What a client passes on to its terminal: functions that draws use, and nothing else.
use Rattle.std.specs.Prelude.{◌≡◌, ℕ, List, [], ◌∷◌, ◌++◌, ◌⊎◌, Bool, true, false, not, ◌&&◌}
use Rattle.client_words.specs.declared.arguments.Subcommand.TheVariants.{Attach}
use Rattle.draw_check.specs.Functions.{BeginDraws}
use Rattle.draw_check.specs.Places.{place_after}
use Rattle.client_notice.specs.declared.notice.NoticeStage.{NoticeStage}
use Rattle.client_notice.specs.declared.notice.NoticeStage.TheVariants.{Shown}
use Rattle.client_notice.specs.Notices.{IsHelp, PutsLine}
use Rattle.client_peer.specs.declared.peer.Peer.{Peer}

-- these bytes were added to those that wait for standard output
pub record Adds (old new : Peer) (bytes : List ℕ) : Type 0 where
  pub subcommand : new.subcommand ≡ old.subcommand
  pub draws : new.draws ≡ old.draws
  pub added : new.bytes.items ≡ old.bytes.items ++ bytes

pub record Keeps (old new : Peer) : Type 0 where
  pub subcommand : new.subcommand ≡ old.subcommand
  pub draws : new.draws ≡ old.draws
  pub kept : new.bytes.items ≡ old.bytes.items

-- after `came` more bytes are passed on; all together begin functions that draws use
pub record Passed (old new : Peer) (came : List ℕ) : Type 0 where
  pub more : List ℕ
  pub added : new.bytes.items ≡ old.bytes.items ++ more
  pub begin : BeginDraws (came ++ more)

-- and the check has read them
pub record Read (old new : Peer) (came : List ℕ) : Type 0 where
  pub passed : Passed old new came
  pub stands : new.draws ≡ place_after (came ++ passed.more)

-- a client that has passed on `came`, whatever that is
abbrev pub IfClient : Peer → (List ℕ → Type 0) → Type 0
IfClient old P =
    old.subcommand ≡ Attach → (came : List ℕ) → BeginDraws came → old.draws ≡ place_after came → P came

pub record PassesOn (old new : Peer) : Type 0 where
  pub subcommand : new.subcommand ≡ old.subcommand
  pub passes : IfClient old (Read old new)

-- the same before a fault, after which the peer ends
abbrev pub StopsAt : Peer → Peer → Type 0
StopsAt old new = IfClient old (Passed old new)

-- CAN ends what may have been begun on the terminal, and the check has read nothing since
pub record CutsOff (old new : Peer) : Type 0 where
  pub drawn : (old.has_drawn ≡ true) × (new.has_drawn ≡ false)
  pub subcommand : new.subcommand ≡ old.subcommand
  pub draws : new.draws ≡ place_after []
  pub added : new.bytes.items ≡ old.bytes.items ++ 0x18 ∷ []

abbrev pub cutting : Peer → Peer → Peer
cutting old new = record old { bytes = new.bytes; draws = new.draws; has_drawn = new.has_drawn }

-- the check begins anew only after CAN; else it goes on where it was
abbrev pub BeginsAnew : Peer → Peer → Type 0
BeginsAnew old new = CutsOff old new ⊎ (Keeps old new × (new.has_drawn ≡ old.has_drawn))

-- ---- what a client writes to its terminal of its own

abbrev pub noticing : Peer → Peer → Peer
noticing old new = record old {
  bytes = new.bytes;
  notice = record old.notice { is_hidden = new.notice.is_hidden };
}

abbrev pub helping : Peer → Peer → Peer
helping old new = record old {
  bytes = new.bytes;
  draws = new.draws;
  is_helping = new.is_helping;
  is_covered = new.is_covered;
}

-- nothing is put down, and the terminal shows the help, or doesn't, as before
abbrev pub IsUncovered : Peer → Peer → Type 0
IsUncovered old new =
    (new.bytes.items ≡ old.bytes.items) × (new.draws ≡ old.draws)
    × (new.is_helping ≡ old.is_helping) × (new.is_covered ≡ old.is_covered)

-- the last line has the text, or as much of it as there is room for
abbrev pub ShowsNotice : Peer → Peer → Type 0
ShowsNotice old new = PutsLine old.notice.text.items old.rows old.columns old.bytes.items new.bytes.items

-- no draw is half written, and the terminal doesn't show the help
abbrev pub is_free : Peer → Bool
is_free p = not p.is_cut && not p.is_covered

abbrev pub is_shown : NoticeStage → Bool
is_shown (Shown since) = true
is_shown other = false

-- The text that is shown is put down again after a draw, which may have written over it, as soon as the terminal is
-- free.
pub record KeepsNotice (old new : Peer) : Type 0 where
  pub keeps : (is_shown old.notice.stage && old.notice.is_hidden && is_free old) ≡ true
      → ShowsNotice old new × (new.notice.is_hidden ≡ false)
  pub stays : (is_shown old.notice.stage && old.notice.is_hidden && is_free old) ≡ false → new ≡ old

-- The help covers the terminal, and the check has read it. Unless the terminal is free, the help isn't shown.
pub record ShowsHelp (old new : Peer) : Type 0 where
  pub shows : is_free old ≡ true → (new.is_helping ≡ true) × (new.is_covered ≡ true) × PassesOn old new
      × (page : List ℕ) × IsHelp old.columns old.rows page × (new.bytes.items ≡ old.bytes.items ++ page)
  pub stays : is_free old ≡ false → IsUncovered old new
