-- The file to which a server writes its session's trail.
use Rattle.std.specs.Prelude.{◌≡◌, ℕ, List, Option, Result, is_none, is_ok}
use Rattle.std.specs.declared.io.Error.{Error}
use Rattle.trail_disk.specs.Disks.{IsSynced}
use Rattle.trail_disk.specs.declared.disk.Disk.{Disk}
use Rattle.trail_lines.specs.declared.ending.Cause.{Cause}
use Rattle.server_trail.specs.Faults.{fault_in}
use Rattle.server_trail.specs.Files.{EndsAs, EndsSynced}
use Rattle.server_trail.specs.Stopping.{last_cause, stop_cause}
use Rattle.server_trail.specs.declared.ending.Noted.{Noted}
use Rattle.server_trail.specs.declared.journal.Journal.{Journal}
use Rattle.server_trail.specs.declared.waiting.Written.{Written}

abbrev pub journal_path : {F : Type 0} → Journal F → List ℕ
journal_path journal = journal.begun.made.path.now

module _ {F : Type 0} (contents : F → Option (List ℕ)) (syncs : F → Result (Unit {0}) Error → F → Type 0) where
  -- a file was ended: its last line names why it stopped, or else why its session ended; it was synced, and
  -- what its disk had refused by then was noted
  pub record HasEnded (written : Written) (cause : Option Cause) (noted : Noted) : Type 0 where
    pub disk : Disk F
    pub left : Disk F
    pub ended : EndsAs written (last_cause (stop_cause noted.stop) cause) (contents disk.file) (contents left.file)
        noted.ended
    pub synced : EndsSynced (IsSynced syncs) (is_ok noted.ended) left
    pub is_sound : noted.is_sound ≡ is_none (fault_in noted.stop noted.ended left)
