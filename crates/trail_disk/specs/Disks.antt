-- What is told of a trail's disk, and when its file is synced.
use Rattle.std.specs.Prelude.{◌≡◌, ℕ, ◌+◌, ◌-◌, ◌/◌, ◌%◌, ◌^◌, ◌==◌, ◌&&◌, Bool, true, Option, Some, None}
use Rattle.std.specs.Prelude.{IfSome, Result, Ok, Err, if◌then◌else◌, is_err, is_ok, min, nat_le, nat_lt, unwrap_or}
use Rattle.std.specs.Duration.{as_nanos}
use Rattle.std.specs.declared.time.Duration.{Duration}
use Rattle.std.specs.declared.io.Error.{Error}
use Rattle.trail_disk.specs.declared.disk.Disk.{Disk}
use Rattle.trail_disk.specs.declared.disk.DiskNews.{DiskNews}
use Rattle.trail_disk.specs.declared.disk.DiskNews.TheVariants as news
use Rattle.trail_disk.specs.declared.disk.Refusals.{Refusals}
use Rattle.trail_disk.specs.declared.syncing.Syncing.{Syncing}

-- ---- refusals in a row

abbrev pub no_refusal : Refusals
no_refusal = record { count = 0; error = None }

abbrev pub one_more : Error → Refusals → Refusals
one_more error r = record { count = min (r.count + 1) (2 ^ 32 - 1); error = Some error }

-- after a write
abbrev pub after_write : Result ℕ Error → Refusals → Refusals
after_write (Ok count) r = no_refusal
after_write (Err error) r = one_more error r

-- after a sync; one that succeeds ends no row, since what was refused may be lost for good
abbrev pub after_sync : Result (Unit {0}) Error → Refusals → Refusals
after_sync (Ok done) r = r
after_sync (Err error) r = one_more error r

-- the last one is told if it is the first of a row, and of each 60 that follow
abbrev pub told_of : Refusals → Option Error
told_of r = if r.count % 60 == 1 then r.error else None

-- what is told after a write of so many bytes, before which writes were refused or not
abbrev pub news_of : Bool → ℕ → Refusals → Option Error → Option DiskNews
news_of refused bytes r (Some error) = Some (news.Refuses error bytes)
news_of refused bytes r None = if refused && r.count == 0 then Some news.Resumes else None

-- what is told after a write of so many bytes, from the refusals before it and after it
abbrev pub news_after : ℕ → Refusals → Refusals → Option DiskNews
news_after bytes old new = news_of (nat_lt 0 old.count) bytes new (told_of new)

-- a refused sync is told, if that is news
abbrev pub IsTold : (DiskNews → Type 0) → Result (Unit {0}) Error → Refusals → Type 0
IsTold tells came r = is_err came ≡ true → IfSome (told_of r) (λ error. tells (news.Unsynced error))

-- ---- syncs

-- one is due if something was written and a second has passed since the last one, or nobody knows the time
abbrev pub sync_is_due : Option Duration → Syncing → Bool
sync_is_due None s = s.is_behind
sync_is_due (Some now) s = s.is_behind && nat_le 1 ((as_nanos now - as_nanos s.last) / 1000000000)

module _ {F : Type 0} (syncs : F → Result (Unit {0}) Error → F → Type 0) where
  -- the file was synced once, and a refusal is noted
  abbrev pub IsSynced : Disk F → Result (Unit {0}) Error → Disk F → Type 0
  IsSynced old came new = syncs old.file came new.file
      × (new ≡ record old { file = new.file; syncs = after_sync came old.syncs })

  -- the file was synced once
  abbrev pub SyncsOnce : F → F → Type 0
  SyncsOnce old new = (came : Result (Unit {0}) Error) × syncs old came new

  -- the last sync succeeded
  abbrev pub HasSynced : F → Type 0
  HasSynced new = (old : F) × (came : Result (Unit {0}) Error) × syncs old came new × (is_ok came ≡ true)

  -- the file was synced once, at this time, and whether it has to be synced again is noted
  abbrev pub HasTried : Option Duration → Syncing → F → Syncing → F → Type 0
  HasTried now old file new left = (came : Result (Unit {0}) Error) × syncs file came left
      × (new ≡ record { is_behind = is_err came; last = unwrap_or now old.last })
