-- The word of a reply.
use Rattle.std.specs.Prelude.{ℕ, ◌^◌, Bool, if◌then◌else◌, ◌==◌, nat_le, List, [], ◌∷◌, ◌++◌}
use Rattle.std.specs.Prelude.{length, map, Option, Some, None, option_map, Ok, Err, codes, decimal}
use Rattle.std.specs.Str.{bytes_eq}
use Rattle.acl.specs.declared.act.Object.{Object}
use Rattle.acl.specs.declared.act.Object.TheVariants as object
use Rattle.acl.specs.declared.leaders.Edition.TheVariants.{Second}
use Rattle.acl.specs.declared.entries.AclFault.{AclFault}
use Rattle.acl.specs.declared.entries.AclFault.TheVariants as acl
use Rattle.acl.specs.declared.user_id.UserId.{UserId}
use Rattle.acl.specs.Commands.{number_of_fault}
use Rattle.acl.specs.Names.{name_of, named_by}
use Rattle.acl.specs.History.{leaders_with}
use Rattle.command_lang.specs.declared.fault.FaultKind.{FaultKind}
use Rattle.command_lang.specs.declared.fault.FaultKind.TheVariants as line
use Rattle.command_lang.specs.FaultNumbers.{number_of}
use Rattle.command_lang.specs.Names.{name_text}
use Rattle.regions.specs.declared.layout.RegionFault.{RegionFault}
use Rattle.regions.specs.declared.layout.RegionFault.TheVariants as region
use Rattle.regions.specs.Faults as regions
use Rattle.session.specs.refusal.Denied.{Denied}
use Rattle.session.specs.refusal.Denied.TheVariants as denied
use Rattle.session.specs.refusal.Refusal.{Refusal}
use Rattle.session.specs.refusal.Refusal.TheVariants as refusal
use Rattle.session.specs.rows.WindowsFault.{WindowsFault}
use Rattle.session.specs.rows.WindowsFault.TheVariants as windows
use Rattle.session.specs.Texts.{separated, windows_number}
use Rattle.hub.specs.kept.Finished.{Finished}
use Rattle.hub.specs.Trails.{Ending}
use Rattle.line_fields.specs.Cutting.{◌>>=◌, cut, words}
use Rattle.line_fields.specs.Numbers.{number_below, number_at}
use Rattle.line_fields.specs.Parts.{colon, comma, field, user_at, nobody, mark, bit_in, object_in}

-- ---- leaders

abbrev pub leaders_text : List UserId → List ℕ
leaders_text [] = nobody
leaders_text (leader ∷ leaders) = separated (codes ",") (map name_of (leader ∷ leaders))

-- one leader more: a user has at most eight, and none twice
abbrev pub few : List UserId → Option (List UserId)
few leaders = if nat_le (length leaders) 8 then Some leaders else None

abbrev pub with_leader : List UserId → UserId → Option (List UserId)
with_leader leaders user = few (leaders_with Second (Some user) leaders)

-- those that the words say, after others
unfoldable pub leaders_of : List (List ℕ) → List UserId → Option (List UserId)
leaders_of [] before = Some before
leaders_of (word ∷ words) before =
    named_by word >>= λ user. with_leader before user >>= λ now. leaders_of words now

abbrev pub leaders_in : List ℕ → Option (List UserId)
leaders_in word =
    if bytes_eq word nobody then Some [] else leaders_of (words comma word) []

-- ---- an entry that denies, and a lock

-- a window by its serial and its number, or a command
abbrev pub denied_then : Denied → List ℕ → List ℕ
denied_then (denied.Window serial number) rest =
    field colon (decimal serial) (field colon (decimal number) rest)
denied_then (denied.Command c) rest = field colon (name_text c) (field colon nobody rest)

abbrev pub denied_of : Object → List ℕ → Option Denied
denied_of (object.Window w) word = option_map (denied.Window w) (number_below (2 ^ 8) word)
denied_of (object.Command c) word = Some (denied.Command c)

abbrev pub denied_at : List ℕ → Option (Denied × List ℕ)
denied_at bytes = do
  first ← cut colon bytes
  object ← object_in first.0
  second ← cut colon first.1
  on ← denied_of object second.0
  Some (on, second.1)

abbrev pub entry_in : List ℕ → Option Refusal
entry_in rest = do
  user ← user_at colon rest
  letter ← cut colon user.1
  bit ← bit_in letter.0
  on ← denied_at letter.1
  leaders ← leaders_in on.1
  Some (refusal.EntryDenied (record { user = user.0; bit = bit; on = on.0; leaders = leaders }))

abbrev pub lock_denied_in : List ℕ → Option Refusal
lock_denied_in rest = do
  serial ← number_at (2 ^ 32) colon rest
  number ← number_at (2 ^ 8) colon serial.1
  user ← named_by number.1
  Some (refusal.LockDenied (record { serial = serial.0; number = number.0; holder = user }))

-- ---- faults, by their numbers

abbrev pub acl_fault : ℕ → Option AclFault
acl_fault n =
    if n == 1 then Some acl.UnknownUser
    else if n == 2 then Some acl.OwnerKept
    else if n == 3 then Some acl.TooManyUsers
    else if n == 4 then Some acl.ReservedName
    else if n == 5 then Some acl.NoSuchGroup
    else if n == 6 then Some acl.NoMemory
    else if n == 7 then Some acl.TooManyGroups
    else None

abbrev pub windows_fault : ℕ → Option WindowsFault
windows_fault n =
    if n == 1 then Some windows.Full
    else if n == 2 then Some windows.NoSuchWindow
    else if n == 3 then Some windows.NumberTaken
    else if n == 4 then Some windows.BadTitle
    else if n == 5 then Some windows.NoMemory
    else None

abbrev pub regions_fault : ℕ → Option RegionFault
regions_fault n =
    if n == 1 then Some region.TooSmall
    else if n == 2 then Some region.TooMany
    else if n == 3 then Some region.LastRegion
    else if n == 4 then Some region.NoMemory
    else None

abbrev pub line_fault : ℕ → Option FaultKind
line_fault n =
    if n == 1 then Some line.UnknownCommand
    else if n == 2 then Some line.MissingWord
    else if n == 3 then Some line.ExtraWord
    else if n == 4 then Some line.BadNumber
    else if n == 5 then Some line.BadBits
    else if n == 6 then Some line.BadQuote
    else if n == 7 then Some line.TooLong
    else if n == 8 then Some line.NoMemory
    else if n == 9 then Some line.BadWord
    else None

abbrev pub small_in : List ℕ → Option ℕ
small_in word = number_below (2 ^ 8) word

abbrev pub line_in : List ℕ → Option Refusal
line_in rest = do
  number ← number_at (2 ^ 8) colon rest
  kind ← line_fault number.0
  place ← number_below (2 ^ 64) number.1
  Some (refusal.Line (record { kind = kind; place = place }))

-- ---- refusals

abbrev pub why_text : Refusal → List ℕ
why_text (refusal.EntryDenied d) =
    field colon (codes "entry") (field colon (name_of d.user) (field colon (mark d.bit ∷ [])
    (denied_then d.on (leaders_text d.leaders))))
why_text (refusal.LockDenied d) =
    field colon (codes "lock") (field colon (decimal d.serial) (field colon (decimal d.number)
    (name_of d.holder)))
why_text refusal.NotMultiuser = codes "multiuser"
why_text refusal.UnknownUser = codes "user"
why_text refusal.NoWindow = codes "window"
why_text refusal.TooManyClients = codes "clients"
why_text refusal.NoMemory = codes "memory"
why_text refusal.BadSize = codes "size"
why_text (refusal.Acl f) = field colon (codes "acl") (decimal (number_of_fault f))
why_text (refusal.Windows f) = field colon (codes "windows") (decimal (windows_number f))
why_text (refusal.Line f) =
    field colon (codes "line") (field colon (decimal (number_of f.kind)) (decimal f.place))
why_text (refusal.Regions f) = field colon (codes "regions") (decimal (regions.number f))

abbrev pub plain_in : List ℕ → Option Refusal
plain_in word =
    if bytes_eq word (codes "multiuser") then Some refusal.NotMultiuser
    else if bytes_eq word (codes "user") then Some refusal.UnknownUser
    else if bytes_eq word (codes "window") then Some refusal.NoWindow
    else if bytes_eq word (codes "clients") then Some refusal.TooManyClients
    else if bytes_eq word (codes "memory") then Some refusal.NoMemory
    else if bytes_eq word (codes "size") then Some refusal.BadSize
    else None

abbrev pub caused_in : List ℕ → List ℕ → Option Refusal
caused_in word rest =
    if bytes_eq word (codes "entry") then entry_in rest
    else if bytes_eq word (codes "lock") then lock_denied_in rest
    else if bytes_eq word (codes "acl") then
    option_map refusal.Acl (small_in rest >>= acl_fault)
    else if bytes_eq word (codes "windows") then
    option_map refusal.Windows (small_in rest >>= windows_fault)
    else if bytes_eq word (codes "regions") then
    option_map refusal.Regions (small_in rest >>= regions_fault)
    else if bytes_eq word (codes "line") then line_in rest
    else None

abbrev pub or_caused : List ℕ → Option Refusal → Option Refusal
or_caused word (Some r) = Some r
or_caused word None = cut colon word >>= λ parts. caused_in parts.0 parts.1

unfoldable pub why_in : List ℕ → Option Refusal
why_in word = or_caused word (plain_in word)

-- ---- replies

-- `ok:1:0:0`, or `no:size`
abbrev pub reply_text : Ending → List ℕ
reply_text (Ok f) =
    field colon (codes "ok") (field colon (decimal f.taken) (field colon (decimal f.made)
    (decimal f.number)))
reply_text (Err r) = field colon (codes "no") (why_text r)

abbrev pub finished_in : List ℕ → Option Finished
finished_in rest = do
  taken ← number_at (2 ^ 64) colon rest
  made ← number_at (2 ^ 32) colon taken.1
  number ← number_below (2 ^ 8) made.1
  Some (record { taken = taken.0; made = made.0; number = number })

abbrev pub done : Finished → Ending
done f = Ok f

abbrev pub refused : Refusal → Ending
refused r = Err r

abbrev pub reply_by : List ℕ → List ℕ → Option Ending
reply_by word rest =
    if bytes_eq word (codes "ok") then option_map done (finished_in rest)
    else if bytes_eq word (codes "no") then option_map refused (why_in rest)
    else None

unfoldable pub reply_in : List ℕ → Option Ending
reply_in word = cut colon word >>= λ parts. reply_by parts.0 parts.1
