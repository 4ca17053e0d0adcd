-- What the numbers of refusals mean, in words.
use Rattle.std.specs.Prelude.{ℕ, nat_lt, if◌then◌else◌, List, [], ◌∷◌, ◌++◌, length, drop, Option, Some, None, codes}
use Rattle.acl.specs.declared.entries.AclFault.{AclFault}
use Rattle.acl.specs.declared.entries.AclFault.TheVariants as acl
use Rattle.command_lang.specs.declared.fault.FaultKind.{FaultKind}
use Rattle.command_lang.specs.declared.fault.FaultKind.TheVariants as line
use Rattle.line_fields.specs.Cutting.{cut}
use Rattle.line_fields.specs.Parts.{blank}
use Rattle.regions.specs.declared.layout.RegionFault.{RegionFault}
use Rattle.regions.specs.declared.layout.RegionFault.TheVariants as region
use Rattle.session_model.specs.declared.refusal.Refusal.{Refusal}
use Rattle.session_model.specs.declared.refusal.Refusal.TheVariants as refusal
use Rattle.session_model.specs.rows.WindowsFault.{WindowsFault}
use Rattle.session_model.specs.rows.WindowsFault.TheVariants as windows

abbrev pub acl_meaning : AclFault → List ℕ
acl_meaning acl.UnknownUser = codes "unknown user"
acl_meaning acl.OwnerKept = codes "the owner keeps all rights"
acl_meaning acl.TooManyUsers = codes "64 users are known"
acl_meaning acl.ReservedName = codes "no name"
acl_meaning acl.NoSuchGroup = codes "no such leader"
acl_meaning acl.NoMemory = codes "out of memory"
acl_meaning acl.TooManyGroups = codes "eight leaders"

abbrev pub windows_meaning : WindowsFault → List ℕ
windows_meaning windows.Full = codes "no place for a window"
windows_meaning windows.NoSuchWindow = codes "no such window"
windows_meaning windows.NumberTaken = codes "the number is taken"
windows_meaning windows.BadTitle = codes "no title: 1 to 40 characters of width 1 or 2"
windows_meaning windows.NoMemory = codes "out of memory"

abbrev pub regions_meaning : RegionFault → List ℕ
regions_meaning region.TooSmall = codes "too small"
regions_meaning region.TooMany = codes "there are 16"
regions_meaning region.LastRegion = codes "the last region"
regions_meaning region.NoMemory = codes "out of memory"

abbrev pub line_meaning : FaultKind → List ℕ
line_meaning line.UnknownCommand = codes "unknown command"
line_meaning line.MissingWord = codes "a word is missing"
line_meaning line.ExtraWord = codes "a word too many"
line_meaning line.BadNumber = codes "no number, or out of range"
line_meaning line.BadBits = codes "no bits"
line_meaning line.BadQuote = codes "an open quote"
line_meaning line.TooLong = codes "above 1,024 bytes"
line_meaning line.NoMemory = codes "out of memory"
line_meaning line.BadWord = codes "no such word"

-- ---- the word at fault: from its place in the line to the next blank

abbrev pub behind : List ℕ → ℕ → List ℕ
behind line place = if nat_lt place (length line) then drop place line else []

-- the bytes before a blank, if they were cut at one
abbrev pub first_by : List ℕ → Option (List ℕ × List ℕ) → List ℕ
first_by bytes None = bytes
first_by bytes (Some parts) = parts.0

abbrev pub word_at : List ℕ → ℕ → List ℕ
word_at line place = first_by (behind line place) (cut blank (behind line place))

abbrev pub word_part : List ℕ → List ℕ
word_part [] = []
word_part (b ∷ word) = codes ": " ++ b ∷ word

abbrev pub means_with : List ℕ → List ℕ → List ℕ
means_with why word = why ++ word_part word

-- ---- a refusal, and the line of the command that was refused

-- nothing if the refusal has no number
abbrev pub means : Refusal → List ℕ → List ℕ
means (refusal.Acl f) line = acl_meaning f
means (refusal.Windows f) line = windows_meaning f
means (refusal.Line f) line = means_with (line_meaning f.kind) (word_at line f.place)
means (refusal.Regions f) line = regions_meaning f
means r line = []

abbrev pub in_parentheses : List ℕ → List ℕ
in_parentheses [] = []
in_parentheses (b ∷ text) = codes " (" ++ ((b ∷ text) ++ codes ")")

abbrev pub meaning_text : Refusal → List ℕ → List ℕ
meaning_text r line = in_parentheses (means r line)
