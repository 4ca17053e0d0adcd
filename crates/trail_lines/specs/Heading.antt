-- The first line of a trail's file, and its last.
use Rattle.std.specs.Prelude.{ℕ, ◌≡◌, ◌<◌, ◌^◌, Bool, true, if◌then◌else◌, List, [], ◌∷◌, ◌++◌}
use Rattle.std.specs.Prelude.{Option, Some, None, codes, decimal, not, ◌==◌}
use Rattle.std.specs.List.{list_all}
use Rattle.std.specs.Str.{bytes_eq}
use Rattle.acl.specs.declared.leaders.Edition.{Edition}
use Rattle.acl.specs.declared.leaders.Edition.TheVariants as edition
use Rattle.acl.specs.Names.{name_of}
use Rattle.line_fields.specs.Cutting.{◌>>=◌, cut}
use Rattle.line_fields.specs.Numbers.{number_below, number_at}
use Rattle.line_fields.specs.Parts.{blank, field, user_at}
use Rattle.line_fields.specs.Sayable.{IsNamed}
use Rattle.trail_lines.specs.declared.header.Header.{Header}
use Rattle.trail_lines.specs.declared.ending.Cause.{Cause}
use Rattle.trail_lines.specs.declared.ending.Cause.TheVariants as cause
use Rattle.trail_lines.specs.declared.ending.Ended.{Ended}

-- ---- the first line

abbrev pub edition_in : List ℕ → Option Edition
edition_in word =
    if bytes_eq word (codes "1") then Some edition.First
    else if bytes_eq word (codes "2") then Some edition.Second
    else None

-- the form of the lines, 1, and the edition of groups
abbrev pub form_text : Edition → List ℕ
form_text edition.First = codes "mux-trail 1 1 "
form_text edition.Second = codes "mux-trail 1 2 "

-- the owner, what wrote the file, and when
abbrev pub header_text : Header → List ℕ
header_text h =
    form_text h.edition
    ++ field blank (name_of h.owner) (field blank h.version (decimal h.ms))

unfoldable pub header_fields : List ℕ → Option Header
header_fields line = do
  name ← cut blank line
  form ← cut blank name.1
  groups ← cut blank form.1
  edition ← edition_in groups.0
  owner ← user_at blank groups.1
  version ← cut blank owner.1
  ms ← number_below (2 ^ 64) version.1
  Some (record { edition = edition; owner = owner.0; version = version.0; ms = ms })

abbrev pub if_header : List ℕ → Header → Option Header
if_header line h = if bytes_eq (header_text h) line then Some h else None

-- what a first line says
unfoldable pub read_header : List ℕ → Option Header
read_header line = header_fields line >>= if_header line

-- ---- the last line

abbrev pub cause_text : Cause → List ℕ
cause_text cause.Quit = codes "quit"
cause_text cause.Full = codes "full"
cause_text cause.Disk = codes "disk"
cause_text cause.Memory = codes "memory"
cause_text cause.Script = codes "script"

abbrev pub cause_in : List ℕ → Option Cause
cause_in word =
    if bytes_eq word (codes "quit") then Some cause.Quit
    else if bytes_eq word (codes "full") then Some cause.Full
    else if bytes_eq word (codes "disk") then Some cause.Disk
    else if bytes_eq word (codes "memory") then Some cause.Memory
    else if bytes_eq word (codes "script") then Some cause.Script
    else None

-- how many entries the trail has, when the session ended, and why
abbrev pub end_text : Ended → List ℕ
end_text e =
    field blank (codes "end") (field blank (decimal e.entries) (field blank (decimal e.ms)
    (cause_text e.cause)))

unfoldable pub end_fields : List ℕ → Option Ended
end_fields line = do
  name ← cut blank line
  entries ← number_at (2 ^ 64) blank name.1
  ms ← number_at (2 ^ 64) blank entries.1
  why ← cause_in ms.1
  Some (record { entries = entries.0; ms = ms.0; cause = why })

abbrev pub if_end : List ℕ → Ended → Option Ended
if_end line e = if bytes_eq (end_text e) line then Some e else None

-- what a last line says
unfoldable pub read_end : List ℕ → Option Ended
read_end line = end_fields line >>= if_end line

-- ---- laws

-- what wrote a trail is a word
abbrev pub is_other : ℕ → Bool
is_other byte = not (byte == 0x20)

abbrev pub IsHeader : Header → Type 0
IsHeader h = IsNamed h.owner × (list_all is_other h.version ≡ true) × (h.ms < 2 ^ 64)

abbrev pub ReadsHeaders : Type 0
ReadsHeaders = (h : Header) → IsHeader h → read_header (header_text h) ≡ Some h

abbrev pub ReadsEnds : Type 0
ReadsEnds =
    (e : Ended) → e.entries < 2 ^ 64 → e.ms < 2 ^ 64 → read_end (end_text e) ≡ Some e
