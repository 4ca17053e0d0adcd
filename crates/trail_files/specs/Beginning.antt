-- What a file's first line says, and which entry was the last one at a time; and why neither is known.
use Rattle.std.specs.Prelude.{ℕ, zero, suc, ◌≡◌, ◌^◌, nat_le, if◌then◌else◌, List, Option, Some, None, option_map}
use Rattle.line_fields.specs.Cutting.{◌>>=◌}
use Rattle.line_fields.specs.Numbers.{number_at}
use Rattle.line_fields.specs.Parts.{blank}
use Rattle.trail_lines.specs.Heading.{read_header}
use Rattle.trail_lines.specs.Lines.{ComesAs, OfKnown}
use Rattle.trail_lines.specs.declared.halt.NextLine.{NextLine}
use Rattle.trail_lines.specs.declared.halt.NextLine.TheVariants as came
use Rattle.trail_lines.specs.declared.header.Header.{Header}
use Rattle.trail_files.specs.declared.fault.TrailFault.{TrailFault}
use Rattle.trail_files.specs.declared.fault.TrailFault.TheVariants as fault
use Rattle.trail_files.specs.declared.heading.Heading.{Heading}

abbrev pub heading_of : Header → Heading
heading_of h = record { edition = h.edition; owner = h.owner; ms = h.ms }

-- what a first line says
abbrev pub heading_in : List ℕ → Option Heading
heading_in line = option_map heading_of (read_header line)

-- the bytes begin with a first line that says this
abbrev pub BeginsAs : Heading → List ℕ → List ℕ → Type 0
BeginsAs heading bytes rest = (line : List ℕ) × ComesAs came.Whole line bytes rest × (heading_in line ≡ Some heading)

-- why nothing is known of a first line: line 1 says nothing, or memory was refused
abbrev pub IsNoHeading : TrailFault → List ℕ → Type 0
IsNoHeading (fault.NoHeader n) line = (n ≡ 1) × (heading_in line ≡ None)
IsNoHeading (fault.Io e) line = Unit {0}
IsNoHeading other line = ⊥

-- what the line says that comes; nothing if it has no line feed, or if there is none
abbrev pub coming_heading : NextLine → List ℕ → Option Heading
coming_heading came.Whole line = heading_in line
coming_heading other line = None

-- no first line of a trail comes
abbrev pub BeginsAsNone : List ℕ → List ℕ → Type 0
BeginsAsNone bytes rest =
    (came : NextLine) × (line : List ℕ) × ComesAs came line bytes rest × (coming_heading came line ≡ None)

-- why no heading is known: line 1 is no first line; or the reading failed, or memory was refused
abbrev pub IsUnheaded : TrailFault → Option (List ℕ) → Option (List ℕ) → Type 0
IsUnheaded (fault.NoHeader n) old new = (n ≡ 1) × OfKnown old new BeginsAsNone
IsUnheaded (fault.Io e) old new = Unit {0}
IsUnheaded other old new = ⊥

-- the place and the time of an entry's line
abbrev pub moment_of : List ℕ → Option (ℕ × ℕ)
moment_of line = do
  place ← number_at (2 ^ 64) blank line
  ms ← number_at (2 ^ 64) blank place.1
  Some (place.0, ms.0)

-- the place of an entry's line that isn't later than a time
abbrev pub place_by : ℕ → List ℕ → Option ℕ
place_by time line = moment_of line >>= λ moment. if nat_le moment.1 time then Some moment.0 else None

-- the place of such an entry, if its whole line comes next
abbrev pub coming_by : ℕ → NextLine → List ℕ → Option ℕ
coming_by time came.Whole line = place_by time line
coming_by time other line = None

abbrev pub ComesBy : ℕ → Option ℕ → List ℕ → List ℕ → Type 0
ComesBy time place bytes rest =
    (came : NextLine) × (line : List ℕ) × ComesAs came line bytes rest × (place ≡ coming_by time came line)

-- n such entries come, one after another, and then none; the last place is this, or else the one before
abbrev pub LastIs : ℕ → ℕ → Option ℕ → List ℕ → Option ℕ → Type 0
LastIs time zero before bytes last = (rest : List ℕ) × ComesBy time None bytes rest × (last ≡ before)
LastIs time (suc n) before bytes last =
    (place : ℕ) × (rest : List ℕ) × ComesBy time (Some place) bytes rest × LastIs time n (Some place) rest last

-- the place of the last entry of these bytes before the first one that is later
abbrev pub LastBy : ℕ → Option ℕ → List ℕ → Type 0
LastBy time last bytes = (n : ℕ) × LastIs time n None bytes last

-- the same behind the first line
abbrev pub LastOf : ℕ → Option ℕ → List ℕ → Type 0
LastOf time last bytes = (came : NextLine) × (line : List ℕ) × (rest : List ℕ) × ComesAs came line bytes rest
    × LastBy time last rest

-- why no place is known: there is no entry yet, or the reading failed, or memory was refused
abbrev pub IsUnplaced : TrailFault → Type 0
IsUnplaced fault.NoEntryYet = Unit {0}
IsUnplaced (fault.Io e) = Unit {0}
IsUnplaced other = ⊥
