-- A trail's file: the bytes that were written, and the trail that it has when it is read back.
use Rattle.std.specs.Prelude.{◌≡◌, ℕ, ◌+◌, Bool, true, false, List, [], ◌∷◌, ◌++◌, length, take, Option, Some, None}
use Rattle.std.specs.Prelude.{Result, Ok, Err, is_ok}
use Rattle.std.specs.Io.KnownBytes.{Appends, Keeps}
use Rattle.std.specs.declared.io.Error.{Error}
use Rattle.acl.specs.declared.leaders.Edition.TheVariants as edition
use Rattle.acl.specs.declared.user_id.UserId.{UserId}
use Rattle.hub.specs.Trails.{Entry}
use Rattle.trail_lines.specs.Entries.{line_of}
use Rattle.trail_lines.specs.declared.ending.Cause.{Cause}
use Rattle.trail_lines.specs.declared.ending.Ended.{Ended}
use Rattle.trail_lines.specs.declared.header.Header.{Header}
use Rattle.trail_lines.specs.Heading.{end_text, header_text, read_end}
use Rattle.server_trail.specs.declared.waiting.Written.{Written}
use Rattle.server_trail.specs.declared.writing.NoEnd.{NoEnd}
use Rattle.server_trail.specs.declared.writing.NoEnd.TheVariants as no

-- ---- writing

-- the first line of a new trail: edition 2, this owner, this writer, and some time
pub record Begins (header : Header) (owner : UserId) (version : List ℕ) : Type 0 where
  pub edition : header.edition ≡ edition.Second
  pub owner_is : header.owner ≡ owner
  pub version_is : header.version ≡ version

-- the first n bytes were written once each, after those that were there; all of them, if that is the
-- answer
pub record HasWritten (old new : Option (List ℕ)) (bytes : List ℕ) (is_all : Bool) : Type 0 where
  pub count : ℕ
  pub front : Appends old new (take count bytes)
  pub all : is_all ≡ true → Appends old new bytes

abbrev pub end_line : ℕ → ℕ → Cause → List ℕ
end_line entries ms cause =
    end_text (record { entries = entries; ms = ms; cause = cause }) ++ 0x0A ∷ []

-- all lines before it were written, and the last line as far as that, with this cause
abbrev pub HasLastLine : Written → Cause → Option (List ℕ) → Option (List ℕ) → Bool → Type 0
HasLastLine written cause old new is_all = (written.is_whole ≡ true)
    × ((ms : ℕ) × HasWritten old new (end_line written.entries ms cause) is_all)

-- what came of the last line; there is none if no cause is known
abbrev pub EndsAs : Written → Option Cause → Option (List ℕ) → Option (List ℕ) → Result (Unit {0}) NoEnd → Type 0
EndsAs written None old new came = Keeps old new × (came ≡ Err no.NoCause)
EndsAs written (Some cause) old new (Ok done) = HasLastLine written cause old new true
EndsAs written (Some cause) old new (Err no.Unsynced) = HasLastLine written cause old new true
EndsAs written (Some cause) old new (Err (no.Torn gave_up)) = HasLastLine written cause old new false
EndsAs written (Some cause) old new (Err (no.NoLine none)) = Keeps old new
EndsAs written (Some cause) old new (Err no.NoCause) = ⊥

-- the last that was done to a file is a sync, which succeeded if that is the answer
module _ {F : Type 0} (syncs : F → Result (Unit {0}) Error → F → Type 0) where
  pub record EndsSynced (is_synced : Bool) (new : F) : Type 0 where
    pub old : F
    pub came : Result (Unit {0}) Error
    pub synced : syncs old came new
    pub succeeds : is_synced ≡ true → is_ok came ≡ true

-- ---- reading

-- a line was read, with its line feed, of the bytes that a reader had left
abbrev pub Cuts : Option (List ℕ) → List ℕ → Option (List ℕ) → Type 0
Cuts None line new = Unit {0}
Cuts (Some bytes) line None = ⊥
Cuts (Some bytes) line (Some rest) = bytes ≡ line ++ 0x0A ∷ rest

-- the bytes begin with the lines of entries, the first of which stands at this place, and end in
-- the rest
abbrev pub AreLines : ℕ → List Entry → List ℕ → List ℕ → Type 0
AreLines place [] bytes rest = bytes ≡ rest
AreLines place (e ∷ entries) bytes rest =
    (ms : ℕ) × (more : List ℕ) × (bytes ≡ line_of (place, ms, e) ++ 0x0A ∷ more)
    × AreLines (place + 1) entries more rest

abbrev pub ReadsLines : List Entry → Option (List ℕ) → Option (List ℕ) → Type 0
ReadsLines entries None new = Unit {0}
ReadsLines entries (Some bytes) None = ⊥
ReadsLines entries (Some bytes) (Some rest) = AreLines 0 entries bytes rest

abbrev pub IsLastOf : List ℕ → ℕ → Type 0
IsLastOf line count = (ended : Ended) × (read_end line ≡ Some ended) × (ended.entries ≡ count)

-- this first line, the lines of the entries in their places, a last line that counts them
pub record IsTrailOf (header : Header) (entries : List Entry) (bytes : List ℕ) : Type 0 where
  pub lines : List ℕ
  pub last : List ℕ
  pub is : bytes ≡ header_text header ++ 0x0A ∷ lines
  pub are_lines : AreLines 0 entries lines (last ++ 0x0A ∷ [])
  pub is_last : IsLastOf last (length entries)

-- P holds of the bytes that a reader had left, if they are known
abbrev pub Reads : Option (List ℕ) → (List ℕ → Type 0) → Type 0
Reads None P = Unit {0}
Reads (Some bytes) P = P bytes
