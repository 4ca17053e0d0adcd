-- What the program tells of a file that it has read, and of one that it can't read to its end.
use Rattle.std.specs.Prelude.{ℕ, ◌≡◌, ◌⊎◌, ◌==◌, ◌+◌, ◌-◌, ◌^◌, min, if◌then◌else◌, List, [], ◌++◌, length}
use Rattle.std.specs.Prelude.{Option, Some, None, IfSome, codes, decimal}
use Rattle.std.specs.Io.KnownBytes.{Appends}
use Rattle.acl.specs.Names.{name_of}
use Rattle.acl.specs.declared.leaders.Edition.{Edition}
use Rattle.acl.specs.declared.user_id.UserId.{UserId}
use Rattle.client_words.specs.Visible.{visible}
use Rattle.line_fields.specs.Dates.{when_text}
use Rattle.trail_lines.specs.Entries.{Said}
use Rattle.trail_lines.specs.Heading.{cause_text}
use Rattle.trail_lines.specs.Times.{no_times, times_of}
use Rattle.trail_lines.specs.declared.audit.Audit.{Audit}
use Rattle.trail_lines.specs.declared.audit.Wrong.{Wrong}
use Rattle.trail_lines.specs.declared.audit.Wrong.TheVariants as wrong
use Rattle.trail_lines.specs.declared.ending.Ended.{Ended}
use Rattle.trail_files.specs.Finishing.{IsChecked, is_bad, status_of}
use Rattle.trail_files.specs.declared.check.Finish.{Finish}
use Rattle.trail_files.specs.declared.check.Finish.TheVariants as finish
use Rattle.trail_files.specs.declared.fault.TrailFault.{TrailFault}
use Rattle.trail_files.specs.declared.fault.TrailFault.TheVariants as fault
use Rattle.trail_files.specs.declared.heading.Heading.{Heading}

-- ---- the first line

-- `owner ann, begun at 2025-11-24T16:00:02.74Z`
abbrev pub heading_text : Heading → List ℕ
heading_text h = codes "owner " ++ (name_of h.owner ++ (when_text (codes ", begun at ") h.ms ++ codes "\n"))

-- ---- how the file ends

abbrev pub wrong_text : Wrong → List ℕ
wrong_text wrong.NoEntry = codes "no entry is spelled so"
wrong_text wrong.OtherPlace = codes "another entry's place stands there"
wrong_text wrong.Illegal = codes "the entry isn't legal"
wrong_text wrong.NoMemory = codes "out of memory"

abbrev pub owner_text : Wrong → UserId → List ℕ
owner_text wrong.Illegal owner = codes "; no session of " ++ (name_of owner ++ codes " has this trail")
owner_text w owner = []

-- `bad: line 7, entry 5: no entry is spelled so`: the first line isn't an entry's, and places begin with 0
abbrev pub stopped_text : ℕ → Wrong → UserId → List ℕ
stopped_text n w owner =
    codes "bad: line " ++ (decimal n ++ (codes ", entry " ++ (decimal (n - 2) ++ (codes ": "
    ++ (wrong_text w ++ (owner_text w owner ++ codes "\n"))))))

abbrev pub legal_text : ℕ → List ℕ → List ℕ
legal_text count more = codes "legal: " ++ (decimal count ++ (codes " entries\n" ++ (more ++ codes "\n")))

-- `whole: it ended (quit) at 2025-11-24T16:00:02.74Z`
abbrev pub ended_text : Ended → List ℕ
ended_text e = codes "whole: it ended (" ++ (cause_text e.cause ++ (codes ")" ++ when_text (codes " at ") e.ms))

-- after this many entries of this owner's trail
abbrev pub finish_text : Finish → ℕ → UserId → List ℕ
finish_text (finish.Ended e) count owner = legal_text count (ended_text e)
finish_text finish.Open count owner = legal_text count (codes "not ended: it has no last line")
finish_text finish.Torn count owner = legal_text count (codes "torn: its last line isn't whole")
finish_text (finish.Miscounted n) count owner =
    codes "bad: line " ++ (decimal n ++ (codes ": the last line doesn't end " ++ (decimal count ++ codes " entries\n")))
finish_text (finish.Continued n) count owner =
    codes "bad: after line " ++ (decimal n ++ codes ": there is more after the last line\n")
finish_text (finish.Stopped n w) count owner = stopped_text n w owner

-- ---- times that run backwards, of which the first one is told

abbrev pub back_text : Option ℕ → List ℕ
back_text None = []
back_text (Some place) =
    codes "note: line " ++ (decimal (min (place + 2) (2 ^ 64 - 1)) ++ (codes ", entry " ++ (decimal place
    ++ codes ": its time is more than a second before the entry above\n")))

-- nothing is told of the times of a bad file
abbrev pub note_text : Finish → Option ℕ → List ℕ
note_text f back = if is_bad f then [] else back_text back

-- ---- `check`

-- as an audit has counted and timed the entries that it has read
abbrev pub audit_text : Finish → Audit → UserId → List ℕ
audit_text f audit owner = finish_text f audit.next owner ++ note_text f audit.times.back

-- of a file that ends so after these entries
abbrev pub judged_text : Finish → List Said → UserId → List ℕ
judged_text f said owner = finish_text f (length said) owner ++ note_text f (times_of said).back

-- the entries of a reader's bytes were judged from the first one on; the status says how the file ends, and so does
-- what was written
abbrev pub IsTold : ℕ → Edition → UserId → Option (List ℕ) → Option (List ℕ) → Option (List ℕ) → Type 0
IsTold status edition owner bytes old new =
    (audit : Audit) × (f : Finish) × (is : IsChecked f no_times audit edition owner bytes) × (status_of f ≡ Some status)
    × Appends old new (judged_text f is.read.said owner)

-- ---- faults

-- of this many entries, or of none
abbrev pub place_text : ℕ → ℕ → List ℕ → List ℕ
place_text place count path =
    if count == 0 then codes "mux-trail: --at names no entry: " ++ (decimal place ++ (codes ": " ++ (path
    ++ codes " has none yet: leave --at out\n")))
    else codes "mux-trail: --at names no entry: " ++ (decimal place ++ (codes ": " ++ (path ++ (codes " has "
    ++ (decimal count ++ (codes ": give a place below " ++ (decimal count ++ codes "\n")))))))

-- what is told of the file of this path; None where the words are those of the system
abbrev pub fault_text : TrailFault → List ℕ → Option (List ℕ)
fault_text (fault.NoHeader n) path =
    Some (codes "mux-trail: line " ++ (decimal n ++ (codes " isn't the first line of a trail: " ++ (path
    ++ codes ": give a file that muxd --trail wrote\n"))))
fault_text (fault.NoLine n) path =
    Some (codes "mux-trail: line " ++ (decimal n ++ (codes " isn't a line of a trail: " ++ (path
    ++ codes ": mux-trail check says more\n"))))
fault_text (fault.NoPlace place count) path = Some (place_text place count path)
fault_text fault.NoEntryYet path =
    Some (codes "mux-trail: --at is before the first entry: " ++ (path ++ codes ": give a later time\n"))
fault_text fault.NotSought path =
    Some (codes "mux-trail: what the answer tells wasn't looked for: " ++ (path
    ++ codes ": this is a fault of mux-trail\n"))
fault_text f path = None

-- the path is told without control characters, and this fault
abbrev pub IsFaultTold : TrailFault → List ℕ → Option (List ℕ) → Option (List ℕ) → Type 0
IsFaultTold f path old new =
    (shown : List ℕ) × ((shown ≡ visible path) ⊎ (shown ≡ codes "?")) × IfSome (fault_text f shown) (Appends old new)
