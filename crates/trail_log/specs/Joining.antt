-- The lines of a log: a line an entry, but that typed bytes are joined.
use Rattle.std.specs.Prelude.{ℕ, ◌+◌, ◌-◌, ◌&&◌, Bool, nat_lt, if◌then◌else◌, List, [], ◌∷◌, ◌++◌}
use Rattle.std.specs.Prelude.{Option, Some, None, option_map, Ok, codes}
use Rattle.std.specs.Str.{bytes_eq}
use Rattle.client_words.specs.Visible.{visible}
use Rattle.session.specs.refusal.Verdict.{Verdict}
use Rattle.hub.specs.Clients.{user_in}
use Rattle.hub.specs.kept.Kept.{Kept}
use Rattle.hub.specs.kept.Kept.TheVariants as kept
use Rattle.hub.specs.Legal.{failed, from_command}
use Rattle.hub.specs.Trails.{Ending}
use Rattle.trail_lines.specs.Entries.{Said}
use Rattle.trail_log.specs.declared.choice.Choice.{Choice}
use Rattle.trail_log.specs.declared.log_line.LogLine.{LogLine}
use Rattle.trail_log.specs.Checks.{window_in}
use Rattle.trail_log.specs.Choosing.{is_chosen}
use Rattle.line_fields.specs.Dates.{clock_text}
use Rattle.trail_log.specs.Lines.{client_text, count_text, deed_text, typed_rest, typed_verb}
use Rattle.trail_log.specs.Naming.{Names}

-- ---- the line of one entry

-- the client that typed, and how many bytes were read, if no command was asked for
abbrev pub typed_alone : ℕ → ℕ → List Verdict → Option (ℕ × ℕ)
typed_alone client taken [] = Some (client, taken)
typed_alone client taken (v ∷ asked) = None

abbrev pub typed_in : Kept → List Verdict → Ending → Option (ℕ × ℕ)
typed_in (kept.Keys client) verdicts (Ok f) = typed_alone client f.taken (from_command verdicts)
typed_in event verdicts reply = None

abbrev pub typed_head : Names → ℕ → List Verdict → List ℕ
typed_head n client verdicts =
    client_text (user_in n.0 client) client ++ typed_verb (failed verdicts)

-- the number of typed bytes is between the user and the window
abbrev pub typed_line : Names → Said → ℕ → ℕ → LogLine
typed_line n x client taken = record {
  ms = x.1;
  last = x.1;
  head = typed_head n client x.2.verdicts;
  bytes = Some taken;
  tail = typed_rest n.1 (window_in x.2.verdicts) (failed x.2.verdicts);
}

abbrev pub deed_line : Names → Said → LogLine
deed_line n x = record {
  ms = x.1;
  last = x.1;
  head = deed_text n x.2.event x.2.verdicts x.2.reply;
  bytes = None;
  tail = [];
}

abbrev pub line_by : Names → Said → Option (ℕ × ℕ) → LogLine
line_by n x (Some p) = typed_line n x p.0 p.1
line_by n x None = deed_line n x

abbrev pub line_of : Names → Said → LogLine
line_of n x = line_by n x (typed_in x.2.event x.2.verdicts x.2.reply)

abbrev pub bytes_text : Option ℕ → List ℕ
bytes_text None = []
bytes_text (Some count) = count_text count

abbrev pub plain_text : LogLine → List ℕ
plain_text l = clock_text l.ms ++ (codes " " ++ (l.head ++ (bytes_text l.bytes ++ l.tail)))

-- it has no control character but the line feed at its end
abbrev pub line_text : LogLine → List ℕ
line_text l = visible (plain_text l) ++ 0x0A ∷ []

-- ---- joined lines

-- the next line names the same user and the same window, less than ten seconds after the last entry
-- of the line before
abbrev pub goes_on : LogLine → LogLine → Bool
goes_on l next =
    nat_lt (next.ms - l.last) 10000 && (bytes_eq l.head next.head && bytes_eq l.tail next.tail)

-- the number of bytes of both lines, if both have one, below 4 GiB each
abbrev pub sum_of : Option ℕ → Option ℕ → Option ℕ
sum_of None more = None
sum_of (Some count) None = None
sum_of (Some count) (Some more) =
    if nat_lt count 4294967296 && nat_lt more 4294967296 then Some (count + more) else None

-- the number of bytes of both lines, if they are joined
abbrev pub joined : LogLine → LogLine → Option ℕ
joined l next = if goes_on l next then sum_of l.bytes next.bytes else None

-- ---- the line that is held until it is known whether the next one is joined to it

abbrev pub sum_in : Option LogLine → LogLine → Option ℕ
sum_in None next = None
sum_in (Some l) next = joined l next

abbrev pub grown : ℕ → ℕ → LogLine → LogLine
grown last bytes l = record l { last = last; bytes = Some bytes }

-- the line before with the bytes of both, if they are joined, else the next line
abbrev pub held_by : Option LogLine → LogLine → Option ℕ → Option LogLine
held_by held next None = Some next
held_by held next (Some bytes) = option_map (grown next.last bytes) held

-- after the next line, if there is one
abbrev pub held_with : Option LogLine → Option LogLine → Option LogLine
held_with held None = held
held_with held (Some next) = held_by held next (sum_in held next)

abbrev pub held_text : Option LogLine → List ℕ
held_text None = []
held_text (Some l) = line_text l

abbrev pub time_in : LogLine → ℕ
time_in l = l.ms

abbrev pub held_ms : Option LogLine → Option ℕ
held_ms held = option_map time_in held

-- what is printed before the next line is held: the line before, unless they are joined
abbrev pub text_by : Option LogLine → Option ℕ → List ℕ
text_by held None = held_text held
text_by held (Some bytes) = []

abbrev pub ms_by : Option LogLine → Option ℕ → Option ℕ
ms_by held None = held_ms held
ms_by held (Some bytes) = None

abbrev pub text_before : Option LogLine → Option LogLine → List ℕ
text_before held None = []
text_before held (Some next) = text_by held (sum_in held next)

abbrev pub ms_before : Option LogLine → Option LogLine → Option ℕ
ms_before held None = None
ms_before held (Some next) = ms_by held (sum_in held next)

-- ---- after an entry: one that isn't asked for changes nothing

abbrev pub chosen_line : Choice → Names → Said → Option LogLine
chosen_line c n x = if is_chosen c n x then Some (line_of n x) else None

abbrev pub next_held : Choice → Option LogLine → Names → Said → Option LogLine
next_held c held n x = held_with held (chosen_line c n x)

abbrev pub next_text : Choice → Option LogLine → Names → Said → List ℕ
next_text c held n x = text_before held (chosen_line c n x)

abbrev pub next_ms : Choice → Option LogLine → Names → Said → Option ℕ
next_ms c held n x = ms_before held (chosen_line c n x)
