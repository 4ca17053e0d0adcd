-- What a trail keeps of a run: each Attach, Detach, Keys, Command, Open and Closed writes an entry.
-- If memory was refused, there was no step.
use Rattle.std.specs.Prelude.{Bool, true, false, List, [], ◌∷◌, ◌++◌, Option, Some, None, Ok, Err}
use Rattle.session.specs.event.Done.{Done}
use Rattle.session.specs.Trace.{EventValue, Attach, Detach, Keys, Command, Open, Closed, Reply, Trace}
use Rattle.session.specs.Trace as trace
use Rattle.hub_trail.specs.declared.kept.Kept.{Kept}
use Rattle.hub_trail.specs.declared.kept.Kept.TheVariants as kept
use Rattle.hub_trail.specs.declared.kept.Finished.{Finished}
use Rattle.hub_trail.specs.Trails.{Ending, Entry, Trail}

-- what is kept of an event, if it writes an entry
abbrev pub kept_of : EventValue → Option Kept
kept_of (Attach user rows columns) = Some (kept.Attach user rows columns)
kept_of (Detach client) = Some (kept.Detach client)
kept_of (Keys client bytes) = Some (kept.Keys client)
kept_of (Command user window line) = Some (kept.Command user window line)
kept_of (Open user rows columns keep title) = Some (kept.Open user rows columns keep title)
kept_of (Closed window) = Some (kept.Closed window)
kept_of event = None

-- whether bytes of the event are kept, which takes memory
abbrev pub copies : EventValue → Bool
copies (Command user window line) = true
copies (Open user rows columns keep title) = true
copies event = false

-- a reply without its text
abbrev pub finished_by : Done → Finished
finished_by done = record { taken = done.taken; made = done.made; number = done.number }

abbrev pub ending_of : Reply → Ending
ending_of (Ok done) = Ok (finished_by done)
ending_of (Err r) = Err r

-- the entry of a step, if it writes one
abbrev pub entry_of : Option Kept → trace.Entry → List Entry
entry_of None step = []
entry_of (Some event) step = record {
  event = event;
  verdicts = step.verdicts;
  acts = step.acts;
  reply = ending_of step.reply;
} ∷ []

abbrev pub filed : trace.Entry → List Entry
filed step = entry_of (kept_of step.event) step

-- the trail of a run
abbrev pub entries_of : List trace.Entry → List Entry
entries_of [] = []
entries_of (step ∷ past) = entries_of past ++ filed step

abbrev pub trail_of : Trace → Trail
trail_of h = record { edition = h.edition; owner = h.owner; entries = entries_of h.entries }
