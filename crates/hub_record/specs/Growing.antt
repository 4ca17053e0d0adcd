-- What a step files in a trail that grows.
use Rattle.std.specs.Prelude.{List, [], ◌∷◌, ◌++◌, Option, Some, None, option_map}
use Rattle.session.specs.Trace.{Reply}
use Rattle.session.specs.Noted.{Noted}
use Rattle.hub_trail.specs.declared.kept.Kept.{Kept}
use Rattle.hub_trail.specs.Trails.{Entry, Trail}
use Rattle.hub_trail.specs.Filing.{ending_of}
use Rattle.hub_record.specs.declared.growing_trail.GrowingTrail.{GrowingTrail}
use Rattle.hub_record.specs.declared.growing_trail.Prepared.{Prepared}

abbrev pub trail_in : GrowingTrail → Trail
trail_in e = record { edition = e.edition; owner = e.owner; entries = e.list.entries }

-- what a trail keeps of the event
abbrev pub kept_by : Option Prepared → Option Kept
kept_by prepared = option_map (λ s. s.event) prepared

-- the entry with the notes of a step and its reply, if the event writes one
abbrev pub written : Option Kept → Noted → Reply → List Entry
written None noted reply = []
written (Some event) noted reply = record {
  event = event;
  verdicts = noted.verdicts;
  acts = noted.acts;
  reply = ending_of reply;
} ∷ []

abbrev pub with_entries : Trail → List Entry → Trail
with_entries trail entries = record trail { entries = trail.entries ++ entries }
