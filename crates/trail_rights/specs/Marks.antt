-- The acts of a file's entries, each with its mark: the place and the time of its entry, and the user
-- who gave the event.
use Rattle.std.specs.Prelude.{ℕ, List, [], ◌∷◌, Option, Some, None, map}
use Rattle.acl.specs.declared.act.Act.{Act}
use Rattle.acl.specs.declared.user_id.UserId.{UserId}
use Rattle.acl.specs.History.{History}
use Rattle.writelock.specs.Holding.{clients_of}
use Rattle.hub.specs.Clients.{user_in}
use Rattle.hub.specs.kept.Kept.{Kept}
use Rattle.hub.specs.kept.Kept.TheVariants as kept
use Rattle.hub.specs.Trails.{Entry}
use Rattle.trail_lines.specs.Entries.{Said}
use Rattle.trail_rights.specs.declared.acts.Mark.{Mark}

-- the user who gives an event, when these clients are attached
abbrev pub giver_among : List (ℕ × UserId) → Kept → Option UserId
giver_among clients (kept.Attach user rows columns) = Some user
giver_among clients (kept.Detach client) = user_in clients client
giver_among clients (kept.Keys client) = user_in clients client
giver_among clients (kept.Command user window line) = Some user
giver_among clients (kept.Open user rows columns keep title) = Some user
giver_among clients (kept.Closed window) = None

abbrev pub mark_among : List (ℕ × UserId) → Said → Mark
mark_among clients x = record {
  place = x.0;
  ms = x.1;
  giver = giver_among clients x.2.event;
}

-- acts with their marks, the newest first
abbrev pub Marked : Type 0
Marked = List (Mark × Act)

abbrev pub act_of : Mark × Act → Act
act_of p = p.1

abbrev pub acts_in : Marked → History
acts_in marked = map act_of marked

-- acts of one mark after others, in their order
abbrev pub marked_by : Mark → Marked → List Act → Marked
marked_by m marked [] = marked
marked_by m marked (a ∷ acts) = marked_by m ((m, a) ∷ marked) acts

-- acts with their marks after others, in their order
abbrev pub marked_on : Marked → List (Mark × Act) → Marked
marked_on marked [] = marked
marked_on marked (p ∷ later) = marked_on (p ∷ marked) later

-- the acts of an entry after others
abbrev pub marked_with : Marked → Said → Marked
marked_with marked x = marked_by (mark_among (clients_of (acts_in marked)) x) marked x.2.acts

-- the acts of entries after others
abbrev pub marked_after : Marked → List Said → Marked
marked_after marked [] = marked
marked_after marked (x ∷ said) = marked_after (marked_with marked x) said

abbrev pub entry_in : Said → Entry
entry_in x = x.2

abbrev pub entries_in : List Said → List Entry
entries_in said = map entry_in said
