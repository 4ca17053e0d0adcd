-- Users' own entries: a history without the acts on leaders, clients and locks gives them, and no user has
-- anything by a leader there.
use Rattle.std.specs.Prelude.{Bool, true, false, ◌≡◌, ◌∷◌, filter}
use Rattle.acl.specs.declared.act.Act.{Act}
use Rattle.acl.specs.declared.act.Act.TheVariants as act
use Rattle.acl.specs.declared.leaders.Edition.{Edition}
use Rattle.acl.specs.declared.user_id.UserId.{UserId}
use Rattle.acl.specs.History.{History}
use Rattle.hub.specs.Following.{StandsAfter}
use Rattle.hub.specs.Acts.{can_follow}
use Rattle.trail_setup.specs.declared.entries.Entries.{Entries}

-- whether entries follow from the act
abbrev pub is_of_entries : Act → Bool
is_of_entries (act.Known u) = true
is_of_entries (act.Gone u) = true
is_of_entries (act.Set u bit object value) = true
is_of_entries (act.Masked by u bit value) = true
is_of_entries (act.Preset kind bit value) = true
is_of_entries (act.Opened by w) = true
is_of_entries (act.Closed w) = true
is_of_entries a = false

-- the history without the other acts
abbrev pub alone : History → History
alone h = filter is_of_entries h

-- the entries are those after these acts
abbrev pub HasEntries : Entries → Edition → UserId → History → Type 0
HasEntries e edition owner h = StandsAfter e.replay edition owner (alone h)

-- the entries follow an act that may come after those before it
abbrev pub FollowsAlone : Entries → Entries → Act → Type 0
FollowsAlone old new a =
    (edition : Edition) (owner : UserId) (h : History) → HasEntries old edition owner h
    → can_follow edition owner h a ≡ true → HasEntries new edition owner (a ∷ h)
