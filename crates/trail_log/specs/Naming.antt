-- What a log calls clients and windows: the users of clients, and the titles of windows.
use Rattle.std.specs.Prelude.{ℕ, ◌==◌, not, ◌&&◌, if◌then◌else◌, List, [], ◌∷◌, ◌++◌}
use Rattle.std.specs.Prelude.{Option, Some, None, option_map, Result, Ok, filter}
use Rattle.std.specs.List.{list_all}
use Rattle.acl.specs.declared.act.Act.{Act}
use Rattle.acl.specs.declared.act.Act.TheVariants.{Closed}
use Rattle.acl.specs.declared.user_id.UserId.{UserId}
use Rattle.writelock.specs.Holding.{clients_after}
use Rattle.command_lang.specs.declared.command.Command.{Command}
use Rattle.command_lang.specs.declared.command.Command.TheVariants as command
use Rattle.command_lang.specs.declared.fault.ParseFault.{ParseFault}
use Rattle.command_lang.specs.Relation.{read_line}
use Rattle.session.specs.refusal.Verdict.{Verdict}
use Rattle.hub.specs.kept.Kept.{Kept}
use Rattle.hub.specs.kept.Kept.TheVariants as kept
use Rattle.hub.specs.Legal.{from_command, passes}
use Rattle.hub.specs.Trails.{Ending}
use Rattle.trail_lines.specs.Entries.{Said}
use Rattle.trail_log.specs.declared.names.Change.{Change}
use Rattle.trail_log.specs.declared.titles.Titled.{Titled}
use Rattle.trail_log.specs.Checks.{asks_title, window_in}

-- ---- titles of windows

abbrev pub without : ℕ → List Titled → List Titled
without w titles = filter (λ t. not (t.window == w)) titles

abbrev pub titled : ℕ → List ℕ → List Titled → List Titled
titled w title titles = without w titles ++ record { window = w; title = title } ∷ []

abbrev pub title_in : List Titled → ℕ → Option (List ℕ)
title_in [] w = None
title_in (t ∷ titles) w = if t.window == w then Some t.title else title_in titles w

abbrev pub titles_after : Act → List Titled → List Titled
titles_after (Closed w) titles = without w titles
titles_after a titles = titles

-- ---- the clients' users, and the titles

abbrev pub Names : Type 0
Names = List (ℕ × UserId) × List Titled

-- no client and no title at first
abbrev pub nobody : Names
nobody = ([], [])

abbrev pub follow : Act → Names → Names
follow a n = (clients_after a n.0, titles_after a n.1)

-- the first of the acts first
abbrev pub follow_all : List Act → Names → Names
follow_all [] n = n
follow_all (a ∷ acts) n = follow_all acts (follow a n)

-- ---- the title that an entry gives a window: none if it was typed, since the trail hasn't what is typed

abbrev pub title_by : Result Command ParseFault → Option (List ℕ)
title_by (Ok (command.Title text)) = Some text
title_by _ = None

-- the title that a command's line sets
abbrev pub title_said : List ℕ → Option (List ℕ)
title_said line = title_by (read_line line)

abbrev pub some_title : ℕ → List ℕ → Change
some_title w title = record { window = w; title = Some title }

abbrev pub no_title : ℕ → Change
no_title w = record { window = w; title = None }

abbrev pub line_by : List ℕ → Option ℕ → Option Change
line_by line None = None
line_by line (Some w) = option_map (some_title w) (title_said line)

abbrev pub typed_change : List Verdict → Option Change
typed_change asked =
    if asks_title asked && list_all passes asked then option_map no_title (window_in asked)
    else None

abbrev pub change_by : Kept → List Verdict → Ending → Option Change
change_by (kept.Open user rows columns keep title) verdicts (Ok f) =
    Some (some_title f.made title)
change_by (kept.Command user window line) verdicts (Ok f) = line_by line (window_in verdicts)
change_by (kept.Keys client) verdicts (Ok f) = typed_change (from_command verdicts)
change_by event verdicts reply = None

abbrev pub retitled_by : ℕ → Option (List ℕ) → List Titled → List Titled
retitled_by w None titles = without w titles
retitled_by w (Some title) titles = titled w title titles

abbrev pub retitled : Option Change → List Titled → List Titled
retitled None titles = titles
retitled (Some c) titles = retitled_by c.window c.title titles

abbrev pub with_change : Option Change → Names → Names
with_change c n = (n.0, retitled c n.1)

-- ---- after an entry, and after all of a file's

abbrev pub names_with : Names → Said → Names
names_with n x =
    with_change (change_by x.2.event x.2.verdicts x.2.reply) (follow_all x.2.acts n)

abbrev pub names_after : Names → List Said → Names
names_after n [] = n
names_after n (x ∷ said) = names_after (names_with n x) said
