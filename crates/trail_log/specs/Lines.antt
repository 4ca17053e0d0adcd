-- What a log tells of an entry: the time of day (UTC), who, and what; a row an event.
use Rattle.std.specs.Prelude.{ℕ, ◌==◌, if◌then◌else◌, List, [], ◌∷◌, ◌++◌, Option, Some, None, Ok, Err, codes, decimal}
use Rattle.acl.specs.Names.{name_of}
use Rattle.acl.specs.declared.user_id.UserId.{UserId}
use Rattle.session.specs.refusal.Verdict.{Verdict}
use Rattle.hub.specs.Clients.{user_in}
use Rattle.hub.specs.kept.Kept.{Kept}
use Rattle.hub.specs.kept.Kept.TheVariants as kept
use Rattle.hub.specs.Legal.{failed, from_command}
use Rattle.hub.specs.Trails.{Ending}
use Rattle.trail_lines.specs.declared.ending.Ended.{Ended}
use Rattle.trail_lines.specs.Heading as heading
use Rattle.line_fields.specs.Dates.{clock_text}
use Rattle.trail_log.specs.declared.titles.Titled.{Titled}
use Rattle.trail_log.specs.Naming.{Names, title_in}
use Rattle.trail_log.specs.Causes.{cause_text, check_cause, refused_verb}
use Rattle.trail_log.specs.Checks.{before_command, command_text, window_in}

-- ---- parts

-- `web2 (window 3)`, or `window 3` if the trail hasn't its title
abbrev pub titled_text : Option (List ℕ) → ℕ → List ℕ
titled_text None w = codes "window " ++ decimal w
titled_text (Some title) w = title ++ (codes " (window " ++ (decimal w ++ codes ")"))

abbrev pub window_text : List Titled → ℕ → List ℕ
window_text titles w = titled_text (title_in titles w) w

abbrev pub on_text : List Titled → Option ℕ → List ℕ
on_text titles None = []
on_text titles (Some w) = codes " on " ++ window_text titles w

abbrev pub into_text : List Titled → Option ℕ → List ℕ
into_text titles None = codes " into no window"
into_text titles (Some w) = codes " into " ++ window_text titles w

abbrev pub count_text : ℕ → List ℕ
count_text n = if n == 1 then codes "1 byte" else decimal n ++ codes " bytes"

-- the user of a client that is attached
abbrev pub client_text : Option UserId → ℕ → List ℕ
client_text None client = codes "client " ++ decimal client
client_text (Some user) client = name_of user

-- ---- keys: bytes that were typed, and then a command

-- the check is the one that denied the bytes, if one did
abbrev pub typed_verb : Option Verdict → List ℕ
typed_verb None = codes " typed "
typed_verb (Some v) = codes " was denied "

abbrev pub typed_rest : List Titled → Option ℕ → Option Verdict → List ℕ
typed_rest titles window None = into_text titles window
typed_rest titles window (Some v) = into_text titles window ++ (codes ": " ++ check_cause v)

abbrev pub typed_by : List Titled → ℕ → Option ℕ → Option Verdict → List ℕ
typed_by titles taken window denied =
    typed_verb denied ++ (count_text taken ++ typed_rest titles window denied)

abbrev pub typed_text : List Titled → ℕ → List Verdict → List ℕ
typed_text titles taken typed = typed_by titles taken (window_in typed) (failed typed)

abbrev pub asked_by : List Titled → List ℕ → Option ℕ → Option Verdict → List ℕ
asked_by titles name window None = codes " ran " ++ (name ++ on_text titles window)
asked_by titles name window (Some v) =
    codes " was denied " ++ (name ++ (on_text titles window ++ (codes ": " ++ check_cause v)))

abbrev pub asked_text : List Titled → List Verdict → List ℕ
asked_text titles asked = asked_by titles (command_text asked) (window_in asked) (failed asked)

-- if a command is asked for and no check was made of typed bytes, none were typed
abbrev pub pressed_text : List Titled → ℕ → List Verdict → List Verdict → List ℕ
pressed_text titles taken typed [] = typed_text titles taken typed
pressed_text titles taken [] (v ∷ asked) = asked_text titles (v ∷ asked)
pressed_text titles taken (u ∷ typed) (v ∷ asked) =
    typed_text titles taken (u ∷ typed) ++ (codes " and" ++ asked_text titles (v ∷ asked))

abbrev pub keys_text : List Titled → List Verdict → Ending → List ℕ
keys_text titles verdicts (Ok f) =
    pressed_text titles f.taken (before_command verdicts) (from_command verdicts)
keys_text titles verdicts (Err r) = codes " couldn't type: " ++ cause_text [] r

-- ---- other events

abbrev pub attach_text : Ending → List ℕ
attach_text (Ok f) = codes " attached (client " ++ (decimal f.made ++ codes ")")
attach_text (Err r) = codes " couldn't attach: " ++ cause_text [] r

abbrev pub detach_text : ℕ → Ending → List ℕ
detach_text client (Ok f) = codes " detached (client " ++ (decimal client ++ codes ")")
detach_text client (Err r) = codes " couldn't detach: " ++ cause_text [] r

abbrev pub command_line : List Titled → List ℕ → Option ℕ → Ending → List ℕ
command_line titles line window (Ok f) = codes " ran " ++ (line ++ on_text titles window)
command_line titles line window (Err r) =
    refused_verb r ++ (line ++ (on_text titles window ++ (codes ": " ++ cause_text line r)))

abbrev pub open_text : List ℕ → Ending → List ℕ
open_text title (Ok f) =
    codes " opened " ++ (title ++ (codes " (window " ++ (decimal f.made ++ codes ")")))
open_text title (Err r) = codes " couldn't open " ++ (title ++ (codes ": " ++ cause_text [] r))

abbrev pub ended_text : Ending → List ℕ
ended_text (Ok f) = codes " ended"
ended_text (Err r) = codes " ended: " ++ cause_text [] r

abbrev pub closed_text : List Titled → ℕ → Ending → List ℕ
closed_text titles w reply =
    codes "the program of " ++ (window_text titles w ++ ended_text reply)

-- ---- a row an event

abbrev pub deed_text : Names → Kept → List Verdict → Ending → List ℕ
deed_text n (kept.Attach user rows columns) verdicts reply = name_of user ++ attach_text reply
deed_text n (kept.Detach client) verdicts reply =
    client_text (user_in n.0 client) client ++ detach_text client reply
deed_text n (kept.Keys client) verdicts reply =
    client_text (user_in n.0 client) client ++ keys_text n.1 verdicts reply
deed_text n (kept.Command user window line) verdicts reply =
    name_of user ++ command_line n.1 line (window_in verdicts) reply
deed_text n (kept.Open user rows columns keep title) verdicts reply =
    name_of user ++ open_text title reply
deed_text n (kept.Closed window) verdicts reply = closed_text n.1 window reply

-- ---- the line of a trail's end

abbrev pub end_text : Ended → List ℕ
end_text e = codes " the session ended: " ++ heading.cause_text e.cause

abbrev pub end_line : Ended → List ℕ
end_line e = clock_text e.ms ++ (end_text e ++ 0x0A ∷ [])
