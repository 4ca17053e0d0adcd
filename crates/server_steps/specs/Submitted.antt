-- What a loop submitted, and what a step costs.
use Rattle.std.specs.Prelude.{ℕ, true, false, length}
use Rattle.command_lang.specs.Relation.{Relates}
use Rattle.command_lang.specs.declared.command.Command.TheVariants as command
use Rattle.session.specs.Trace.{EventValue, Attach, Command, Draw, Open, Output}
use Rattle.server_steps.specs.declared.submitted.Submitted.{Submitted}

-- this event was submitted: a draw changes nothing, and output changes no more than what is drawn
abbrev pub noted : EventValue → Submitted → Submitted
noted (Draw client) s = s
noted (Output window bytes) s = record s { is_some = true }
noted other s = record s { is_some = true; has_acted = true }

-- the entries to which it leads; a client that attaches also leaves
abbrev pub entries_of : EventValue → ℕ
entries_of (Attach user rows columns) = 2
entries_of other = 1

-- how many bytes of it the trail keeps
abbrev pub kept_of : EventValue → ℕ
kept_of (Command user window line) = length line
kept_of (Open user rows columns keep title) = length title
kept_of other = 0

-- no step
abbrev pub nothing_submitted : Submitted
nothing_submitted = record { is_some = false; has_acted = false }

-- it is the command `quit`
abbrev pub IsQuit : EventValue → Type 0
IsQuit (Command user window line) = Relates line command.Quit
IsQuit other = ⊥
