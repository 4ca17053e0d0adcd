-- Which of an entry's checks are of typed bytes and which of a command, and what they name.
use Rattle.std.specs.Prelude.{ℕ, Bool, true, false, if◌then◌else◌, List, [], ◌∷◌, Option, Some, None}
use Rattle.acl.specs.declared.act.Object.TheVariants as object
use Rattle.acl.specs.declared.command_name.CommandName.TheVariants.{Title}
use Rattle.command_lang.specs.Names.{name_text}
use Rattle.session.specs.refusal.Verdict.{Verdict}
use Rattle.session.specs.refusal.Verdict.TheVariants.{Right as right, Lock as lock}
use Rattle.hub.specs.Legal.{asks_for_command}

-- those before the first that asks for x on a command
abbrev pub before_command : List Verdict → List Verdict
before_command [] = []
before_command (v ∷ verdicts) =
    if asks_for_command v then [] else v ∷ before_command verdicts

-- the window that a check is of
abbrev pub window_of : Verdict → Option ℕ
window_of (right user bit (object.Window w) answer) = Some w
window_of (right user bit (object.Command c) answer) = None
window_of (lock user w holder) = Some w

abbrev pub or_window : Option ℕ → Option ℕ → Option ℕ
or_window None later = later
or_window (Some w) later = Some w

-- the first window that checks are of
abbrev pub window_in : List Verdict → Option ℕ
window_in [] = None
window_in (v ∷ verdicts) = or_window (window_of v) (window_in verdicts)

-- the command that a check is of
abbrev pub command_by : Verdict → List ℕ
command_by (right user bit (object.Command c) answer) = name_text c
command_by v = []

-- the command that the first check is of
abbrev pub command_text : List Verdict → List ℕ
command_text [] = []
command_text (v ∷ verdicts) = command_by v

abbrev pub is_title : Verdict → Bool
is_title (right user bit (object.Command Title) answer) = true
is_title v = false

abbrev pub asks_title : List Verdict → Bool
asks_title [] = false
asks_title (v ∷ verdicts) = is_title v
