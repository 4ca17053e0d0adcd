-- How a session begins: with the commands of a setup, in their order.
use Rattle.std.specs.Prelude.{ℕ, List, [], ◌∷◌, ◌++◌, ◌≡◌, Option, Some, None, Err, IsOk, map}
use Rattle.acl.specs.declared.user_id.UserId.{UserId}
use Rattle.acl.specs.Names.{named_by}
use Rattle.program_words.specs.SetupLines.{Line, line_of, speech_in}
use Rattle.session_model.specs.declared.refusal.Refusal.{Refusal}
use Rattle.session_model.specs.Texts.{text_of}
use Rattle.session_model.specs.Trace.{EventValue, Command, Entry, Trace, begun}
use Rattle.session_core.specs.Headline.{with_steps, AllSteps, Keeps}
use Rattle.session.specs.declared.setup_file.Beginning.{Beginning}
use Rattle.session.specs.declared.setup_file.Unbegun.{Unbegun}
use Rattle.session.specs.declared.setup_file.Unbegun.TheVariants.{Refused, NoMemory}

-- `USER: COMMAND` is that user's; the owner gives each other line
abbrev pub if_named : UserId → List ℕ → Option UserId → List ℕ → UserId × List ℕ
if_named owner line None command = (owner, line)
if_named owner line (Some user) command = (user, command)

abbrev pub if_spoken : UserId → List ℕ → Option (List ℕ × List ℕ) → UserId × List ℕ
if_spoken owner line None = (owner, line)
if_spoken owner line (Some p) = if_named owner line (named_by p.0) p.1

abbrev pub spoken : UserId → List ℕ → UserId × List ℕ
spoken owner line = if_spoken owner line (speech_in line)

-- a line is a Command of the user whom it names, else of the owner, with no window
abbrev pub command_of : UserId → Line → EventValue
command_of owner line = Command (spoken owner line.bytes).0 None (spoken owner line.bytes).1

-- each line is one step, which is done
abbrev pub AreDone : UserId → List Line → List Entry → Type 0
AreDone owner [] [] = Unit {0}
AreDone owner (line ∷ lines) (e ∷ steps) =
    (e.event ≡ command_of owner line) × IsOk e.reply × AreDone owner lines steps
AreDone owner _ _ = ⊥

-- the lines give these steps of the session, each of which keeps its promise
pub record SetsUp (h : Trace) (owner : UserId) (lines : List Line) (steps : List Entry) : Type 0
  where
    pub done : AreDone owner lines steps
    pub run : AllSteps Keeps h steps

-- a fact of the trace after the setup
abbrev pub Behind : (Trace → Type 0) → Trace → UserId → List Line → Type 0
Behind P h owner lines = (steps : List Entry) × SetsUp h owner lines steps × P (with_steps h steps)

-- the step of this line is refused with this text, and keeps the promise
pub record Refuses (h : Trace) (owner : UserId) (line : Line) (said : List ℕ) : Type 0 where
  pub refusal : Refusal
  pub text : said ≡ text_of refusal
  pub step : Entry
  pub event : step.event ≡ command_of owner line
  pub reply : step.reply ≡ Err refusal
  pub keeps : Keeps h step

-- the line of this number is the first of them that is refused, with this text
pub record StopsAt (number : ℕ) (said : List ℕ) (h : Trace) (owner : UserId)
    (lines : List Line) : Type 0 where
  pub past : List Line
  pub line : Line
  pub rest : List Line
  pub lines_are : lines ≡ past ++ line ∷ rest
  pub number_is : number ≡ line.number
  pub refuses : Behind (λ now. Refuses now owner line said) h owner past

-- if a line was refused, a fact of its number and of the refusal's text
abbrev pub IfRefused : Unbegun → (ℕ → List ℕ → Type 0) → Type 0
IfRefused (Refused number said) P = P number said.items
IfRefused NoMemory P = Unit {0}

-- a fact of the trace after a session's beginning
abbrev pub Begins : Beginning → (Trace → Type 0) → Type 0
Begins b P = Behind P (begun b.edition b.owner) b.owner (map line_of b.setup.now)
