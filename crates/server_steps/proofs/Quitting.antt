-- Which lines are the command `quit`.
use Rattle.std.proofs.Common.{◌≡◌, ◌∙◌, ◌⊎◌, ℕ, List, Result, Ok, Err, ap, sym, inl, inr}
use Rattle.command_lang.specs.LineFaults.{no_memory}
use Rattle.command_lang.specs.Relation.{Refuses, Relates}
use Rattle.command_lang.specs.declared.command.Command.{Command}
use Rattle.command_lang.specs.declared.fault.FaultKind.TheVariants as faults
use Rattle.command_lang.specs.declared.fault.ParseFault.{ParseFault}
use Rattle.command_lang.proofs.OneReading.{not_both, relates-reads}

abbrev command_or : Command → Result Command ParseFault → Command
command_or c (Ok d) = d
command_or c (Err f) = c

-- a line is at most one command
pub one_command : (line : List ℕ) (c d : Command) → Relates line c → Relates line d → c ≡ d
one_command line c d first other = ap (command_or c) (sym (relates-reads line c first) ∙ relates-reads line d other)

-- a line with a fault is none
pub no_command : (line : List ℕ) (c : Command) (f : ParseFault) → (f ≡ no_memory) ⊎ Refuses line f
    → (f.kind ≡ faults.NoMemory → ⊥) → Relates line c → ⊥
no_command line c f (inl is) kind has = kind (ap (λ (g : ParseFault). g.kind) is)
no_command line c f (inr refuses) kind has = not_both line c f has refuses
