use Rattle.hub_check.proofs.Vocabulary.{◌≡◌, true, drop, ◌↔◌, Edition, History, StandsAfter, AreSaid}
use Rattle.std.specs.Prelude.{IfSome}
use Rattle.hub_trail.specs.Saying.{concerns}
use Rattle.hub_check.proofs.says.all_said.Given as goal

-- what is left decides, and the command names the user
abbrev pub invariant-loop-act : goal.invariant-loop-act
invariant-loop-act l =
    (edition : Edition) (h : History) → StandsAfter l.rights edition l.owner h
    → (AreSaid l.owner h l.given l.acts ↔ AreSaid l.owner h l.given (drop l.act-index l.acts))
    × IfSome l.named (λ u. concerns l.owner h l.given u ≡ true)
