use Rattle.hub_check.proofs.Vocabulary.{drop, ◌↔◌, Edition, UserId, History, StandsAfter, AreTrue}
use Rattle.hub_check.proofs.verdicts.are_true.Given as goal

-- what is left decides
abbrev pub invariant-loop-verdict : goal.invariant-loop-verdict
invariant-loop-verdict l =
    (edition : Edition) (owner : UserId) (h : History) → StandsAfter l.rights edition owner h
    → AreTrue edition owner h l.verdicts ↔ AreTrue edition owner h (drop l.verdict-index l.verdicts)
