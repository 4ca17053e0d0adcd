use Rattle.hub_check.proofs.Vocabulary.{◌≡◌, drop, list_all, Edition, UserId, History, is_client_of, user_of}
use Rattle.hub_check.proofs.Vocabulary.{StandsAfter}
use Rattle.hub_check.proofs.verdicts.are_of_client.Given as goal

-- what is left decides
abbrev pub invariant-loop-verdict : goal.invariant-loop-verdict
invariant-loop-verdict l =
    (edition : Edition) (owner : UserId) (h : History) → StandsAfter l.rights edition owner h
    → list_all (λ v. is_client_of h l.client (user_of v)) l.verdicts
    ≡ list_all (λ v. is_client_of h l.client (user_of v)) (drop l.verdict-index l.verdicts)
