use Rattle.hub_check.proofs.Vocabulary.{◌≡◌, ◌||◌, Some, drop, list_all, Edition, History, users_of, same_user}
use Rattle.hub_check.proofs.Vocabulary.{has_act_of, StandsAfter}
use Rattle.hub_check.proofs.names.have_all.Given as goal

-- what is left decides
abbrev pub invariant-loop-place : goal.invariant-loop-place
invariant-loop-place l =
    (edition : Edition) (h : History) → StandsAfter l.rights edition l.owner h
    → list_all (λ u. same_user l.owner u || has_act_of l.acts (Some u)) (users_of l.owner h)
    ≡ list_all (λ u. same_user l.owner u || has_act_of l.acts (Some u)) (drop l.place (users_of l.owner h))
