use Rattle.hub_check.proofs.Vocabulary.{◌≡◌, drop, list_all, Edition, UserId, History, detaches, is_client_of}
use Rattle.hub_check.proofs.Vocabulary.{StandsAfter}
use Rattle.hub_check.proofs.fits.all_detach.Given as goal

-- what is left decides
abbrev pub invariant-loop-act : goal.invariant-loop-act
invariant-loop-act l =
    (edition : Edition) (owner : UserId) (h : History) → StandsAfter l.rights edition owner h
    → list_all (detaches (is_client_of h l.client) l.client) l.acts
    ≡ list_all (detaches (is_client_of h l.client) l.client) (drop l.act-index l.acts)
