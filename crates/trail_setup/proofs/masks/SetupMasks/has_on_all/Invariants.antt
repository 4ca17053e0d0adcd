use Rattle.trail_setup.proofs.Vocabulary.{◌≡◌, drop, list_all, Edition, UserId, History, Stands, has_if_back}
use Rattle.trail_setup.proofs.Vocabulary.{has_on_all, known_in}
use Rattle.trail_setup.proofs.masks.SetupMasks.has_on_all.Given as goal

-- those so far passed
abbrev pub invariant-loop-row : goal.invariant-loop-row
invariant-loop-row l =
    (edition : Edition) (owner : UserId) (h : History) → Stands l.self.state.now edition owner h
    → list_all (has_if_back owner h l.self.users.now l.by l.user l.bit)
    (drop l.row-index l.row-items) ≡ has_on_all owner h (known_in l.self) l.by l.user l.bit
