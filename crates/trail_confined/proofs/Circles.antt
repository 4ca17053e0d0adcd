-- What confinement rests on for users and their leaders.
use Rattle.trail_confined.proofs.Vocabulary.{◌≡◌, ◌∙◌, List, ◌++◌, ap, flat_map, Edition, UserId, History, circles_of}
use Rattle.trail_confined.proofs.Vocabulary.{openers_of, masks_of, powers_of, standing_of, premises_of}

pub premises_made : (edition : Edition) (owner : UserId) (h : History) (users openers circles os cs : List UserId)
    → os ≡ openers → cs ≡ circles → openers ≡ openers_of edition owner h → circles ≡ circles_of edition h users
    → flat_map powers_of users ++ (flat_map standing_of cs ++ flat_map (masks_of os) cs) ≡ premises_of edition owner h
    users
premises_made edition owner h users openers circles os cs p q e f =
    ap (λ o. flat_map powers_of users ++ (flat_map standing_of cs ++ flat_map (masks_of o) cs)) (p ∙ e)
    ∙ ap (λ c. flat_map powers_of users ++
    (flat_map standing_of c ++ flat_map (masks_of (openers_of edition owner h)) c)) (q ∙ f)
