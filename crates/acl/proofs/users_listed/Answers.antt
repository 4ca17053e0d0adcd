use Rattle.acl.proofs.FollowingLemmas.{known-among}
use Rattle.acl.proofs.users_listed.Goals as goal

pub returns : goal.returns
returns c = λ t edition owner h u s. known-among t edition owner h s u
