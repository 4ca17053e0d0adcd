use Rattle.acl.proofs.FollowingLemmas.{followed_by-append}
use Rattle.acl.proofs.acts_in_order.Goals as goal

pub returns : goal.returns
returns c = followed_by-append
