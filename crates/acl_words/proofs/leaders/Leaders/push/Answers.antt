use Rattle.std.proofs.Common.{◌≡◌, length, take, ap, arith}
use Rattle.acl_words.specs.Leaders.{length-front}
use Rattle.acl_words.proofs.LeaderLemmas.{front_pushed}
use Rattle.acl_words.proofs.leaders.Leaders.push.Goals as goal

pub invariant_of-self : goal.invariant_of-self
invariant_of-self c =
    let names = c.self.inside.names in
    let count = c.self.inside.count in
    let l : length (take count names) ≡ count = length-front count names c.self.invariant in
    let v : length (take count names) ≡ length c.args.self.now = ap length c.self.view_is in
    front_pushed count c.args.leader names c.self.invariant (omega arith)
