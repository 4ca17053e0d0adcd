use Rattle.std.proofs.Common.{◌∙◌}
use Rattle.rights.proofs.rights.Rights.leaders_of.Goals as goal

pub returns : goal.returns
returns c = λ edition owner h s. c.leaders_of.ensures ∙ s.acl.led c.args.user
