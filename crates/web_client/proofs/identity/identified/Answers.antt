use Rattle.std.proofs.Common.{rules}
use Rattle.web_client.proofs.Adding.{linked}
use Rattle.web_client.proofs.identity.identified.Goals as goal

pub returns-in-76-clause-begins : goal.returns-in-76-clause-begins
returns-in-76-clause-begins c =
    linked c.linked.result c.args.message.now c.in-Some.payload.now (search rules) c.linked.ensures.links
