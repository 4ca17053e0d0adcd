use Rattle.std.proofs.Common.{◌≡◌, inr, rules}
use Rattle.web_relay.proofs.Vocabulary.{Connected}
use Rattle.web_relay.proofs.relay.Relay.hear.Goals as goal

pub returns : goal.returns
returns g c =
    let is : c.args.self.now.server ≡ Connected c.in-Connected.server = search rules in
    inr (
      c.in-Connected.server,
      is,
      c.hear-came.result,
      c.hear-came.new.server,
      c.hear-came.new.self,
      c.hear-came.ensures.same,
      c.hear-came.ensures.hears,
      c.note_heard.ensures,
    )
