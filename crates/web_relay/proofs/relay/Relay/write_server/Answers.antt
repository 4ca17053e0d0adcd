use Rattle.std.proofs.Common.{◌≡◌, inr, rules}
use Rattle.web_relay.proofs.Vocabulary.{Connected}
use Rattle.web_relay.proofs.relay.Relay.write_server.Goals as goal

pub returns : goal.returns
returns g c =
    let is : c.args.self.now.server ≡ Connected c.in-Connected.server = search rules in
    inr (
      c.in-Connected.server,
      is,
      c.ask-is_whole.result,
      c.ask-is_whole.new.server,
      c.ask-is_whole.new.self,
      c.ask-is_whole.ensures.same,
      c.ask-is_whole.ensures.asks,
      c.note_asked.ensures,
    )
