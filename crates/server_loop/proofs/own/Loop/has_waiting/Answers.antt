use Rattle.server_loop.proofs.Vocabulary.{◌≡◌, false, rules}
use Rattle.server_loop.proofs.Telling.{if_either, if_false}
use Rattle.server_loop.proofs.own.Loop.has_waiting.Goals as goal

pub returns : goal.returns
returns g c =
    let no : c.args.self.now.has_refused ≡ false = search rules in
    if_false _ _ _ no (if_either _ _ _ c.any_awaits.ensures.some c.any_awaits.ensures.none)
