use Rattle.server_loop.proofs.Vocabulary.{◌≡◌, true, refl, rules}
use Rattle.server_loop.proofs.Telling.{if_true}
use Rattle.server_loop.proofs.own.Loop.tell_all.Goals as goal

pub returns : goal.returns
returns g c =
    let yes : c.args.self.now.draws.is_told ≡ true = search rules in
    if_true _ _ _ yes (record { told = c.tell.ensures.told; same = c.tell.ensures.same }, refl)
