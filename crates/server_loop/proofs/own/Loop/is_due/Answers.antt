use Rattle.server_loop.proofs.Vocabulary.{◌≡◌, true, false, is_some, refl, rules}
use Rattle.server_loop.proofs.Telling.{if_either, if_false, if_true}
use Rattle.server_loop.proofs.own.Loop.is_due.Goals as goal

pub returns-then-is_some : goal.returns-then-is_some
returns-then-is_some g c =
    let no : c.args.self.now.is_behind ≡ false = search rules in
    let yes : is_some c.args.self.now.draws.from ≡ true = search rules in
    if_false _ _ _ no (if_true _ _ _ yes refl)

pub returns : goal.returns
returns g c =
    let no : c.args.self.now.is_behind ≡ false = search rules in
    let none : is_some c.args.self.now.draws.from ≡ false = search rules in
    if_false _ _ _ no (if_false _ _ _ none (if_either _ _ _ c.any_awaits.ensures.some c.any_awaits.ensures.none))
