use Rattle.server_loop.proofs.Vocabulary.{◌≡◌, true, rules, state_of}
use Rattle.server_loop.proofs.Telling.{if_true}
use Rattle.server_loop.proofs.own.Loop.hand_on.Goals as goal

pub returns : goal.returns
returns g c =
    let yes : c.args.self.now.is_behind ≡ true = search rules in
    if_true _ _ _ yes (
      state_of c.hand_out.new.self,
      c.hand_out.ensures,
      state_of c.drop_all_typed.new.self,
      c.drop_all_typed.ensures,
      c.write_all.ensures,
    )
