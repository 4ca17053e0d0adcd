use Rattle.server_loop.proofs.Vocabulary.{◌≡◌, true, false, refl, ap, rules, Connections, state_of}
use Rattle.server_loop.proofs.Telling.{if_false, if_true}
use Rattle.server_loop.proofs.own.Loop.drop_of.Goals as goal

pub returns-then-may_type : goal.returns-then-may_type
returns-then-may_type g c =
    let yes : c.may_type.result ≡ true = search rules in
    (c.may_type.result, c.may_type.ensures, if_true _ _ _ yes refl)

pub returns : goal.returns
returns g c =
    let no : c.may_type.result ≡ false = search rules in (
      c.may_type.result,
      c.may_type.ensures,
      if_false _ _ _ no (ap (λ (s : Connections g.row.S.Denot). record (state_of c.args.self.now) { connections = s })
          c.drop_typed.ensures),
    )
