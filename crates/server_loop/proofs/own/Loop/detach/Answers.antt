use Rattle.server_loop.proofs.Vocabulary.{◌≡◌, true, false, refl, subst, rules, Connections, TellsLeaving, state_of}
use Rattle.server_loop.proofs.Telling.{if_false, if_true}
use Rattle.server_loop.proofs.own.Loop.detach.Goals as goal

pub returns-then-tell_leaving : goal.returns-then-tell_leaving
returns-then-tell_leaving g c =
    let yes : c.tell_leaving.result ≡ true = search rules in (
      c.tell_leaving.result,
      state_of c.tell_leaving.new.self,
      subst (λ (s : Connections g.row.S.Denot). TellsLeaving g.J.SessionSeat c.args.key
          (record (state_of c.args.self.now) { connections = s }) c.tell_leaving.result
          (state_of c.tell_leaving.new.self)) c.ask_to_go.ensures c.tell_leaving.ensures,
      if_true _ _ _ yes refl,
    )

pub returns : goal.returns
returns g c =
    let no : c.tell_leaving.result ≡ false = search rules in (
      c.tell_leaving.result,
      state_of c.tell_leaving.new.self,
      subst (λ (s : Connections g.row.S.Denot). TellsLeaving g.J.SessionSeat c.args.key
          (record (state_of c.args.self.now) { connections = s }) c.tell_leaving.result
          (state_of c.tell_leaving.new.self)) c.ask_to_go.ensures c.tell_leaving.ensures,
      if_false _ _ _ no c.expel.ensures,
    )
