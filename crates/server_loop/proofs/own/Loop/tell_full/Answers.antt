use Rattle.server_loop.proofs.Vocabulary.{◌∙◌, ℕ, Bool, Option, ap, sym, subst, Connections, state_of, with_peer}
use Rattle.server_steps.specs.Ending.{told_full}
use Rattle.server_loop.specs.Turning.{TellsNews}
use Rattle.server_loop.proofs.own.Loop.tell_full.Goals as goal

pub returns-in_default : goal.returns-in_default
returns-in_default g c =
    let old = state_of c.args.self.now in
    subst (λ (o : Option (ℕ × Bool)). TellsNews g.J.SessionSeat o (with_peer told_full c.args.key old)
    (record old { connections = c.take_fullness.new.connections }))
    (sym (sym c.take_fullness.ensures.news ∙ c.in_default.is))
    (ap (λ (s : Connections g.row.S.Denot). record old { connections = s }) c.take_fullness.ensures.told)

pub returns : goal.returns
returns g c =
    let old = state_of c.args.self.now in
    subst (λ (o : Option (ℕ × Bool)). TellsNews g.J.SessionSeat o (with_peer told_full c.args.key old)
    (record old { connections = c.take_fullness.new.connections; seat = c.set_full.new.self })) c.in-Some.ensures.news (
      c.set_full.ensures.told,
      ap (λ (s : Connections g.row.S.Denot). record old { connections = s; seat = c.set_full.new.self })
          c.take_fullness.ensures.told,
    )
