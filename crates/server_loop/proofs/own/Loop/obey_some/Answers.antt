use Rattle.server_loop.proofs.Vocabulary.{Bool, ap, not, subst, state_of, FaultsIf}
use Rattle.server_loop.specs.Serving.{with_much}
use Rattle.server_loop.proofs.own.Loop.obey_some.Goals as goal

pub returns : goal.returns
returns g c =
    let mid = state_of c.fault_if.new.self in (
      state_of c.obey_steps.new.self,
      mid,
      c.obey_steps.ensures,
      subst (λ (b : Bool). FaultsIf g.J.SessionSeat b c.args.key (state_of c.obey_steps.new.self) mid)
          c.is_faulty-faulty.ensures c.fault_if.ensures,
      ap not c.has_asked-is_done.ensures,
      ap (λ (b : Bool). with_much b mid) c.is_much-is_much.ensures,
    )
