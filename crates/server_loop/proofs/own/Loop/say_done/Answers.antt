use Rattle.server_loop.proofs.Vocabulary.{ℕ, List, Option, ap, sym, subst, Tells, state_of, Loop}
use Rattle.attach_proto.specs.declared.message.Message.TheVariants.{Say}
use Rattle.attach_proto.specs.declared.why.Why.TheVariants.{Detached}
use Rattle.server_loop.specs.Beginning.{Lists}
use Rattle.server_loop.proofs.Begun.{dismissed}
use Rattle.server_loop.proofs.own.Loop.say_done.Goals as goal
use Rattle.server_loop.proofs.own.Loop.say_done.Goals.{in-Some, in_default}

pub returns : goal.returns
returns g c =
    let lists = λ (text : Option (List ℕ)). Lists g.J.SessionSeat text c.args.key (state_of c.args.self.now)
    (state_of c.match-done.self) in
    let told : lists c.args.done.now.text = elim c.match-done.branch [
      | in-Some w ↦ subst lists (sym w.in-Some.is)
          (subst (λ (l : Loop g.row.S.Denot g.row.G.Denot g.row.J.Denot). Tells g.J.SessionSeat
          (Say w.in-Some.text) c.args.key (state_of c.args.self.now) (state_of l)) (sym w.self-is)
          (subst (λ (text : List ℕ). Tells g.J.SessionSeat (Say text) c.args.key (state_of c.args.self.now)
          (state_of w.send.new.self)) w.as_slice.ensures w.send.ensures))
      | in_default w ↦ subst lists (sym w.in_default.is)
          (ap (λ (l : Loop g.row.S.Denot g.row.G.Denot g.row.J.Denot). state_of l) w.self-is)
    ] in (
      state_of c.match-done.self,
      told,
      dismissed Detached c.args.key c.match-done.self c.dismiss.new.self c.dismiss.ensures,
    )
