use Rattle.server_loop.proofs.Vocabulary.{refl, sym, subst, UserId, state_of}
use Rattle.session.specs.Trace.{Reply}
use Rattle.server_loop.specs.Beginning.{Enters}
use Rattle.server_loop.proofs.own.Loop.enter.Goals as goal

pub returns-in-Err : goal.returns-in-Err
returns-in-Err g c =
    let J = g.J.SessionSeat in
    let by = c.args.newcomer in
    let mid = state_of c.refuse.new.self in
    let seat = c.remove.new.self in
    subst (λ (reply : Reply). Enters J by.user by.kind reply by.key (state_of c.args.self.now)
    (record mid { seat = seat })) (sym c.in-Err.is) (
      mid,
      c.refuse.ensures,
      (
        subst (λ (user : UserId). J.uncounts mid.seat user by.kind seat) c.user.ensures c.remove.ensures.uncounted,
        refl,
      ),
    )
