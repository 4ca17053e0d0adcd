use Rattle.server_loop.proofs.Vocabulary.{◌∙◌, ℕ, Option, None, refl, sym, subst, inl, inr, UserId, Why}
use Rattle.server_loop.proofs.Vocabulary.{Dismisses, Ok, happening, state_of}
use Rattle.server_seat.specs.declared.seat.SeatAnswer.{SeatAnswer}
use Rattle.server_loop.specs.Trying.{Tries}
use Rattle.server_loop.proofs.Begun.{dismissed}
use Rattle.server_loop.proofs.Telling.{if_false}
use Rattle.server_loop.proofs.own.Loop.join.Goals as goal

pub returns-in-Ok-Some : goal.returns-in-Ok-Some
returns-in-Ok-Some g c =
    let J = g.J.SessionSeat in
    let by = c.args.newcomer in
    let seat = c.add.new.self in
    let counted : J.counts c.args.self.now.seat by.user.user by.kind None seat = subst
    (λ (user : UserId). J.counts c.args.self.now.seat user by.kind None seat) c.user.ensures (subst
    (λ (most : Option ℕ). J.counts c.args.self.now.seat c.user.result by.kind most seat) c.in_default.is
    c.add.ensures.counted) in
    if_false _ _ _ (sym c.is_extra.ensures ∙ c.if-is_extra.false)
    (inr (
      seat,
      counted,
      (
        state_of c.try_for.new.self,
        inr (
          refl,
          c.in-Ok-Some.answer,
          subst (λ (o : Option SeatAnswer). Tries J by.user.user (happening c.args.event)
              (record (state_of c.args.self.now) { seat = seat }) (Ok o) (state_of c.try_for.new.self))
              c.in-Ok-Some.field-0-is c.in-Ok-Some.ensures,
          c.enter.ensures,
        ),
      ),
    ))

pub returns-in-Ok-None : goal.returns-in-Ok-None
returns-in-Ok-None g c =
    let J = g.J.SessionSeat in
    let by = c.args.newcomer in
    let seat = c.add.new.self in
    let counted : J.counts c.args.self.now.seat by.user.user by.kind None seat = subst
    (λ (user : UserId). J.counts c.args.self.now.seat user by.kind None seat) c.user.ensures (subst
    (λ (most : Option ℕ). J.counts c.args.self.now.seat c.user.result by.kind most seat) c.in_default.is
    c.add.ensures.counted) in
    let mid = state_of c.try_for.new.self in
    if_false _ _ _ (sym c.is_extra.ensures ∙ c.if-is_extra.false)
    (inr (
      seat,
      counted,
      (
        mid,
        inl (
          subst (λ (o : Option SeatAnswer). Tries J by.user.user (happening c.args.event)
              (record (state_of c.args.self.now) { seat = seat }) (Ok o) mid)
              c.in-Ok-None.field-0-is c.in-Ok-None.ensures,
          (
            subst (λ (user : UserId). J.uncounts mid.seat user by.kind c.remove.new.self)
                c.user-in-Ok-None.ensures c.remove.ensures.uncounted,
            refl,
          ),
        ),
      ),
    ))

pub returns-in-Err : goal.returns-in-Err
returns-in-Err g c =
    let J = g.J.SessionSeat in
    let by = c.args.newcomer in
    let seat = c.add.new.self in
    let counted : J.counts c.args.self.now.seat by.user.user by.kind None seat = subst
    (λ (user : UserId). J.counts c.args.self.now.seat user by.kind None seat) c.user.ensures (subst
    (λ (most : Option ℕ). J.counts c.args.self.now.seat c.user.result by.kind most seat) c.in_default.is
    c.add.ensures.counted) in
    let mid = state_of c.try_for.new.self in
    let told = state_of c.dismiss.new.self in
    if_false _ _ _ (sym c.is_extra.ensures ∙ c.if-is_extra.false) (inr (
      seat,
      counted,
      (
        told,
        inl (
          (
            c.in-Err.fault,
            mid,
            c.in-Err.ensures,
            subst (λ (w : Why). Dismisses w by.key mid told) c.why.ensures
                (dismissed c.why.result by.key c.try_for.new.self c.dismiss.new.self c.dismiss.ensures),
          ),
          (
            subst (λ (user : UserId). J.uncounts told.seat user by.kind c.remove-in-Err.new.self)
                c.user-in-Err.ensures c.remove-in-Err.ensures.uncounted,
            refl,
          ),
        ),
      ),
    ))
