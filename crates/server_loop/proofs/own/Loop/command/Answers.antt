use Rattle.server_loop.proofs.Vocabulary.{◌∙◌, Ok, Option, ap, inl, inr, refl, subst, State, Why, Dismisses, happening}
use Rattle.server_loop.proofs.Vocabulary.{state_of, Loop}
use Rattle.server_seat.specs.declared.seat.SeatAnswer.{SeatAnswer}
use Rattle.server_loop.specs.Trying.{Tries}
use Rattle.server_loop.specs.Beginning.{Answers}
use Rattle.server_seat.specs.declared.news.News.{News}
use Rattle.server_steps.specs.Telling.{with_news}
use Rattle.server_loop.proofs.Begun.{dismissed}
use Rattle.server_loop.proofs.own.Loop.command.Goals as goal

pub returns-in-Ok-Some : goal.returns-in-Ok-Some
returns-in-Ok-Some g c = inr (inr (
  refl,
  c.in-Ok.is_quit,
  c.in-Ok.ensures,
  c.in-Ok-Some.answer,
  state_of c.try_for.new.self,
  subst (λ (o : Option SeatAnswer). Tries g.J.SessionSeat c.args.user.user (happening c.args.event)
      (state_of c.args.self.now) (Ok o) (state_of c.try_for.new.self)) c.in-Ok-Some.field-0-is c.in-Ok-Some.ensures,
  subst (λ (s : State g.row.S.Denot g.row.J.Denot). Answers g.J.SessionSeat c.in-Ok.is_quit
      c.in-Ok-Some.answer.reply c.args.key s (state_of c.tell_answer.new.self))
      (ap (λ (l : Loop g.row.S.Denot g.row.G.Denot g.row.J.Denot). state_of l) (c.tell.ensures
      ∙ ap (λ (one : News). record c.try_for.new.self { news = with_news one c.try_for.new.self.news })
      c.news_of.ensures))
      c.tell_answer.ensures,
))

pub returns-in-Err : goal.returns-in-Err
returns-in-Err g c =
    let mid = state_of c.try_for.new.self in
    inr (inl (
      c.in-Err.fault,
      mid,
      c.in-Err.ensures,
      subst (λ (w : Why). Dismisses w c.args.key mid (state_of c.dismiss-in-Err.new.self)) c.why.ensures
          (dismissed c.why.result c.args.key c.try_for.new.self c.dismiss-in-Err.new.self c.dismiss-in-Err.ensures),
    ))
