use Rattle.server_loop.proofs.Vocabulary.{◌∙◌, List, Option, true, ap, happening, state_of}
use Rattle.server_seat.specs.declared.news.News.{News}
use Rattle.server_seat.specs.declared.seat.ServerEnd.{ServerEnd}
use Rattle.server_steps.specs.Submitted.{noted}
use Rattle.server_steps.specs.Telling.{filled_by, with_any}
use Rattle.server_steps.specs.declared.submitted.Submitted.{Submitted}
use Rattle.server_loop.proofs.own.Loop.note_step.Goals as goal

pub returns : goal.returns
returns g c =
    let old = state_of c.args.self.now in
    let steps = noted (happening c.args.event) old.submitted in
    let after = λ (s : Submitted) (news : List News) (end : Option ServerEnd).
    record old { submitted = s; is_behind = true; news = news; end = end } in
    ap (λ (s : Submitted). after s c.put_any.new.self c.end_by-self.result) c.note.ensures
    ∙ ap (λ (news : List News). after steps news c.end_by-self.result)
    (c.put_any.ensures ∙ ap (λ (one : Option News). with_any one old.news) c.filled_by.ensures)
    ∙ ap (λ (end : Option ServerEnd). after steps (with_any (filled_by c.args.answer.now) old.news) end) c.end_by-self.ensures
