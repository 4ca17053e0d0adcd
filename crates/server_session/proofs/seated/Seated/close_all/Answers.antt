use Rattle.std.proofs.Common.{List, Option, ◌∷◌, ◌+◌, drop, ap, ◌∙◌, subst, sym, arith}
use Rattle.std.proofs.lemmas.List.{drop_all, drop_more}
use Rattle.acl.specs.declared.user_id.UserId.{UserId}
use Rattle.session.specs.event.Effect.{Effect}
use Rattle.server_session.specs.Loading.{closed_by}
use Rattle.server_session.specs.Seating.{AreClosed, IsClosed, after_closings, if_called}
use Rattle.server_session.specs.declared.books.Calls.{Calls}
use Rattle.server_session.specs.declared.seated.Seated.{Seated}
use Rattle.server_session.proofs.seated.Seated.close_all.Goals as goal

pub effects-preserved : goal.effects-preserved
effects-preserved g c =
    let S : Type 0 = Seated g.row.L.Denot g.row.S.Denot g.row.B.Denot g.row.T.Denot in
    let Sent : Type 0 = Effect × Option UserId in
    let rest : List Sent = drop (c.effects.sent-index + 1) c.args.effects.now in
    let now = drop_more c.args.effects.now c.effects.sent-index c.sent-item.result (omega arith) in
    let closed = if_called (closed_by c.sent-item.result.0) c.effects.self.calls in
    let once = c.close_by.ensures.once in (
      λ others. c.effects.invariant.0 (subst (λ (l : List Sent). AreClosed g.B.Counting.closes l) (sym now)
          (subst (λ (s : Sent). IsClosed g.B.Counting.closes s.0) c.sent-item.is c.close_by.ensures.closed, others)),
      ap (λ (s : S). after_closings rest s.calls) once
          ∙ ap (λ (s : Sent). after_closings (s ∷ rest) c.effects.self.calls) c.sent-item.is
          ∙ ap (λ (l : List Sent). after_closings l c.effects.self.calls) (sym now) ∙ c.effects.invariant.1,
      once ∙ ap (λ (s : S). record s { calls = closed }) c.effects.invariant.2
          ∙ ap (λ (x : Calls). record c.args.self.now { calls = x }) (sym (ap (λ (s : S). s.calls) once)),
    )

pub returns-clause-closed : goal.returns-clause-closed
returns-clause-closed g c = c.effects.invariant.0 (subst
    (λ (l : List (Effect × Option UserId)). AreClosed g.B.Counting.closes l)
    (sym (drop_all c.effects.sent-index c.args.effects.now (omega arith))) tt)
