use Rattle.server_loop.proofs.Vocabulary.{◌≡◌, ◌∙◌, ◌||◌, ℕ, Bool, List, ap, refl, sym, subst, changed, Connections}
use Rattle.server_loop.proofs.Vocabulary.{peer_at, state_of, FaultsIf}
use Rattle.session.specs.Trace.{Keys}
use Rattle.server_steps.specs.Settling.{is_judged, is_refused, progress_of, settled}
use Rattle.server_steps.specs.Typing.{answered, typed_at}
use Rattle.server_typing.specs.Typed.{Typed}
use Rattle.server_loop.specs.Trying.{Tries}
use Rattle.server_loop.proofs.Keys.{match_none, match_some}
use Rattle.server_loop.proofs.own.Loop.judge.Goals as goal

pub returns-in_default : goal.returns-in_default
returns-in_default g c = match_none _ _ _ (sym c.user_at.ensures ∙ c.in_default.is) (refl, refl)

pub returns : goal.returns
returns g c =
    let old = state_of c.args.self.now in
    let new = state_of c.fault_if.new.self in
    let waiting = typed_at (peer_at c.args.key old) in
    let keys : c.keys-bytes.result.now ≡ waiting.keys =
    c.keys-bytes.ensures ∙ ap (λ (t : Typed). t.keys) c.take_keys-typed.ensures.keys in
    let answer = c.try_for-answer.result in
    let mid = state_of c.try_for-answer.new.self in
    let left : c.answer_keys-progress.new.connections ≡ changed (answered answer waiting) c.args.key mid.connections =
    c.answer_keys-progress.ensures.keys
    ∙ ap (λ (t : Typed). changed (answered answer t) c.args.key mid.connections) c.take_keys-typed.ensures.keys in
    let after = λ (s : Connections g.row.S.Denot) (typed refused : Bool). FaultsIf g.J.SessionSeat refused c.args.key
    (record mid { connections = s; has_typed = mid.has_typed || typed }) new in
    match_some _ c.in-Some.shown _ _ (sym c.in-Some.ensures) (record {
      answer = answer;
      mid = mid;
      step = subst (λ (s : Connections g.row.S.Denot). Tries g.J.SessionSeat c.in-Some.shown.user
          (Keys c.args.client waiting.keys) (record old { connections = s }) answer mid) c.take_keys-typed.ensures.rest
          (subst (λ (ks : List ℕ). Tries g.J.SessionSeat c.in-Some.shown.user (Keys c.args.client ks)
          (record old { connections = c.take_keys-typed.new.connections }) answer mid) keys c.try_for-answer.ensures);
      progress_is = c.answer_keys-progress.ensures.progress
          ∙ ap (λ (t : Typed). progress_of answer (settled answer t)) c.take_keys-typed.ensures.keys;
      left = subst (λ (s : Connections g.row.S.Denot). after s (is_judged c.answer_keys-progress.result)
          (is_refused answer)) left
          (subst (λ (b : Bool). after c.answer_keys-progress.new.connections b (is_refused answer)) c.is_judged.ensures
          (subst (λ (b : Bool). after c.answer_keys-progress.new.connections c.is_judged.result b)
          c.is_refused.ensures c.fault_if.ensures));
    })
