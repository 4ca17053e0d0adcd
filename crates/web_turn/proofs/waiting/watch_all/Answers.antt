use Rattle.std.proofs.Common.{◌≡◌, ◌∙◌, arith, inl, inr, rules, List, Ok, Err, subst, ℕ}
use Rattle.std.proofs.lemmas.Bool.{cases_lt}
use Rattle.web_streams.specs.declared.connections.WebListener.{WebListener}
use Rattle.web_turn.specs.Waking.{IsDeaf, WakesAt}
use Rattle.web_turn.proofs.Waking.{if_err_given}
use Rattle.web_turn.proofs.waiting.watch_all.Goals as goal

pub listeners-preserved : goal.listeners-preserved
listeners-preserved g c =
    let wakes = g.P.Waits.wakes c.args.poll.now in
    let all = c.args.listeners.now in
    let number = c.listeners.number in
    let before = c.listeners.invariant in record {
      same = c.watch_at.ensures.same ∙ before.same;
      so_far = λ q low. elim (cases_lt q number) [
        | inl less ↦ before.so_far q less
        | inr past ↦
            let e : number ≡ q = omega (arith, low, past) in
            subst (λ (n : ℕ). WakesAt wakes all n (Ok tt)) e
            (subst (λ (ls : List WebListener). WakesAt wakes ls number (Ok tt)) before.same
            c.in_ok-watch_at.ensures.wakes)
      ];
      all = before.all;
    }

pub returns-clause-ok : goal.returns-clause-ok
returns-clause-ok g c = λ q below.
    let before = c.listeners.invariant in before.so_far q (omega (arith, before.all, below))

pub returns-in_err-watch_at-clause-err : goal.returns-in_err-watch_at-clause-err
returns-in_err-watch_at-clause-err g c =
    if_err_given (IsDeaf (g.P.Waits.wakes c.args.poll.now) c.args.listeners.now) c.from_residual.result
    c.in_err-watch_at.field-0.0 (
      c.listeners.number,
      subst (λ (ls : List WebListener). WakesAt (g.P.Waits.wakes c.args.poll.now) ls c.listeners.number
          (Err c.in_err-watch_at.field-0.0)) c.listeners.invariant.same c.in_err-watch_at.ensures.wakes,
    ) (search rules)
