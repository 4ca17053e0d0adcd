use Rattle.server_loop.proofs.Vocabulary.{◌≡◌, ◌∙◌, ◌+◌, ◌/◌, ℕ, Bool, Err, Ok, true, false, ap, inl, inr, min, refl}
use Rattle.server_loop.proofs.Vocabulary.{subst, rules, as_nanos, UserId, happening, state_of, cost_of}
use Rattle.std.proofs.Common.{◌*◌}
use Rattle.server_steps.specs.Submitted.{entries_of}
use Rattle.server_loop.specs.Trying.{HasToWait}
use Rattle.server_loop.proofs.Counting.{begun, counted, stayed, submitted, tried}
use Rattle.server_loop.proofs.own.Loop.try_for.Goals as goal

pub returns-then-not-may : goal.returns-then-not-may
returns-then-not-may g c =
    let no : c.may.result ≡ false = search rules in
    let old = state_of c.args.self.now in
    subst (λ (u : UserId). HasToWait g.J.SessionSeat u (happening c.args.event) old
    (record old { rations = c.may.new.self })) c.user-user.ensures (record {
      cause = inl (c.may.ensures.waits no, refl);
      counted = stayed c.user-user.result old.rations c.may.new.self (c.may.ensures.same no) c.may.ensures.others
          c.may.ensures.period;
      same = refl;
    })

pub returns-then-not-pay : goal.returns-then-not-pay
returns-then-not-pay g c =
    let yes : c.may.result ≡ true = search rules in
    let no : c.pay.result ≡ false = search rules in
    let old = state_of c.args.self.now in
    let J = g.J.SessionSeat in
    let user = c.user-user.result in
    let event = happening c.args.event in
    let cost : c.price-cost.result ≡ cost_of event = c.price-cost.ensures
    ∙ ap (λ (n : ℕ). 1000 * (n + min c.kept_of.result 65535 / 128)) c.entries_of.ensures
    ∙ ap (λ (n : ℕ). 1000 * (entries_of event + min n 65535 / 128)) c.kept_of.ensures in
    let seat = c.pay.new.self in
    subst (λ (u : UserId). HasToWait J u event old (record old { rations = c.may.new.self; seat = seat }))
    c.user-user.ensures (record {
      cause = inr (subst (λ (n : ℕ). J.pays old.seat user old.now n false seat) cost
          (subst (λ (paid : Bool). J.pays old.seat user old.now c.price-cost.result paid seat) no c.pay.ensures.paid));
      counted = begun user old.rations c.may.new.self (c.may.ensures.own yes) c.may.ensures.others
          c.may.ensures.period;
      same = refl;
    })

pub returns-in-Ok : goal.returns-in-Ok
returns-in-Ok g c =
    let yes : c.may.result ≡ true = search rules in
    let paid : c.pay.result ≡ true = search rules in
    let old = state_of c.args.self.now in
    let user = c.user-user.result in
    let event = happening c.args.event in
    let cost : c.price-cost.result ≡ cost_of event = c.price-cost.ensures
    ∙ ap (λ (n : ℕ). 1000 * (n + min c.kept_of.result 65535 / 128)) c.entries_of.ensures
    ∙ ap (λ (n : ℕ). 1000 * (entries_of event + min n 65535 / 128)) c.kept_of.ensures in
    let done = state_of c.note_step.new.self in
    let step = submitted g.J.SessionSeat event (record old { rations = c.count.new.self; seat = c.pay.new.self }) done
    c.submit-tried.result c.submit-tried.new.self c.submit-tried.ensures.step c.note_step.ensures in
    tried g.J.SessionSeat event old (record done { seat = c.settle.new.self }) user c.args.shown.user
    c.user-user.ensures c.price-cost.result cost c.pay.result paid c.pay.new.self c.pay.ensures.paid
    (c.may.ensures.may yes) c.count.new.self
    (counted user old.rations c.count.new.self (as_nanos old.now) (c.price-cost.result / 1000) c.may.new.self
    (c.may.ensures.own yes) c.may.ensures.others c.may.ensures.period c.count.ensures.own c.count.ensures.others
    c.count.ensures.period) c.submit-tried.result done step c.came_of.result
    c.came_of.ensures c.settle.ensures.settled refl (Ok c.in-Ok.answer) c.in-Ok.is

pub returns-in-Err : goal.returns-in-Err
returns-in-Err g c =
    let yes : c.may.result ≡ true = search rules in
    let paid : c.pay.result ≡ true = search rules in
    let old = state_of c.args.self.now in
    let user = c.user-user.result in
    let event = happening c.args.event in
    let cost : c.price-cost.result ≡ cost_of event = c.price-cost.ensures
    ∙ ap (λ (n : ℕ). 1000 * (n + min c.kept_of.result 65535 / 128)) c.entries_of.ensures
    ∙ ap (λ (n : ℕ). 1000 * (entries_of event + min n 65535 / 128)) c.kept_of.ensures in
    let done = state_of c.note_step.new.self in
    let step = submitted g.J.SessionSeat event (record old { rations = c.count.new.self; seat = c.pay.new.self }) done
    c.submit-tried.result c.submit-tried.new.self c.submit-tried.ensures.step c.note_step.ensures in
    tried g.J.SessionSeat event old (record done { seat = c.settle.new.self }) user c.args.shown.user
    c.user-user.ensures c.price-cost.result cost c.pay.result paid c.pay.new.self c.pay.ensures.paid
    (c.may.ensures.may yes) c.count.new.self
    (counted user old.rations c.count.new.self (as_nanos old.now) (c.price-cost.result / 1000) c.may.new.self
    (c.may.ensures.own yes) c.may.ensures.others c.may.ensures.period c.count.ensures.own c.count.ensures.others
    c.count.ensures.period) c.submit-tried.result done step c.came_of.result
    c.came_of.ensures c.settle.ensures.settled refl (Err c.in-Err.fault) c.in-Err.is
