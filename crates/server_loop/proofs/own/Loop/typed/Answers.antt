use Rattle.server_loop.proofs.Vocabulary.{◌≡◌, ◌∙◌, ℕ, Bool, Option, Some, None, true, false, ap, refl, sym, subst, rules}
use Rattle.server_loop.proofs.Vocabulary.{Done, state_of}
use Rattle.std.specs.Result.{result_ok}
use Rattle.server_steps.specs.Typing.{GathersAt}
use Rattle.server_steps.specs.declared.progress.Progress.{Progress}
use Rattle.server_loop.specs.Typing.{Types}
use Rattle.server_loop.proofs.Telling.{if_false, if_true}
use Rattle.server_loop.proofs.Keys.{not_false, not_true}
use Rattle.server_loop.proofs.own.Loop.typed.Goals as goal

pub returns-in_default : goal.returns-in_default
returns-in_default g c =
    let far : result_ok c.gather.result ≡ None = search rules in
    subst (λ (n : ℕ). Types g.J.SessionSeat n c.args.key c.args.client (state_of c.args.self.now) (Some Done)
    (state_of c.fault.new.self)) c.millis-now.ensures (
      None,
      c.gather.new.connections,
      subst (λ (o : Option (Option Bool)). GathersAt c.millis-now.result c.args.key c.args.self.now.connections o
          c.gather.new.connections) far c.gather.ensures,
      (refl, c.fault.ensures),
    )

pub returns-in_default-gathered : goal.returns-in_default-gathered
returns-in_default-gathered g c =
    let far : result_ok c.gather.result ≡ Some None = search rules in
    subst (λ (n : ℕ). Types g.J.SessionSeat n c.args.key c.args.client (state_of c.args.self.now) None
    (record (state_of c.args.self.now) { connections = c.gather.new.connections })) c.millis-now.ensures (
      Some None,
      c.gather.new.connections,
      subst (λ (o : Option (Option Bool)). GathersAt c.millis-now.result c.args.key c.args.self.now.connections o
          c.gather.new.connections) far c.gather.ensures,
      (refl, refl),
    )

pub returns-then-not-has_keys : goal.returns-then-not-has_keys
returns-then-not-has_keys g c =
    let far : result_ok c.gather.result ≡ Some (Some c.in-Some.is_through) = search rules in
    let no : c.has_keys.result ≡ false = search rules in
    subst (λ (n : ℕ). Types g.J.SessionSeat n c.args.key c.args.client (state_of c.args.self.now) c.idle_at.result
    (state_of c.say_dropped.new.self)) c.millis-now.ensures (
      Some (Some c.in-Some.is_through),
      c.gather.new.connections,
      subst (λ (o : Option (Option Bool)). GathersAt c.millis-now.result c.args.key c.args.self.now.connections o
          c.gather.new.connections) far c.gather.ensures,
      (
        state_of c.resize.new.self,
        state_of c.say_dropped.new.self,
        c.resize.ensures,
        c.say_dropped.ensures,
        if_true _ _ _ (not_false _ (sym c.has_keys.ensures ∙ no)) (c.idle_at.ensures, refl),
      ),
    )

pub returns-then-wants_size : goal.returns-then-wants_size
returns-then-wants_size g c =
    let far : result_ok c.gather.result ≡ Some (Some c.in-Some.is_through) = search rules in
    let some : c.has_keys.result ≡ true = search rules in
    let size : c.wants_size.result ≡ true = search rules in
    subst (λ (n : ℕ). Types g.J.SessionSeat n c.args.key c.args.client (state_of c.args.self.now) (Some c.unless_more.result)
    (state_of c.say_dropped.new.self)) c.millis-now.ensures (
      Some (Some c.in-Some.is_through),
      c.gather.new.connections,
      subst (λ (o : Option (Option Bool)). GathersAt c.millis-now.result c.args.key c.args.self.now.connections o
          c.gather.new.connections) far c.gather.ensures,
      (
        state_of c.resize.new.self,
        state_of c.say_dropped.new.self,
        c.resize.ensures,
        c.say_dropped.ensures,
        if_false _ _ _ (not_true _ (sym c.has_keys.ensures ∙ some))
            (if_true _ _ _ (sym c.wants_size.ensures ∙ size)
            (ap (λ (p : Progress). Some p) c.unless_more.ensures, refl)),
      ),
    )

pub returns-then-must_wait : goal.returns-then-must_wait
returns-then-must_wait g c =
    let far : result_ok c.gather.result ≡ Some (Some c.in-Some.is_through) = search rules in
    let some : c.has_keys.result ≡ true = search rules in
    let no_size : c.wants_size.result ≡ false = search rules in
    let waits : c.must_wait.result ≡ true = search rules in
    subst (λ (n : ℕ). Types g.J.SessionSeat n c.args.key c.args.client (state_of c.args.self.now) (Some c.unless_more-then-must_wait.result)
    (state_of c.must_wait.new.self)) c.millis-now.ensures (
      Some (Some c.in-Some.is_through),
      c.gather.new.connections,
      subst (λ (o : Option (Option Bool)). GathersAt c.millis-now.result c.args.key c.args.self.now.connections o
          c.gather.new.connections) far c.gather.ensures,
      (
        state_of c.resize.new.self,
        state_of c.say_dropped.new.self,
        c.resize.ensures,
        c.say_dropped.ensures,
        if_false _ _ _ (not_true _ (sym c.has_keys.ensures ∙ some))
            (if_false _ _ _ (sym c.wants_size.ensures ∙ no_size) (
              c.must_wait.result,
              state_of c.must_wait.new.self,
              c.must_wait.ensures,
              if_true _ _ _ waits (ap (λ (p : Progress). Some p) c.unless_more-then-must_wait.ensures, refl),
            )),
      ),
    )

pub returns : goal.returns
returns g c =
    let far : result_ok c.gather.result ≡ Some (Some c.in-Some.is_through) = search rules in
    let some : c.has_keys.result ≡ true = search rules in
    let no_size : c.wants_size.result ≡ false = search rules in
    let no_wait : c.must_wait.result ≡ false = search rules in
    subst (λ (n : ℕ). Types g.J.SessionSeat n c.args.key c.args.client (state_of c.args.self.now) (Some c.unless_more-2.result)
    (state_of c.judge-progress.new.self)) c.millis-now.ensures (
      Some (Some c.in-Some.is_through),
      c.gather.new.connections,
      subst (λ (o : Option (Option Bool)). GathersAt c.millis-now.result c.args.key c.args.self.now.connections o
          c.gather.new.connections) far c.gather.ensures,
      (
        state_of c.resize.new.self,
        state_of c.say_dropped.new.self,
        c.resize.ensures,
        c.say_dropped.ensures,
        if_false _ _ _ (not_true _ (sym c.has_keys.ensures ∙ some))
            (if_false _ _ _ (sym c.wants_size.ensures ∙ no_size) (
              c.must_wait.result,
              state_of c.must_wait.new.self,
              c.must_wait.ensures,
              if_false _ _ _ no_wait (
                c.judge-progress.result,
                c.judge-progress.ensures,
                ap (λ (p : Progress). Some p) c.unless_more-2.ensures,
              ),
            )),
      ),
    )
