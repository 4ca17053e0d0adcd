use Rattle.server_users.proofs.Vocabulary.{◌≡◌, Some, List, length, sym, ◌∙◌, ap, arith, unwrap_or, position}
use Rattle.server_users.proofs.Vocabulary.{same_user-refl, Account, fresh, account_of}
use Rattle.server_users.proofs.Places.{found, lost, pushed_is, is_of, no_account, some_account, push_own, push_other}
use Rattle.server_users.proofs.Places.{other_user, on_err}
use Rattle.server_users.proofs.allowances.Allowances.open.Goals as goal

pub returns-in-Some-clause-own : goal.returns-in-Some-clause-own
returns-in-Some-clause-own c = some_account c.args.self.now.accounts.items c.args.user c.in-Some.place
    (found (is_of c.args.user) _ _ (ap (position (is_of c.args.user)) (sym c.deref.ensures.value)
    ∙ sym c.place_of.ensures.place ∙ c.in-Some.is))

pub returns-in_err-push-clause-err : goal.returns-in_err-push-clause-err
returns-in_err-push-clause-err c =
    let none = lost (is_of c.args.user) c.args.self.now.accounts.items
    (ap (position (is_of c.args.user)) (sym c.deref.ensures.value)
    ∙ sym c.place_of.ensures.place ∙ c.in_default.is) in
    on_err c.from_residual.result (
      c.in_err-push.ensures.items,
      no_account c.args.self.now.accounts.items c.args.user none,
    )

pub returns-clause-place : goal.returns-clause-place
returns-clause-place c =
    let none = lost (is_of c.args.user) c.args.self.now.accounts.items
    (ap (position (is_of c.args.user)) (sym c.deref.ensures.value)
    ∙ sym c.place_of.ensures.place ∙ c.in_default.is) in
    let len : c.len-place.result ≡ length c.args.self.now.accounts.items = omega
    (arith, c.len-place.ensures, c.deref.ensures.len, ap length c.deref.ensures.value) in
    pushed_is (is_of c.args.user) c.args.self.now.accounts.items c.push.new.self.items _ c.len-place.result none
    c.in_ok-push.ensures.items len (same_user-refl c.args.user)

pub returns-in-Some-clause-place : goal.returns-in-Some-clause-place
returns-in-Some-clause-place c = found (is_of c.args.user) c.args.self.now.accounts.items c.in-Some.place
    (ap (position (is_of c.args.user)) (sym c.deref.ensures.value)
    ∙ sym c.place_of.ensures.place ∙ c.in-Some.is)

pub returns-clause-own : goal.returns-clause-own
returns-clause-own c =
    let none = lost (is_of c.args.user) c.args.self.now.accounts.items
    (ap (position (is_of c.args.user)) (sym c.deref.ensures.value)
    ∙ sym c.place_of.ensures.place ∙ c.in_default.is) in
    ap (λ (l : List Account). account_of l c.args.user) c.in_ok-push.ensures.items
    ∙ (push_own c.args.self.now.accounts.items c.args.user _ none (same_user-refl c.args.user)
    ∙ ap Some (c.new.ensures
    ∙ sym (ap (λ o. unwrap_or o fresh) (no_account c.args.self.now.accounts.items c.args.user none))))

pub returns-clause-others : goal.returns-clause-others
returns-clause-others c = λ u differ.
    ap (λ (l : List Account). account_of l u) c.in_ok-push.ensures.items
    ∙ push_other c.args.self.now.accounts.items u _ (other_user c.args.user u (λ e. differ (sym e)))
