use Rattle.session_events.proofs.Vocabulary.{◌≡◌, ◌<◌, ℕ, ◌∷◌, ◌++◌, [], true, false, refl, ap, sym, ◌∙◌, subst, nat_lt}
use Rattle.session_events.proofs.Vocabulary.{◌^◌, unwrap_or, is_open, free_number}
use Rattle.std.proofs.lemmas.Result.{err_from_is_err_and}
use Rattle.acl.specs.History.{open_count}
use Rattle.acl.specs.declared.act.Act.TheVariants as act
use Rattle.session_events.proofs.Passing.{taken_is, one_left}
use Rattle.session_events.proofs.Finding.{next_unopened}
use Rattle.session_events.proofs.Feeding.{pushed}
use Rattle.session_events.proofs.NewWindows.{may_open, next_above, opened_rows, unopened, opened_done}
use Rattle.session_events.proofs.attaching.open.Goals as goal

pub returns-in_default-clause-answer : goal.returns-in_default-clause-answer
returns-in_default-clause-answer c = λ t st fit passed.
    let s = c.args.state.now in
    let may =
    may_open t c.args.user c.args.size.rows c.args.size.columns c.args.size.keep c.args.title.now passed in
    let none : nat_lt s.next_window (2 ^ 32) ≡ false =
    one_left (nat_lt s.next_window (2 ^ 32)) s.next_window
    (sym c.serial_from.ensures ∙ c.in_default.is) in
    let never : true ≡ false =
    sym may.left ∙ (ap (λ n. nat_lt n (2 ^ 32)) (sym st.next_window_is) ∙ none) in
    absurd (cc (never))

pub returns-then-not-is_window_size-clause-answer : goal.returns-then-not-is_window_size-clause-answer
returns-then-not-is_window_size-clause-answer c = λ t st fit passed.
    let may =
    may_open t c.args.user c.args.size.rows c.args.size.columns c.args.size.keep c.args.title.now passed in
    let never : true ≡ false =
    sym may.sized ∙ (sym c.is_window_size.ensures ∙ c.if-not-is_window_size.true) in
    absurd (cc (never))

pub returns-in_err-number-clause-answer : goal.returns-in_err-number-clause-answer
returns-in_err-number-clause-answer c = λ t st fit passed.
    let s = c.args.state.now in
    let p = err_from_is_err_and c.from_residual.result c.from_residual.ensures.1 in
    let serial_is : c.in-Some.window ≡ t.next_window =
    taken_is (nat_lt s.next_window (2 ^ 32)) s.next_window c.in-Some.window
    (sym c.serial_from.ensures ∙ c.in-Some.is)
    ∙ st.next_window_is in
    rw (p.1, p.2)
    (unopened t c.args.user c.args.size.rows c.args.size.columns c.args.size.keep c.args.title.now
    (may_open t c.args.user c.args.size.rows c.args.size.columns c.args.size.keep c.args.title.now passed)
    c.in-Some.window serial_is (next_above t c.in-Some.window fit serial_is)
    c.in_err-number.field-0.0
    (c.in_err-number.ensures.answer t.windows st.windows))

pub returns-clause-answer : goal.returns-clause-answer
returns-clause-answer c = λ t st fit passed.
    let s = c.args.state.now in
    let before = c.args.made.now in
    let user = c.args.user in
    let window = c.in-Some.window in
    let may = may_open t user c.args.size.rows c.args.size.columns c.args.size.keep c.args.title.now passed in
    let serial_is : window ≡ t.next_window =
    taken_is (nat_lt s.next_window (2 ^ 32)) s.next_window window
    (sym c.serial_from.ensures ∙ c.in-Some.is)
    ∙ st.next_window_is in
    let number_is : c.in_ok-number.number ≡ unwrap_or (free_number t.windows) 0 =
    sym (ap (λ o. unwrap_or o 0) (c.in_ok-number.ensures.number t.windows st.windows)) in
    let unopened : is_open t.acts window ≡ false =
    ap (λ n. is_open t.acts n) serial_is ∙ next_unopened t fit in
    let few : open_count t.acts < 40 = subst (λ n. n < 40) (sym fit.agree.count_is) may.few in (
      ap (λ (n : ℕ). (n, c.in_ok-number.number)) serial_is
          ∙ ap (λ (n : ℕ). (t.next_window, n)) number_is,
      opened_done t user c.args.size.rows c.args.size.columns c.args.size.keep c.args.title.now may window serial_is
          (next_above t window fit serial_is) s c.window_opened.new.self c.opened.new.self c.open.new.self before
          (record before { acts = c.push.new.self }) st
          (c.window_opened.ensures t.edition t.owner t.acts st.acl may.known unopened few)
          (c.opened.ensures t.edition t.owner t.acts st.locks unopened few)
          (opened_rows t user c.args.size.rows c.args.size.columns c.args.size.keep c.args.title.now may window
          serial_is
          (next_above t window fit serial_is) c.in_ok-number.number c.open.new.self
          (c.in_ok-number.ensures.answer t.windows st.windows))
          (pushed c.push.result c.unwrap.result c.push.new.self.items
          (before.acts.items ++ act.Opened user window ∷ []) before.acts.items c.unwrap.ensures
          c.push.ensures.items)
          refl,
    )
