use Rattle.std.proofs.Common.{List, get_or, take, drop, suc, sym, subst, Option}
use Rattle.std.specs.Prelude.{◌≡◌, ◌⊎◌, option_to_list}
use Rattle.session_model.specs.declared.refusal.Check.{Check}
use Rattle.session_model.specs.declared.refusal.Refusal.TheVariants.{NoMemory}
use Rattle.session_checks.specs.Checked.{Passed, Failed, AllMade, listed}
use Rattle.session_checks.proofs.Checking.{passed_on, refused_on, passed_back, made_at, take_one, around_one}
use Rattle.session_checks.proofs.checks.check_all.Goals as goal

pub returns-in_err-check_one : goal.returns-in_err-check_one
returns-in_err-check_one c = λ t st made.
    let cs = c.args.checks.now in
    let i = c.loop-check.check-index in
    let lt = c.loop-check-test.true in
    let x = c.check-item.result in
    let r = c.in_err-check_one.field-0.0 in
    let before = c.args.verdicts.now.items in
    let middle = c.loop-check.verdicts.items in
    let after = c.check_one.new.verdicts.items in
    passed_back t (listed cs) c.from_residual.result r before after c.from_residual.ensures.1
    (subst (λ (ds : List Check). (r ≡ NoMemory) ⊎ Failed t ds r before after)
    (sym (around_one t cs i x lt))
    (refused_on t (listed (take i cs)) (option_to_list (get_or cs i x)) (listed (drop (suc i) cs))
    r before middle after (c.loop-check.invariant t st made)
    (subst (λ (o : Option Check). AllMade t (option_to_list o)
    → (r ≡ NoMemory) ⊎ Failed t (option_to_list o) r middle after) c.check-item.is
    (c.in_err-check_one.ensures t st) (made_at t cs i x lt made))))

pub loop-check-preserved : goal.loop-check-preserved
loop-check-preserved c = λ t st made.
    let cs = c.args.checks.now in
    let i = c.loop-check.check-index in
    let lt = c.loop-check-test.true in
    let x = c.check-item.result in
    let before = c.args.verdicts.now.items in
    let middle = c.loop-check.verdicts.items in
    let after = c.check_one.new.verdicts.items in
    subst (λ (ds : List Check). Passed t ds before after) (sym (take_one t cs i x lt))
    (passed_on t (listed (take i cs)) (option_to_list (get_or cs i x)) before middle after
    (c.loop-check.invariant t st made)
    (subst (λ (o : Option Check). AllMade t (option_to_list o)
    → Passed t (option_to_list o) middle after) c.check-item.is
    (c.in_ok-check_one.ensures t st) (made_at t cs i x lt made)))
