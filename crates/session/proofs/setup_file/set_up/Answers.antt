use Rattle.session.proofs.Vocabulary.{◌∙◌, ◌≡◌, ℕ, List, map, line_of, Trace, StandsFor, StopsAt, IfRefused}
use Rattle.session.proofs.Giving.{none_given, next_given, stops, stopped_by, if_err}
use Rattle.session.proofs.setup_file.set_up.Goals as goal

pub loop-line-init : goal.loop-line-init
loop-line-init c = λ h st. none_given h c.args.session.now c.args.owner st

pub returns-in_err-give-clause-refused : goal.returns-in_err-give-clause-refused
returns-in_err-give-clause-refused c =
    let stop : ℕ → List ℕ → Type 0 = λ number said. (h : Trace) → StandsFor h c.args.session.now
    → StopsAt number said h c.args.owner (map line_of c.args.setup.now) in
    if_err c.from_residual.result c.in_err-give.field-0.0 (λ fault. IfRefused fault stop) c.from_residual.ensures.1
    (stopped_by c.in_err-give.field-0.0 0 _ stop c.in_err-give.ensures.refused (λ number said is h st.
    stops h c.loop-line.session c.args.owner c.args.setup.now c.loop-line.line-index number _ said c.loop-line-test.true
    (c.loop-line.invariant h st) is.0 is.1))

pub loop-line-preserved : goal.loop-line-preserved
loop-line-preserved c = λ h st.
    next_given h c.loop-line.session c.give.new.session c.args.owner c.args.setup.now c.loop-line.line-index _
    c.loop-line-test.true (c.loop-line.invariant h st) c.in_ok-give.ensures.done
