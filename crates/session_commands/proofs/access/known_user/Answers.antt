use Rattle.session_commands.proofs.Vocabulary.{◌≡◌, Some, false, true, sym, ◌∙◌, named_by}
use Rattle.session_commands.proofs.Grouping.{fault_is}
use Rattle.session_commands.proofs.access.known_user.Goals as goal

pub returns-then-not-knows : goal.returns-then-not-knows
returns-then-not-knows c = λ t st.
    let named : named_by c.args.word.now ≡ Some c.in-Some.user = cc in
    fault_is t c.args.state.now c.args.word.now c.in-Some.user c.owner.result false st named
    c.owner.ensures (sym c.eq.ensures ∙ c.if-eq.false) (sym c.knows.ensures ∙ c.if-not-knows.true)

pub returns : goal.returns
returns c = λ t st.
    let named : named_by c.args.word.now ≡ Some c.in-Some.user = cc in (
      named,
      fault_is t c.args.state.now c.args.word.now c.in-Some.user c.owner.result true st named
          c.owner.ensures (sym c.eq.ensures ∙ c.if-eq.false) (sym c.knows.ensures ∙ c.if-not-knows.false),
    )
