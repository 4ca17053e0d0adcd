use Rattle.session_events.proofs.Vocabulary.{◌≡◌, ◌+◌, ℕ, List, true, false, arith, length, ap, sym, subst, ◌∙◌, Effect}
use Rattle.session_events.specs.Dropping.{SaysAgain}
use Rattle.session_events.proofs.Parts.{Part, goes_on}
use Rattle.session_events.proofs.dropping.drop_said.Goals.{then-says_again, else-says_again}
use Rattle.session_events.proofs.dropping.drop_said.Goals as goal

pub loop-turn-preserved : goal.loop-turn-preserved
loop-turn-preserved c =
    let now : List Effect = c.loop-turn.effects.items in
    let turn : ℕ = c.loop-turn.turn in
    let place : ℕ = c.loop-turn.place in
    let again : SaysAgain now c.args.from c.args.to place c.says_again.result =
    subst (λ (es : List Effect). SaysAgain es c.args.from c.args.to place c.says_again.result)
    c.deref.ensures.value c.says_again.ensures.again in
    let count : c.len-count.result ≡ length c.args.effects.now.items =
    c.len-count.ensures ∙ c.args.effects.now.ok.0 in
    elim c.if-says_again.branch [
      | then-says_again w ↦ record {
        within = omega (arith, w.place-is, c.loop-turn.invariant.within);
        sofar = λ past said more is start end.
            let part = c.loop-turn.invariant.sofar past said more is start end in
            subst (λ (n : ℕ). Part past said more c.if-says_again.effects.items (turn + 1) n)
            (sym w.place-is)
            (goes_on past said more c.args.effects.now.items now c.if-says_again.effects.items turn
            place c.len-count.result true is count c.loop-turn-test.true part
            (λ front later e stands behind. sym w.if-says_again.true
            ∙ again past said _ front later e part.items_are start end stands behind)
            (ap (λ v. v.items) w.effects-is ∙ w.remove_at.ensures));
      }
      | else-says_again w ↦ record {
        within = omega (arith, w.place-is, c.loop-turn.invariant.within);
        sofar = λ past said more is start end.
            let part = c.loop-turn.invariant.sofar past said more is start end in
            subst (λ (n : ℕ). Part past said more c.if-says_again.effects.items (turn + 1) n)
            (sym w.place-is)
            (goes_on past said more c.args.effects.now.items now c.if-says_again.effects.items turn
            place c.len-count.result false is count c.loop-turn-test.true part
            (λ front later e stands behind. sym w.if-says_again.false
            ∙ again past said _ front later e part.items_are start end stands behind)
            (ap (λ v. v.items) w.effects-is));
      }
    ]
