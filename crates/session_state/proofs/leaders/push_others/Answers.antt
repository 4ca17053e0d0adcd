use Rattle.session_state.proofs.Vocabulary.{◌++◌, ap, sym, ◌∙◌, List, ℕ, take_all, codes, flat_map, UserId, name_of}
use Rattle.session_state.specs.Leaders.{behind_each}
use Rattle.session_state.proofs.leaders.push_others.Goals as goal

pub returns : goal.returns
returns c =
    c.loop-leader.invariant
    ∙ ap
    (λ (us : List UserId).
    c.args.out.now.items ++ flat_map (λ u. codes "," ++ name_of u) us)
    (take_all c.loop-leader.leader-index c.args.leaders.now c.loop-leader-test.false)
    ∙ ap (λ (xs : List ℕ). c.args.out.now.items ++ xs)
    (sym (behind_each (codes ",") name_of c.args.leaders.now))
