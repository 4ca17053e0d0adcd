use Rattle.trail_confined.proofs.Vocabulary.{codes, causes_text, concerned_text, contrary_text}
use Rattle.trail_confined.proofs.Texts.{five_parts, same_text}
use Rattle.trail_confined.proofs.failing.push_failing.Goals as goal

pub returns : goal.returns
returns c = λ edition h stands.
    let p = c.args.premise in
    same_text c.push_causes.result _ _ _ (c.push_causes.ensures edition h stands)
    (five_parts c.args.out.now.items (codes "fails ") (concerned_text p) (codes " ") (contrary_text p)
    (causes_text edition c.args.owner h c.args.sight.now p) _ _ _ _ c.in_ok-extend_from_slice.ensures.items
    c.in_ok-push_concerned.ensures c.in_ok-extend_from_slice-2.ensures.items c.in_ok-push_contrary.ensures)
