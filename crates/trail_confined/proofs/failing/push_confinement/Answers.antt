use Rattle.trail_confined.proofs.Vocabulary.{flat_map, bits_text, failing_text}
use Rattle.trail_confined.proofs.Texts.{same_text, two_parts}
use Rattle.trail_confined.proofs.failing.push_confinement.Goals as goal

pub returns : goal.returns
returns c = λ edition h stands.
    same_text c.push_each_failing.result _ _ _ (c.push_each_failing.ensures edition h stands)
    (two_parts c.args.out.now.items (bits_text c.args.failing.now)
    (flat_map (failing_text edition c.args.owner h c.args.sight.now) c.args.failing.now) _ c.in_ok-push_bits.ensures)
